-- Zones that take no updates, put in or taken out.
use Rattle.std.proofs.Common.{List}
use Rattle.std.specs.List.{AllByRecursion}
use Rattle.std.specs.Ordering.{is_eq}
use Rattle.zsv_catalog.proofs.Chained.{all_inserted, all_removed}
use Rattle.zsv_catalog.specs.zsv_answer.zst_request.Views.{View}
use Rattle.zsv_catalog.specs.zsv_answer.zst_request.dnw_name.DomainName.{DomainName, lowercase_name, name_cmp}
use Rattle.authority_server.specs.Servers.{AreUnguarded, IsUnguarded, with_zones, without_zones}
use Rattle.authority_server.specs.Serving.{World}

pub with_unguarded : (world : World) (name : DomainName) (chain : List View) → AreUnguarded world.chains → AllByRecursion IsUnguarded chain → AreUnguarded (with_zones world name chain).chains
with_unguarded world name chain all new = all_inserted (λ (views : List View). AllByRecursion IsUnguarded views) world.chains (lowercase_name name) chain all new

pub without_unguarded : (world : World) (name : DomainName) → AreUnguarded world.chains → AreUnguarded (without_zones world name).chains
without_unguarded world name all = all_removed (λ (views : List View). AllByRecursion IsUnguarded views) world.chains (λ other. is_eq (name_cmp (lowercase_name name) other)) all
