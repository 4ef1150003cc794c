use Rattle.std.proofs.Common.{List, Some, None, cond, ap, ◌∙◌}
use Rattle.std.specs.Map.{lookup}
use Rattle.dnw_name.specs.DomainName.{DomainName, lowercase_name, name_eq}
use Rattle.zsv_blocked.specs.BlockedNames.{is_listed}
use Rattle.zsv_blocked.proofs.EntryLemmas.{lower-found}
use Rattle.zsv_blocked.proofs.names.BlockedNames.listed.Goals as goal

pub returns : goal.returns
returns c name is =
    c.get.ensures.value
    ∙ ap (λ (key : DomainName). lookup (name_eq key) c.self.inside.names.entries) is
    ∙ lower-found c.self.inside.names.entries name c.self.invariant.0
    ∙ ap (λ (names : List DomainName). cond (is_listed names name) (Some (lowercase_name name)) None) c.self.view_is
