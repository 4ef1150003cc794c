use Rattle.std.proofs.Common.{List, ap, ◌∙◌}
use Rattle.dnw_name.specs.DomainName.{DomainName}
use Rattle.zsv_blocked.specs.BlockedNames.{is_listed}
use Rattle.zsv_blocked.proofs.EntryLemmas.{holds-listed}
use Rattle.zsv_blocked.proofs.names.BlockedNames.holds.Goals as goal

pub returns : goal.returns
returns c =
    c.contains_key.ensures ∙ holds-listed c.self.inside.names.entries c.args.key.now
    ∙ ap (λ (names : List DomainName). is_listed names c.args.key.now) c.self.view_is
