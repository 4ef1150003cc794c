use Rattle.std.proofs.Common.{ap, sym, ◌∙◌}
use Rattle.std.specs.List.{list_any}
use Rattle.dnw_name.specs.DomainName.{is_wildcard}
use Rattle.zsv_blocked.proofs.WildcardLemmas.{none-over}
use Rattle.zsv_blocked.proofs.names.BlockedNames.has_wildcard.Goals as goal

pub returns-then-not-self-clause-found : goal.returns-then-not-self-clause-found
returns-then-not-self-clause-found c =
    let none = ap (list_any is_wildcard) (sym c.self.view_is) ∙ sym c.self.invariant.1 ∙ c.if-not-self.true in
    sym (none-over c.args.self.now c.args.depth c.args.name.now none)
