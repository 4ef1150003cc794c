use Rattle.std.proofs.Common.{◌≡◌, ◌∙◌, false, ap, length, subst, sym, arith}
use Rattle.std.proofs.lemmas.List.{length-drop}
use Rattle.zst_key.specs.dnw_name.DomainName.{DomainName, name_eq}
use Rattle.zsv_chains.specs.Chains.{IsSelfOrAncestor}
use Rattle.zsv_chains.proofs.Registered.{is_false, one_up}
use Rattle.zsv_chains.proofs.chains.go_up.Goals as goal

pub levels-preserved : goal.levels-preserved
levels-preserved c =
    let key = c.levels.key in
    let above = c.args.ancestor.now in
    let apart : name_eq key above ≡ false = is_false (name_eq key above) (sym c.ne.ensures ∙ c.levels-test.true) in (
      subst (λ (name : DomainName). IsSelfOrAncestor name above) (sym c.to_parent.ensures) (one_up key above c.levels.invariant.0 apart),
      omega (arith, c.levels.invariant.1, length-drop 1 key.labels) ∙ ap (λ (name : DomainName). length name.labels) (sym c.to_parent.ensures),
    )
