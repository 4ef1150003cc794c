use Rattle.std.proofs.Common.{◌≡◌, ◌∙◌, Bool, ap, subst}
use Rattle.std.specs.Prelude.{IfOk}
use Rattle.zst_map.specs.dnw_name.DomainName.{lowercase_name}
use Rattle.zst_map.specs.zst_handler.Zones.{exists_in}
use Rattle.zst_map.specs.zst_key.Ancestors.{up}
use Rattle.zst_absence.proofs.Enclosers.{exists_lower}
use Rattle.zst_absence.proofs.enclosing.exists_above.Goals as goal

pub returns : goal.returns
returns c =
    let sets = c.args.sets.now in
    let above = up c.args.name.now c.args.levels in
    let same : exists_in sets c.in_ok-key.key ≡ exists_in sets above
    = ap (exists_in sets) (c.in_ok-key.ensures.key ∙ ap lowercase_name c.in_ok-above.ensures) ∙ exists_lower sets above in
    subst (λ (b : Bool). IfOk c.exists.result (λ there. there ≡ b)) same c.exists.ensures
