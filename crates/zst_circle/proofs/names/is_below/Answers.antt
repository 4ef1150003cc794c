use Rattle.std.proofs.Common.{◌∙◌, Bool, not, ◌&&◌, ap, sym}
use Rattle.zst_absence.specs.dnw_name.DomainName.{is_at_or_below}
use Rattle.zst_circle.proofs.Authoritative.{strictly}
use Rattle.zst_circle.proofs.names.is_below.Goals as goal

pub returns-then-is_at_or_below : goal.returns-then-is_at_or_below
returns-then-is_at_or_below c =
    let key = c.args.key.now in
    let origin = c.args.origin.now in
    ap not c.is_at_or_below-then-is_at_or_below.ensures
    ∙ ap (λ (p : Bool). p && not (is_at_or_below origin key)) (sym (sym c.is_at_or_below.ensures ∙ c.if-is_at_or_below.true)) ∙ strictly key origin
