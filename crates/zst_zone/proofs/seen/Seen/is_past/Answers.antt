use Rattle.std.proofs.Common.{◌∙◌, ◌-◌, List, ap, length, sym}
use Rattle.std.specs.Prelude.{option_copied, slice_get}
use Rattle.zst_zone.proofs.SeenKeys.{past-last}
use Rattle.zst_zone.proofs.seen.Seen.is_past.Goals as goal
use Rattle.zst_circle.specs.dnw_name.DomainName.{DomainName}

pub returns-in-Some : goal.returns-in-Some
returns-in-Some c = λ past.
    past-last c.args.key.now c.args.self.now.rising.items c.in-Some.last.now c.requires
    (ap (λ (keys : List DomainName). slice_get keys (length keys - 1)) (sym c.deref.ensures.value) ∙ sym c.last.ensures.value ∙ ap option_copied c.in-Some.is)
    (sym c.lt.ensures ∙ past)
