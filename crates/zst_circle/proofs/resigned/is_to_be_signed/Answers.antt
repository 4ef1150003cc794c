use Rattle.std.proofs.Common.{◌≡◌, ◌∙◌, sym, true, false, Bool, not, refl}
use Rattle.std.proofs.lemmas.Bool.{true≢false}
use Rattle.zst_absence.specs.dnw_codes.RecordType.{same_record_type}
use Rattle.zst_absence.specs.dnw_codes.declared.record_type.RecordType.TheVariants as kind
use Rattle.zst_circle.proofs.Authoritative.{origin_below}
use Rattle.zst_circle.proofs.resigned.is_to_be_signed.Goals.{else-is_delegation-via-then-is_delegation+else-ne, else-is_delegation-via-else-is_delegation}
use Rattle.zst_circle.proofs.resigned.is_to_be_signed.Goals as goal

off : (b : Bool) → not b ≡ true → b ≡ false
off false e = refl
off true e = absurd (true≢false (sym e))

on : (b : Bool) → (b ≡ true → ⊥) → not b ≡ true
on true e = absurd (e refl)
on false e = refl

kept_true : (b : Bool) → not b ≡ false → b ≡ true
kept_true true e = refl
kept_true false e = absurd (true≢false e)

pub returns-then-not-is_at_or_below : goal.returns-then-not-is_at_or_below
returns-then-not-is_at_or_below c = λ zone at. (
  λ is. absurd (true≢false (sym is)),
  λ signs. absurd (true≢false (sym signs.in_zone ∙ sym (origin_below c.args.sets.now c.args.origin.now zone at c.args.key.now) ∙ sym c.is_at_or_below.ensures ∙ c.if-not-is_at_or_below.true)),
)

pub returns : goal.returns
returns c = λ zone at.
    let cut = c.in_ok-is_cut_off.field-0 in (
      λ is. record {
        in_zone = sym (origin_below c.args.sets.now c.args.origin.now zone at c.args.key.now) ∙ sym c.is_at_or_below.ensures ∙ c.if-not-is_at_or_below.false;
        uncut = λ off_zone. true≢false (sym ((c.in_ok-is_cut_off.ensures zone at).1 off_zone) ∙ off cut is);
        kept = λ delegated. elim c.else-is_delegation.branch [
          | else-is_delegation-via-then-is_delegation+else-ne w ↦ kept_true (same_record_type c.args.record_type kind.DS) (sym w.ne.ensures ∙ w.if-ne.false)
          | else-is_delegation-via-else-is_delegation w ↦ absurd (true≢false (sym delegated ∙ sym (c.is_delegation.ensures zone at) ∙ w.if-is_delegation.false))
        ];
      },
      λ signs. on cut (λ is. signs.uncut ((c.in_ok-is_cut_off.ensures zone at).0 is)),
    )
