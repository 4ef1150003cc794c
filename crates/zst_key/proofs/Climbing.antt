-- Going up from a name, level by level.
use Rattle.std.proofs.Common.{◌≡◌, ℕ, ◌+◌, ◌<◌, Bool, true, false, List, [], ◌∷◌, drop, length, refl, ap, sym, ◌∙◌, arith, inl, inr}
use Rattle.std.specs.Prelude.{◌&&◌, reverse}
use Rattle.std.specs.Bool.{beq}
use Rattle.std.proofs.lemmas.Bool.{cases_lt, true≢false}
use Rattle.std.proofs.lemmas.List.{drop-drop}
use Rattle.dnw_name.specs.dnw_label.Label.{label_eq}
use Rattle.dnw_name.proofs.Fronts.{is_front, at_or_below-front}
use Rattle.dnw_name.specs.DomainName.{DomainName, domain_name, is_at_or_below}
use Rattle.zst_key.specs.Ancestors.{up, parent, GoesToShared}

pub up-up : (name : DomainName) (m n : ℕ) → up (up name m) n ≡ up name (m + n)
up-up name m n = ap (domain_name name.fqdn) (drop-drop n m name.labels)

-- So far no name was one that the other lies below.
pub record Climbs (old other now : DomainName) : Type 0 where
  pub levels : ℕ
  pub above : now ≡ up old levels
  pub passed : (n : ℕ) → n < levels → is_at_or_below other (up old n) ≡ false

pub at-start : (old other : DomainName) → Climbs old other old
at-start old other = record { levels = 0; above = refl; passed = λ n less. absurd (omega (arith, less)) }

pub one-more : (old other now : DomainName) → Climbs old other now → is_at_or_below other now ≡ false → Climbs old other (parent now)
one-more old other now is off =
    record {
      levels = is.levels + 1;
      above = ap parent is.above ∙ up-up old is.levels 1;
      passed = λ n less. elim (cases_lt n is.levels) [
        | inl before ↦ is.passed n before
        | inr behind ↦ let at : n ≡ is.levels = omega (arith, less, behind) in
            ap (λ (m : ℕ). is_at_or_below other (up old m)) at ∙ ap (is_at_or_below other) (sym is.above) ∙ off
      ];
    }

pub shared : (old other now : DomainName) → Climbs old other now → is_at_or_below other now ≡ true → GoesToShared old other now
shared old other now is on = record { levels = is.levels; above = is.above; shared = on; nearest = is.passed }

-- What a test of both flags and labels says where the flags are the same.
pub off-below : (f g x r : Bool) → beq f g ≡ true → r ≡ (beq g f && x) → r ≡ false → x ≡ false
off-below true true x r e is off = sym is ∙ off
off-below false false x r e is off = sym is ∙ off
off-below true false x r e is off = absurd (true≢false (sym e))
off-below false true x r e is off = absurd (true≢false (sym e))

pub on-below : (f g x r : Bool) → r ≡ (beq g f && x) → r ≡ true → x ≡ true
on-below true true x r is on = sym is ∙ on
on-below false false x r is on = sym is ∙ on
on-below true false x r is on = absurd (true≢false (sym on ∙ is))
on-below false true x r is on = absurd (true≢false (sym on ∙ is))

below-root : (name other : DomainName) → other.labels ≡ [] → is_at_or_below name other ≡ true
below-root name other e =
    at_or_below-front name other ∙ ap (λ (ls : List (List ℕ)). is_front label_eq (reverse ls) (reverse name.labels)) e

-- A name that another does not lie below has labels, so that one above it has fewer.
pub fewer-above : (name other : DomainName) → is_at_or_below other name ≡ false → length (parent name).labels < length name.labels
fewer-above name other off = by name.labels refl
  where
    by : (labels : List (List ℕ)) → name.labels ≡ labels → length (drop 1 labels) < length labels
    by [] e = absurd (true≢false (sym (below-root other name e) ∙ off))
    by (l ∷ ls) e = omega arith
