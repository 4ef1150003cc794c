-- Zones that are made of sets: each set that is put, and the first that is refused.
use Rattle.std.proofs.Common.{◌≡◌, ◌<◌, refl, ◌∙◌, arith, length}
use Rattle.std.specs.Prelude.{Bool, true, false, not, List, [], ◌∷◌, Option, Some, None, cond}
use Rattle.zst_key.specs.Ancestors.{or_else}
use Rattle.zst_key.specs.dnw_name.declared.rr_key.RrKey.{RrKey}
use Rattle.zst_circle.specs.zst_record.RecordSets.{RRset, none_left}
use Rattle.zst_zone.specs.Makings.{RefusesAll, first_refusal, is_own_key, refusal}
use Rattle.zst_zone.specs.declared.handler.ZoneError.{ZoneError}
use Rattle.zst_zone.specs.declared.handler.ZoneError.TheVariants as errors

abbrev told : Bool → Bool → Option ZoneError
told own empty = cond (not own) (Some errors.WrongKey) (cond empty (Some errors.EmptySet) None)

told-none : (own empty : Bool) → told own empty ≡ None → empty ≡ false
told-none true true none = absurd (cc none)
told-none true false none = refl
told-none false empty none = absurd (cc none)

-- A set that isn't refused has records.
pub has-records : (at : RrKey) (set : RRset) → refusal (at, set) ≡ None → none_left set.records ≡ false
has-records at set none = told-none (is_own_key at set) (none_left set.records) none

-- Where none of the sets is refused, neither is the first, nor one of the others.
pub none-refused : (entry : RrKey × RRset) (rest : List (RrKey × RRset)) → first_refusal (entry ∷ rest) ≡ None → (refusal entry ≡ None) × (first_refusal rest ≡ None)
none-refused entry rest none = by (refusal entry) refl none
  where
    by : (o : Option ZoneError) → refusal entry ≡ o → or_else o (first_refusal rest) ≡ None → (refusal entry ≡ None) × (first_refusal rest ≡ None)
    by None e later = (e, later)
    by (Some refused) e wrong = absurd (cc wrong)

-- A refusal is that of a set's key or of its records.
refusal-is : (entry : RrKey × RRset) (e : ZoneError) → refusal entry ≡ Some e → e ≡ errors.OutOfMemory → ⊥
refusal-is entry e some memory = by (is_own_key entry.0 entry.1) (none_left entry.1.records) some
  where
    by : (own empty : Bool) → told own empty ≡ Some e → ⊥
    by true true is = cc (is, memory)
    by true false is = cc is
    by false empty is = cc (is, memory)

refused-is : (entries : List (RrKey × RRset)) (e : ZoneError) → first_refusal entries ≡ Some e → e ≡ errors.OutOfMemory → ⊥
refused-is [] e some memory = cc some
refused-is (entry ∷ entries) e some memory = by (refusal entry) refl some (refused-is entries e)
  where
    by : (o : Option ZoneError) → refusal entry ≡ o → or_else o (first_refusal entries) ≡ Some e → (first_refusal entries ≡ Some e → e ≡ errors.OutOfMemory → ⊥) → ⊥
    by None same later rest = rest later memory
    by (Some refused) same is rest = let one : refused ≡ e = cc is in refusal-is entry refused same (one ∙ memory)

-- The first refusal is why no zone is made.
pub refuses-first : (entries : List (RrKey × RRset)) (e : ZoneError) → first_refusal entries ≡ Some e → RefusesAll entries e
refuses-first entries errors.WrongKey some = some
refuses-first entries errors.EmptySet some = some
refuses-first entries errors.SignerFailed some = some
refuses-first entries errors.OutOfMemory some = absurd (refused-is entries errors.OutOfMemory some refl)

pub none-left : {X : Type 0} (entries : List X) → (0 < length entries → ⊥) → entries ≡ []
none-left [] none = refl
none-left (x ∷ xs) none = absurd (none (omega arith))
