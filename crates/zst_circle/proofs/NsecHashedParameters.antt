-- The NSEC3PARAM set is put at the origin: no other owner has one, and no other type changes.
use Rattle.std.proofs.Common.{◌≡◌, Bool, true, false, ◌&&◌, List, refl, ap, sym, ◌∙◌}
use Rattle.std.specs.Prelude.{Err, IfErr, IsErrAnd, IsSome, Ok, Option, Result, Some, cond, is_some}
use Rattle.std.proofs.lemmas.Bool.{true≢false}
use Rattle.zst_absence.specs.dnw_codes.declared.record_type.RecordType.{RecordType}
use Rattle.zst_absence.specs.dnw_codes.RecordType.{same_record_type}
use Rattle.zst_absence.specs.dnw_name.DomainName.{DomainName, name_eq}
use Rattle.zst_absence.specs.zst_handler.Updates.{Replaces}
use Rattle.zst_absence.specs.zst_handler.Zones.{rrset_at}
use Rattle.zst_absence.specs.zst_record.RecordSets.{RRset}
use Rattle.zst_circle.specs.Securing.{ChangesOnly, HasNone}

off : (there o : Option RRset) (b c : Bool) → c ≡ false → cond (b && c) there o ≡ o
off there o true c e = ap (λ (d : Bool). cond d there o) e
off there o false c e = refl

pub others_stay : (old new : List RRset) (circle : RecordType) (set there : RRset) → set.record_type ≡ circle → Replaces old set.name set.record_type (Some there) new → ChangesOnly circle old new
others_stay old new circle set there is replaces name t other =
    replaces name t ∙ off (Some there) (rrset_at old name t) (name_eq name set.name) (same_record_type set.record_type t) (ap (λ (u : RecordType). same_record_type u t) is ∙ other)

pub only_there : (old new : List RRset) (circle : RecordType) (set there : RRset) (owner : DomainName) → set.name ≡ owner → HasNone old circle → Replaces old set.name set.record_type (Some there) new
    → (name : DomainName) → IsSome (rrset_at new name circle) → name_eq name owner ≡ true
only_there old new circle set there owner named none replaces name some = ap (name_eq name) (sym named) ∙ by (name_eq name set.name) refl
  where
    by : (b : Bool) → name_eq name set.name ≡ b → b ≡ true
    by true e = refl
    by false e =
        absurd (true≢false (sym some ∙ ap is_some (replaces name circle ∙ ap (λ (c : Bool). cond (c && same_record_type set.record_type circle) (Some there) (rrset_at old name circle)) e ∙ none name)))

pub err_and : {T E : Type 0} {P Q : E → Type 0} (r : Result T E) → ((e : E) → P e → Q e) → IsErrAnd r P → IfErr r Q
err_and (Ok x) f p = tt
err_and (Err e) f p = f e p
