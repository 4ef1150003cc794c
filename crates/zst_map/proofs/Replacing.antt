-- Sets under equal names and types of one number; a set in place of another.
use Rattle.std.proofs.Common.{◌≡◌, ℕ, refl, ap, sym, subst, ◌∙◌}
use Rattle.std.specs.Prelude.{Bool, true, false, ◌&&◌, ◌==◌, List, [], ◌∷◌, Option, Some, None, cond, find}
use Rattle.std.proofs.lemmas.Bool.{and_parts, eqb-true}
use Rattle.zst_handler.specs.dnw_codes.declared.record_type.RecordType.{RecordType}
use Rattle.zst_handler.specs.dnw_codes.RecordType.{record_type_number, same_record_type}
use Rattle.zst_handler.specs.dnw_name.DomainName.{DomainName, name_eq}
use Rattle.zst_handler.specs.zst_record.RecordLaws.{name_eq_equiv}
use Rattle.zst_handler.specs.zst_record.RecordSets.{RRset}
use Rattle.zst_handler.specs.Updates.{Replaces}
use Rattle.zst_handler.specs.Zones.{rrset_at}
use Rattle.zst_map.proofs.Indexed.{rrset_same}

pub one : {X : Type 0} (x y : X) → Some x ≡ Some y → x ≡ y
one x y e = cc

none_some : {X : Type 0} (o : Option X) (x : X) → o ≡ Some x → o ≡ None → ⊥
none_some o x some none = let h = sym some ∙ none in cc

-- ---- under equal names and types of one number is the same
pub type_same : (sets : List RRset) (a : DomainName) (t u : RecordType) → same_record_type t u ≡ true → rrset_at sets a t ≡ rrset_at sets a u
type_same sets a t u e =
    ap (λ (n : ℕ). find (λ (set : RRset). name_eq a set.name && record_type_number set.record_type == n) sets) (eqb-true (record_type_number t) (record_type_number u) e)

pub both_same : (sets : List RRset) (a b : DomainName) (t u : RecordType) → name_eq a b ≡ true → same_record_type t u ≡ true → rrset_at sets b t ≡ rrset_at sets a u
both_same sets a b t u e f = rrset_same sets a b t e ∙ type_same sets a t u f

-- A set that was found is of the owner and the type that were asked for.
pub found_parts : (sets : List RRset) (name : DomainName) (t : RecordType) (set : RRset) → rrset_at sets name t ≡ Some set → (name_eq name set.name ≡ true) × (same_record_type set.record_type t ≡ true)
found_parts [] name t set h = absurd (none_some None set h refl)
found_parts (s ∷ ss) name t set h = by (name_eq name s.name && same_record_type s.record_type t) refl h (found_parts ss name t set)
  where
    by : (b : Bool) → (name_eq name s.name && same_record_type s.record_type t) ≡ b → cond b (Some s) (rrset_at ss name t) ≡ Some set
        → (rrset_at ss name t ≡ Some set → (name_eq name set.name ≡ true) × (same_record_type set.record_type t ≡ true)) → (name_eq name set.name ≡ true) × (same_record_type set.record_type t ≡ true)
    by true e found later = subst (λ (u : RRset). (name_eq name u.name ≡ true) × (same_record_type u.record_type t ≡ true)) (one s set found) (and_parts (name_eq name s.name) (same_record_type s.record_type t) e)
    by false e found later = later found

-- ---- a set in place of another
name_alike : (a b other : DomainName) → name_eq a b ≡ true → name_eq other b ≡ name_eq other a
name_alike a b other e = name_eq_equiv.symm other b ∙ sym (name_eq_equiv.congr a b other e) ∙ name_eq_equiv.symm a other

-- It takes the place under a name that equals its owner's.
pub replaced_at : (sets after : List RRset) (key : DomainName) (set : RRset) → name_eq key set.name ≡ true → Replaces sets set.name set.record_type (Some set) after
    → Replaces sets key set.record_type (Some set) after
replaced_at sets after key set same replaces other u =
    replaces other u ∙ ap (λ (b : Bool). cond (b && same_record_type set.record_type u) (Some set) (rrset_at sets other u)) (name_alike key set.name other same)

-- And under a type of the same number.
pub replaced_as : (sets after : List RRset) (key : DomainName) (t : RecordType) (set : RRset) (kind : RecordType) → same_record_type kind t ≡ true → Replaces sets key kind (Some set) after
    → Replaces sets key t (Some set) after
replaced_as sets after key t set kind same replaces other u =
    replaces other u
    ∙ ap (λ (n : ℕ). cond (name_eq other key && n == record_type_number u) (Some set) (rrset_at sets other u)) (eqb-true (record_type_number kind) (record_type_number t) same)
