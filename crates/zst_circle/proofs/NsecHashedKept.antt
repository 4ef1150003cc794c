-- A circle by hash and its lists stay where sets of NSEC3 alone change.
use Rattle.std.proofs.Common.{◌≡◌, ℕ, Bool, true, false, not, ◌&&◌, ◌||◌, ◌==◌, eqb-true, List, [], ◌∷◌, refl, sym, ap, ◌∙◌, true≢false, cond}
use Rattle.std.specs.Prelude.{Some, find, is_some}
use Rattle.std.specs.List.{list_any}
use Rattle.std.proofs.lemmas.Bool.{and_parts}
use Rattle.zst_absence.specs.dnw_codes.declared.record_type.RecordType.{RecordType}
use Rattle.zst_absence.specs.dnw_codes.declared.record_type.RecordType.TheVariants as kind
use Rattle.zst_absence.specs.dnw_codes.RecordType.{record_type_number, same_record_type}
use Rattle.zst_absence.specs.dnw_name.DomainName.{DomainName, is_at_or_below, name_eq}
use Rattle.zst_absence.specs.zst_denial.Circles.{is_owned}
use Rattle.zst_absence.specs.zst_denial.Hashed.{IsOnHashCircle, is_listed_by_hash, owns_others}
use Rattle.zst_absence.specs.zst_handler.Zones.{Zone, rrset_at}
use Rattle.zst_absence.specs.zst_record.RecordLaws.{name_eq_equiv}
use Rattle.zst_absence.specs.zst_record.RecordSets.{RRset}
use Rattle.zst_absence.proofs.zst_map_lemmas.Replacing.{both_same}
use Rattle.zst_circle.proofs.Authoritative.{any_named, delegation_alike, same_type}
use Rattle.zst_circle.proofs.NsecSecured.{AlikeBut, alike_turned, same_authoritative, same_delegation, type_turned}

-- ---- whether a name owns a set of another type than NSEC3
-- The type of such a set.
record OwnsOther (sets : List RRset) (name : DomainName) : Type 0 where
  record_type : RecordType
  other : same_record_type record_type kind.NSEC3 ≡ false
  owned : is_some (rrset_at sets name record_type) ≡ true

not_true : (b : Bool) → not b ≡ true → b ≡ false
not_true true e = absurd (true≢false (sym e))
not_true false e = refl

found_first : (p : RRset → Bool) (s : RRset) (ss : List RRset) → p s ≡ true → is_some (find p (s ∷ ss)) ≡ true
found_first p s ss e = ap (λ (b : Bool). is_some (cond b (Some s) (find p ss))) e

found_later : (p : RRset → Bool) (s : RRset) (ss : List RRset) → is_some (find p ss) ≡ true → is_some (find p (s ∷ ss)) ≡ true
found_later p s ss e = by (p s) where
  by : (b : Bool) → is_some (cond b (Some s) (find p ss)) ≡ true
  by true = refl
  by false = e

other_found : (sets : List RRset) (name : DomainName) → list_any (λ s. name_eq name s.name && not (same_record_type s.record_type kind.NSEC3)) sets ≡ true → OwnsOther sets name
other_found [] name e = absurd (true≢false (sym e))
other_found (s ∷ ss) name e = by (name_eq name s.name && not (same_record_type s.record_type kind.NSEC3)) refl e (λ h. other_found ss name h) where
  by : (b : Bool) → (name_eq name s.name && not (same_record_type s.record_type kind.NSEC3)) ≡ b → (b || list_any (λ s. name_eq name s.name && not (same_record_type s.record_type kind.NSEC3)) ss) ≡ true
      → (list_any (λ s. name_eq name s.name && not (same_record_type s.record_type kind.NSEC3)) ss ≡ true → OwnsOther ss name) → OwnsOther (s ∷ ss) name
  by true here h later =
      let p = and_parts (name_eq name s.name) (not (same_record_type s.record_type kind.NSEC3)) here in
      record {
        record_type = s.record_type;
        other = not_true (same_record_type s.record_type kind.NSEC3) p.1;
        owned = found_first (λ r. name_eq name r.name && same_record_type r.record_type s.record_type) s ss (λ i. p.0 i && same_type s.record_type i);
      }
  by false here h later =
      let p = later h in
      record {
        record_type = p.record_type;
        other = p.other;
        owned = found_later (λ r. name_eq name r.name && same_record_type r.record_type p.record_type) s ss p.owned;
      }

-- Where a name owns one of a type, it owns such a set.
found_other : (sets : List RRset) (name : DomainName) (t : RecordType) → same_record_type t kind.NSEC3 ≡ false → is_some (rrset_at sets name t) ≡ true
    → list_any (λ s. name_eq name s.name && not (same_record_type s.record_type kind.NSEC3)) sets ≡ true
found_other [] name t other e = absurd (true≢false (sym e))
found_other (s ∷ ss) name t other e = by (name_eq name s.name && same_record_type s.record_type t) refl e (λ h. found_other ss name t other h) where
  or_later : (b : Bool) (c : Bool) → c ≡ true → (b || c) ≡ true
  or_later true c h = refl
  or_later false c h = h

  by : (b : Bool) → (name_eq name s.name && same_record_type s.record_type t) ≡ b → is_some (cond b (Some s) (rrset_at ss name t)) ≡ true
      → (is_some (rrset_at ss name t) ≡ true → list_any (λ s. name_eq name s.name && not (same_record_type s.record_type kind.NSEC3)) ss ≡ true)
      → ((name_eq name s.name && not (same_record_type s.record_type kind.NSEC3)) || list_any (λ s. name_eq name s.name && not (same_record_type s.record_type kind.NSEC3)) ss) ≡ true
  by true here h later =
      let p = and_parts (name_eq name s.name) (same_record_type s.record_type t) here in
      let number : record_type_number s.record_type ≡ record_type_number t = eqb-true (record_type_number s.record_type) (record_type_number t) p.1 in
      let no : same_record_type s.record_type kind.NSEC3 ≡ false = ap (λ (n : ℕ). n == 50) number ∙ other in
      λ i. (p.0 i && not (no i)) || list_any (λ s. name_eq name s.name && not (same_record_type s.record_type kind.NSEC3)) ss
  by false here h later = or_later (name_eq name s.name && not (same_record_type s.record_type kind.NSEC3)) (list_any (λ s. name_eq name s.name && not (same_record_type s.record_type kind.NSEC3)) ss) (later h)

both_ways : (a b : Bool) → (a ≡ true → b ≡ true) → (b ≡ true → a ≡ true) → b ≡ a
both_ways true true f g = refl
both_ways false false f g = refl
both_ways true false f g = f refl
both_ways false true f g = sym (g refl)

owns_onward : (old new : Zone) → AlikeBut kind.NSEC3 old new → (name : DomainName) → owns_others old name ≡ true → owns_others new name ≡ true
owns_onward old new same name e =
    let p = other_found old.sets name e in
    found_other new.sets name p.record_type p.other (same.owned name p.record_type (type_turned kind.NSEC3 p.record_type ∙ p.other) ∙ p.owned)

owns_still : (old new : Zone) → AlikeBut kind.NSEC3 old new → (name : DomainName) → owns_others new name ≡ owns_others old name
owns_still old new same name = both_ways (owns_others old name) (owns_others new name) (owns_onward old new same name) (owns_onward new old (alike_turned kind.NSEC3 old new same) name)

-- ---- zones alike but for NSEC3
pub same_on : (opt_out : Bool) (old new : Zone) → AlikeBut kind.NSEC3 old new → (name : DomainName) → IsOnHashCircle opt_out old name → IsOnHashCircle opt_out new name
same_on opt_out old new same name on = record {
  below = on.below;
  on = same_authoritative kind.NSEC3 refl old new same on.below on.on;
  above = on.above;
  flags = on.flags;
  in_zone = ap (λ (o : DomainName). is_at_or_below name o) same.origin ∙ on.in_zone;
  kept = λ out delegated. same.owned name kind.DS refl ∙ on.kept out (sym (same_delegation kind.NSEC3 refl old new same name) ∙ delegated);
}

nothing : (b : Bool) → (b && false) ≡ false
nothing true = refl
nothing false = refl

pub same_listed_by_hash : (old new : Zone) → AlikeBut kind.NSEC3 old new → (name : DomainName) (t : RecordType) → is_listed_by_hash new name t ≡ is_listed_by_hash old name t
same_listed_by_hash old new same name t =
    λ i. cond (same_delegation kind.NSEC3 refl old new same name i)
    (of_delegation (same_record_type t kind.NSEC3) refl i || (same_record_type t kind.RRSIG && same.owned name kind.DS refl i))
    (of_any (same_record_type t kind.NSEC3) refl i || (same_record_type t kind.RRSIG && owns_still old new same name i))
  where
    of_any : (b : Bool) → same_record_type t kind.NSEC3 ≡ b → (is_owned new name t && not (same_record_type t kind.NSEC3)) ≡ (is_owned old name t && not (same_record_type t kind.NSEC3))
    of_any true e =
        ap (λ (c : Bool). is_owned new name t && not c) e ∙ nothing (is_owned new name t) ∙ sym (nothing (is_owned old name t)) ∙ ap (λ (c : Bool). is_owned old name t && not c) (sym e)
    of_any false e = ap (λ (c : Bool). c && not (same_record_type t kind.NSEC3)) (same.owned name t (type_turned kind.NSEC3 t ∙ e))

    of_delegation : (b : Bool) → same_record_type t kind.NSEC3 ≡ b
        → ((same_record_type t kind.NS || same_record_type t kind.DS) && is_owned new name t) ≡ ((same_record_type t kind.NS || same_record_type t kind.DS) && is_owned old name t)
    of_delegation true e =
        let number : record_type_number t ≡ 50 = eqb-true (record_type_number t) 50 e in
        ap (λ (n : ℕ). ((n == 2) || (n == 43)) && is_owned new name t) number ∙ ap (λ (n : ℕ). ((n == 2) || (n == 43)) && is_owned old name t) (sym number)
    of_delegation false e = ap (λ (c : Bool). (same_record_type t kind.NS || same_record_type t kind.DS) && c) (same.owned name t (type_turned kind.NSEC3 t ∙ e))

-- ---- under equal names
pub listed_alike : (zone : Zone) (a b : DomainName) → name_eq a b ≡ true → (t : RecordType) → is_listed_by_hash zone a t ≡ is_listed_by_hash zone b t
listed_alike zone a b e t =
    λ i. cond (delegation_alike zone a b 0 e i)
    (((same_record_type t kind.NS || same_record_type t kind.DS) && is_some (owned t i)) || (same_record_type t kind.RRSIG && is_some (owned kind.DS i)))
    ((is_some (owned t i) && not (same_record_type t kind.NSEC3)) || (same_record_type t kind.RRSIG && others i))
  where
    owned : (u : RecordType) → rrset_at zone.sets a u ≡ rrset_at zone.sets b u
    owned u = both_same zone.sets b a u u (name_eq_equiv.symm b a ∙ e) (same_type u)

    others : owns_others zone a ≡ owns_others zone b
    others = any_named (λ (set : RRset). name_eq a set.name && not (same_record_type set.record_type kind.NSEC3)) (λ set. name_eq b set.name && not (same_record_type set.record_type kind.NSEC3)) zone.sets
        (λ set. ap (λ (c : Bool). c && not (same_record_type set.record_type kind.NSEC3)) (name_eq_equiv.congr a b set.name e))
