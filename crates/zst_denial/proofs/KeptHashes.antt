-- A zone stays secured by NSEC3 where its owners, their types and the records of its circle stay.
use Rattle.std.proofs.Common.{◌≡◌, ℕ, Bool, true, false, not, ◌&&◌, ◌||◌, ◌==◌, eqb-true, List, [], ◌∷◌, refl, sym, ap, subst, ◌∙◌, true≢false, cond, if◌then◌else◌}
use Rattle.std.specs.Prelude.{find, Some, IsSomeAnd, is_some}
use Rattle.std.specs.List.{list_any}
use Rattle.std.proofs.lemmas.Bool.{and_parts}
use Rattle.zst_handler.specs.Zones.{Zone, rrset_at}
use Rattle.zst_handler.specs.dnw_codes.declared.record_type.RecordType.{RecordType}
use Rattle.zst_handler.specs.dnw_codes.declared.record_type.RecordType.TheVariants as kind
use Rattle.zst_handler.specs.dnw_codes.RecordType.{record_type_number, same_record_type}
use Rattle.zst_handler.specs.dnw_name.DomainName.{DomainName, is_at_or_below, name_cmp, name_eq}
use Rattle.zst_handler.specs.zst_record.RecordSets.{RRset}
use Rattle.zst_hash.specs.Owners.{hashed_owner}
use Rattle.drd_denial.specs.Between.{is_between}
use Rattle.zst_denial.specs.Hashed.{FollowsByHash, Hashing, IsNsec3Set, IsOnHashCircle, IsParameterSet, IsSecuredByHash, digest_of, hashed_name, is_listed_by_hash, owns_others}
use Rattle.zst_denial.specs.Kept.{HaveSameCircle}
use Rattle.zst_denial.proofs.KeptCircles.{moved, same_delegation, still_authoritative, turned}
use Rattle.zst_denial.proofs.Signings.{same_number}

-- ---- whether a name owns a set of another type than NSEC3
-- The type of such a set.
record OwnsOther (sets : List RRset) (name : DomainName) : Type 0 where
  record_type : RecordType
  other : same_record_type record_type kind.NSEC3 ≡ false
  owned : is_some (rrset_at sets name record_type) ≡ true

not_true : (b : Bool) → not b ≡ true → b ≡ false
not_true true e = absurd (true≢false (sym e))
not_true false e = refl

found_first : (p : RRset → Bool) (s : RRset) (ss : List RRset) → p s ≡ true → is_some (find p (s ∷ ss)) ≡ true
found_first p s ss e = ap (λ (b : Bool). is_some (cond b (Some s) (find p ss))) e

found_later : (p : RRset → Bool) (s : RRset) (ss : List RRset) → is_some (find p ss) ≡ true → is_some (find p (s ∷ ss)) ≡ true
found_later p s ss e = by (p s) where
  by : (b : Bool) → is_some (cond b (Some s) (find p ss)) ≡ true
  by true = refl
  by false = e

passes : (sets : List RRset) (name : DomainName) → list_any (λ s. name_eq name s.name && not (same_record_type s.record_type kind.NSEC3)) sets ≡ true → OwnsOther sets name
passes [] name e = absurd (true≢false (sym e))
passes (s ∷ ss) name e = by (name_eq name s.name && not (same_record_type s.record_type kind.NSEC3)) refl e (λ h. passes ss name h) where
  by : (b : Bool) → (name_eq name s.name && not (same_record_type s.record_type kind.NSEC3)) ≡ b → (b || list_any (λ s. name_eq name s.name && not (same_record_type s.record_type kind.NSEC3)) ss) ≡ true
      → (list_any (λ s. name_eq name s.name && not (same_record_type s.record_type kind.NSEC3)) ss ≡ true → OwnsOther ss name) → OwnsOther (s ∷ ss) name
  by true here h later =
      let p = and_parts (name_eq name s.name) (not (same_record_type s.record_type kind.NSEC3)) here in
      record {
        record_type = s.record_type;
        other = not_true (same_record_type s.record_type kind.NSEC3) p.1;
        owned = found_first (λ r. name_eq name r.name && same_record_type r.record_type s.record_type) s ss
            (λ i. p.0 i && same_number (record_type_number s.record_type) i);
      }
  by false here h later =
      let p = later h in
      record {
        record_type = p.record_type;
        other = p.other;
        owned = found_later (λ r. name_eq name r.name && same_record_type r.record_type p.record_type) s ss p.owned;
      }

-- Where a name owns one of a type, it owns such a set.
passing : (sets : List RRset) (name : DomainName) (t : RecordType) → same_record_type t kind.NSEC3 ≡ false → is_some (rrset_at sets name t) ≡ true
    → list_any (λ s. name_eq name s.name && not (same_record_type s.record_type kind.NSEC3)) sets ≡ true
passing [] name t other e = absurd (true≢false (sym e))
passing (s ∷ ss) name t other e = by (name_eq name s.name && same_record_type s.record_type t) refl e (λ h. passing ss name t other h) where
  or_later : (b : Bool) (c : Bool) → c ≡ true → (b || c) ≡ true
  or_later true c h = refl
  or_later false c h = h

  by : (b : Bool) → (name_eq name s.name && same_record_type s.record_type t) ≡ b → is_some (cond b (Some s) (rrset_at ss name t)) ≡ true
      → (is_some (rrset_at ss name t) ≡ true → list_any (λ s. name_eq name s.name && not (same_record_type s.record_type kind.NSEC3)) ss ≡ true)
      → ((name_eq name s.name && not (same_record_type s.record_type kind.NSEC3)) || list_any (λ s. name_eq name s.name && not (same_record_type s.record_type kind.NSEC3)) ss) ≡ true
  by true here h later =
      let p = and_parts (name_eq name s.name) (same_record_type s.record_type t) here in
      let number : record_type_number s.record_type ≡ record_type_number t = eqb-true (record_type_number s.record_type) (record_type_number t) p.1 in
      let no : same_record_type s.record_type kind.NSEC3 ≡ false = ap (λ (n : ℕ). n == 50) number ∙ other in
      λ i. (p.0 i && not (no i)) || list_any (λ s. name_eq name s.name && not (same_record_type s.record_type kind.NSEC3)) ss
  by false here h later = or_later (name_eq name s.name && not (same_record_type s.record_type kind.NSEC3)) (list_any (λ s. name_eq name s.name && not (same_record_type s.record_type kind.NSEC3)) ss) (later h)

both_ways : (a b : Bool) → (a ≡ true → b ≡ true) → (b ≡ true → a ≡ true) → b ≡ a
both_ways true true f g = refl
both_ways false false f g = refl
both_ways true false f g = f refl
both_ways false true f g = sym (g refl)

owns_onward : (old new : Zone) → HaveSameCircle old new → (name : DomainName) → owns_others old name ≡ true → owns_others new name ≡ true
owns_onward old new same name e =
    let p = passes old.sets name e in
    passing new.sets name p.record_type p.other (same.owned name p.record_type ∙ p.owned)

owns_still : (old new : Zone) → HaveSameCircle old new → (name : DomainName) → owns_others new name ≡ owns_others old name
owns_still old new same name =
    both_ways (owns_others old name) (owns_others new name) (owns_onward old new same name) (owns_onward new old (turned old new same) name)

-- ---- which names are on the circle
on_still : (opt_out : Bool) (old new : Zone) → HaveSameCircle old new → (name : DomainName) → IsOnHashCircle opt_out old name → IsOnHashCircle opt_out new name
on_still opt_out old new same name on = record {
  below = on.below;
  on = still_authoritative kind.NSEC3 old new same on.below on.on;
  above = on.above;
  flags = on.flags;
  in_zone = ap (λ (o : DomainName). is_at_or_below name o) same.origin ∙ on.in_zone;
  kept = λ out delegated. same.owned name kind.DS ∙ on.kept out (sym (same_delegation old new same name) ∙ delegated);
}

name_still : (by : Hashing) (old new : Zone) → HaveSameCircle old new → (name : DomainName) → hashed_name by new name ≡ hashed_name by old name
name_still by old new same name = ap (λ (o : DomainName). hashed_owner (digest_of by name) o) same.origin

follows_hash : (by : Hashing) (opt_out : Bool) (old new : Zone) → HaveSameCircle old new → (name next : DomainName) → FollowsByHash by opt_out old name next → FollowsByHash by opt_out new name next
follows_hash by opt_out old new same name next f = record {
  on = on_still opt_out old new same next f.on;
  none = λ other on.
      (λ i. is_between name_cmp (name_still by old new same name i) (name_still by old new same other i) (name_still by old new same next i))
      ∙ f.none other (on_still opt_out new old (turned old new same) other on);
}

listed_hash : (old new : Zone) → HaveSameCircle old new → (name : DomainName) (t : RecordType) → is_listed_by_hash new name t ≡ is_listed_by_hash old name t
listed_hash old new same name t =
    λ i. if same_delegation old new same name i
    then (((same_record_type t kind.NS || same_record_type t kind.DS) && same.owned name t i) || (same_record_type t kind.RRSIG && same.owned name kind.DS i))
    else ((same.owned name t i && not (same_record_type t kind.NSEC3)) || (same_record_type t kind.RRSIG && owns_still old new same name i))

nsec3_still : (by : Hashing) (opt_out : Bool) (old new : Zone) → HaveSameCircle old new → (name : DomainName) (s r : RRset) → r.records ≡ s.records → IsNsec3Set by opt_out old name s → IsNsec3Set by opt_out new name r
nsec3_still by opt_out old new same name s r e n = record {
  only = n.only;
  one = e ∙ n.one;
  octets = n.octets;
  held = n.held;
  following = n.following;
  types = n.types;
  are = n.are;
  follows = follows_hash by opt_out old new same name n.following n.follows;
  lists = λ t small. n.lists t small ∙ sym (listed_hash old new same name t);
}

parameters_still : (by : Hashing) (s r : RRset) → r.records ≡ s.records → IsParameterSet by s → IsParameterSet by r
parameters_still by s r e p = record { only = p.only; one = e ∙ p.one; held = p.held }

pub hash_still : (by : Hashing) (opt_out : Bool) (old new : Zone) → HaveSameCircle old new → IsSecuredByHash by opt_out old → IsSecuredByHash by opt_out new
hash_still by opt_out old new same secured = record {
  each = λ name on.
      subst (λ (owner : DomainName). IsSomeAnd (rrset_at new.sets owner kind.NSEC3) (IsNsec3Set by opt_out new name)) (sym (name_still by old new same name))
      (moved (IsNsec3Set by opt_out old name) (IsNsec3Set by opt_out new name) (rrset_at old.sets (hashed_name by old name) kind.NSEC3)
      (rrset_at new.sets (hashed_name by old name) kind.NSEC3) (same.records (hashed_name by old name) kind.NSEC3 refl)
      (nsec3_still by opt_out old new same name) (secured.each name (on_still opt_out new old (turned old new same) name on)));
  only = λ owner owns.
      let o = secured.only owner (sym (same.owned owner kind.NSEC3) ∙ owns) in
      (o.0, on_still opt_out old new same o.0 o.1, ap (λ (n : DomainName). name_eq owner n) (name_still by old new same o.0) ∙ o.2);
  parameters = subst (λ (o : DomainName). IsSomeAnd (rrset_at new.sets o kind.NSEC3PARAM) (IsParameterSet by)) (sym same.origin)
      (moved (IsParameterSet by) (IsParameterSet by) (rrset_at old.sets old.origin kind.NSEC3PARAM) (rrset_at new.sets old.origin kind.NSEC3PARAM)
      (same.records old.origin kind.NSEC3PARAM refl) (parameters_still by) secured.parameters);
}
