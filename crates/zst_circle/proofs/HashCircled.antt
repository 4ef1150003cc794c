-- The circle by hash of a zone with its NSEC3PARAM set.
use Rattle.std.proofs.Common.{◌≡◌, ◌∙◌, ℕ, refl, ap, sym, subst, inl, inr}
use Rattle.std.specs.Prelude.{Bool, true, false, ◌&&◌, List, Option, Some, None, IfSome, IsSome, IsSomeAnd, cond, is_some}
use Rattle.std.proofs.lemmas.Bool.{true≢false}
use Rattle.zst_absence.specs.dnw_codes.declared.record_type.RecordType.{RecordType}
use Rattle.zst_absence.specs.dnw_codes.declared.record_type.RecordType.TheVariants as kind
use Rattle.zst_absence.specs.dnw_codes.RecordType.{same_record_type}
use Rattle.zst_absence.specs.dnw_name.DomainName.{DomainName, lowercase_name, name_eq}
use Rattle.zst_absence.specs.zst_denial.Hashed.{Hashing, digest_of}
use Rattle.zst_absence.specs.zst_handler.Zones.{Zone, rrset_at}
use Rattle.zst_absence.specs.zst_hash.Owners.{hashed_owner}
use Rattle.zst_absence.specs.zst_record.RecordLaws.{name_eq_equiv}
use Rattle.zst_absence.specs.zst_record.RecordSets.{RRset, empty_set}
use Rattle.zst_absence.proofs.zst_denial_lemmas.zst_key_lemmas.KeyLemmas.{eq-lower}
use Rattle.zst_absence.proofs.zst_map_lemmas.Replacing.{both_same, type_same}
use Rattle.zst_circle.specs.Nsec3Circle.{IsNsec3SetOn}
use Rattle.zst_circle.specs.Secures.{IsMadeByHash, with_parameters}
use Rattle.zst_circle.specs.Securing.{ChangesOnly, HasNone}
use Rattle.zst_circle.proofs.Authoritative.{eq_lower}
use Rattle.zst_circle.proofs.NsecHashed.{now_nsec3}
use Rattle.zst_circle.proofs.NsecHashedKept.{same_on}
use Rattle.zst_circle.proofs.NsecSecured.{AlikeBut}

-- An origin and one of the same key are equal.
pub same_origin : (origin key : DomainName) (zone : Zone) → lowercase_name zone.origin ≡ key → key ≡ lowercase_name origin → name_eq origin zone.origin ≡ true
same_origin origin key zone at is = sym (eq-lower origin zone.origin) ∙ ap (name_eq origin) (at ∙ is) ∙ eq_lower origin

pub on_still : (by : Hashing) (opt_out : Bool) (old new : Zone) → AlikeBut kind.NSEC3 old new → (set : RRset) → IsNsec3SetOn by opt_out old set → IsNsec3SetOn by opt_out new set
on_still by opt_out old new same set i = record {
  name = i.name;
  on = same_on opt_out old new same i.name i.on;
  owner = ap (λ (o : DomainName). name_eq set.name (hashed_owner (digest_of by i.name) o)) same.origin ∙ i.owner;
  is = now_nsec3 by opt_out old new same i.name set i.is;
}

-- ---- one set more in both zones
with_one : (b : Bool) (x y : RRset) (o p : Option RRset) → is_some o ≡ is_some p → is_some (cond b (Some x) o) ≡ is_some (cond b (Some y) p)
with_one true x y o p e = refl
with_one false x y o p e = e

pub made_still : (by : Hashing) (opt_out : Bool) (ttl : ℕ) (zone : Zone) (a b : List RRset) → ((name : DomainName) (t : RecordType) → is_some (rrset_at b name t) ≡ is_some (rrset_at a name t))
    → (set : RRset) → IsMadeByHash by opt_out ttl (record zone { sets = a }) set → IsMadeByHash by opt_out ttl (record zone { sets = b }) set
made_still by opt_out ttl zone a b same set (inl made) = inl made
made_still by opt_out ttl zone a b same set (inr made) =
    inr (
      on_still by opt_out (with_parameters (record zone { sets = a })) (with_parameters (record zone { sets = b })) (record {
        origin = refl;
        owned = λ name t other.
            with_one (name_eq name zone.origin && same_record_type kind.NSEC3PARAM t) (empty_set zone.origin kind.NSEC3PARAM) (empty_set zone.origin kind.NSEC3PARAM) (rrset_at b name t) (rrset_at a name t) (same name t);
      }) set made.0,
      made.1,
    )

-- ---- the NSEC3PARAM set that was put
module _ (old new : List RRset) (origin : DomainName) (others : ChangesOnly kind.NSEC3PARAM old new) (none : HasNone old kind.NSEC3PARAM)
    (only : (name : DomainName) → IsSome (rrset_at new name kind.NSEC3PARAM) → name_eq name origin ≡ true) where
  pub at_origin : (P : RRset → Type 0) → IsSomeAnd (rrset_at new origin kind.NSEC3PARAM) P → (name : DomainName) → IfSome (rrset_at new name kind.NSEC3PARAM) P
  at_origin P made name = by (rrset_at new name kind.NSEC3PARAM) refl
    where
      some_if : (o : Option RRset) → IsSomeAnd o P → IfSome o P
      some_if None p = tt
      some_if (Some s) p = p

      by : (o : Option RRset) → rrset_at new name kind.NSEC3PARAM ≡ o → IfSome o P
      by None e = tt
      by (Some set) e =
          subst (λ (o : Option RRset). IfSome o P) (both_same new name origin kind.NSEC3PARAM kind.NSEC3PARAM (only name (ap is_some e)) refl ∙ e) (some_if (rrset_at new origin kind.NSEC3PARAM) made)

  pub alike_with : (zone : Zone) → zone.sets ≡ old → name_eq origin zone.origin ≡ true → IsSome (rrset_at new origin kind.NSEC3PARAM) → AlikeBut kind.NSEC3 (record zone { sets = new }) (with_parameters zone)
  alike_with zone has named made = record {
    origin = refl;
    owned = λ name t other. by name t (same_record_type kind.NSEC3PARAM t) refl (name_eq name zone.origin) refl;
  }
    where
      before : (name : DomainName) (t : RecordType) → rrset_at zone.sets name t ≡ rrset_at old name t
      before name t = ap (λ (l : List RRset). rrset_at l name t) has

      parameters : (sets : List RRset) (name : DomainName) (t : RecordType) → same_record_type kind.NSEC3PARAM t ≡ true → rrset_at sets name kind.NSEC3PARAM ≡ rrset_at sets name t
      parameters sets name t is = type_same sets name kind.NSEC3PARAM t is

      nothing : (o : Option RRset) → (IsSome o → ⊥) → is_some o ≡ false
      nothing None f = refl
      nothing (Some s) f = absurd (f refl)

      off : (b : Bool) (x : RRset) (o : Option RRset) → is_some (cond (b && false) (Some x) o) ≡ is_some o
      off true x o = refl
      off false x o = refl

      by : (name : DomainName) (t : RecordType) → (c : Bool) → same_record_type kind.NSEC3PARAM t ≡ c → (b : Bool) → name_eq name zone.origin ≡ b
          → is_some (cond (b && c) (Some (empty_set zone.origin kind.NSEC3PARAM)) (rrset_at zone.sets name t)) ≡ is_some (rrset_at new name t)
      by name t false e b f = off b (empty_set zone.origin kind.NSEC3PARAM) (rrset_at zone.sets name t) ∙ ap is_some (before name t ∙ sym (others name t e))
      by name t true e true f =
          sym (ap is_some (sym (parameters new name t e) ∙ sym (both_same new name origin kind.NSEC3PARAM kind.NSEC3PARAM (name_eq_equiv.congr name zone.origin origin f ∙ name_eq_equiv.symm zone.origin origin ∙ named) refl)) ∙ made)
      by name t true e false f =
          ap is_some (before name t ∙ sym (parameters old name t e) ∙ none name)
          ∙ sym (nothing (rrset_at new name t) (λ some. true≢false (sym (name_eq_equiv.congr name origin zone.origin (only name (ap is_some (parameters new name t e) ∙ some)) ∙ named) ∙ f)))
