-- A zone that is secured: its circle, and the signatures of its sets (RFC 4035, section 2;
-- RFC 5155, section 7.1).
use Rattle.std.specs.Prelude.{◌≡◌, ◌⊎◌, ℕ, ◌+◌, Bool, true, false, not, nat_le, List, [], ◌∷◌, Option, Some, None, IfSome, IsSome}
use Rattle.std.specs.List.{filter}
use Rattle.zst_absence.specs.drd_denial.Rrsig.{Signing}
use Rattle.zst_absence.specs.dnw_codes.declared.record_type.RecordType.{RecordType}
use Rattle.zst_absence.specs.dnw_codes.declared.record_type.RecordType.TheVariants as kind
use Rattle.zst_absence.specs.dnw_name.DomainName.{DomainName, labels_len, lowercase_name, name_eq}
use Rattle.zst_absence.specs.zst_codes.declared.nx_proof.NxProofKind.{NxProofKind}
use Rattle.zst_absence.specs.zst_codes.declared.nx_proof.NxProofKind.TheVariants as proofs
use Rattle.zst_absence.specs.zst_denial.Circles.{IsSecured}
use Rattle.zst_absence.specs.zst_denial.Hashed.{AreApart, Hashing, IsParameterSet, IsSecuredByHash}
use Rattle.zst_absence.specs.zst_denial.Kept.{is_circle_type}
use Rattle.zst_absence.specs.zst_denial.Signing.{any_fails}
use Rattle.zst_absence.specs.zst_handler.Zones.{AreInOrder, Zone, rrset_at}
use Rattle.zst_absence.specs.zst_record.RecordSets.{RRset, empty_set}
use Rattle.zst_circle.specs.Nsec3Circle.{IsNsec3Made}
use Rattle.zst_circle.specs.NsecCircle.{IsNsecMade}
use Rattle.zst_circle.specs.Resigning.{IsSignedBy, IsStoredToSign, risen}
use Rattle.zst_circle.specs.Securing.{HasNone, IsMade, IsMadeAs, IsToBeSigned, SomeFails}

-- What is secured: sets, the zone's origin and how it proves that a name is absent.
pub record IsZoneOf (sets : List RRset) (origin : DomainName) (proof : Option NxProofKind)
    (zone : Zone) : Type 0 where
  pub has_sets : zone.sets ≡ sets
  pub has_origin : zone.origin ≡ origin
  pub has_proof : zone.nx_proof_kind ≡ proof

-- The zone without its circle.
abbrev pub stripped : Zone → Zone
stripped zone =
    record zone { sets = filter (λ set. not (is_circle_type set.record_type)) zone.sets }

-- ---- the circle, by the zone's kind of proof
-- No owner but the origin has a set of this type.
abbrev pub IsAtOriginAlone : Zone → RecordType → Type 0
IsAtOriginAlone zone t =
    (name : DomainName) → IsSome (rrset_at zone.sets name t) → name_eq name zone.origin ≡ true

-- The sets of one kind of proof alone: NSEC (RFC 4035, section 2.3), or NSEC3 with NSEC3PARAM (RFC
-- 5155, section 7.1), which make a circle where digests differ.
abbrev pub IsCircledBy : Option NxProofKind → Zone → Type 0
IsCircledBy None zone =
    HasNone zone.sets kind.NSEC × HasNone zone.sets kind.NSEC3
    × HasNone zone.sets kind.NSEC3PARAM
IsCircledBy (Some proofs.Nsec) zone =
    IsSecured zone × HasNone zone.sets kind.NSEC3 × HasNone zone.sets kind.NSEC3PARAM
IsCircledBy (Some (proofs.Nsec3 algorithm salt iterations opt_out)) zone =
    HasNone zone.sets kind.NSEC × IsAtOriginAlone zone kind.NSEC3PARAM
    × (AreApart (record { salt = salt; iterations = iterations }) opt_out zone
    → IsSecuredByHash (record { salt = salt; iterations = iterations }) opt_out zone)

-- A circle by hash has room for its owners, one label of 32 octets below the origin (RFC 1035,
-- section 2.3.4).
abbrev pub has_room : Option NxProofKind → DomainName → Bool
has_room (Some (proofs.Nsec3 algorithm salt iterations opt_out)) origin =
    nat_le (labels_len origin.labels + 34) 255
has_room other origin = true

module _ {K : Type 0} (gives : K → RRset → ℕ → Signing → Type 0) (fails : K → RRset → ℕ → Bool)
    (keys : List K) (now : ℕ) where
  -- A stored set has its records, but for the next serial number, and new signatures, if it is to
  -- be signed.
  pub record IsKeptAs (old : Zone) (name : DomainName) (t : RecordType) (stored set : RRset) :
      Type 0 where
    pub is : set ≡ record (risen (name_eq name old.origin) stored) { signatures = set.signatures }
    pub signed : IsToBeSigned old name t
        → IsSignedBy gives fails keys now (risen (name_eq name old.origin) stored) set.signatures
    pub bare : (IsToBeSigned old name t → ⊥) → set.signatures ≡ []

  -- What a name has of a type: nothing as before, or the stored set kept so.
  abbrev pub KeepsSet : Zone → DomainName → RecordType → Option RRset → Option RRset → Type 0
  KeepsSet old name t None new = new ≡ None
  KeepsSet old name t (Some stored) new =
      (set : RRset) × (new ≡ Some set) × IsKeptAs old name t stored set

  -- A zone is secured: all sets but those of the circle stay and are signed, and those of the
  -- circle are made.
  pub record Secures (old : Zone) (ttl : ℕ) (new : Zone) : Type 0 where
    pub rest : new ≡ record old { sets = new.sets }
    pub room : has_room old.nx_proof_kind old.origin ≡ true
    pub ordered : AreInOrder new.sets
    pub kept : (name : DomainName) (t : RecordType) → is_circle_type t ≡ false
        → KeepsSet old name t (rrset_at old.sets name t) (rrset_at new.sets name t)
    pub circle : IsCircledBy old.nx_proof_kind new
    pub made : (name : DomainName) (t : RecordType) → is_circle_type t ≡ true
        → IfSome (rrset_at new.sets name t)
        (λ set. IsMade gives keys now ttl set × (any_fails fails keys set now ≡ false))

-- ---- why a zone isn't secured
-- The zone with an NSEC3PARAM set, before its NSEC3 sets are made.
abbrev pub with_parameters : Zone → Zone
with_parameters zone =
    record zone { sets = empty_set zone.origin kind.NSEC3PARAM ∷ zone.sets }

-- The NSEC3PARAM set at the origin, or an NSEC3 set.
abbrev pub IsMadeByHash : Hashing → Bool → ℕ → Zone → RRset → Type 0
IsMadeByHash by opt_out ttl zone set =
    (name_eq set.name zone.origin ≡ true) × IsParameterSet by set
    × IsMadeAs kind.NSEC3PARAM ttl set
    ⊎ IsNsec3Made by opt_out ttl (with_parameters zone) set

-- A set that is made for the circle of a zone, which has no circle yet.
abbrev pub IsMadeFor : Option NxProofKind → ℕ → Zone → RRset → Type 0
IsMadeFor None ttl zone set = ⊥
IsMadeFor (Some proofs.Nsec) ttl zone set = IsNsecMade ttl zone set
IsMadeFor (Some (proofs.Nsec3 algorithm salt iterations opt_out)) ttl zone set =
    IsMadeByHash (record { salt = salt; iterations = iterations }) opt_out ttl zone set

-- Some key fails for a set that is to be signed, a stored one or one of the circle; or owners of
-- the circle would have more than 255 octets.
abbrev pub FailsToSecure : {K : Type 0} → (K → RRset → ℕ → Bool) → List K → ℕ
    → Option NxProofKind → ℕ → Zone → Type 0
FailsToSecure fails keys now proof ttl zone =
    SomeFails fails keys now (IsStoredToSign zone.sets (lowercase_name zone.origin))
    ⊎ (SomeFails fails keys now (IsMadeFor proof ttl (stripped zone))
    ⊎ (has_room proof zone.origin ≡ false))
