-- What stored sets become where a zone is secured: the serial number of its SOA rises, and the sets
-- of authoritative names are signed (RFC 4035, section 2.2; RFC 2136, section 3.6).
use Rattle.std.specs.Prelude.{◌≡◌, ℕ, ◌&&◌, Bool, true, false, List, [], ◌∷◌, Some, if◌then◌else◌}
use Rattle.std.specs.List.{AllByRecursion}
use Rattle.zst_absence.specs.drd_denial.Rrsig.{Signing}
use Rattle.zst_absence.specs.drd_rdata.declared.rdata.RData.{RData}
use Rattle.zst_absence.specs.drd_rdata.declared.rdata.RData.TheVariants.{SOA}
use Rattle.zst_absence.specs.dnw_codes.declared.record_type.RecordType.{RecordType}
use Rattle.zst_absence.specs.dnw_codes.declared.record_type.RecordType.TheVariants as kind
use Rattle.zst_absence.specs.dnw_name.DomainName.{DomainName, name_eq}
use Rattle.zst_absence.specs.zst_denial.Kept.{is_circle_type}
use Rattle.zst_absence.specs.zst_denial.Signing.{AreSignatures, any_fails, unsigned}
use Rattle.zst_absence.specs.zst_handler.Zones.{Zone, rrset_at}
use Rattle.zst_absence.specs.zst_record.RecordSets.{RRset, is_signature_of, raised_set}
use Rattle.zst_absence.specs.zst_record.declared.records.Record.{Record}
use Rattle.zst_circle.specs.Securing.{IsToBeSigned, IsZoneAt}
use Rattle.zst_circle.specs.declared.moves.Placeholder.{Placeholder}

-- ---- the serial number
abbrev pub is_soa_type : RecordType → Bool
is_soa_type kind.SOA = true
is_soa_type t = false

abbrev pub is_soa : RData → Bool
is_soa (SOA soa) = true
is_soa other = false

abbrev pub is_one_soa : List Record → Bool
is_one_soa (r ∷ []) = is_soa r.rdata
is_one_soa rs = false

-- An SOA set has one record (RFC 1035, section 3.3.13).
abbrev pub is_soa_set : RRset → Bool
is_soa_set set = is_soa_type set.record_type && is_one_soa set.records

-- The SOA set at the origin has the next serial number, any other set stays.
abbrev pub risen : Bool → RRset → RRset
risen at_origin set = if at_origin && is_soa_set set then raised_set set else set

-- ---- the signatures
-- A stored set that is to be signed, with its next serial number.
pub record IsStoredToSign (sets : List RRset) (origin : DomainName) (set : RRset) : Type 0 where
  pub name : DomainName
  pub record_type : RecordType
  pub stored : RRset
  pub there : rrset_at sets name record_type ≡ Some stored
  pub moves : is_circle_type record_type ≡ false
  pub is : set ≡ risen (name_eq name origin) stored
  pub signs : (zone : Zone) → IsZoneAt sets origin zone → IsToBeSigned zone name record_type

module _ {K : Type 0} (gives : K → RRset → ℕ → Signing → Type 0) (fails : K → RRset → ℕ → Bool)
    (keys : List K) (now : ℕ) where
  -- These are the signatures of a set by all keys.
  pub record IsSignedBy (set : RRset) (signatures : List Record) : Type 0 where
    pub given : AreSignatures gives keys (unsigned set) now signatures
    pub none_fails : any_fails fails keys set now ≡ false

  -- A placeholder has the signatures of the set that moves, if that is to be signed.
  pub record IsResigning (sets : List RRset) (origin : DomainName) (placeholder : Placeholder)
      (set : RRset) : Type 0 where
    pub fit : AllByRecursion (λ r. is_signature_of set r ≡ true) placeholder.signatures.items
    pub rises : placeholder.rises ≡ (name_eq placeholder.key origin && is_soa_set set)
    pub signed : (zone : Zone) → IsZoneAt sets origin zone
        → IsToBeSigned zone placeholder.key placeholder.record_type
        → IsSignedBy (risen (name_eq placeholder.key origin) set) placeholder.signatures.items
    pub bare : (zone : Zone) → IsZoneAt sets origin zone
        → (IsToBeSigned zone placeholder.key placeholder.record_type → ⊥)
        → placeholder.signatures.items ≡ []

  abbrev pub Resigns : List RRset → DomainName → Placeholder → Type 0
  Resigns sets origin placeholder =
      (set : RRset) → rrset_at sets placeholder.key placeholder.record_type ≡ Some set
      → IsResigning sets origin placeholder set
