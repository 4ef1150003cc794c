-- The names at which a search looks for cuts, wildcards and denials.
use Rattle.std.specs.Prelude.{◌≡◌, ◌||◌, Bool, true, false, List, IsSome}
use Rattle.std.specs.BTreeMap.{BTreeMap, get}
use Rattle.zst_handler.specs.dnw_codes.declared.record_type.RecordType.{RecordType}
use Rattle.zst_handler.specs.dnw_codes.declared.record_type.RecordType.TheVariants as kind
use Rattle.zst_handler.specs.dnw_codes.RecordType.{same_record_type}
use Rattle.zst_handler.specs.dnw_name.DomainName.{DomainName, name_cmp, name_eq}
use Rattle.zst_handler.specs.zst_record.RecordSets.{RRset}
use Rattle.zst_key.specs.Ancestors.{star}
use Rattle.zst_handler.specs.Zones.{rrset_at}
use Rattle.zst_map.specs.declared.index.Index.{Index}

-- A name is there, whatever its case.
abbrev pub HasName : BTreeMap DomainName (Unit {0}) → DomainName → Type 0
HasName names key =
    (name : DomainName) → name_eq name key ≡ true → IsSome (get name_cmp names name)

-- Sets of these types prove what a zone doesn't have (RFC 4034, section 4; RFC 5155, section 3).
abbrev pub is_denial_type : RecordType → Bool
is_denial_type record_type =
    same_record_type record_type kind.NSEC || same_record_type record_type kind.NSEC3

-- No name is lost.
pub record Grows (old new : Index) : Type 0 where
  pub cuts : (name : DomainName) → IsSome (get name_cmp old.name_servers name)
      → IsSome (get name_cmp new.name_servers name)
  pub stars : (name : DomainName) → IsSome (get name_cmp old.wildcards name)
      → IsSome (get name_cmp new.wildcards name)
  pub denials : (name : DomainName) → IsSome (get name_cmp old.denials name)
      → IsSome (get name_cmp new.denials name)
  pub uncut : new.has_cuts ≡ false → old.has_cuts ≡ false
  pub absolute : new.has_relative ≡ false → old.has_relative ≡ false

-- The owner of a set of this type, which may own an SOA, is where a search for the set looks: as
-- owner of NS, as a wildcard, as owner of NSEC or NSEC3.
pub record HasOwnerOf (owner : DomainName) (record_type : RecordType) (owns_soa : Bool)
    (index : Index) : Type 0 where
  pub cut : same_record_type record_type kind.NS ≡ true → (name : DomainName)
      → name_eq name owner ≡ true → IsSome (get name_cmp index.name_servers name)
  pub uncut : index.has_cuts ≡ false → same_record_type record_type kind.NS ≡ true
      → owns_soa ≡ true
  pub star_above : (name : DomainName) → name_eq (star name) owner ≡ true
      → IsSome (get name_cmp index.wildcards name)
  pub denial : is_denial_type record_type ≡ true → (name : DomainName)
      → name_eq name owner ≡ true → IsSome (get name_cmp index.denials name)
  pub absolute : index.has_relative ≡ false → owner.fqdn ≡ true

-- The owners of all sets stand so.
pub record IsIndexed (index : Index) (sets : List RRset) : Type 0 where
  pub cuts : (name : DomainName) → IsSome (rrset_at sets name kind.NS)
      → IsSome (get name_cmp index.name_servers name)
  pub uncut : index.has_cuts ≡ false → (name : DomainName) → IsSome (rrset_at sets name kind.NS)
      → IsSome (rrset_at sets name kind.SOA)
  pub stars : (name : DomainName) (record_type : RecordType)
      → IsSome (rrset_at sets (star name) record_type)
      → IsSome (get name_cmp index.wildcards name)
  pub denials : (name : DomainName) (record_type : RecordType) → is_denial_type record_type ≡ true
      → IsSome (rrset_at sets name record_type) → IsSome (get name_cmp index.denials name)
  pub absolute : index.has_relative ≡ false → (name : DomainName) (record_type : RecordType)
      → IsSome (rrset_at sets name record_type) → name.fqdn ≡ true
