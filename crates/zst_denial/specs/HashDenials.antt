-- Which NSEC3 sets deny a name or a type (RFC 5155, section 7.2).
use Rattle.std.specs.Prelude.{◌+◌, nat_le, nat_le, ◌≡◌, ◌-◌, Bool, true, false, not, ◌&&◌, List, [], ◌∷◌, ◌++◌, length, Option, Some, None}
use Rattle.zst_handler.specs.Lookups.{listed}
use Rattle.zst_handler.specs.Zones.{Zone, rrset_at}
use Rattle.zst_handler.specs.dnw_codes.declared.record_type.RecordType.{RecordType}
use Rattle.zst_handler.specs.dnw_codes.declared.record_type.RecordType.TheVariants as kind
use Rattle.zst_handler.specs.dnw_name.DomainName.{DomainName, labels_len}
use Rattle.zst_handler.specs.zst_record.RecordSets.{RRset}
use Rattle.zst_hash.specs.zst_key.Ancestors.{star, up}
use Rattle.zst_denial.specs.Circles.{is_owned}
use Rattle.zst_denial.specs.Denials.{Precedes, each_owner_once, encloser}
use Rattle.zst_denial.specs.Hashed.{Hashing, hashed_name}

-- The owners of NSEC3 sets, one label of 32 octets below the origin, have at most 255 octets.
abbrev pub has_hashed_owners : Zone → Bool
has_hashed_owners zone = nat_le (labels_len zone.origin.labels + 34) 255

-- Nothing is denied of a name that owns the type, unless a wildcard answers for it.
abbrev pub is_denied : Zone → DomainName → RecordType → Bool → Bool
is_denied zone name t wild = has_hashed_owners zone && not (is_owned zone name t && not wild)

-- The set for a name's digest: its own, or the one before it in hash order.
abbrev pub PrecedesByHash : Hashing → Zone → DomainName → Option RRset → Type 0
PrecedesByHash by zone name = Precedes zone kind.NSEC3 (hashed_name by zone name)

-- The name one label longer than an ancestor (RFC 5155, section 1.3, next closer name).
abbrev pub next_closer : DomainName → DomainName → DomainName
next_closer name ancestor = up name (length name.labels - length ancestor.labels - 1)

-- The closest encloser's set, the one for the next closer name and the one for the wildcard, each
-- once (sections 7.2.1 to 7.2.3).
pub record IsClosestProof (by : Hashing) (zone : Zone) (name ancestor : DomainName)
    (sets : List RRset) : Type 0 where
  pub for_ancestor : Option RRset
  pub closest : PrecedesByHash by zone ancestor for_ancestor
  pub for_closer : Option RRset
  pub closer : PrecedesByHash by zone (next_closer name ancestor) for_closer
  pub for_star : Option RRset
  pub wildcard : PrecedesByHash by zone (star ancestor) for_star
  pub are : sets ≡ each_owner_once (listed for_ancestor ++ listed for_closer ++ listed for_star)

-- The sets of a denial by NSEC3: the name's own, else the proof of its closest encloser.
pub record IsNsec3Denial (by : Hashing) (zone : Zone) (name : DomainName) (t : RecordType)
    (wild : Bool) (sets : List RRset) : Type 0 where
  pub needless : is_denied zone name t wild ≡ false → sets ≡ []
  pub own : (set : RRset) → is_denied zone name t wild ≡ true
      → rrset_at zone.sets (hashed_name by zone name) kind.NSEC3 ≡ Some set → sets ≡ set ∷ []
  pub closest : (e : DomainName) → is_denied zone name t wild ≡ true
      → rrset_at zone.sets (hashed_name by zone name) kind.NSEC3 ≡ None
      → encloser zone name ≡ Some e → IsClosestProof by zone name e sets
  pub no_ancestor : is_denied zone name t wild ≡ true
      → rrset_at zone.sets (hashed_name by zone name) kind.NSEC3 ≡ None
      → encloser zone name ≡ None → sets ≡ []
