-- How the sets that deny a name are found among a zone's (RFC 4035, section 3.1.3; RFC 5155, section
-- 7.2).
use Rattle.std.specs.Prelude.{◌≡◌, ℕ, ◌-◌, ◌<◌, ◌≤◌, Bool, true, false, not, ◌&&◌, List, [], length, cond, Option, Some, None, is_some}
use Rattle.zst_map.specs.dnw_codes.declared.record_type.RecordType.{RecordType}
use Rattle.zst_map.specs.dnw_codes.declared.record_type.RecordType.TheVariants as kind
use Rattle.zst_map.specs.dnw_name.DomainName.{DomainName, is_at_or_below, name_eq}
use Rattle.zst_map.specs.zst_handler.Zones.{Zone, exists_in, rrset_at}
use Rattle.zst_map.specs.zst_key.Ancestors.{star, up}
use Rattle.zst_map.specs.zst_record.RecordSets.{RRset}
use Rattle.zst_denial.specs.Denials.{Precedes, encloser}
use Rattle.zst_denial.specs.HashDenials.{IsClosestProof}
use Rattle.zst_denial.specs.Hashed.{Hashing}
use Rattle.zst_absence.specs.declared.by_hash.HashedQuery.{HashedQuery}

-- A zone of these sets at this origin.
pub record IsZoneOf (sets : List RRset) (origin : DomainName) (zone : Zone) : Type 0 where
  pub has_sets : zone.sets ≡ sets
  pub has_origin : zone.origin ≡ origin

-- ---- the closest encloser, by its levels above a name
-- A name exists at or below an origin.
abbrev pub exists_below : List RRset → DomainName → DomainName → Bool
exists_below sets origin name = exists_in sets name && is_at_or_below name origin

-- How many labels a name has more than an origin that it is at or below; 0 of another name.
abbrev pub depth : DomainName → DomainName → ℕ
depth origin name =
    cond (is_at_or_below name origin) (length name.labels - length origin.labels) 0

-- The closest encloser is this many levels above a name.
pub record IsClosest (sets : List RRset) (origin name : DomainName) (levels : ℕ) : Type 0 where
  pub proper : 0 < levels
  pub within : levels ≤ length name.labels
  pub there : exists_below sets origin (up name levels) ≡ true
  pub nearest : (n : ℕ) → 0 < n → n < levels → exists_below sets origin (up name n) ≡ false

-- It is found, or no name above exists at or below the origin.
abbrev pub FindsClosest : List RRset → DomainName → DomainName → Option ℕ → Type 0
FindsClosest sets origin name None =
    (n : ℕ) → 0 < n → n ≤ length name.labels → exists_below sets origin (up name n) ≡ false
FindsClosest sets origin name (Some levels) = IsClosest sets origin name levels

-- The lowest level that exists, above one that doesn't.
pub record IsLowest (sets : List RRset) (name : DomainName) (absent levels highest : ℕ) : Type 0
  where
    pub above : absent < levels
    pub within : levels ≤ highest
    pub there : exists_in sets (up name levels) ≡ true
    pub none : (n : ℕ) → n < levels → exists_in sets (up name n) ≡ false

-- The name one label longer than the closest encloser.
abbrev pub FindsCloser : List RRset → DomainName → DomainName → Option DomainName → Type 0
FindsCloser sets origin name None = FindsClosest sets origin name None
FindsCloser sets origin name (Some closer) =
    (levels : ℕ) × IsClosest sets origin name levels × (closer ≡ up name (levels - 1))

-- ---- the sets
-- A set, unless the one before it has the same owner.
abbrev pub unless_same : Option RRset → Option RRset → Option RRset
unless_same (Some set) (Some other) = cond (name_eq set.name other.name) None (Some other)
unless_same before other = other

-- The set for the wildcard at the closest encloser; none without a closest encloser.
pub record IsForWildcard (zone : Zone) (name : DomainName) (set : Option RRset) : Type 0 where
  pub wildcard : (e : DomainName) → encloser zone name ≡ Some e
      → Precedes zone kind.NSEC (star e) set
  pub none : encloser zone name ≡ None → set ≡ None

-- Something of a name is denied: it doesn't own the type, or a wildcard answers for it.
abbrev pub is_wanted : List RRset → DomainName → RecordType → Bool → Bool
is_wanted sets name t wild = not (is_some (rrset_at sets name t) && not wild)

-- The hashing that a query asks for.
abbrev pub hashing_of : HashedQuery → Hashing
hashing_of query = record { salt = query.salt.now; iterations = query.iterations }

-- The sets of a closest encloser's proof; none without a closest encloser.
pub record IsProofAbove (by : Hashing) (zone : Zone) (name : DomainName) (sets : List RRset) :
    Type 0 where
  pub closest : (e : DomainName) → encloser zone name ≡ Some e
      → IsClosestProof by zone name e sets
  pub no_ancestor : encloser zone name ≡ None → sets ≡ []
