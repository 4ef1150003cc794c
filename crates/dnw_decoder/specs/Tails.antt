-- What is kept of the names that pointers led to (RFC 1035 4.1.4).
use Rattle.std.specs.Prelude.{◌≡◌, ℕ, ◌-◌, ◌<◌, ◌≤◌, Bool, true, false, List, [], ◌∷◌, ◌++◌, drop, length, get_or, MatchOption, Option, None, Some}
use Rattle.std.proofs.Common.{Box, Global}
use Rattle.dnw_name.specs.DomainName.{DomainName, domain_name, IsDomainName}
use Rattle.dnw_decoder.specs.Elements.{Run}
use Rattle.dnw_decoder.specs.Octets.{Stands}
use Rattle.dnw_decoder.specs.Spelling.{NameAt, pointer_octets}
use Rattle.dnw_decoder.specs.declared.tails.Segment.{Segment}
use Rattle.dnw_decoder.specs.declared.tails.Tail.{Tail}
use Rattle.dnw_decoder.specs.declared.tails.Tails.{Tails}

-- Labels stand one behind the other from a place on, and behind them a name's end or a pointer.
pub record IsSegment (message : List ℕ) (place : ℕ) (segment : Segment) : Type 0 where
  pub run : (labels : List (List ℕ)) × Run message (length message) place labels segment.run
  pub last : MatchOption segment.target (Stands message segment.run (0 ∷ []) segment.end)
      (λ target. (target < place) × (target < 16384)
      × Stands message segment.run (pointer_octets target) segment.end)

-- The last labels of a list, so many.
abbrev pub last : ℕ → List (List ℕ) → List (List ℕ)
last n labels = drop (length labels - n) labels

-- The name of a number among those that are kept.
abbrev pub kept_name : List DomainName → ℕ → DomainName
kept_name names number = get_or names number (domain_name true [])

-- The labels that a tail stands for.
abbrev pub tail_labels : List DomainName → Tail → List (List ℕ)
tail_labels names tail = last tail.labels (kept_name names tail.number).labels

-- A tail's labels are spelled at a place, and their octets end where it says.
pub record IsTail (message : List ℕ) (names : List DomainName) (place : ℕ) (tail : Tail)
    : Type 0 where
  pub known : tail.number < length names
  pub few : tail.labels ≤ length (kept_name names tail.number).labels
  pub named : NameAt message place (domain_name true (tail_labels names tail)) tail.end

-- All that is kept is spelled where it is kept.
abbrev pub AreTails : List ℕ → Tails → Type 0
AreTails message tails =
    (place : ℕ) (tail : Tail) → get_or tails.places.items place None ≡ Some tail
    → IsTail message tails.names.items place tail

-- The same of what may not be kept yet.
abbrev pub AreKept : List ℕ → Option (Box Tails Global) → Type 0
AreKept message None = Unit {0}
AreKept message (Some tails) = AreTails message tails.value

-- These labels are kept of a place, and their octets end at a bound or before it.
abbrev pub AreKeptIn : Tails → ℕ → ℕ → List (List ℕ) → Type 0
AreKeptIn tails place bound labels =
    (tail : Tail) × (get_or tails.places.items place None ≡ Some tail) × (tail.end ≤ bound)
    × (labels ≡ tail_labels tails.names.items tail)

-- The same of what may not be kept yet: then no place has labels.
abbrev pub IsKept : Option (Box Tails Global) → ℕ → ℕ → List (List ℕ) → Type 0
IsKept None place bound labels = ⊥
IsKept (Some tails) place bound labels =
    AreKeptIn tails.value place bound labels

-- The labels that are kept of a place are put at a name's end, or the name stays.
abbrev pub PushesKept : DomainName → Option (Box Tails Global) → ℕ → ℕ → DomainName → Bool → Type 0
PushesKept old tails place bound new true =
    (labels : List (List ℕ)) × IsKept tails place bound labels
    × (new ≡ domain_name old.fqdn (old.labels ++ labels)) × IsDomainName new
PushesKept old tails place bound new false = new ≡ old
