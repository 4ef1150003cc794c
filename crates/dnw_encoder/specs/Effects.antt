-- What the calls of an encoder do to it.
use Rattle.std.specs.Prelude.{◌≡◌, ℕ, ◌+◌, ◌<◌, ◌≤◌, true, List, [], ◌∷◌, ◌++◌, length, take, drop, filter, get_or, nat_le, replicate, slice_range, Option, Some, None}
use Rattle.std.specs.List.{All}
use Rattle.std.proofs.Common.{◌⊎◌}
use Rattle.std.specs.Iterator.{Yields}
use Rattle.dnw_codes.specs.ProtoError.{IsMemory}
use Rattle.dnw_codes.specs.declared.error.ProtoError.{ProtoError}
use Rattle.dnw_codes.specs.declared.error.ProtoError.TheVariants.{MaxBufferSizeExceeded, NotAllRecordsWritten}
use Rattle.dnw_decoder.specs.dnw_name.DomainName.{DomainName, name_octets, domain_name}
use Rattle.dnw_decoder.specs.dnw_label.Label.{IsLabel}
use Rattle.dnw_decoder.specs.Octets.{Stands}
use Rattle.dnw_decoder.specs.Spelling.{Spells}
use Rattle.dnw_encoder.specs.Members.{In}
use Rattle.dnw_encoder.specs.State.{Candidate, State}
use Rattle.dnw_encoder.specs.declared.open_places.OpenPlace.{OpenPlace}

-- An octet outside the open places, which later calls leave as it is.
pub record Fixed (s : State) (i : ℕ) : Type 0 where
  pub there : i < length s.octets
  pub shut : (r : OpenPlace) → In r s.places → r.from ≤ i → i < r.to → ⊥

-- Other octets that agree with those below a bound, outside the open places.
pub record Agrees (s : State) (bound : ℕ) (later : List ℕ) : Type 0 where
  pub there : (i : ℕ) → i < bound → Fixed s i → i < length later
  pub same : (i : ℕ) → i < bound → Fixed s i → get_or later i 0 ≡ get_or s.octets i 0

-- It stands in every list of octets that agrees so: in the octets as they are, and in the finished
-- message.
pub record StaysTrue (s : State) (bound : ℕ) (P : List ℕ → Type 0) : Type 0 where
  pub of : (later : List ℕ) → Agrees s bound later → P later

-- How many candidates end by a place.
abbrev pub ends_by : ℕ → List Candidate → ℕ
ends_by n cs = length (filter (λ c. nat_le c.end n) cs)

-- From one state to another, what lies below a cut stays, but for open places: a cut is where a
-- call begins to write, or what a rollback goes back to.
pub record Keeps (cut : ℕ) (old new : State) : Type 0 where
  pub octets : take cut new.octets ≡ take cut old.octets
  pub no_more : (r : OpenPlace) → In r new.places → r.from < cut → In r old.places
  pub stay_open : (r : OpenPlace) → In r old.places → r.to ≤ cut → In r new.places
  pub candidates : (c : Candidate) → In c old.candidates → c.end ≤ cut → In c new.candidates
  pub no_others : (c : Candidate) → In c new.candidates → c.end ≤ cut → In c old.candidates
  pub few : (n : ℕ) → n ≤ cut → ends_by n new.candidates ≤ ends_by n old.candidates

-- What is fixed below a cut stays so.
pub record Same (cut : ℕ) (old new : State) : Type 0 where
  pub fixed : (i : ℕ) → i < cut → Fixed old i → Fixed new i
  pub octets : (i : ℕ) → i < cut → Fixed old i → get_or new.octets i 0 ≡ get_or old.octets i 0

-- A candidate that is a name's octets is spelled at its place, by octets outside the open places; a
-- pointer can name its place.
pub record IsStanding (s : State) (c : Candidate) : Type 0 where
  pub within : c.end ≤ length s.octets
  pub small : c.place < 16383
  pub spelled : (labels : List (List ℕ)) → All IsLabel labels
      → c.octets ≡ name_octets (domain_name true labels)
      → StaysTrue s c.end (λ octets. Spells octets c.place labels c.end)

pub record AllStand (s : State) : Type 0 where
  pub each : (c : Candidate) → In c s.candidates → IsStanding s c
  pub places : (r : OpenPlace) → In r s.places → r.to ≤ length s.octets
  pub apart : (r q : OpenPlace) → In r s.places → In q s.places → (i : ℕ) → r.from ≤ i → i < r.to
      → q.from ≤ i → i < q.to → r ≡ q

-- An encoder at its end, all of whose candidates stand.
pub record Sound (s : State) : Type 0 where
  pub at_end : s.offset ≡ length s.octets
  pub stands : AllStand s

-- The maximum and the modes stay.
pub record SameModes (old new : State) : Type 0 where
  pub maximum : new.maximum ≡ old.maximum
  pub encoding : new.encoding ≡ old.encoding
  pub canonical : new.canonical ≡ old.canonical
  pub points : new.points ≡ old.points

-- What every writing call does, accepted or refused.
pub record Writes (old new : State) : Type 0 where
  pub keeps : Keeps old.offset old new
  pub forward : old.offset ≤ new.offset
  pub sound : Sound old → Sound new
  pub modes : SameModes old new

-- Octets with others written over them from a place on, as far as they go.
abbrev pub written_at : List ℕ → ℕ → List ℕ → List ℕ
written_at octets place more = take place octets ++ more ++ drop (place + length more) octets

-- These octets are put at the offset, which moves behind them.
pub record WritesOctets (more : List ℕ) (old new : State) : Type 0 where
  pub octets : new.octets ≡ written_at old.octets old.offset more
  pub offset : new.offset ≡ old.offset + length more
  pub candidates : new.candidates ≡ old.candidates
  pub places : new.places ≡ old.places
  pub modes : SameModes old new

-- The open place of so many octets.
abbrev pub place_of : ℕ → ℕ → OpenPlace
place_of p size = record { from = p; to = p + size }

-- So many octets are reserved at the offset, as an open place.
pub record Opens (p size : ℕ) (old new : State) : Type 0 where
  pub at : p ≡ old.offset
  pub offset : new.offset ≡ old.offset + size
  pub octets : new.octets ≡ written_at old.octets old.offset (replicate size 0)
  pub candidates : new.candidates ≡ old.candidates
  pub places : new.places ≡ old.places ++ place_of p size ∷ []
  pub modes : SameModes old new

-- An open place is filled with these octets, and is open no more.
pub record Fills (p : ℕ) (more : List ℕ) (old new : State) : Type 0 where
  pub octets : new.octets ≡ written_at old.octets p more
  pub offset : new.offset ≡ old.offset
  pub candidates : new.candidates ≡ old.candidates
  pub shut : In (place_of p (length more)) new.places → ⊥
  pub no_more : (r : OpenPlace) → In r new.places → In r old.places
  pub stay_open : (r : OpenPlace) → In r old.places → (r ≡ place_of p (length more) → ⊥)
      → In r new.places
  pub modes : SameModes old new
  -- It stands there, and what is fixed elsewhere stays.
  pub same : (cut : ℕ) → Same cut old new
  pub keeps : Keeps p old new
  pub sound : Sound old → Sound new
  pub stays : Sound old
      → StaysTrue new (p + length more) (λ octets. Stands octets p more (p + length more))

-- Octets behind the offset are dropped, with the candidates and the open places that reach into
-- them.
pub record Trims (old new : State) : Type 0 where
  pub octets : new.octets ≡ take old.offset old.octets
  pub offset : new.offset ≡ old.offset
  pub keeps : Keeps old.offset old new
  pub only : (c : Candidate) → In c new.candidates → In c old.candidates × (c.end ≤ old.offset)
  pub places : (r : OpenPlace) → In r new.places → r.to ≤ old.offset
  pub sound : AllStand old → Sound new
  pub modes : SameModes old new

-- A write of so many octets is refused: it would pass the maximum, or a growth was refused.
abbrev pub IsRefusal : State → ℕ → ProtoError → Type 0
IsRefusal s size e =
    IsMemory e ⊎ ((e ≡ MaxBufferSizeExceeded s.maximum) × (s.maximum < s.offset + size))

-- Some candidate has these octets.
abbrev pub Has : List Candidate → List ℕ → Type 0
Has cs octets = (c : Candidate) × In c cs × (c.octets ≡ octets)

-- A range of the octets may become a candidate, and does where pointers are written and there is
-- room.
pub record Stores (start end : ℕ) (old new : State) : Type 0 where
  pub octets : new.octets ≡ old.octets
  pub offset : new.offset ≡ old.offset
  pub places : new.places ≡ old.places
  pub keeps : (c : Candidate) → In c old.candidates → In c new.candidates
  pub only : (c : Candidate) → In c new.candidates
      → In c old.candidates
      ⊎ (c ≡ record { place = start; octets = slice_range old.octets start end; end = end })
  pub becomes : old.points ≡ true → length old.candidates < 64 → start < 16383
      → Has new.candidates (slice_range old.octets start end)
  pub sound : Sound old → Sound new
  pub modes : SameModes old new

-- A name that stands in full at a place, and those that end it, may become candidates; the name
-- does where pointers are written and there is room.
pub record StoresName (name : DomainName) (start : ℕ) (old new : State) : Type 0 where
  pub octets : new.octets ≡ old.octets
  pub offset : new.offset ≡ old.offset
  pub places : new.places ≡ old.places
  pub keeps : (c : Candidate) → In c old.candidates → In c new.candidates
  pub only : (c : Candidate) → In c new.candidates → In c old.candidates ⊎ (start < c.end)
  pub early : (n : ℕ) → n ≤ start → ends_by n new.candidates ≤ ends_by n old.candidates
  pub few : length new.candidates ≤ length old.candidates + length name.labels
  pub becomes : old.points ≡ true → 0 < length name.labels → length old.candidates < 64
      → start < 16383
      → Stands old.octets start (name_octets name) (start + length (name_octets name))
      → Has new.candidates (name_octets name)
  pub sound : Sound old → Sound new
  pub modes : SameModes old new

-- The place of a candidate with these octets, or that there is none.
abbrev pub FindsCandidate : State → List ℕ → Option ℕ → Type 0
FindsCandidate s octets (Some place) =
    (c : Candidate) × In c s.candidates × (c.octets ≡ octets) × (c.place ≡ place)
FindsCandidate s octets None = Has s.candidates octets → ⊥

-- What was written of a value is taken back.
pub record RolledBack (mid new : State) : Type 0 where
  pub keeps : Keeps mid.offset mid new
  pub offset : new.offset ≡ mid.offset
  pub octets : Sound mid → new.octets ≡ mid.octets
  pub writes : Writes mid new
  pub only : (c : Candidate) → In c new.candidates → In c mid.candidates
  pub few : length new.candidates ≤ length mid.candidates

-- Values one behind the other.
abbrev pub Emitted : {X : Type 0} → (X → State → State → Type 0) → State → List X → State → Type 0
Emitted emits old [] new = new ≡ old
Emitted emits old (x ∷ xs) new =
    (mid : State) × emits x old mid × Writes old mid × Emitted emits mid xs new

-- So many items of an iterator were written, one behind the other.
pub record Wrote {S X : Type 0} (steps : S → Option X → S → Type 0)
    (emits : X → State → State → Type 0) (from to : S) (count : ℕ) (old new : State) : Type 0 where
  pub items : List X
  pub yielded : Yields steps from items to
  pub counted : length items ≡ count
  pub emitted : Emitted emits old items new

-- The error of a write that would pass the maximum.
abbrev pub IsSizeError : ProtoError → Type 0
IsSizeError (MaxBufferSizeExceeded size) = Unit {0}
IsSizeError other = ⊥

-- An item is refused: for its size, and then what was written of it is taken back, and the error
-- says how many were written before; or for another cause.
abbrev pub RefusesItem : {X : Type 0} → (X → State → ProtoError → State → Type 0) → X → ℕ → State
    → ProtoError → State → Type 0
RefusesItem refuses x count old e new =
    ((mid : State) × (size : ℕ) × refuses x old (MaxBufferSizeExceeded size) mid
    × (e ≡ NotAllRecordsWritten count) × RolledBack old new)
    ⊎ (refuses x old e new × (IsSizeError e → ⊥))

-- All items were written, or the first 65,535.
abbrev pub WroteAll : {S X : Type 0} → (S → Option X → S → Type 0) → (X → State → State → Type 0)
    → S → S → ℕ → State → State → Type 0
WroteAll {S} steps emits from to count old new =
    (last : S) × Wrote steps emits from last count old new
    × (((count ≡ 65535) × (to ≡ last)) ⊎ steps last None to)

-- A front of the items was written, and the next was refused.
abbrev pub WroteFront : {S X : Type 0} → (S → Option X → S → Type 0) → (X → State → State → Type 0)
    → (X → State → ProtoError → State → Type 0) → S → S → State → ProtoError → State → Type 0
WroteFront {S} {X} steps emits refuses from to old e new =
    (last : S) × (count : ℕ) × (mid : State) × (x : X) × Wrote steps emits from last count old mid
    × steps last (Some x) to × RefusesItem refuses x count mid e new
