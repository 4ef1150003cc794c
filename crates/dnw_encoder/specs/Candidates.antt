-- Names to which later ones may point, as they are kept (RFC 1035, section 4.1.4).
use Rattle.std.specs.Prelude.{◌≡◌, ℕ, ◌+◌, ◌-◌, ◌<◌, ◌≤◌, true, List, [], ◌∷◌, ◌++◌, length, map, get_or, slice_range, Option, Some, None}
use Rattle.std.proofs.Common.{◌⊎◌}
use Rattle.dnw_decoder.specs.dnw_name.DomainName.{domain_name, name_octets}
use Rattle.dnw_decoder.specs.dnw_label.Labels.{label_octets}
use Rattle.dnw_encoder.specs.Members.{In}
use Rattle.dnw_encoder.specs.State.{Candidate}
use Rattle.dnw_encoder.specs.declared.candidates.Entry.{Entry}
use Rattle.dnw_encoder.specs.declared.candidates.Meeting.{Meeting}
use Rattle.dnw_encoder.specs.declared.candidates.Meeting.TheVariants.{Ends, Clashes, Apart}
use Rattle.dnw_encoder.specs.declared.candidates.Suffix.{Suffix}

-- An entry tells which of the octets are its name's.
abbrev pub candidate_of : List ℕ → Entry → Candidate
candidate_of octets e = record {
  place = e.place;
  octets = slice_range octets e.from e.to;
  end = e.end;
}

abbrev pub candidates_of : List ℕ → List Entry → List Candidate
candidates_of octets entries = map (candidate_of octets) entries

-- A pointer can name its place.
pub record IsWithin (octets : List ℕ) (e : Entry) : Type 0 where
  pub order : e.from ≤ e.to
  pub within : e.to ≤ length octets
  pub small : e.place < 16383

abbrev pub AreWithin : List ℕ → List Entry → Type 0
AreWithin octets entries = (e : Entry) → In e entries → IsWithin octets e

-- The place of one with these octets, or that there is none.
abbrev pub FindsAmong : List Candidate → List ℕ → Option ℕ → Type 0
FindsAmong cs octets (Some place) =
    (c : Candidate) × In c cs × (c.octets ≡ octets) × (c.place ≡ place)
FindsAmong cs octets None = (c : Candidate) → In c cs → c.octets ≡ octets → ⊥

-- Labels fall into those in the first so many octets and those behind.
abbrev pub SplitsAt : List (List ℕ) → ℕ → Type 0
SplitsAt labels front =
    (before rest : List (List ℕ)) × (labels ≡ before ++ rest)
    × (front ≡ length (label_octets before))

-- These octets are those of the name that ends these labels behind their first so many octets.
pub record IsNameBehind (labels : List (List ℕ)) (front : ℕ) (octets : List ℕ) : Type 0 where
  pub before : List (List ℕ)
  pub rest : List (List ℕ)
  pub split : labels ≡ before ++ rest
  pub behind : front ≡ length (label_octets before)
  pub spelled : octets ≡ name_octets (domain_name true rest)

-- No name that ends these labels earlier has these octets.
abbrev pub NoneBefore : List (List ℕ) → ℕ → List ℕ → Type 0
NoneBefore labels front octets =
    (before rest : List (List ℕ)) → labels ≡ before ++ rest
    → octets ≡ name_octets (domain_name true rest) → front ≤ length (label_octets before)

-- An octet of these isn't the one that stands as far from the end of the name of these labels.
pub record ClashesAt (labels : List (List ℕ)) (octets : List ℕ) (place : ℕ) : Type 0 where
  pub own : place < length octets
  pub short : length octets ≤ length (label_octets labels) + 1
  pub other : get_or octets place 0
      ≡ get_or (label_octets labels ++ 0 ∷ [])
      (length (label_octets labels) + 1 - length octets + place) 0
      → ⊥

-- An entry's name is no longer suffix than the one that was found: it has the length of the
-- longest suffix possible and other octets; or more octets; or it begins at the found one's offset
-- or after it; or it includes an octet that differs.
abbrev pub CannotEnd : List ℕ → List ℕ → ℕ → ℕ → ℕ → ℕ → Entry → Type 0
CannotEnd octets rest whole before to octet e =
    ((e.to - e.from ≡ length rest + 1)
    × (slice_range octets e.from e.to ≡ rest ++ 0 ∷ [] → ⊥))
    ⊎ (length rest + 1 < e.to - e.from) ⊎ (before + (e.to - e.from) ≤ whole)
    ⊎ ((e.to ≡ to) × (e.from ≤ octet))

-- What octets are to the end of a name of these labels.
abbrev pub Meets : List (List ℕ) → ℕ → List ℕ → Meeting → Type 0
Meets labels before octets (Ends front) = (front < before) × IsNameBehind labels front octets
Meets labels before octets (Clashes place) = ClashesAt labels octets place
Meets labels before octets Apart = NoneBefore labels before octets

-- A name that ends these labels is kept, and no longer one is; the end alone is none.
pub record IsLongest (cs : List Candidate) (labels : List (List ℕ)) (s : Suffix) : Type 0 where
  pub kept : Candidate
  pub among : In kept cs
  pub behind : IsNameBehind labels s.front kept.octets
  pub labelled : s.front < length (label_octets labels)
  pub place : kept.place ≡ s.place
  pub small : s.place < 16383
  pub longest : (c : Candidate) → In c cs → NoneBefore labels s.front c.octets

-- No name of labels that ends these is kept.
abbrev pub HasNoSuffix : List Candidate → List (List ℕ) → Type 0
HasNoSuffix cs labels =
    (c : Candidate) → In c cs → NoneBefore labels (length (label_octets labels)) c.octets

abbrev pub FindsLongest : List Candidate → List (List ℕ) → Option Suffix → Type 0
FindsLongest cs labels (Some s) = IsLongest cs labels s
FindsLongest cs labels None = HasNoSuffix cs labels

-- A name that ends these labels, and begins in their first so many octets, at its place in a
-- message, where these stand at a place and what is written for them ends.
pub record IsKeptSuffix (labels : List (List ℕ)) (front start stop : ℕ) (c : Candidate) :
    Type 0 where
  pub before : List (List ℕ)
  pub rest : List (List ℕ)
  pub split : labels ≡ before ++ rest
  pub early : length (label_octets before) < front
  pub spelled : c.octets ≡ name_octets (domain_name true rest)
  pub place : c.place ≡ start + length (label_octets before)
  pub small : c.place < 16383
  pub end : c.end ≡ stop

-- Such names are kept beside the others, at most one a label; the longest first, if there is room
-- for it.
pub record KeepsSuffixes (labels : List (List ℕ)) (front start stop : ℕ)
    (old new : List Candidate) : Type 0 where
  pub added : List Candidate
  pub appended : new ≡ old ++ added
  pub each : (c : Candidate) → In c added → IsKeptSuffix labels front start stop c
  pub few : length added ≤ length labels
  pub whole : 0 < front → length old < 64 → start < 16383
      → (c : Candidate) × In c added × (c.octets ≡ name_octets (domain_name true labels))

-- An entry for such a name, whose octets end at a place among those of all.
pub record IsSuffixEntry (labels : List (List ℕ)) (front last start stop : ℕ) (e : Entry) :
    Type 0 where
  pub before : List (List ℕ)
  pub rest : List (List ℕ)
  pub split : labels ≡ before ++ rest
  pub early : length (label_octets before) < front
  pub from : e.from + length (name_octets (domain_name true rest)) ≡ last
  pub to : e.to ≡ last
  pub place : e.place ≡ start + length (label_octets before)
  pub small : e.place < 16383
  pub end : e.end ≡ stop

-- Entries for such names are put, but none for the name of all these labels.
pub record PushesOthers (labels : List (List ℕ)) (front last start stop : ℕ)
    (old new : List Entry) : Type 0 where
  pub added : List Entry
  pub appended : new ≡ old ++ added
  pub each : (e : Entry) → In e added → IsSuffixEntry labels front last start stop e
  pub few : length added < length labels

-- Such entries are put, that for the name of all these labels too.
pub record PushesSuffixes (labels : List (List ℕ)) (front last start stop : ℕ)
    (old new : List Entry) : Type 0 where
  pub added : List Entry
  pub appended : new ≡ old ++ added
  pub each : (e : Entry) → In e added → IsSuffixEntry labels front last start stop e
  pub few : length added ≤ length labels
  pub whole : 0 < front → length old < 64 → start < 16383 → 0 < length labels
      → (e : Entry) × In e added × (e.from + length (name_octets (domain_name true labels)) ≡ last)

-- Octets of a message that stand at a place.
abbrev pub octets_at : List ℕ → ℕ → Candidate
octets_at octets start = record {
  place = start;
  octets = octets;
  end = start + length octets;
}

-- They are kept beside the others, if there is room.
pub record KeepsOctets (octets : List ℕ) (start : ℕ) (old new : List Candidate) : Type 0 where
  pub only : (new ≡ old) ⊎ ((new ≡ old ++ octets_at octets start ∷ []) × (start < 16383))
  pub becomes : length old < 64 → start < 16383 → new ≡ old ++ octets_at octets start ∷ []
