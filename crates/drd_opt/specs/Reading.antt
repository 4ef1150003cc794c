-- What the data of an OPT record hold (RFC 6891 6.1.2).
use Rattle.std.specs.Prelude.{◌≡◌, ℕ, ◌+◌, ◌<◌, ◌≤◌, List, [], ◌∷◌, ◌++◌, length}
use Rattle.std.proofs.Common.{◌⊎◌}
use Rattle.std.specs.List.{All}
use Rattle.drd_fields.specs.dnw_codes.declared.error.DecodeError.{DecodeError}
use Rattle.drd_fields.specs.dnw_codes.declared.error.DecodeError.TheVariants.{InsufficientBytes}
use Rattle.drd_fields.specs.dnw_decoder.Octets.{number_16, Stands}
use Rattle.drd_fields.specs.dnw_decoder.Reading.{IsWantOfMemory}
use Rattle.drd_opt.specs.Codes.{edns_code_of}
use Rattle.drd_opt.specs.Options.{IsOptionOf}
use Rattle.drd_opt.specs.Entries.{Entry, RawOption, FitsLengths, options_octets}

-- An entry is the option of a code and octets, under the code that the number stands for.
pub record IsEntryOf (written : RawOption) (entry : Entry) : Type 0 where
  pub code : entry.0 ≡ edns_code_of written.code
  pub option : IsOptionOf written.code written.octets entry.1

abbrev pub AreEntriesOf : List RawOption → List Entry → Type 0
AreEntriesOf [] [] = Unit {0}
AreEntriesOf (raw ∷ raws) (entry ∷ entries) = IsEntryOf raw entry × AreEntriesOf raws entries
AreEntriesOf [] (entry ∷ entries) = ⊥
AreEntriesOf (raw ∷ raws) [] = ⊥

-- Octets end behind a code, or have fewer behind a length than it counts.
abbrev pub BreaksOff : List ℕ → Type 0
BreaksOff left = (length left ≡ 2) ⊎ ((4 ≤ length left) × (length left < 4 + number_16 left 2))

-- Octets end inside a code, or inside a length.
abbrev pub EndsInside : List ℕ → Type 0
EndsInside left = (length left ≡ 1) ⊎ (length left ≡ 3)

-- Options that fill the octets, and the entries of all of them.
pub record HoldsAll (octets : List ℕ) (entries : List Entry) : Type 0 where
  pub raws : List RawOption
  pub fit : All FitsLengths raws
  pub whole : octets ≡ options_octets raws
  pub entries_of : AreEntriesOf raws entries

-- Options, and octets behind them that break off: there are no entries.
pub record HoldsNone (octets : List ℕ) (entries : List Entry) : Type 0 where
  pub raws : List RawOption
  pub left : List ℕ
  pub fit : All FitsLengths raws
  pub whole : octets ≡ options_octets raws ++ left
  pub breaks : BreaksOff left
  pub none : entries ≡ []

-- Options, and octets behind them that end inside a number.
pub record IsRefused (octets : List ℕ) : Type 0 where
  pub raws : List RawOption
  pub left : List ℕ
  pub fit : All FitsLengths raws
  pub whole : octets ≡ options_octets raws ++ left
  pub inside : EndsInside left

abbrev pub HoldsEntries : List ℕ → List Entry → Type 0
HoldsEntries octets entries = HoldsAll octets entries ⊎ HoldsNone octets entries

-- The options up to an index of some octets, and their entries.
pub record HasRead (octets : List ℕ) (index : ℕ) (entries : List Entry) : Type 0 where
  pub raws : List RawOption
  pub fit : All FitsLengths raws
  pub there : Stands octets 0 (options_octets raws) index
  pub entries_of : AreEntriesOf raws entries

-- Data that hold entries stand in a message from a place to an end.
pub record EntriesAt (message : List ℕ) (place : ℕ) (entries : List Entry) (end : ℕ) : Type 0 where
  pub octets : List ℕ
  pub there : Stands message place octets end
  pub holds : HoldsEntries octets entries

-- The data are cut, or end inside a number.
pub record LacksData (message : List ℕ) (place end : ℕ) (e : DecodeError) : Type 0 where
  pub cause : e ≡ InsufficientBytes
  pub short : (length message < end)
      ⊎ ((octets : List ℕ) × Stands message place octets end × IsRefused octets)

-- Why no data can be read from a place to an end; the decoder stays.
abbrev pub RefusesEntries : List ℕ → ℕ → ℕ → DecodeError → ℕ → Type 0
RefusesEntries message place end e at =
    (IsWantOfMemory e ⊎ LacksData message place end e) × (at ≡ place)
