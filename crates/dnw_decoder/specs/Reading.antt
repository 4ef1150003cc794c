-- A decoder: the octets of a message, and the place that is read next.
use Rattle.std.specs.Prelude.{◌≡◌, ℕ, ◌+◌, ◌<◌, ◌≤◌, List, length}
use Rattle.dnw_name.specs.dnw_codes.declared.error.DecodeError.{DecodeError}
use Rattle.dnw_name.specs.dnw_codes.declared.error.DecodeError.TheVariants.{InsufficientBytes, Memory}
use Rattle.dnw_decoder.specs.Octets.{Stands}

pub record Reading : Type 0 where
  pub octets : List ℕ
  pub index : ℕ

abbrev pub reading : List ℕ → ℕ → Reading
reading octets index = record { octets = octets; index = index }

-- These octets were read: they stand at the index, and the decoder moved behind them.
pub record TakesOctets (old : Reading) (taken : List ℕ) (new : Reading) : Type 0 where
  pub there : Stands old.octets old.index taken new.index
  pub same : new.octets ≡ old.octets
  pub within : new.index ≤ length old.octets

-- So many octets are not there, and the decoder stayed.
pub record LacksOctets (old : Reading) (wanted : ℕ) (new : Reading) (e : DecodeError) : Type 0 where
  pub cause : e ≡ InsufficientBytes
  pub short : length old.octets < old.index + wanted
  pub stays : new ≡ old
  pub within : old.index ≤ length old.octets

-- A growth was refused.
abbrev pub IsWantOfMemory : DecodeError → Type 0
IsWantOfMemory Memory = Unit {0}
IsWantOfMemory other = ⊥

-- So many octets don't stand at a place.
abbrev pub IsCut : ℕ → List ℕ → ℕ → DecodeError → Type 0
IsCut wanted message place e = (e ≡ InsufficientBytes) × (length message < place + wanted)
