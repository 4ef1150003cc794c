-- Type bit maps (RFC 4034 4.1.2; RFC 5155 3.2.1): the types that a record names, 256 numbers to a
-- window.
use Rattle.std.specs.Prelude.{◌≡◌, ℕ, zero, suc, ◌+◌, ◌-◌, ◌*◌, ◌/◌, ◌%◌, ◌<◌, ◌≤◌, ◌==◌, List, [], ◌∷◌, ◌++◌, length, get_or, cond, Option, Some, None}
use Rattle.std.proofs.Common.{◌⊎◌}
use Rattle.dnw_codes.specs.ProtoError.{IsMemory}
use Rattle.dnw_codes.specs.declared.error.ProtoError.{ProtoError}
use Rattle.dnw_encoder.specs.dnw_decoder.Octets.{Stands}
use Rattle.dnw_encoder.specs.Effects.{StaysTrue, Sound, WritesOctets, IsRefusal}
use Rattle.dnw_encoder.specs.State.{State}
use Rattle.dnw_wire.specs.declared.read.Window.{Window}

-- The numbers of the bits that are set among the last ones of an octet, as many as are asked for:
-- the top bit comes first, and stands for the base.
abbrev pub bits_types : ℕ → ℕ → ℕ → List ℕ
bits_types base zero bits = []
bits_types base (suc width) bits =
    bits_types base width (bits / 2) ++ cond (bits % 2 == 1) ((base + width) ∷ []) []

unfoldable pub octet_types : ℕ → ℕ → List ℕ
octet_types base octet = bits_types base 8 octet

-- The numbers of a window's octets, from a base on.
abbrev pub map_types : ℕ → List ℕ → List ℕ
map_types base [] = []
map_types base (octet ∷ octets) = octet_types base octet ++ map_types (base + 8) octets

-- A window has 1 to 32 octets.
pub record IsMap (map : List ℕ) : Type 0 where
  pub some : 0 < length map
  pub few : length map ≤ 32

-- One that is written has no zero octet at its end.
pub record IsTightMap (map : List ℕ) : Type 0 where
  pub some : 0 < length map
  pub few : length map ≤ 32
  pub tight : 0 < get_or map (length map - 1) 0

-- Numbers that octets hold.
abbrev pub AreOctets : List ℕ → Type 0
AreOctets [] = Unit {0}
AreOctets (octet ∷ octets) = (octet < 256) × AreOctets octets

-- Octets that are bit maps of these types: windows of a number, a length and octets, whose numbers
-- rise, from a number on.
pub data BitMaps (Fine : List ℕ → Type 0) : ℕ → List ℕ → List ℕ → Type 0 where
  no_window : {above : ℕ} → BitMaps Fine above [] []
  window : {above number : ℕ} {map rest later octets types : List ℕ} → above ≤ number → number < 256
      → Fine map → octets ≡ number ∷ length map ∷ (map ++ rest)
      → types ≡ map_types (256 * number) map ++ later → BitMaps Fine (number + 1) rest later
      → BitMaps Fine above octets types

-- The bit maps of types as they are written: octets, none of which is zero at a window's end.
pub record AreTightMaps (octets types : List ℕ) : Type 0 where
  pub maps : BitMaps IsTightMap 0 octets types
  pub small : AreOctets octets

-- Numbers that rise, from one on and below another.
abbrev pub Rises : ℕ → List ℕ → ℕ → Type 0
Rises low [] high = low ≤ high
Rises low (code ∷ codes) high = (low ≤ code) × Rises (code + 1) codes high

-- A window at the front of octets, whose number is one or above, and what is behind it.
abbrev pub WindowAt : List ℕ → ℕ → Option Window → Type 0
WindowAt octets above None = octets ≡ []
WindowAt octets above (Some w) =
    (above ≤ w.number) × (w.number < 256) × IsMap w.map.now
    × (octets ≡ w.number ∷ length w.map.now ∷ (w.map.now ++ w.rest.now))

-- Bit maps of so many octets at a place of a message.
pub record TypesAt (message : List ℕ) (place len : ℕ) (types : List ℕ) (end : ℕ) : Type 0 where
  pub octets : List ℕ
  pub there : Stands message place octets end
  pub long : length octets ≡ len
  pub maps : BitMaps IsMap 0 octets types

-- A set of types was written, within the maximum: bit maps without zero octets at a window's end,
-- which read back at their place, in the finished message too.
pub record EmitsTypes (types : List ℕ) (old new : State) : Type 0 where
  pub octets : List ℕ
  pub maps : BitMaps IsTightMap 0 octets types
  pub small : AreOctets octets
  pub puts : WritesOctets octets old new
  pub stays : Sound old
      → StaysTrue new new.offset
      (λ message. TypesAt message old.offset (length octets) types new.offset)
  pub fits : new.offset ≤ old.maximum

-- It was refused: a growth was, or the bit maps would pass the maximum.
pub record RefusesTypes (types : List ℕ) (old : State) (e : ProtoError) (new : State) : Type 0 where
  pub same : new ≡ old
  pub cause : IsMemory e
      ⊎ ((octets : List ℕ) × AreTightMaps octets types × IsRefusal old (length octets) e)

-- The number, the length and the octets that bit maps begin with.
pub record Begins (above : ℕ) (octets : List ℕ) : Type 0 where
  pub long : 2 ≤ length octets
  pub order : above ≤ get_or octets 0 0
  pub some : 0 < get_or octets 1 0
  pub few : get_or octets 1 0 ≤ 32
  pub whole : get_or octets 1 0 + 2 ≤ length octets
