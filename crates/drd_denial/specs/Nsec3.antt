-- RDATA of NSEC3 and NSEC3PARAM records (RFC 5155, sections 3.2 and 4.2).
use Rattle.std.specs.Prelude.{◌≡◌, ℕ, List, ◌∷◌, ◌++◌, length}
use Rattle.drd_plain.specs.dnw_decoder.Octets.{octets_16}
use Rattle.dnw_wire.specs.BitMaps.{BitMaps, IsMap}

-- How names are hashed: algorithm 1, which is SHA-1, flags, iterations, and the salt after its
-- length. These are the RDATA of NSEC3PARAM (section 4.2).
abbrev pub parameter_octets : ℕ → ℕ → List ℕ → List ℕ
parameter_octets flags iterations salt =
    1 ∷ flags ∷ (octets_16 iterations ++ length salt ∷ salt)

-- The same, then the next digest of 20 octets after its length, then the types of the name's sets
-- as bit maps (section 3.2).
pub record IsNsec3Data (octets : List ℕ) (flags iterations : ℕ) (salt next types : List ℕ) : Type 0
  where
    pub long : length next ≡ 20
    pub maps : List ℕ
    pub whole : octets ≡ parameter_octets flags iterations salt ++ (20 ∷ next) ++ maps
    pub are : BitMaps IsMap 0 maps types
