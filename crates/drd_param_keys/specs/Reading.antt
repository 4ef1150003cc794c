-- Values that stand in a message alone, up to its end.
use Rattle.std.specs.Prelude.{ℕ, ◌≡◌, List, length}
use Rattle.std.proofs.Common.{◌⊎◌}
use Rattle.drd_param_keys.specs.dnw_codes.declared.error.DecodeError.{DecodeError}
use Rattle.dnw_encoder.specs.dnw_decoder.Octets.{Stands}
use Rattle.dnw_encoder.specs.dnw_decoder.Reading.{IsWantOfMemory}

-- The octets fill a message from a place on.
abbrev pub FillsMessage : List ℕ → ℕ → List ℕ → ℕ → Type 0
FillsMessage message place octets end = Stands message place octets end × (end ≡ length message)

-- A growth was refused, or the octets up to the end are.
abbrev pub RefusesAt : (List ℕ → DecodeError → Type 0) → List ℕ → ℕ → DecodeError → Type 0
RefusesAt refuses message place e =
    IsWantOfMemory e
    ⊎ ((octets : List ℕ) × FillsMessage message place octets (length message) × refuses octets e)
