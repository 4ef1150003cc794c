-- Why the data of a CSYNC record are not read.
use Rattle.std.specs.Prelude.{◌≡◌, ℕ, ◌<◌, ◌≤◌, List}
use Rattle.std.proofs.Common.{◌⊎◌}
use Rattle.dnw_wire.specs.dnw_codes.declared.error.DecodeError.{DecodeError}
use Rattle.dnw_wire.specs.dnw_codes.declared.error.DecodeError.TheVariants.{NsecBitmapOutOfBounds, UnrecognizedCsyncFlags}
use Rattle.dnw_wire.specs.dnw_decoder.Reading.{IsWantOfMemory}
use Rattle.drd_fields.specs.Fields.{FieldsAt}
use Rattle.drd_fields.specs.Reading.{LacksRest, StopsReading}
use Rattle.drd_csync.specs.Data.{front_fields, front_kinds, MapsAt}

-- The octets up to the end of the data are no bit maps (RFC 4034 4.1.2).
pub record NoMaps (message : List ℕ) (end place : ℕ) (e : DecodeError) : Type 0 where
  pub cause : e ≡ NsecBitmapOutOfBounds
  pub none : (types : List ℕ) → MapsAt message place types end → ⊥

-- No bit maps can be read at a place, in data that go to an end.
abbrev pub RefusesMaps : List ℕ → ℕ → ℕ → DecodeError → Type 0
RefusesMaps message end place e =
    IsWantOfMemory e ⊎ (LacksRest message end place e ⊎ NoMaps message end place e)

-- Behind the serial number and these flags reading stops: other flags than the lower two are set
-- (RFC 7477 2.1.1.2), or none are, and no bit maps can be read.
abbrev pub RefusesBehind : List ℕ → ℕ → ℕ → ℕ → DecodeError → Type 0
RefusesBehind message end flags place e =
    ((3 < flags) × (e ≡ UnrecognizedCsyncFlags flags))
    ⊎ ((flags ≤ 3) × RefusesMaps message end place e)

-- The serial number or the flags can't be read, or both stand, and reading stops behind them.
abbrev pub RefusesCsync : List ℕ → ℕ → ℕ → DecodeError → ℕ → Type 0
RefusesCsync message place end e at =
    StopsReading message end front_kinds place e at
    ⊎ ((serial flags : ℕ) × FieldsAt message place (front_fields serial flags) at
    × RefusesBehind message end flags at e)
