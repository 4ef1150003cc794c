-- Why parameters are not written.
use Rattle.std.specs.Prelude.{◌≡◌, ◌<◌, ◌+◌, List, length, String}
use Rattle.std.proofs.Common.{◌⊎◌}
use Rattle.std.specs.List.{Contains}
use Rattle.std.specs.declared.alloc.Global.{Global}
use Rattle.std.specs.String.{string_bytes}
use Rattle.drd_params.specs.dnw_codes.declared.error.ProtoError.{ProtoError}
use Rattle.drd_params.specs.dnw_codes.declared.error.ProtoError.TheVariants.{MaxBufferSizeExceeded}
use Rattle.drd_params.specs.dnw_encoder.Effects.{IsRefusal}
use Rattle.drd_params.specs.dnw_encoder.State.{State}
use Rattle.drd_params.specs.drd_fields.Writing.{IsTooLong}
use Rattle.drd_params.specs.Params.{Param}
use Rattle.drd_params.specs.Values.{value_octets}
use Rattle.drd_params.specs.declared.value.SvcParamValue.{SvcParamValue}
use Rattle.drd_params.specs.declared.value.SvcParamValue.TheVariants as value

-- A protocol has more than 255 octets, and this one so many.
abbrev pub HasLongText : SvcParamValue → ProtoError → Type 0
HasLongText (value.Alpn alpn) e =
    (text : String Global) × Contains alpn.0.items text × IsTooLong (string_bytes text) e
HasLongText other e = ⊥

-- A value has more octets than its length can tell (RFC 9460 2.2).
abbrev pub IsOversized : SvcParamValue → ProtoError → Type 0
IsOversized value e = (e ≡ MaxBufferSizeExceeded 65535) × (65535 < length (value_octets value))

-- Some value can't be written.
abbrev pub RefusesWriting : List Param → ProtoError → Type 0
RefusesWriting params e =
    (param : Param) × Contains params param × (HasLongText param.1 e ⊎ IsOversized param.1 e)

-- A value is refused where it stands: for its size, for want of memory, or for a protocol that is
-- too long.
abbrev pub RefusesValueWriting : SvcParamValue → State → ProtoError → Type 0
RefusesValueWriting value old e =
    IsRefusal old (length (value_octets value)) e ⊎ HasLongText value e

-- And behind its length, for its length too.
abbrev pub RefusesEmitParams : SvcParamValue → State → ProtoError → Type 0
RefusesEmitParams value old e =
    IsRefusal old (2 + length (value_octets value)) e ⊎ (HasLongText value e ⊎ IsOversized value e)
