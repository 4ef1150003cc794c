-- How entries are written, and why one is not.
use Rattle.std.specs.Prelude.{◌≡◌, ◌<◌, ◌≤◌, length, String}
use Rattle.std.specs.String.{string_bytes}
use Rattle.std.specs.declared.alloc.Global.{Global}
use Rattle.dnw_encoder.specs.State.{State, string_too_long}
use Rattle.dnw_encoder.specs.dnw_codes.declared.error.ProtoError.{ProtoError}

-- Octets that were written end within the maximum. Where none were, the offset may be behind it.
abbrev pub EndsWithin : State → State → Type 0
EndsWithin old new = old.offset < new.offset → new.offset ≤ old.maximum

-- A text has more octets than the octet of its length counts, and this one so many.
abbrev pub IsLongText : String Global → ProtoError → Type 0
IsLongText text e =
    (e ≡ string_too_long (length (string_bytes text))) × (255 < length (string_bytes text))
