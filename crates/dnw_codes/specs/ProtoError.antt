-- Which error an operation answered.
use Rattle.dnw_codes.specs.declared.error.ProtoError.{ProtoError}
use Rattle.dnw_codes.specs.declared.error.ProtoError.TheVariants.{Memory, Message}

-- A growth was refused.
abbrev pub IsMemory : ProtoError → Type 0
IsMemory (Memory cause) = Unit {0}
IsMemory other = ⊥

-- A message in words.
abbrev pub IsMessage : ProtoError → Type 0
IsMessage (Message words) = Unit {0}
IsMessage other = ⊥
