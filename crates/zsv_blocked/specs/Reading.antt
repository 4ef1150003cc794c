-- Lists read to their end, and why they are refused.
use Rattle.std.specs.Prelude.{ℕ, ◌≡◌, ◌<◌, ◌≤◌, ◌^◌, ◌⊎◌, true, false, List, Option, length}
use Rattle.std.specs.Io.KnownBytes.{Consumes, IsAtEnd}
use Rattle.std.specs.Str.{IsUtf8}
use Rattle.dnw_name.specs.DomainName.{DomainName}
use Rattle.zsv_blocked.specs.BlockedNames.{AddsListed}
use Rattle.zsv_blocked.specs.declared.faults.ReadFaults.{ReadFaults}
use Rattle.zsv_blocked.specs.declared.read.BlocklistError.{BlocklistError}
use Rattle.zsv_blocked.specs.declared.read.BlocklistError.TheVariants as causes

-- A reader gave more octets than 32 bits count.
abbrev pub GivesTooMany : Option (List ℕ) → Option (List ℕ) → Type 0
GivesTooMany old new = (octets : List ℕ) × Consumes old new octets × (2 ^ 32 ≤ length octets)

-- Out of memory after these octets, at most 2^32 - 1: the reader's record has octets and no fault.
pub record IsShortOfMemory (faults : ReadFaults) (old new : Option (List ℕ)) (octets : List ℕ) :
    Type 0 where
  pub well : faults.failed ≡ false
  pub given : faults.given ≡ true
  pub consumed : Consumes old new octets
  pub few : length octets < 2 ^ 32

-- Why a list's octets aren't read: the reader answered a fault, or gave too many; or memory was
-- refused before the reader's end was seen.
abbrev pub IsReadFault : ReadFaults → Option (List ℕ) → Option (List ℕ) → BlocklistError → Type 0
IsReadFault faults old new causes.Read = (faults.failed ≡ true) ⊎ GivesTooMany old new
IsReadFault faults old new causes.OutOfMemory =
    (octets : List ℕ) × IsShortOfMemory faults old new octets × (faults.ended ≡ false)
IsReadFault faults old new other = ⊥

-- All octets of a reader, which are these, and not too many.
pub record IsRead (old new : Option (List ℕ)) (octets : List ℕ) : Type 0 where
  pub consumed : Consumes old new octets
  pub whole : IsAtEnd new
  pub few : length octets < 2 ^ 32

-- All octets of the reader are the text of a list, which adds its names.
pub record AddsRead (names : List DomainName) (old new : Option (List ℕ))
    (end : List DomainName) : Type 0 where
  pub octets : List ℕ
  pub read : IsRead old new octets
  pub text : IsUtf8 octets
  pub added : AddsListed names octets end

-- Why a list is refused: its octets aren't read, or are no UTF-8; or memory was refused, before the
-- reader's end was seen or for octets that are UTF-8.
abbrev pub IsListFault : ReadFaults → Option (List ℕ) → Option (List ℕ) → BlocklistError → Type 0
IsListFault faults old new causes.NotUtf8 =
    (octets : List ℕ) × IsRead old new octets × (IsUtf8 octets → ⊥) × (faults.failed ≡ false)
    × (faults.ended ≡ true)
IsListFault faults old new causes.OutOfMemory =
    (octets : List ℕ) × IsShortOfMemory faults old new octets
    × (faults.ended ≡ true → IsAtEnd new × IsUtf8 octets)
IsListFault faults old new other = IsReadFault faults old new other

-- The same of a reader of which nothing says whether it answered a fault.
abbrev pub IsUnrecordedFault : Option (List ℕ) → Option (List ℕ) → BlocklistError → Type 0
IsUnrecordedFault old new e = (faults : ReadFaults) × IsListFault faults old new e
