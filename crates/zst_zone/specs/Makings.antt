-- Zones that are made of sets, each under an owner and a type.
use Rattle.std.specs.Prelude.{◌≡◌, Bool, not, ◌&&◌, List, [], ◌∷◌, Option, Some, None, if◌then◌else◌}
use Rattle.zst_key.specs.Ancestors.{or_else}
use Rattle.zst_key.specs.dnw_name.declared.rr_key.RrKey.{RrKey}
use Rattle.zst_circle.specs.dnw_codes.RecordType.{same_record_type}
use Rattle.zst_circle.specs.dnw_name.DomainName.{name_eq}
use Rattle.zst_circle.specs.zst_record.RecordSets.{RRset, none_left}
use Rattle.zst_circle.specs.zst_handler.Updates.{ZoneReplaces}
use Rattle.zst_circle.specs.zst_handler.Zones.{Zone}
use Rattle.zst_zone.specs.declared.handler.ZoneError.{ZoneError}
use Rattle.zst_zone.specs.declared.handler.ZoneError.TheVariants as errors

-- A set is under its own owner and type.
abbrev pub is_own_key : RrKey → RRset → Bool
is_own_key at set =
    same_record_type at.record_type set.record_type && name_eq at.name set.name

-- Why a set is refused under a key: the key is another set's, or the set has no records.
abbrev pub refusal : RrKey × RRset → Option ZoneError
refusal entry =
    if not (is_own_key entry.0 entry.1) then Some errors.WrongKey
    else if none_left entry.1.records then Some errors.EmptySet else None

-- Why the first one is refused that is.
abbrev pub first_refusal : List (RrKey × RRset) → Option ZoneError
first_refusal [] = None
first_refusal (entry ∷ entries) = or_else (refusal entry) (first_refusal entries)

-- The zone after is the one before with these sets put there, one after the other.
abbrev pub PutsAll : Zone → List (RrKey × RRset) → Zone → Type 0
PutsAll zone [] new = new ≡ zone
PutsAll zone (entry ∷ entries) new =
    (next : Zone) × ZoneReplaces zone entry.1.name entry.1.record_type (Some entry.1) next
    × PutsAll next entries new

-- Why no zone is made of sets: the first one that is refused; or out of memory, where none is.
abbrev pub RefusesAll : List (RrKey × RRset) → ZoneError → Type 0
RefusesAll entries errors.OutOfMemory = first_refusal entries ≡ None
RefusesAll entries e = first_refusal entries ≡ Some e
