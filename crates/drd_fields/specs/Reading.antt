-- Why fields are not read.
use Rattle.std.specs.Prelude.{◌≡◌, ℕ, ◌+◌, ◌-◌, ◌<◌, true, false, List, [], ◌∷◌, length, get_or}
use Rattle.std.proofs.Common.{◌⊎◌}
use Rattle.dnw_encoder.specs.dnw_codes.declared.error.DecodeError.{DecodeError}
use Rattle.dnw_encoder.specs.dnw_codes.declared.error.DecodeError.TheVariants.{InsufficientBytes, IncorrectRDataLengthRead}
use Rattle.dnw_encoder.specs.dnw_decoder.Reading.{IsCut, IsWantOfMemory}
use Rattle.dnw_encoder.specs.dnw_decoder.Refusals.{Refuses}
use Rattle.dnw_encoder.specs.dnw_decoder.Spelling.{NameAt}
use Rattle.dnw_encoder.specs.dnw_name.DomainName.{DomainName}
use Rattle.drd_fields.specs.Fields.{Field, Kind, an_octet, a_short, a_long, a_name, a_string, all_strings, the_rest, kind_of, kinds_of, are_open, takes_memory, StringsAt, FieldAt, FieldsAt}

-- The octets from a place to the end of the data are not there: the place is behind it, or the
-- message ends before.
pub record LacksRest (message : List ℕ) (end place : ℕ) (e : DecodeError) : Type 0 where
  pub cause : e ≡ InsufficientBytes
  pub short : (end < place) ⊎ (length message < end)

-- Strings stand up to a place before the end of the data, and the one there goes past that end, or
-- past the message's; or the first one would begin behind the end.
pub record LacksStrings (message : List ℕ) (end place : ℕ) (e : DecodeError) : Type 0 where
  pub cause : e ≡ InsufficientBytes
  pub front : List (List ℕ)
  pub at : ℕ
  pub there : StringsAt message place front at
  pub short : ((front ≡ []) × (end < at))
      ⊎ ((at < end)
      × ((end < at + (1 + get_or message at 0))
      ⊎ (length message < at + (1 + get_or message at 0))))

-- Reading a name reaches an element that can't be read, and none is spelled there.
pub record LacksName (message : List ℕ) (place : ℕ) (e : DecodeError) : Type 0 where
  pub cause : Refuses message place e
  pub none : (name : DomainName) (end : ℕ) → NameAt message place name end → ⊥

-- A field of a kind can't be read at a place, in data that go to an end.
abbrev pub RefusesKind : List ℕ → ℕ → Kind → ℕ → DecodeError → Type 0
RefusesKind message end an_octet place e = IsCut 1 message place e
RefusesKind message end a_short place e = IsCut 2 message place e
RefusesKind message end a_long place e = IsCut 4 message place e
RefusesKind message end a_name place e = LacksName message place e
RefusesKind message end a_string place e = IsCut (1 + get_or message place 0) message place e
RefusesKind message end all_strings place e = LacksStrings message end place e
RefusesKind message end the_rest place e = LacksRest message end place e

-- Memory was wanted for a field of a kind that takes some.
abbrev pub WantsMemory : Kind → DecodeError → Type 0
WantsMemory kind e = IsWantOfMemory e × (takes_memory kind ≡ true)

-- The first of these fields can't be read, or it stands and one behind it can't; reading stopped at
-- a place.
abbrev pub StopsReading : List ℕ → ℕ → List Kind → ℕ → DecodeError → ℕ → Type 0
StopsReading message end [] place e at = ⊥
StopsReading message end (k ∷ ks) place e at =
    ((WantsMemory k e ⊎ RefusesKind message end k place e) × (at ≡ place))
    ⊎ ((f : Field) × (behind : ℕ) × (kind_of f ≡ k) × FieldAt message place f behind
    × StopsReading message end ks behind e at)

-- All fields stand, none of which goes to the end of the data, and they end before or behind it.
pub record EndsElsewhere (message : List ℕ) (end : ℕ) (kinds : List Kind) (place : ℕ)
    (e : DecodeError) (at : ℕ) : Type 0 where
  pub closed : are_open kinds ≡ false
  pub fields : List Field
  pub same : kinds_of fields ≡ kinds
  pub there : FieldsAt message place fields at
  pub other : at ≡ end → ⊥
  pub cause : e ≡ IncorrectRDataLengthRead (at - place) (end - place)

-- Data don't fill their octets: a field can't be read, or they end elsewhere.
abbrev pub RefusesWindow : List ℕ → ℕ → List Kind → ℕ → DecodeError → ℕ → Type 0
RefusesWindow message end kinds place e at =
    StopsReading message end kinds place e at ⊎ EndsElsewhere message end kinds place e at

-- Fields fill the octets, and are no data of their type, as the error says.
abbrev pub AreMisfits : (List Field → DecodeError → Type 0) → List ℕ → ℕ → List Kind → ℕ
    → DecodeError → Type 0
AreMisfits Misfits message end kinds place e =
    (fs : List Field) × (kinds_of fs ≡ kinds) × FieldsAt message place fs end × Misfits fs e

-- Why the octets up to an end are no data of a type: they aren't filled, or by misfits.
abbrev pub RefusesValue : (List Field → DecodeError → Type 0) → List ℕ → ℕ → List Kind → ℕ
    → DecodeError → ℕ → Type 0
RefusesValue Misfits message end kinds place e at =
    RefusesWindow message end kinds place e at
    ⊎ (AreMisfits Misfits message end kinds place e × (at ≡ end))

-- Of most types all fields are data.
abbrev pub no_misfits : List Field → DecodeError → Type 0
no_misfits fs e = ⊥
