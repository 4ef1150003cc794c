-- The text of a zone (RFC 1035, section 5.1), in a plain form: one record a line, no directives, no
-- relative names.
use Rattle.std.specs.Prelude.{◌≡◌, ◌⊎◌, ℕ, ◌-◌, ◌<◌, ◌≤◌, ◌^◌, Bool, true, false, ◌||◌, not, List, [], ◌∷◌, length, take, drop, filter, get_or, nat_lt, ◌==◌, codes, Option, Some, None, Result, Ok, Err}
use Rattle.std.specs.List.{list_all, position_or_len, slice_split}
use Rattle.std.specs.Str.{str_eq_ignore_ascii_case, str_to_ascii_uppercase}
use Rattle.std.specs.Str.Lines.{lines}
use Rattle.std.specs.Bool.{MatchBool}
use Rattle.dnw_lexer.specs.dnw_codes.Ascii.{semicolon, is_blank}
use Rattle.zst_zone.specs.dnw_codes.declared.record_type.RecordType.{RecordType}
use Rattle.zst_zone.specs.dnw_codes.RecordType.{record_type_of_text}
use Rattle.dnw_lexer.specs.Ttl.{TtlText}
use Rattle.drd_record_data.specs.Numbers.{NumbersFit}
use Rattle.zst_zone.specs.dnw_codes.declared.dns_class.DNSClass.TheVariants as classes
use Rattle.authority_load.specs.Joining.{Joins, is_beside_alias, is_second_start}
use Rattle.authority_load.specs.declared.loader.LoadCause.{LoadCause}
use Rattle.authority_load.specs.declared.loader.LoadCause.TheVariants as causes
use Rattle.authority_load.specs.declared.loader.LoadError.{LoadError}
use Rattle.authority_load.specs.declared.text.TextError.{TextError}
use Rattle.authority_load.specs.declared.text.TextError.TheVariants as errors
use Rattle.zst_zone.specs.dnw_codes.ProtoError.{IsMemory}
use Rattle.zst_zone.specs.dnw_codes.declared.error.ProtoError.{ProtoError}
use Rattle.zst_zone.specs.dnw_name.DomainName.{DomainName, is_at_or_below}
use Rattle.zst_zone.specs.dnw_name.NameText.{NameText}
use Rattle.zst_zone.specs.drd_words.Text.{IsSplitInto}
use Rattle.zst_zone.specs.drd_words.Word.{IsNumberWord}
use Rattle.zst_zone.specs.drd_rdata.declared.rdata.RData.{RData}
use Rattle.zst_zone.specs.drd_rdata.Texts.{IsTextOf}
use Rattle.zst_zone.specs.drd_rdata.Types.{type_of}
use Rattle.zst_zone.specs.zst_record.Records.{ReadsBackAlone, belongs_to_message, record_with}
use Rattle.zst_zone.specs.zst_record.declared.records.Record.{Record}
use Rattle.zst_zone.specs.zst_handler.Zones.{Zone}

-- A reader's result: a value of the text, or that the text has none.
abbrev pub ReadsText : {X : Type 0} → (X → Type 0) → Result X TextError → Type 0
ReadsText IsText (Ok x) = IsText x
ReadsText {X} IsText (Err errors.Malformed) = (x : X) → IsText x → ⊥
ReadsText IsText (Err errors.OutOfMemory) = Unit {0}

-- An error passed on: out of memory as itself, any other as malformed.
abbrev pub TellsTextCause : ProtoError → TextError → Type 0
TellsTextCause cause errors.Malformed = IsMemory cause → ⊥
TellsTextCause cause errors.OutOfMemory = IsMemory cause

-- The words of a line, separated by spaces and tabs.
abbrev pub words_of : List ℕ → List (List ℕ)
words_of line = filter (λ word. nat_lt 0 (length word)) (slice_split is_blank line)

-- A text from its first word on, and the text after that word.
abbrev pub from_word : List ℕ → List ℕ
from_word text = drop (position_or_len (λ octet. not (is_blank octet)) text) text

abbrev pub behind_word : List ℕ → List ℕ
behind_word text = drop (position_or_len is_blank (from_word text)) (from_word text)

-- The text of the data: all after the fourth word.
abbrev pub data_text : List ℕ → List ℕ
data_text line = behind_word (behind_word (behind_word (behind_word line)))

-- A line without a record: spaces and tabs alone, or a semicolon first.
abbrev pub is_skipped_line : List ℕ → Bool
is_skipped_line [] = true
is_skipped_line (first ∷ rest) = first == semicolon || list_all is_blank (first ∷ rest)

-- A text of a number of `bits` bits, in decimal digits.
abbrev pub IsNumberText : ℕ → List ℕ → ℕ → Type 0
IsNumberText bits text n = IsNumberWord bits n text

-- An owner is a fully qualified name.
pub record IsOwnerText (text : List ℕ) (name : DomainName) : Type 0 where
  pub name_text : NameText text name
  pub full : name.fqdn ≡ true

-- The class IN, in any case.
abbrev pub is_internet : List ℕ → Bool
is_internet word = str_eq_ignore_ascii_case word (codes "IN")

-- The type of a word: its name in any case, or `TYPE` and its number (RFC 3597, section 5).
abbrev pub type_of_text : List ℕ → Option RecordType
type_of_text word = record_type_of_text (str_to_ascii_uppercase word)

-- A TTL, in seconds or in groups with units.
abbrev pub IsTtlField : List ℕ → ℕ → Type 0
IsTtlField text n = TtlText text n × (n < 2 ^ 32)

-- The text of data of a type: its words, quoted, in parentheses and up to a comment as in any zone
-- file, write the data; names stay as they are written.
abbrev pub IsDataText : RecordType → List ℕ → RData → Type 0
IsDataText record_type text value =
    (words : List (List ℕ)) × IsSplitInto text words × IsTextOf record_type words None value

-- The fields of a line: owner, time to live, class and type.
abbrev pub field : List ℕ → ℕ → List ℕ
field line place = get_or (words_of line) place []

-- The data of a line: of the type of its fourth word, and written by the text after it.
abbrev pub AreData : List ℕ → RData → Type 0
AreData line value =
    (type_of_text (field line 3) ≡ Some (type_of value))
    × IsDataText (type_of value) (data_text line) value

-- A line is the text of a record.
pub record IsRecordText (line : List ℕ) (r : Record) : Type 0 where
  pub count : 4 ≤ length (words_of line)
  pub owner : IsOwnerText (field line 0) r.name
  pub ttl : IsTtlField (field line 1) r.ttl
  pub class_word : is_internet (field line 2) ≡ true
  pub class : r.dns_class ≡ classes.IN
  pub value : AreData line r.rdata

-- The fields of a line as values, and the text of the data.
pub record Heading : Type 0 where
  pub name : DomainName
  pub ttl : ℕ
  pub record_type : RecordType
  pub rdata : List ℕ

pub record IsHeading (line : List ℕ) (h : Heading) : Type 0 where
  pub count : 4 ≤ length (words_of line)
  pub owner : IsOwnerText (field line 0) h.name
  pub ttl : IsTtlField (field line 1) h.ttl
  pub class_word : is_internet (field line 2) ≡ true
  pub type_word : type_of_text (field line 3) ≡ Some h.record_type
  pub loaded : belongs_to_message h.record_type ≡ false
  pub rest : h.rdata ≡ data_text line

-- A line with right fields, whose owner is inside the zone.
pub record IsInside (zone : Zone) (line : List ℕ) (h : Heading) : Type 0 where
  pub heading : IsHeading line h
  pub inside : is_at_or_below h.name zone.origin ≡ true

-- The record of these fields and data.
abbrev pub record_at : Heading → RData → Record
record_at h value = record_with h.name classes.IN h.ttl value

-- The record is refused, by the first of the last three causes.
abbrev pub RefusesValue : Zone → Record → LoadCause → Type 0
RefusesValue zone r causes.NotReadBack = ReadsBackAlone r → ⊥
RefusesValue zone r causes.BesideCname =
    ReadsBackAlone r × (is_beside_alias zone.sets r ≡ true)
RefusesValue zone r causes.SecondSoa =
    ReadsBackAlone r × (is_beside_alias zone.sets r ≡ false)
    × (is_second_start zone.sets r ≡ true)
RefusesValue zone r other = ⊥

-- The line has data, whose numbers fit their fields, and the record with these is refused.
abbrev pub RefusesData : Zone → List ℕ → LoadCause → Type 0
RefusesData zone line cause =
    (h : Heading) × IsInside zone line h × (value : RData) × AreData line value
    × NumbersFit value × RefusesValue zone (record_at h value) cause

-- The cause applies to a line, in the zone as it is before the line.
abbrev pub StandsAt : Zone → List ℕ → LoadCause → Type 0
StandsAt zone line causes.FieldCount = length (words_of line) < 4
StandsAt zone line causes.Owner = (name : DomainName) → IsOwnerText (field line 0) name → ⊥
StandsAt zone line causes.Ttl = (n : ℕ) → IsTtlField (field line 1) n → ⊥
StandsAt zone line causes.Class = is_internet (field line 2) ≡ false
StandsAt zone line causes.UnknownType = type_of_text (field line 3) ≡ None
StandsAt zone line causes.TypeNotLoaded =
    (t : RecordType) × (type_of_text (field line 3) ≡ Some t) × (belongs_to_message t ≡ true)
StandsAt zone line causes.OutsideZone =
    (name : DomainName) × IsOwnerText (field line 0) name
    × (is_at_or_below name zone.origin ≡ false)
StandsAt zone line causes.Data = (value : RData) → AreData line value → ⊥
StandsAt zone line causes.NotReadBack = RefusesData zone line causes.NotReadBack
StandsAt zone line causes.BesideCname = RefusesData zone line causes.BesideCname
StandsAt zone line causes.SecondSoa = RefusesData zone line causes.SecondSoa
StandsAt zone line causes.OutOfMemory = Unit {0}

-- The order in which causes are tested. Out of memory is none of them.
abbrev pub cause_order : LoadCause → ℕ
cause_order causes.OutOfMemory = 0
cause_order causes.FieldCount = 1
cause_order causes.Owner = 2
cause_order causes.Ttl = 3
cause_order causes.Class = 4
cause_order causes.UnknownType = 5
cause_order causes.TypeNotLoaded = 6
cause_order causes.OutsideZone = 7
cause_order causes.Data = 8
cause_order causes.NotReadBack = 9
cause_order causes.BesideCname = 10
cause_order causes.SecondSoa = 11

-- No cause applies that is tested before this turn.
abbrev pub NoneBefore : Zone → List ℕ → ℕ → Type 0
NoneBefore zone line n =
    (earlier : LoadCause) → 0 < cause_order earlier → cause_order earlier < n
    → StandsAt zone line earlier → ⊥

-- When a cause is tested, where out of memory comes at a turn or later. The last three causes are
-- about the data that were read, of which they exclude each other.
abbrev pub turn_from : ℕ → LoadCause → ℕ
turn_from turn causes.OutOfMemory = turn
turn_from turn causes.BesideCname = 9
turn_from turn causes.SecondSoa = 9
turn_from turn other = cause_order other

-- The first cause that applies. Out of memory hides none that is tested before this turn.
abbrev pub StandsFrom : ℕ → Zone → List ℕ → LoadCause → Type 0
StandsFrom turn zone line cause =
    StandsAt zone line cause × NoneBefore zone line (turn_from turn cause)

-- The first cause that applies. To read the owner is the first that allocates.
abbrev pub Stands : Zone → List ℕ → LoadCause → Type 0
Stands = StandsFrom (cause_order causes.Owner)

-- A field's value, or the cause for a malformed one.
abbrev pub with_cause : {X : Type 0} → LoadCause → Result X TextError → Result X LoadCause
with_cause cause (Ok x) = Ok x
with_cause cause (Err errors.Malformed) = Err cause
with_cause cause (Err errors.OutOfMemory) = Err causes.OutOfMemory

-- The result of reading the fields, which allocates from this turn on. Which cause comes first
-- doesn't depend on the zone.
abbrev pub HeaderGives : {H : Type 0} → ℕ → List ℕ → (H → Heading) → Result H LoadCause → Type 0
HeaderGives turn line heading (Ok h) = IsHeading line (heading h)
HeaderGives turn line heading (Err cause) =
    (zone : Zone) → StandsFrom turn zone line cause

-- The result of reading the data.
abbrev pub DataGives : Zone → List ℕ → Heading → Result RData LoadCause → Type 0
DataGives zone line h (Ok value) = IsInside zone line h × AreData line value
DataGives zone line h (Err cause) = StandsFrom (cause_order causes.Data) zone line cause

-- No cause refuses the record.
pub record MayJoin (zone : Zone) (r : Record) : Type 0 where
  pub reads_back : ReadsBackAlone r
  pub no_alias : is_beside_alias zone.sets r ≡ false
  pub no_second : is_second_start zone.sets r ≡ false

-- The line's record, which joins the zone. Its numbers fit their fields.
pub record IsTaken (zone : Zone) (line : List ℕ) (r : Record) : Type 0 where
  pub text : IsRecordText line r
  pub inside : is_at_or_below r.name zone.origin ≡ true
  pub joins : MayJoin zone r
  pub fits : NumbersFit r.rdata
  pub no_cause : NoneBefore zone line 9

-- The result of reading a line: its record, or the first cause that applies.
abbrev pub LineGives : {R : Type 0} → Zone → List ℕ → (R → Record) → Result R LoadCause → Type 0
LineGives zone line record_in (Ok r) = IsTaken zone line (record_in r)
LineGives zone line record_in (Err cause) = Stands zone line cause

-- The zone after a line: unchanged if the line is skipped, else with the line's record.
abbrev pub LoadsLine : Zone → List ℕ → Zone → Type 0
LoadsLine zone line next =
    MatchBool (is_skipped_line line) (next ≡ zone)
    ((r : Record) × IsTaken zone line r × Joins zone r next)

-- A line is refused, by its first cause.
pub record RefusesLine (zone : Zone) (line : List ℕ) (cause : LoadCause) : Type 0 where
  pub not_skipped : is_skipped_line line ≡ false
  pub stands : StandsAt zone line cause
  pub first : NoneBefore zone line (turn_from (cause_order causes.Owner) cause)

-- The result of loading a line.
abbrev pub LineLoads : {X : Type 0} → Zone → List ℕ → Zone → Result X LoadCause → Type 0
LineLoads zone line next (Ok done) = LoadsLine zone line next
LineLoads zone line next (Err cause) = RefusesLine zone line cause

-- The zone after some lines.
abbrev pub Loads : Zone → List (List ℕ) → Zone → Type 0
Loads zone [] end = end ≡ zone
Loads zone (line ∷ later) end = (next : Zone) × LoadsLine zone line next × Loads next later end

-- The zone that a text gives, from a zone without records on.
abbrev pub IsZoneText : Zone → List ℕ → Zone → Type 0
IsZoneText empty text zone = Loads empty (lines text) zone

-- A text is refused at a line: the lines before it load, and this is its first cause.
pub record IsRefusedAt (empty : Zone) (text : List ℕ) (line : ℕ) (cause : LoadCause) : Type 0 where
  pub zone : Zone
  pub before : Loads empty (take (line - 1) (lines text)) zone
  pub there : (0 < line) × (line ≤ length (lines text))
  pub refused : RefusesLine zone (get_or (lines text) (line - 1) []) cause

-- A text is refused: at a line; or out of memory before the first one, at line 1.
abbrev pub IsLoadFault : Zone → List ℕ → LoadError → Type 0
IsLoadFault empty text error =
    IsRefusedAt empty text error.line error.cause
    ⊎ ((error.line ≡ 1) × (error.cause ≡ causes.OutOfMemory))

-- The result of loading a text; `zone_of` gives the zone of what is made.
abbrev pub LoadAnswers : {X : Type 0} → Zone → List ℕ → (X → Zone) → Result X LoadError → Type 0
LoadAnswers empty text zone_of (Ok made) = IsZoneText empty text (zone_of made)
LoadAnswers empty text zone_of (Err error) = IsLoadFault empty text error
