-- Fields as an encoder writes them.
use Rattle.std.specs.Prelude.{◌≡◌, ℕ, ◌+◌, ◌<◌, ◌≤◌, false, List, [], ◌∷◌, ◌++◌, length}
use Rattle.std.proofs.Common.{◌⊎◌}
use Rattle.std.specs.List.{flat_map}
use Rattle.dnw_encoder.specs.dnw_codes.declared.error.ProtoError.{ProtoError}
use Rattle.dnw_encoder.specs.dnw_name.DomainName.{name_octets}
use Rattle.dnw_encoder.specs.dnw_decoder.Octets.{octets_16, octets_32}
use Rattle.dnw_encoder.specs.Effects.{Sound, StaysTrue, WritesOctets, IsRefusal}
use Rattle.dnw_encoder.specs.Names.{encoded_name}
use Rattle.dnw_encoder.specs.State.{State, string_too_long, writes_pointers, rdata_encoding}
use Rattle.dnw_encoder.specs.declared.modes.NameEncoding.{NameEncoding}
use Rattle.dnw_encoder.specs.declared.modes.NameEncoding.TheVariants.{UncompressedLowercase}
use Rattle.dnw_encoder.specs.declared.modes.RDataEncoding.{RDataEncoding}
use Rattle.drd_fields.specs.Fields.{Field, octet, short, long, name, string, strings, rest, FieldAt, FieldsAt}

-- A field as it reads back: a written name is fully qualified, and in lower case where names are.
abbrev pub encoded_field : NameEncoding → Field → Field
encoded_field encoding (name n) = name (encoded_name encoding n)
encoded_field encoding other = other

abbrev pub encoded_fields : NameEncoding → List Field → List Field
encoded_fields encoding [] = []
encoded_fields encoding (f ∷ fs) = encoded_field encoding f ∷ encoded_fields encoding fs

abbrev pub string_octets : List ℕ → List ℕ
string_octets s = length s ∷ s

-- The octets of a field, names in full.
abbrev pub field_octets : Field → List ℕ
field_octets (octet n) = n ∷ []
field_octets (short n) = octets_16 n
field_octets (long n) = octets_32 n
field_octets (name n) = name_octets n
field_octets (string s) = string_octets s
field_octets (strings ss) = flat_map string_octets ss
field_octets (rest octets) = octets

abbrev pub fields_octets : List Field → List ℕ
fields_octets [] = []
fields_octets (f ∷ fs) = field_octets f ++ fields_octets fs

-- The canonical octets: names in full and in lower case.
abbrev pub canonical_octets : List Field → List ℕ
canonical_octets fs = fields_octets (encoded_fields UncompressedLowercase fs)

-- How many labels a field has. As many names at most become candidates of pointers where it is
-- written.
abbrev pub labels_of : Field → ℕ
labels_of (name n) = length n.labels
labels_of other = 0

abbrev pub label_count : List Field → ℕ
label_count [] = 0
label_count (f ∷ fs) = labels_of f + label_count fs

-- A field was written: it reads back at its place, in the finished message too, and takes at most
-- its plain size; where no pointers are written it stands in full.
pub record EmitsField (f : Field) (old new : State) : Type 0 where
  pub stays : Sound old
      → StaysTrue new new.offset
      (λ message. FieldAt message old.offset (encoded_field old.encoding f) new.offset)
  pub size : new.offset ≤ old.offset + length (field_octets f)
  pub exact : old.points ≡ false
      → WritesOctets (field_octets (encoded_field old.encoding f)) old new
  pub candidates : length new.candidates ≤ length old.candidates + labels_of f

pub record EmitsFields (fs : List Field) (old new : State) : Type 0 where
  pub stays : Sound old
      → StaysTrue new new.offset
      (λ message. FieldsAt message old.offset (encoded_fields old.encoding fs) new.offset)
  pub size : new.offset ≤ old.offset + length (fields_octets fs)
  pub exact : old.points ≡ false
      → WritesOctets (fields_octets (encoded_fields old.encoding fs)) old new
  pub candidates : length new.candidates ≤ length old.candidates + label_count fs

-- Some string of a field has more than 255 octets, and this one so many.
abbrev pub IsTooLong : List ℕ → ProtoError → Type 0
IsTooLong s e = (e ≡ string_too_long (length s)) × (255 < length s)

abbrev pub SomeTooLong : List (List ℕ) → ProtoError → Type 0
SomeTooLong [] e = ⊥
SomeTooLong (s ∷ ss) e = IsTooLong s e ⊎ SomeTooLong ss e

abbrev pub HasLongString : Field → ProtoError → Type 0
HasLongString (string s) e = IsTooLong s e
HasLongString (strings ss) e = SomeTooLong ss e
HasLongString other e = ⊥

abbrev pub HaveLongString : List Field → ProtoError → Type 0
HaveLongString [] e = ⊥
HaveLongString (f ∷ fs) e = HasLongString f e ⊎ HaveLongString fs e

-- Fields are refused: for their plain size, for a string that is too long, or for want of memory.
abbrev pub RefusesFields : List Field → State → ProtoError → Type 0
RefusesFields fs old e = IsRefusal old (length (fields_octets fs)) e ⊎ HaveLongString fs e

-- Octets that were written end within the maximum. Where none were, the offset may be behind it.
abbrev pub EndsWithin : State → State → Type 0
EndsWithin old new = old.offset < new.offset → new.offset ≤ old.maximum

-- The data of a record were written, in the mode of their kind and within the maximum: they read
-- back at their place, in the finished message too, and take at most their plain size. Those
-- without pointers leave the candidates; others add at most one a label.
pub record EmitsData (kind : RDataEncoding) (fs : List Field) (old new : State) : Type 0 where
  pub stays : Sound old
      → StaysTrue new new.offset
      (λ message. FieldsAt message old.offset
      (encoded_fields (rdata_encoding kind old.canonical old.encoding) fs) new.offset)
  pub size : new.offset ≤ old.offset + length (fields_octets fs)
  pub exact : writes_pointers (rdata_encoding kind old.canonical old.encoding) ≡ false
      → WritesOctets
      (fields_octets (encoded_fields (rdata_encoding kind old.canonical old.encoding) fs))
      old new
  pub candidates : length new.candidates ≤ length old.candidates + label_count fs
  pub within : EndsWithin old new
