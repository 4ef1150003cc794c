-- What was read for a type and written stands for it where it is written, by an encoder in any mode: names in the form in which it writes
-- them, and all else as it is.
use Rattle.std.proofs.Common.{◌≡◌, ℕ, ◌+◌, List, [], ◌∷◌, refl, sym, subst, ◌∙◌}
use Rattle.std.specs.Prelude.{Result, Ok, Err, IfOk}
use Rattle.drd_types.specs.dnw_codes.declared.error.DecodeError.{DecodeError}
use Rattle.drd_types.specs.dnw_codes.declared.record_type.RecordType.{RecordType}
use Rattle.drd_types.specs.dnw_decoder.Octets.{Stands}
use Rattle.drd_types.proofs.dnw_encoder_lemmas.Laws.{holds_map}
use Rattle.drd_types.specs.dnw_encoder.declared.modes.NameEncoding.{NameEncoding}
use Rattle.drd_types.specs.drd_fields.Fields.{Field, rest, FieldsAt}
use Rattle.drd_types.specs.drd_fields.Writing.{encoded_fields}
use Rattle.drd_types.specs.drd_opt.Entries.{Entry, entries_octets}
use Rattle.drd_types.proofs.drd_opt_lemmas.BackLaws.{options_own}
use Rattle.drd_types.specs.drd_opt.Reading.{EntriesAt, HoldsEntries}
use Rattle.drd_rdata.specs.Fields.{rdata_fields}
use Rattle.drd_rdata.specs.Reading.{HoldsAs, IsValid}
use Rattle.drd_rdata.specs.Types.{type_of}
use Rattle.drd_rdata.specs.Writing.{StandsWritten}
use Rattle.drd_rdata.specs.declared.rdata.RData.{RData}
use Rattle.drd_rdata.specs.declared.rdata.RData.TheVariants as rdata
use Rattle.drd_rdata.specs.ReadingBack.{IsReadBack, ReadsBack, encoded_data}
use Rattle.drd_rdata.proofs.BackLaws.{alike, emitted_stands}

-- Options whose octets were written are there.
pub options_there : (source message : List ℕ) (place : ℕ) (ws : List Entry) (end : ℕ) → HoldsEntries source ws → FieldsAt message place (rest (entries_octets ws) ∷ []) end → EntriesAt message place ws end
options_there source message place ws end held written = record {
  octets = entries_octets ws;
  there = subst (λ (p : ℕ). Stands message place (entries_octets ws) p) (sym written.2) written.1;
  holds = options_own source ws held;
}

-- The fields of the data as they are written are their fields as they are written.
fields_encoded : (encoding : NameEncoding) (v : RData) → encoded_fields encoding (rdata_fields v) ≡ rdata_fields (encoded_data encoding v)
fields_encoded encoding rdata.ZERO = refl
fields_encoded encoding v = refl

valid_encoded : (encoding : NameEncoding) (v : RData) → IsValid v → IsValid (encoded_data encoding v)
valid_encoded encoding rdata.ZERO valid = valid
valid_encoded encoding v valid = valid

type_encoded : (encoding : NameEncoding) (v : RData) → type_of (encoded_data encoding v) ≡ type_of v
type_encoded encoding rdata.ZERO = refl
type_encoded encoding v = refl

-- Data that were read, and stand somewhere as an encoder wrote them, stand there for their type.
pub encoded_there : (t : RecordType) (source : List ℕ) (start stop : ℕ) (v : RData)
    (encoding : NameEncoding) (message : List ℕ) (place end : ℕ)
    → HoldsAs t source start v stop → StandsWritten v encoding message place end
    → HoldsAs t message place (encoded_data encoding v) end
encoded_there t source start stop (rdata.CSYNC csync) encoding message place end held written =
    (held.0, written)
encoded_there t source start stop (rdata.OPT opt) encoding message place end held written =
    (held.0, options_there held.1.octets message place opt.options.items end held.1.holds written)
encoded_there t source start stop v encoding message place end held written = (
  type_encoded encoding v ∙ held.0,
  (
    subst (λ (gs : List Field). FieldsAt message place gs end) (fields_encoded encoding v) written,
    valid_encoded encoding v held.1.1,
  ),
)

-- What was read for a type and is written reads back where it is written, in the finished message too: all types, OPT among them, and all
-- modes of an encoder, canonical form among them.
pub written_back : (t : RecordType) (source : List ℕ) (start stop : ℕ) (v : RData)
    → HoldsAs t source start v stop → IsReadBack t v
written_back t source start stop v held = λ old new sound e.
    let stands = emitted_stands v old new sound e in (
      stands.0,
      holds_map new.offset new
          (λ message. StandsWritten v stands.0 message old.offset new.offset)
          (λ message. ReadsBack t stands.0 v message old.offset new.offset)
          (λ message written. record {
            there = encoded_there t source start stop v stands.0 message old.offset new.offset held written;
            equal = λ w found. alike t source start stop v w stands.0 message old.offset new.offset held written found;
          })
          stands.1,
    )

pub ok_back : (t : RecordType) (message : List ℕ) (place len : ℕ) (r : Result RData DecodeError)
    → IfOk r (λ value. HoldsAs t message place value (place + len))
    → IfOk r (λ value. IsReadBack t value)
ok_back t message place len (Ok value) held = written_back t message place (place + len) value held
ok_back t message place len (Err e) held = held
