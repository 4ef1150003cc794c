-- Records as an encoder writes them: RFC 1035, section 4.1.3.
use Rattle.std.specs.Prelude.{◌≡◌, ◌+◌, ◌<◌, ◌≤◌, ◌^◌, ◌⊎◌, ◌++◌, ℕ, true, List, length}
use Rattle.drd_rdata.specs.dnw_codes.DNSClass.{class_number}
use Rattle.drd_rdata.specs.dnw_codes.RecordType.{record_type_number}
use Rattle.drd_rdata.specs.dnw_codes.ProtoError.{IsMemory}
use Rattle.drd_rdata.specs.dnw_codes.declared.error.ProtoError.{ProtoError}
use Rattle.drd_rdata.specs.dnw_codes.declared.error.ProtoError.TheVariants.{MaxBufferSizeExceeded}
use Rattle.drd_rdata.specs.dnw_decoder.Codes.{RecordTypeAt, ClassAt}
use Rattle.drd_rdata.specs.dnw_decoder.Octets.{octets_16, octets_32, Stands}
use Rattle.drd_rdata.specs.dnw_decoder.Spelling.{NameAt}
use Rattle.drd_rdata.specs.dnw_encoder.Effects.{Has, IsRefusal, SameModes, Sound, StaysTrue}
use Rattle.drd_rdata.specs.dnw_encoder.Names.{encoded_name}
use Rattle.drd_rdata.specs.dnw_encoder.State.{State}
use Rattle.drd_rdata.specs.dnw_encoder.declared.modes.NameEncoding.{NameEncoding}
use Rattle.drd_rdata.specs.dnw_name.DomainName.{name_octets}
use Rattle.drd_rdata.specs.Reading.{ReadsAs, IsReadable}
use Rattle.drd_rdata.specs.Types.{type_of}
use Rattle.drd_rdata.specs.Exceeding.{ExceedsRdlength}
use Rattle.drd_rdata.specs.Writing.{RefusesRData, StandsWritten, WritesInFull, names_form, written_octets}
use Rattle.drd_rdata.specs.declared.rdata.RData.{RData}
use Rattle.zst_record.specs.Records.{IsEmpty, IsOwnClass, IsOwnType, ReadsBack, RecordAt, plain}
use Rattle.zst_record.specs.declared.records.Record.{Record}

-- The octets of type, class and time to live.
abbrev pub head_numbers : Record → List ℕ
head_numbers r =
    octets_16 (record_type_number (type_of r.rdata))
    ++ (octets_16 (class_number r.dns_class) ++ octets_32 r.ttl)

-- Owner, type, class and TTL at an offset, as they are written whatever the record holds: the owner
-- in the encoder's form, then the numbers.
pub record HeadWritten (r : Record) (form : NameEncoding) (message : List ℕ) (place end : ℕ) : Type
    0 where
  pub owner_end : ℕ
  pub owner : NameAt message place (encoded_name form r.name) owner_end
  pub numbers : Stands message owner_end (head_numbers r) end

-- RDATA at an offset, as they are written whatever they are: the number of their octets, then the
-- RDATA with names in this form.
pub record DataWritten (value : RData) (form : NameEncoding) (message : List ℕ)
    (place end : ℕ) : Type 0 where
  pub len : ℕ
  pub count : Stands message place (octets_16 len) (place + 2)
  pub small : len < 2 ^ 16
  pub rdata : StandsWritten value form message (place + 2) (place + 2 + len)
  pub filled : end ≡ place + 2 + len

-- A record at an offset, as an encoder writes it whatever it holds (RFC 1035, section 4.1.3).
pub record RecordWritten (r : Record) (encoder : State) (message : List ℕ) (place end : ℕ) : Type
    0 where
  pub head_end : ℕ
  pub head : HeadWritten r encoder.encoding message place head_end
  pub rdata : DataWritten r.rdata (names_form r.rdata encoder) message head_end end

-- A record was written, within the maximum. One that reads back is read there, in the finished
-- message too, and takes its plain size at most; one whose RDATA exceed RDLENGTH is never written.
-- A maximum that was set is a number of 16 bits.
-- Where names are written with pointers, an owner of labels takes two octets if it is a candidate,
-- and has become one if there was room.
pub record EmitsRecord (r : Record) (old new : State) : Type 0 where
  pub written : Sound old
      → StaysTrue new new.offset (λ message. RecordWritten r old message old.offset new.offset)
  pub stays : ReadsBack r → WritesInFull old → old.maximum < 2 ^ 16
      → StaysTrue new new.offset (λ message. RecordAt message old.offset r new.offset)
  pub never : ExceedsRdlength r.rdata → old.maximum < 2 ^ 16 → ⊥
  pub size : ReadsBack r → new.offset ≤ old.offset + plain r
  pub fits : new.offset ≤ old.maximum
  pub owner_used : ReadsBack r → old.points ≡ true → 0 < length r.name.labels
      → Has old.candidates (name_octets r.name)
      → new.offset + length (name_octets r.name) ≤ old.offset + plain r + 2
  pub owner_kept : Sound old → old.points ≡ true → 0 < length r.name.labels
      → length old.candidates < 64 → old.offset < 16383 → Has new.candidates (name_octets r.name)

-- The error where RDATA are refused: their own, but RDATA that exceed RDLENGTH don't fit, whatever
-- else is wrong with them.
abbrev pub ShowsRefusal : RData → State → ProtoError → Type 0
ShowsRefusal value old e =
    RefusesRData value old e
    ⊎ (ExceedsRdlength value × IsRefusal old (length (written_octets value)) e)

-- The RDATA are refused, from where they would begin: after owner, type, class, TTL and length.
pub record RefusesLater (r : Record) (old : State) (e : ProtoError) : Type 0 where
  pub start : State
  pub modes : SameModes old start
  pub after : old.offset ≤ start.offset
  pub near : start.offset ≤ old.offset + (length (name_octets r.name) + 10)
  pub refused : ShowsRefusal r.rdata start e

-- A record is refused. One that reads back is refused out of memory, or if its plain size would
-- pass the maximum, which that of RDATA that exceed RDLENGTH always does. Of any other, what comes
-- before the RDATA is so too, and the RDATA by `ShowsRefusal`.
pub record RefusesRecord (r : Record) (old : State) (e : ProtoError) : Type 0 where
  pub whole : ReadsBack r → old.maximum < 2 ^ 16 → IsRefusal old (plain r) e
  pub any : old.maximum < 2 ^ 16
      → IsRefusal old (length (name_octets r.name) + 10) e ⊎ RefusesLater r old e

-- Owner, type, class and time to live at a place.
pub record HeadAt (message : List ℕ) (place : ℕ) (r : Record) (end : ℕ) : Type 0 where
  pub owner_end : ℕ
  pub type_end : ℕ
  pub class_end : ℕ
  pub owner : NameAt message place r.name owner_end
  pub record_type : RecordTypeAt message owner_end (type_of r.rdata) type_end
  pub dns_class : ClassAt message type_end r.dns_class class_end
  pub ttl : Stands message class_end (octets_32 r.ttl) end
  pub small_ttl : r.ttl < 2 ^ 32

-- They were written.
pub record EmitsHead (r : Record) (old new : State) : Type 0 where
  pub written : Sound old
      → StaysTrue new new.offset
      (λ message. HeadWritten r old.encoding message old.offset new.offset)
  pub stays : r.name.fqdn ≡ true → IsOwnType (type_of r.rdata) → IsOwnClass r.dns_class
      → WritesInFull old
      → StaysTrue new new.offset (λ message. HeadAt message old.offset r new.offset)
  pub size : new.offset ≤ old.offset + (length (name_octets r.name) + 8)
  pub owner_used : old.points ≡ true → 0 < length r.name.labels
      → Has old.candidates (name_octets r.name) → new.offset ≡ old.offset + 10
  pub owner_kept : old.points ≡ true → 0 < length r.name.labels → length old.candidates < 64
      → old.offset < 16383 → Has new.candidates (name_octets r.name)

-- RDATA at an offset, after the number of their octets.
pub record DataAt (message : List ℕ) (place : ℕ) (value : RData) (end : ℕ) : Type 0 where
  pub len : ℕ
  pub number : Stands message place (octets_16 len) (place + 2)
  pub small : len < 2 ^ 16
  pub data_there : ReadsAs (type_of value) message (place + 2) len value
  pub filled : end ≡ place + 2 + len

-- RDATA were written after their length.
pub record EmitsBehindLength (value : RData) (old new : State) : Type 0 where
  pub written : Sound old
      → StaysTrue new new.offset
      (λ message. DataWritten value (names_form value old) message old.offset new.offset)
  pub stays : IsReadable value ⊎ IsEmpty value → WritesInFull old → old.maximum < 2 ^ 16
      → StaysTrue new new.offset (λ message. DataAt message old.offset value new.offset)
  pub never : ExceedsRdlength value → old.maximum < 2 ^ 16 → ⊥
  pub size : (IsReadable value ⊎ IsEmpty value) ⊎ ExceedsRdlength value
      → new.offset ≤ old.offset + (2 + length (written_octets value))
  pub fits : new.offset ≤ old.maximum

-- They were refused.
pub record RefusesBehindLength (value : RData) (old : State) (e : ProtoError) : Type 0 where
  pub whole : (IsReadable value ⊎ IsEmpty value) ⊎ ExceedsRdlength value → old.maximum < 2 ^ 16
      → IsRefusal old (2 + length (written_octets value)) e
  pub any : old.maximum < 2 ^ 16
      → IsRefusal old 2 e
      ⊎ ((start : State) × SameModes old start × (start.offset ≡ old.offset + 2)
      × ShowsRefusal value start e)

-- The error returned for the cause by which an encoder refused RDATA.
pub record ShownError (value : RData) (s : State) (cause e : ProtoError) : Type 0 where
  pub is : (e ≡ cause) ⊎ (ExceedsRdlength value × (e ≡ MaxBufferSizeExceeded s.maximum))
  pub room : ExceedsRdlength value → IsMemory e ⊎ (e ≡ MaxBufferSizeExceeded s.maximum)
