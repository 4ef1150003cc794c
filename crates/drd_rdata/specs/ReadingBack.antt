-- What is read where record data were written.
use Rattle.std.specs.Prelude.{ℕ, ◌≡◌, List}
use Rattle.drd_types.specs.dnw_codes.declared.record_type.RecordType.{RecordType}
use Rattle.drd_types.specs.dnw_encoder.Effects.{Sound, StaysTrue}
use Rattle.drd_types.specs.dnw_encoder.Names.{encoded_name}
use Rattle.drd_types.specs.dnw_encoder.State.{State}
use Rattle.drd_types.specs.dnw_encoder.declared.modes.NameEncoding.{NameEncoding}
use Rattle.drd_svcb.specs.declared.svcb.SVCB.{SVCB}
use Rattle.drd_rdata.specs.Order.{HasCanonical, data_form, type_number}
use Rattle.drd_rdata.specs.Reading.{HoldsAs}
use Rattle.drd_rdata.specs.Writing.{EmitsRData}
use Rattle.drd_rdata.specs.declared.rdata.RData.{RData}
use Rattle.drd_rdata.specs.declared.rdata.RData.TheVariants as rdata

-- Both have these canonical octets (RFC 4034 6.2), and are of one type and form.
pub record Alike (v w : RData) : Type 0 where
  pub octets : List ℕ
  pub first : HasCanonical v octets
  pub second : HasCanonical w octets
  pub number : type_number v ≡ type_number w
  pub own : data_form v ≡ data_form w

-- A service as it is written (RFC 9460 2.2): its target in the form in which the encoder writes
-- names.
abbrev encoded_service : NameEncoding → SVCB → SVCB
encoded_service encoding svcb = record svcb { target_name = encoded_name encoding svcb.target_name }

-- The data as they are written: names fully qualified, and in lower case where the encoder writes
-- them so (RFC 4034 6.2).
abbrev pub encoded_data : NameEncoding → RData → RData
encoded_data encoding (rdata.ANAME aname) =
    rdata.ANAME (record aname { 0 = encoded_name encoding aname.0 })
encoded_data encoding (rdata.CNAME cname) =
    rdata.CNAME (record cname { 0 = encoded_name encoding cname.0 })
encoded_data encoding (rdata.HTTPS https) =
    rdata.HTTPS (record https { 0 = encoded_service encoding https.0 })
encoded_data encoding (rdata.MX mx) =
    rdata.MX (record mx { exchange = encoded_name encoding mx.exchange })
encoded_data encoding (rdata.NAPTR naptr) =
    rdata.NAPTR (record naptr { replacement = encoded_name encoding naptr.replacement })
encoded_data encoding (rdata.NS ns) = rdata.NS (record ns { 0 = encoded_name encoding ns.0 })
encoded_data encoding (rdata.PTR ptr) = rdata.PTR (record ptr { 0 = encoded_name encoding ptr.0 })
encoded_data encoding (rdata.SOA soa) =
    rdata.SOA
    (record soa {
      mname = encoded_name encoding soa.mname;
      rname = encoded_name encoding soa.rname;
    })
encoded_data encoding (rdata.SRV srv) =
    rdata.SRV (record srv { target = encoded_name encoding srv.target })
encoded_data encoding (rdata.SVCB svcb) = rdata.SVCB (encoded_service encoding svcb)
encoded_data encoding other = other

-- Data of a type read back where they were written: as written they stand there, and all that is
-- read there for the type is equal to them, by the same canonical octets.
pub record ReadsBack (t : RecordType) (encoding : NameEncoding) (v : RData) (message : List ℕ)
    (place end : ℕ) : Type 0 where
  pub there : HoldsAs t message place (encoded_data encoding v) end
  pub equal : (w : RData) → HoldsAs t message place w end → Alike v w

-- Wherever an encoder in any mode writes the data, they read back, in the finished message too.
abbrev pub IsReadBack : RecordType → RData → Type 0
IsReadBack t v =
    (old new : State) → Sound old → EmitsRData v old new
    → (encoding : NameEncoding)
    × StaysTrue new new.offset
    (λ message. ReadsBack t encoding v message old.offset new.offset)
