-- What the octets of record data stand for, by the type of the record (RFC 1035 3.2.1).
use Rattle.std.specs.Prelude.{ℕ, ◌≡◌, ◌+◌, ◌-◌, ◌<◌, true, List, []}
use Rattle.std.proofs.Common.{◌⊎◌}
use Rattle.drd_types.specs.dnw_codes.declared.error.DecodeError.{DecodeError}
use Rattle.drd_types.specs.dnw_codes.declared.error.DecodeError.TheVariants.{IncorrectRDataLengthRead, UnknownRecordTypeValue}
use Rattle.drd_types.specs.dnw_codes.RecordType.{record_type_number}
use Rattle.drd_types.specs.dnw_codes.declared.record_type.RecordType.{RecordType}
use Rattle.drd_types.specs.dnw_codes.declared.record_type.RecordType.TheVariants as kind
use Rattle.drd_types.specs.dnw_decoder.Reading.{IsWantOfMemory}
use Rattle.drd_types.specs.drd_fields.Fields.{Field, FieldsAt}
use Rattle.drd_types.specs.drd_fields.Reading.{RefusesValue, no_misfits}
use Rattle.drd_svcb.specs.drd_words.Word.{are_alphanumeric}
use Rattle.drd_types.specs.drd_plain.Reading.{NaptrMisfits}
use Rattle.drd_names_keys.specs.drd_keys.Cert.{IsNamedCert}
use Rattle.drd_names_keys.specs.drd_keys.Sshfp.{IsNamedSshfp}
use Rattle.drd_names_keys.specs.drd_keys.Tlsa.{IsNamedTlsa}
use Rattle.drd_types.specs.drd_caa.Fields.{IsCaa}
use Rattle.drd_types.specs.drd_caa.Reading.{CaaMisfits}
use Rattle.drd_names_keys.specs.drd_csync.Data.{CsyncAt}
use Rattle.drd_names_keys.specs.drd_csync.Reading.{RefusesCsync}
use Rattle.drd_types.specs.drd_opt.Reading.{EntriesAt, RefusesEntries}
use Rattle.drd_types.specs.drd_opt.declared.opt.OPT.{OPT}
use Rattle.drd_svcb.specs.drd_params.Params.{AreParams}
use Rattle.drd_svcb.specs.Reading.{RefusesSvcb}
use Rattle.drd_rdata.specs.Fields.{kinds_for, rdata_fields}
use Rattle.drd_rdata.specs.Types.{type_of}
use Rattle.drd_rdata.specs.declared.rdata.RData.{RData}
use Rattle.drd_rdata.specs.declared.rdata.RData.TheVariants as rdata

-- Data of these types have forms of their own, or there are none (RFC 2931 3.1; RFC 1035 3.2.3).
-- Those of any other type are kept as they are (RFC 3597 3).
abbrev pub IsOther : RecordType → Type 0
IsOther kind.A = ⊥
IsOther kind.AAAA = ⊥
IsOther kind.ANAME = ⊥
IsOther kind.CAA = ⊥
IsOther kind.CERT = ⊥
IsOther kind.CNAME = ⊥
IsOther kind.CSYNC = ⊥
IsOther kind.HINFO = ⊥
IsOther kind.HTTPS = ⊥
IsOther kind.MX = ⊥
IsOther kind.NAPTR = ⊥
IsOther kind.NULL = ⊥
IsOther kind.NS = ⊥
IsOther kind.OPENPGPKEY = ⊥
IsOther kind.OPT = ⊥
IsOther kind.PTR = ⊥
IsOther kind.SMIMEA = ⊥
IsOther kind.SOA = ⊥
IsOther kind.SRV = ⊥
IsOther kind.SSHFP = ⊥
IsOther kind.SVCB = ⊥
IsOther kind.TLSA = ⊥
IsOther kind.TXT = ⊥
IsOther kind.ZERO = ⊥
IsOther kind.ANY = ⊥
IsOther kind.AXFR = ⊥
IsOther kind.IXFR = ⊥
IsOther other = Unit {0}

-- What the data of a type hold beyond the form of their fields: a tag of CAA, flags of NAPTR, codes
-- that are those of their numbers, parameters whose keys rise. Data of an update and of type 0 have
-- no octets.
abbrev pub IsValid : RData → Type 0
IsValid (rdata.CAA caa) = IsCaa caa
IsValid (rdata.CERT cert) = IsNamedCert cert
IsValid (rdata.HTTPS https) = AreParams https.0.svc_params.items
IsValid (rdata.NAPTR naptr) = are_alphanumeric naptr.flags.items ≡ true
IsValid (rdata.SMIMEA smimea) = IsNamedTlsa smimea.0
IsValid (rdata.SSHFP sshfp) = IsNamedSshfp sshfp
IsValid (rdata.SVCB svcb) = AreParams svcb.svc_params.items
IsValid (rdata.TLSA tlsa) = IsNamedTlsa tlsa
IsValid (rdata.Unknown code null) = IsOther code
IsValid (rdata.Update0 code) = ⊥
IsValid rdata.ZERO = ⊥
IsValid other = Unit {0}

-- The data stand in a message from a place to an end: their fields do, one behind the other. Bit
-- maps may end in zero octets, and octets of OPT that break off are no options.
abbrev pub RDataAt : List ℕ → ℕ → RData → ℕ → Type 0
RDataAt message place (rdata.CSYNC csync) end = CsyncAt message place csync end
RDataAt message place (rdata.OPT opt) end = EntriesAt message place opt.options.items end
RDataAt message place value end = FieldsAt message place (rdata_fields value) end × IsValid value

-- The data of a record of this type stand there.
abbrev pub HoldsAs : RecordType → List ℕ → ℕ → RData → ℕ → Type 0
HoldsAs record_type message place value end =
    (type_of value ≡ record_type) × RDataAt message place value end

-- Data of a record that can be read: in some message they stand, and take octets.
pub record IsReadable (value : RData) : Type 0 where
  pub message : List ℕ
  pub place : ℕ
  pub end : ℕ
  pub some : place < end
  pub there : RDataAt message place value end

-- No octets: the data of an update, or no options (RFC 2136 2.4; RFC 6891 6.1.2).
abbrev pub IsEmptyOf : RecordType → RData → Type 0
IsEmptyOf kind.OPT value = (opt : OPT) × (value ≡ rdata.OPT opt) × (opt.options.items ≡ [])
IsEmptyOf other value = value ≡ rdata.Update0 other

-- So many octets at a place of a message are these data of a record of this type.
abbrev pub ReadsAs : RecordType → List ℕ → ℕ → ℕ → RData → Type 0
ReadsAs record_type message place len value =
    ((len ≡ 0) × IsEmptyOf record_type value)
    ⊎ ((0 < len) × HoldsAs record_type message place value (place + len))

-- Fields that are no data of their type, as the error says: flags of NAPTR, a tag of CAA.
abbrev pub misfits_for : RecordType → List Field → DecodeError → Type 0
misfits_for kind.CAA = CaaMisfits
misfits_for kind.NAPTR = NaptrMisfits
misfits_for other = no_misfits

-- A type that no record has data of.
abbrev pub HasNoData : RecordType → ℕ → DecodeError → ℕ → Type 0
HasNoData record_type place e at =
    (e ≡ UnknownRecordTypeValue (record_type_number record_type)) × (at ≡ place)

-- Why the octets up to an end are no data of this type, and where reading them stops: a field can't
-- be read, the fields end elsewhere, or they are no data. Sets of types, options and services have
-- causes of their own.
abbrev pub StopsAs : RecordType → List ℕ → ℕ → ℕ → DecodeError → ℕ → Type 0
StopsAs kind.CSYNC = RefusesCsync
StopsAs kind.HTTPS = RefusesSvcb
StopsAs kind.OPT = RefusesEntries
StopsAs kind.SVCB = RefusesSvcb
StopsAs kind.ZERO = λ message place end e at. HasNoData kind.ZERO place e at
StopsAs kind.ANY = λ message place end e at. HasNoData kind.ANY place e at
StopsAs kind.AXFR = λ message place end e at. HasNoData kind.AXFR place e at
StopsAs kind.IXFR = λ message place end e at. HasNoData kind.IXFR place e at
StopsAs other = λ message place end e at.
    RefusesValue (misfits_for other) message end (kinds_for other) place e at

-- The number of octets up to where reading stopped comes first: where it is not the length of the
-- data, that is the error, and the cause does not show.
abbrev pub Shows : ℕ → ℕ → DecodeError → ℕ → DecodeError → Type 0
Shows place len cause at e =
    ((at ≡ place + len) × (e ≡ cause))
    ⊎ ((at ≡ place + len → ⊥) × (e ≡ IncorrectRDataLengthRead (at - place) len))

-- So many octets at a place are no data of this type, for a cause that is no want of memory.
abbrev pub RefusesAs : RecordType → List ℕ → ℕ → ℕ → DecodeError → Type 0
RefusesAs record_type message place len e =
    (cause : DecodeError) × (at : ℕ) × StopsAs record_type message place (place + len) cause at
    × (IsWantOfMemory cause → ⊥) × Shows place len cause at e

-- Memory was wanted for a part of the data that takes some.
abbrev pub WantsMemoryAs : RecordType → List ℕ → ℕ → ℕ → DecodeError → Type 0
WantsMemoryAs record_type message place len e =
    IsWantOfMemory e × (at : ℕ) × StopsAs record_type message place (place + len) e at
