-- Record data of every type as an encoder writes them.
use Rattle.std.specs.Prelude.{ℕ, ◌≡◌, false, List}
use Rattle.std.proofs.Common.{◌⊎◌}
use Rattle.drd_types.specs.dnw_codes.declared.error.ProtoError.{ProtoError}
use Rattle.drd_types.specs.dnw_encoder.State.{State, is_lower, rdata_encoding}
use Rattle.drd_types.specs.dnw_encoder.declared.modes.RDataEncoding.TheVariants.{Other}
use Rattle.drd_types.specs.drd_fields.Fields.{FieldsAt}
use Rattle.drd_types.specs.drd_fields.Writing.{EmitsData, RefusesFields, encoded_fields, fields_octets}
use Rattle.drd_types.specs.dnw_encoder.declared.modes.NameEncoding.{NameEncoding}
use Rattle.drd_rdata.specs.Fields.{encoding_of, rdata_fields}
use Rattle.drd_names_keys.specs.drd_csync.Data.{CsyncAt}
use Rattle.drd_names_keys.specs.drd_csync.Writing.{EmitsCsync, RefusesEmitCsync}
use Rattle.drd_types.specs.drd_opt.Entries.{AreCountable, HasLong}
use Rattle.drd_svcb.specs.Writing.{RefusesEmitSvcb as RefusesService}
use Rattle.drd_types.specs.dnw_encoder.Effects.{IsRefusal, Sound}
use Rattle.drd_rdata.specs.declared.rdata.RData.{RData}
use Rattle.drd_rdata.specs.declared.rdata.RData.TheVariants as rdata

-- The data were written field by field, within the maximum: they read back at their place, in the
-- finished message too. Bit maps are written without zero octets at their end; data without fields
-- write nothing.
abbrev pub EmitsRData : RData → State → State → Type 0
EmitsRData (rdata.CSYNC csync) old new = EmitsCsync csync old new
EmitsRData (rdata.OPT opt) old new =
    EmitsData Other (rdata_fields (rdata.OPT opt)) old new × AreCountable opt.options.items
EmitsRData (rdata.Update0 code) old new = new ≡ old
EmitsRData rdata.ZERO old new = new ≡ old
EmitsRData value old new = EmitsData (encoding_of value) (rdata_fields value) old new

-- They were refused: they would pass the maximum, a part is longer than its length can tell, or a
-- growth was refused.
abbrev pub RefusesRData : RData → State → ProtoError → Type 0
RefusesRData (rdata.CSYNC csync) old e = RefusesEmitCsync csync old e
RefusesRData (rdata.HTTPS https) old e = RefusesService https.0 old e
RefusesRData (rdata.OPT opt) old e =
    RefusesFields (rdata_fields (rdata.OPT opt)) old e ⊎ HasLong opt.options.items e
RefusesRData (rdata.SVCB svcb) old e = RefusesService svcb old e
RefusesRData (rdata.Update0 code) old e = ⊥
RefusesRData rdata.ZERO old e = ⊥
RefusesRData value old e = RefusesFields (rdata_fields value) old e

-- Want of memory, or so many octets that pass the maximum.
abbrev pub WantsRoom : State → ProtoError → Type 0
WantsRoom old e = (size : ℕ) × IsRefusal old size e

-- The form in which an encoder writes the names of the data.
abbrev pub names_form : RData → State → NameEncoding
names_form value s = rdata_encoding (encoding_of value) s.canonical s.encoding

-- What stands where the data were written, names in the form in which the encoder wrote them.
abbrev pub StandsWritten : RData → NameEncoding → List ℕ → ℕ → ℕ → Type 0
StandsWritten (rdata.CSYNC csync) encoding message place end = CsyncAt message place csync end
StandsWritten value encoding message place end =
    FieldsAt message place (encoded_fields encoding (rdata_fields value)) end

-- The octets of the data, names in full.
abbrev pub written_octets : RData → List ℕ
written_octets value = fields_octets (rdata_fields value)

-- An encoder at its end that leaves the case of names as it is.
pub record WritesInFull (s : State) : Type 0 where
  pub sound : Sound s
  pub own : s.canonical ≡ false
  pub same_case : is_lower s.encoding ≡ false
