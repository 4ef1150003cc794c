-- Why SVCB data are not written.
use Rattle.std.specs.Prelude.{length}
use Rattle.std.proofs.Common.{◌⊎◌}
use Rattle.drd_params.specs.dnw_codes.declared.error.ProtoError.{ProtoError}
use Rattle.drd_params.specs.dnw_encoder.Effects.{IsRefusal}
use Rattle.drd_params.specs.dnw_encoder.State.{State}
use Rattle.drd_params.specs.drd_fields.Writing.{RefusesFields, fields_octets}
use Rattle.drd_params.specs.Params.{AreParams}
use Rattle.drd_params.specs.Writing.{RefusesWriting}
use Rattle.drd_svcb.specs.Fields.{svcb_fields}
use Rattle.drd_svcb.specs.declared.svcb.SVCB.{SVCB}

-- For want of memory or of space, or for a parameter that can't be written. Those of data that were
-- read can.
pub record RefusesEmitSvcb (svcb : SVCB) (old : State) (e : ProtoError) : Type 0 where
  pub cause : RefusesFields (svcb_fields svcb) old e ⊎ RefusesWriting svcb.svc_params.items e
  pub read : AreParams svcb.svc_params.items
      → IsRefusal old (length (fields_octets (svcb_fields svcb))) e
