-- Which data of services can be read.
use Rattle.drd_params.specs.drd_fields.Readable.{EndsAtRoot}
use Rattle.drd_params.specs.Params.{AreParams}
use Rattle.drd_svcb.specs.declared.svcb.SVCB.{SVCB}

-- The target ends at the root, and the parameters' keys rise (RFC 9460 2.2).
abbrev pub IsService : SVCB → Type 0
IsService svcb = EndsAtRoot svcb.target_name × AreParams svcb.svc_params.items
