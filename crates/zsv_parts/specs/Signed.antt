-- The fields of a signature as they are lent from a message.
use Rattle.zsv_parts.specs.declared.tsig.Times.{Times}
use Rattle.zsv_parts.specs.declared.tsig.Codes.{Codes}
use Rattle.zsv_parts.specs.Signatures.{Signed}

abbrev pub signed : Times → Codes → Signed
signed times codes = record {
  time = times.time;
  fudge = times.fudge;
  mac = times.mac.now;
  oid = codes.oid;
  error = codes.error;
  other = codes.other.now;
}
