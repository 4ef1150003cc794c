use Rattle.std.proofs.Common.{inl}
use Rattle.zsv_parts.proofs.tsig.read_signed.Goals as goal

pub returns-in-Err-clause-err : goal.returns-in-Err-clause-err
returns-in-Err-clause-err c = inl (rw c.in-Err.is at c.read_fields.ensures.err)
