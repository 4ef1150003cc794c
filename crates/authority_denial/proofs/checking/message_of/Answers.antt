use Rattle.std.proofs.lemmas.Result.{on_err_weaker}
use Rattle.authority_denial.proofs.Denying.{unread_long}
use Rattle.authority_denial.proofs.checking.message_of.Goals as goal

pub returns-in-Err-clause-memory : goal.returns-in-Err-clause-memory
returns-in-Err-clause-memory c = unread_long c.nothing.result c.args.octets.now c.in-Err.refused c.in-Err.ensures c.nothing.ensures.told
