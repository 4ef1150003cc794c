use Rattle.std.proofs.Common.{rules}
use Rattle.std.proofs.lemmas.Result.{err_from_is_err_and}
use Rattle.authority_server.proofs.StreamFaults.{message_fault}
use Rattle.authority_server.proofs.stream.read_frame.Goals as goal

pub returns-in_err-read_message-in-Some-clause-fault : goal.returns-in_err-read_message-in-Some-clause-fault
returns-in_err-read_message-in-Some-clause-fault g c =
    let whole = rw c.in-Some.is at c.in_ok-read_length.ensures.whole in
    let p = err_from_is_err_and c.from_residual-in_err-read_message-in-Some.result c.from_residual-in_err-read_message-in-Some.ensures.1 in
    rw (p.1, p.2) (message_fault _ _ _ c.in-Some.size _ (search rules) whole c.in_err-read_message-in-Some.ensures.fault)
