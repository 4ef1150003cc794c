use Rattle.std.proofs.Common.{◌≡◌, length, refl, rules}
use Rattle.std.specs.Int.{w16, to_be_bytes}
use Rattle.std.proofs.lemmas.Result.{err_from_is_err_and}
use Rattle.authority_server.proofs.StreamFaults.{front_first, front_second, front_whole}
use Rattle.authority_server.proofs.stream.write_frame.Goals as goal

pub returns-in_err-put-clause-fault : goal.returns-in_err-put-clause-fault
returns-in_err-put-clause-fault g c =
    let fault = c.in_err-put.ensures.fault in
    let p = err_from_is_err_and c.from_residual.result c.from_residual.ensures.1 in
    let octets : c.to_be_bytes.result ≡ to_be_bytes w16 (length c.args.message.now) = search rules in
    let wrote = rw octets at fault.3 in
    rw (p.1, p.2) ((fault.0, front_first _ _ (to_be_bytes w16 (length c.args.message.now)) c.args.message.now fault.1 (rw octets at fault.2) wrote))

pub returns-in_err-put-2-clause-fault : goal.returns-in_err-put-2-clause-fault
returns-in_err-put-2-clause-fault g c =
    let fault = c.in_err-put-2.ensures.fault in
    let p = err_from_is_err_and c.from_residual-in_err-put-2.result c.from_residual-in_err-put-2.ensures.1 in
    let octets : c.to_be_bytes.result ≡ to_be_bytes w16 (length c.args.message.now) = search rules in
    let long = rw octets at c.in_ok-put.ensures.written in
    rw (p.1, p.2) ((fault.0, front_second _ _ _ (to_be_bytes w16 (length c.args.message.now)) c.args.message.now fault.1 long fault.3))

pub returns-else-flush-clause-fault : goal.returns-else-flush-clause-fault
returns-else-flush-clause-fault g c =
    let octets : c.to_be_bytes.result ≡ to_be_bytes w16 (length c.args.message.now) = search rules in
    let long = rw octets at c.in_ok-put.ensures.written in
    (refl, front_whole _ _ _ _ (to_be_bytes w16 (length c.args.message.now)) c.args.message.now long c.in_ok-put-2.ensures.written c.flush.ensures.kept)
