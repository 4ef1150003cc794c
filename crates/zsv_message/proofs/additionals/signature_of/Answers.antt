use Rattle.std.proofs.lemmas.Result.{err_from_is_err_and}
use Rattle.zsv_message.proofs.Gathered.{none_signed}
use Rattle.zsv_message.proofs.additionals.signature_of.Goals as goal

pub returns-in_err-rdata-clause-none : goal.returns-in_err-rdata-clause-none
returns-in_err-rdata-clause-none c =
    let p = err_from_is_err_and c.from_residual.result c.from_residual.ensures.1 in
    let moved = c.set_index.ensures in
    let none = rw (moved, c.index.ensures.value, c.from.ensures) at c.in_err-rdata.ensures.none in
    rw (p.1, p.2) (none_signed c.args.decoder.now.octets _ c.args.len _ none)
