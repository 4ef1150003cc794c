use Rattle.std.proofs.Common.{arith}
use Rattle.std.proofs.lemmas.Result.{err_from_is_err_and}
use Rattle.authority_load.proofs.Causes.{stands_since, tested_gives}
use Rattle.authority_load.proofs.line.record_of.Goals as goal

pub returns-in_err-header-clause-gives : goal.returns-in_err-header-clause-gives
returns-in_err-header-clause-gives c =
    let p = err_from_is_err_and c.from_residual.result c.from_residual.ensures.1 in
    rw (p.1, p.2) (c.in_err-header.ensures c.args.zone.now)

pub returns-in_err-rdata-clause-gives : goal.returns-in_err-rdata-clause-gives
returns-in_err-rdata-clause-gives c =
    let p = err_from_is_err_and c.from_residual-in_err-rdata.result c.from_residual-in_err-rdata.ensures.1 in
    rw (p.1, p.2) (stands_since c.args.zone.now c.args.line.now 2 8 _ (omega arith) (c.in_err-rdata.ensures c.args.line.now c.in_ok-header.ensures))

pub returns-clause-gives : goal.returns-clause-gives
returns-clause-gives c =
    let known = c.in_ok-rdata.ensures c.args.line.now c.in_ok-header.ensures in
    tested_gives c.args.zone.now c.args.line.now _ c.in_ok-rdata.rdata _ _ c.tested.result known.0 known.1 c.numbers_fit.ensures c.tested.ensures.ok c.tested.ensures.refused
