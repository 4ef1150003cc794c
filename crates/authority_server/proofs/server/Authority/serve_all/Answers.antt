use Rattle.std.proofs.Common.{arith}
use Rattle.std.proofs.lemmas.Result.{err_from_is_err_and}
use Rattle.authority_server.proofs.ServedRuns.{served_more, served_until}
use Rattle.authority_server.proofs.ServedBack.{fixed_more}
use Rattle.authority_server.proofs.server.Authority.serve_all.Goals as goal

pub loop-arrival-preserved : goal.loop-arrival-preserved
loop-arrival-preserved g c = record {
  served = served_more _ _ _ _ _ _ _ _ _ (omega arith) c.loop-arrival.invariant.served c.in_ok-serve_next.ensures.served;
  back = λ back. c.in_ok-serve_next.ensures.back (c.loop-arrival.invariant.back back);
  fixed = fixed_more _ _ _ c.loop-arrival.invariant.fixed c.in_ok-serve_next.ensures.fixed;
  room = omega (arith, c.loop-arrival.invariant.room, c.in_ok-serve_next.ensures.capacity, c.in_ok-serve_next.ensures.len);
}

pub returns-in_err-serve_next-clause-refused : goal.returns-in_err-serve_next-clause-refused
returns-in_err-serve_next-clause-refused g c =
    let fails = c.in_err-serve_next.ensures.refused in
    let before = c.loop-arrival.invariant.served in
    let here = rw c.try_reserve.ensures.items at before in
    let answers = rw (← fails.1) at here in
    let p = err_from_is_err_and c.from_residual.result c.from_residual.ensures.1 in
    rw (p.1, p.2) (served_until _ _ _ _ _ _ _ _ _ (omega arith) answers fails.0)
