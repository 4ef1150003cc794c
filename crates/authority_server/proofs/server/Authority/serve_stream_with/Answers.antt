use Rattle.std.proofs.Common.{refl, ap, Bool, Ok, rules}
use Rattle.std.proofs.lemmas.Result.{err_from_is_err_and}
use Rattle.authority_server.proofs.ServedBack.{fixed_more}
use Rattle.authority_server.proofs.StreamRuns.{counted_none, counted_more, left_counting, left_reading, left_serving}
use Rattle.authority_server.proofs.server.Authority.serve_stream_with.Goals as goal

pub frames-init : goal.frames-init
frames-init g c = record { well = c.requires; back = λ back. back; fixed = λ unguarded. refl; served = counted_none _ _ _ _ _ }

pub frames-preserved : goal.frames-preserved
frames-preserved g c =
    let whole = c.in_ok-read_frame.ensures.whole (ap (λ (came : Bool). Ok came) c.if-not-branch.false) in
    let framed_here = rw (← c.deref.ensures.value) at whole in
    let short = c.in_ok-read_frame.ensures.short (ap (λ (came : Bool). Ok came) c.if-not-branch.false) in
    let short_here = rw (← c.deref.ensures.value) at short in
    record {
      well = search rules;
      back = λ back. c.in_ok-serve_frame.ensures.back (c.frames.invariant.back back);
      fixed = fixed_more _ _ _ c.frames.invariant.fixed c.in_ok-serve_frame.ensures.fixed;
      served = counted_more _ _ _ _ _ _ _ _ _ _ _ _ _ c.frames.invariant.served short_here framed_here c.in_ok-serve_frame.ensures.served;
    }

pub returns-in_err-read_frame-clause-left : goal.returns-in_err-read_frame-clause-left
returns-in_err-read_frame-clause-left g c =
    let p = err_from_is_err_and c.from_residual.result c.from_residual.ensures.1 in
    rw (p.1, p.2) (left_reading _ _ _ _ _ _ _ _ _ _ _ c.frames.invariant.served c.in_err-read_frame.ensures.fault)

pub returns-in_err-serve_frame-clause-left : goal.returns-in_err-serve_frame-clause-left
returns-in_err-serve_frame-clause-left g c =
    let whole = c.in_ok-read_frame.ensures.whole (ap (λ (came : Bool). Ok came) c.if-not-branch.false) in
    let framed_here = rw (← c.deref.ensures.value) at whole in
    let short = c.in_ok-read_frame.ensures.short (ap (λ (came : Bool). Ok came) c.if-not-branch.false) in
    let short_here = rw (← c.deref.ensures.value) at short in
    let p = err_from_is_err_and c.from_residual-in_err-serve_frame.result c.from_residual-in_err-serve_frame.ensures.1 in
    rw (p.1, p.2) (left_serving _ _ _ _ _ _ _ _ _ _ _ _ _ _ c.frames.invariant.served short_here framed_here c.in_err-serve_frame.ensures.fault)

pub returns-clause-left : goal.returns-clause-left
returns-clause-left g c = left_counting _ _ _ _ _ _ _ _ _ c.frames.invariant.served (search rules)
