use Rattle.std.proofs.Common.{refl, ◌+◌, ◌-◌, ◌<◌, ◌≤◌, ◌++◌, ◌≡◌, length, arith}
use Rattle.std.proofs.lemmas.Result.{err_from_is_err_and}
use Rattle.dnw_decoder.proofs.ChainLaws.{led_back}
use Rattle.dnw_decoder.proofs.Progress.{reading_end, has_run, walk_refused, walk_too_long, walked, walking_at, walking_label, walking_on, walking_start}
use Rattle.dnw_decoder.specs.Spelling.{NameAt}
use Rattle.dnw_decoder.proofs.TailLaws.{kept_named, kept_whole, led_reading}
use Rattle.dnw_decoder.proofs.name.spelled_name.Goals as goal
use Rattle.dnw_decoder.proofs.name.spelled_name.Goals.{Then-branch}

-- What is kept of the place that a pointer leads to makes the name whole.
kept : (c : Then-branch) → NameAt c.args.octets.now c.args.start c.push_kept.new.name c.unwrap_or-behind.result × ((c.args.start ≤ c.unwrap_or-behind.result) × (c.unwrap_or-behind.result ≤ length c.args.octets.now))
kept c =
    let here = rw c.in-Pointer.is at c.in_ok-element_at.ensures.ok in
    let w = walking_on c.elements.invariant.0 c.run_end-end.ensures.run c.run_end-end.ensures.ahead c.run_end-end.ensures.room in
    let run = has_run c.args.octets.now c.args.start c.elements.name _ c.elements.segment c.elements.bound c.run_end-end.result c.elements.run c.elements.resume w in
    let whole = c.in_ok-push_run-in-Pointer.ensures.ok w.pending w.each run.spelled in
    let led = led_reading c.args.octets.now c.args.start c.elements.name c.push_run-in-Pointer.new.name _ c.elements.segment c.elements.bound c.run_end-end.result c.elements.run c.elements.resume c.in-Pointer.target c.follow-led.result.0 c.follow-led.result.1 w whole here c.follow-led.ensures.leads in
    let pushed = rw c.if-branch.true at c.in_ok-push_kept-in-Pointer.ensures.ok in
    let named = kept_named c.args.octets.now c.elements.pointers.tails c.follow-led.result.1 c.follow-led.result.0 pushed.0 (rw c.elements.invariant.2 c.requires.tails) pushed.1 in
    rw c.unwrap_or-behind.ensures
    (kept_whole c.args.octets.now c.args.start c.push_run-in-Pointer.new.name c.push_kept.new.name c.follow-led.result.1 c.follow-led.result.0 _ pushed.0 named.0 led.0 named.1 named.2 pushed.2 pushed.3)

pub elements-init : goal.elements-init
elements-init c =
    (rw c.root-name.ensures (walking_start c.args.octets.now c.args.start c.requires.start), c.requires.chains, refl)

pub returns-in_err-element_at-clause-refused : goal.returns-in_err-element_at-clause-refused
returns-in_err-element_at-clause-refused c =
    let p = err_from_is_err_and c.from_residual.result c.from_residual.ensures.1 in
    let w = walking_on c.elements.invariant.0 c.run_end-end.ensures.run c.run_end-end.ensures.ahead c.run_end-end.ensures.room in
    rw (p.1, p.2) (walk_refused c.args.octets.now c.args.start c.elements.name (c.elements.len + (c.run_end-end.result - c.elements.place)) c.elements.segment c.elements.bound c.run_end-end.result c.elements.run c.elements.resume _
    w (c.in_err-element_at.ensures.cause (c.elements.name.labels ++ w.pending)))

pub push_run-requires-clause-short : goal.push_run-requires-clause-short
push_run-requires-clause-short c =
    let w = walking_on c.elements.invariant.0 c.run_end-end.ensures.run c.run_end-end.ensures.ahead c.run_end-end.ensures.room in
    (has_run c.args.octets.now c.args.start c.elements.name _ c.elements.segment c.elements.bound c.run_end-end.result c.elements.run c.elements.resume w).short

pub push_run-requires-in-Pointer-clause-short : goal.push_run-requires-in-Pointer-clause-short
push_run-requires-in-Pointer-clause-short c =
    let w = walking_on c.elements.invariant.0 c.run_end-end.ensures.run c.run_end-end.ensures.ahead c.run_end-end.ensures.room in
    (has_run c.args.octets.now c.args.start c.elements.name _ c.elements.segment c.elements.bound c.run_end-end.result c.elements.run c.elements.resume w).short

pub returns-in-End-clause-ok : goal.returns-in-End-clause-ok
returns-in-End-clause-ok c =
    let here = rw c.in-End.is at c.in_ok-element_at.ensures.ok in
    let w = walking_on c.elements.invariant.0 c.run_end-end.ensures.run c.run_end-end.ensures.ahead c.run_end-end.ensures.room in
    let run = has_run c.args.octets.now c.args.start c.elements.name _ c.elements.segment c.elements.bound c.run_end-end.result c.elements.run c.elements.resume w in
    let whole = c.in_ok-push_run-in-End.ensures.ok w.pending w.each run.spelled in
    let name = walked c.args.octets.now c.args.start c.elements.name c.push_run.new.name _ c.elements.segment c.elements.bound c.run_end-end.result c.elements.run c.elements.resume w whole in
    let all = reading_end c.args.octets.now c.args.start c.push_run.new.name c.elements.segment c.elements.bound c.run_end-end.result (c.run_end-end.result + 1) c.elements.resume name.0 here.0 here.1 in
    rw c.unwrap_or.ensures all.0

pub elements-preserved-in-Label : goal.elements-preserved-in-Label
elements-preserved-in-Label c =
    let here = rw c.in-Label.is at c.in_ok-element_at.ensures.ok in
    let w = walking_on c.elements.invariant.0 c.run_end-end.ensures.run c.run_end-end.ensures.ahead c.run_end-end.ensures.room in
    let more = walking_label c.args.octets.now c.args.start c.elements.name (c.elements.len + (c.run_end-end.result - c.elements.place)) c.elements.segment c.elements.bound c.run_end-end.result c.elements.run c.elements.resume c.in-Label.label.now w here.0 here.1 here.2 (omega arith) in
    let size : c.elements.len + (c.run_end-end.result - c.elements.place) + 1 + length c.in-Label.label.now ≡ c.elements.len + (c.run_end-end.result - c.elements.place) + (1 + length c.in-Label.label.now) = omega arith in
    let behind : c.run_end-end.result + 1 + length c.in-Label.label.now ≡ c.run_end-end.result + (1 + length c.in-Label.label.now) = omega arith in
    (rw (size, behind) more, c.elements.invariant.1, c.elements.invariant.2)

pub elements-preserved : goal.elements-preserved
elements-preserved c =
    let here = rw c.in-Pointer.is at c.in_ok-element_at.ensures.ok in
    let w = walking_on c.elements.invariant.0 c.run_end-end.ensures.run c.run_end-end.ensures.ahead c.run_end-end.ensures.room in
    let run = has_run c.args.octets.now c.args.start c.elements.name _ c.elements.segment c.elements.bound c.run_end-end.result c.elements.run c.elements.resume w in
    let whole = c.in_ok-push_run-in-Pointer.ensures.ok w.pending w.each run.spelled in
    let led = led_reading c.args.octets.now c.args.start c.elements.name c.push_run-in-Pointer.new.name _ c.elements.segment c.elements.bound c.run_end-end.result c.elements.run c.elements.resume c.in-Pointer.target c.follow-led.result.0 c.follow-led.result.1 w whole here c.follow-led.ensures.leads in
    let same = rw c.if-branch.false at c.in_ok-push_kept-in-Pointer.ensures.ok in (
      rw (same, c.unwrap_or-behind.ensures)
          (walking_at c.args.octets.now c.args.start c.push_run-in-Pointer.new.name _ c.follow-led.result.1 c.follow-led.result.0 c.follow-led.result.1 _ led.0 led.0.early led.1),
      c.follow-led.ensures.chains,
      c.elements.invariant.2,
    )

pub returns-then-branch-clause-ok : goal.returns-then-branch-clause-ok
returns-then-branch-clause-ok c = (kept c).0

pub returns-then-branch-clause-within : goal.returns-then-branch-clause-within
returns-then-branch-clause-within c = (kept c).1

pub push_run-requires-clause-labels : goal.push_run-requires-clause-labels
push_run-requires-clause-labels c =
    let w = walking_on c.elements.invariant.0 c.run_end-end.ensures.run c.run_end-end.ensures.ahead c.run_end-end.ensures.room in
    (w.pending, w.each, (has_run c.args.octets.now c.args.start c.elements.name _ c.elements.segment c.elements.bound c.run_end-end.result c.elements.run c.elements.resume w).spelled)

pub push_run-requires-in-Pointer-clause-labels : goal.push_run-requires-in-Pointer-clause-labels
push_run-requires-in-Pointer-clause-labels c =
    let w = walking_on c.elements.invariant.0 c.run_end-end.ensures.run c.run_end-end.ensures.ahead c.run_end-end.ensures.room in
    (w.pending, w.each, (has_run c.args.octets.now c.args.start c.elements.name _ c.elements.segment c.elements.bound c.run_end-end.result c.elements.run c.elements.resume w).spelled)

pub returns-then-len-gt-MAX_LENGTH-clause-refused : goal.returns-then-len-gt-MAX_LENGTH-clause-refused
returns-then-len-gt-MAX_LENGTH-clause-refused c =
    let here = rw c.in-Label.is at c.in_ok-element_at.ensures.ok in
    let w = walking_on c.elements.invariant.0 c.run_end-end.ensures.run c.run_end-end.ensures.ahead c.run_end-end.ensures.room in
    let size : c.elements.len + (c.run_end-end.result - c.elements.place) + 1 + length c.in-Label.label.now ≡ c.elements.len + (c.run_end-end.result - c.elements.place) + (1 + length c.in-Label.label.now) = omega arith in
    let long : 255 < c.elements.len + (c.run_end-end.result - c.elements.place) + (1 + length c.in-Label.label.now) = omega (arith, c.if-len-gt-MAX_LENGTH.true) in
    rw size (walk_too_long c.args.octets.now c.args.start c.elements.name (c.elements.len + (c.run_end-end.result - c.elements.place)) c.elements.segment c.elements.bound c.run_end-end.result c.elements.run c.elements.resume c.in-Label.label.now w here.0 here.1 here.2 long)

pub elements-smaller : goal.elements-smaller
elements-smaller c =
    let here = rw c.in-Pointer.is at c.in_ok-element_at.ensures.ok in
    let back = led_back c.args.octets.now c.elements.segment c.in-Pointer.target c.follow-led.result.0 c.follow-led.result.1 c.follow-led.ensures.leads in
    let w = c.elements.invariant.0 in
    omega (arith, here.1, back, w.counted, w.reading.size)
