use Rattle.std.proofs.Common.{◌≡◌, ◌==◌, ◌||◌, Bool, ap, false, not, refl, true, ◌+◌, ◌∙◌, ◌++◌, inr, length, length-append, take, arith}
use Rattle.std.proofs.lemmas.Grind.{common_steps}
use Rattle.std.proofs.lemmas.List.{length-take-le}
use Rattle.zsv_blocked.proofs.ReadLemmas.{consumes-more}
use Rattle.zsv_blocked.proofs.read.read_list.Goals as goal

pub returns-then-count-len-clause-cause : goal.returns-then-count-len-clause-cause
returns-then-count-len-clause-cause g c =
    let more = consumes-more (g.R.Read.remaining c.args.reader.now) (g.R.Read.remaining c.reading.reader) (g.R.Read.remaining c.read.new.reader) c.reading.octets.items (take c.in-Some.count c.read.new.buffer)
    c.reading.invariant.read c.in-Some.ensures.bytes.1 in
    inr (c.reading.octets.items ++ take c.in-Some.count c.read.new.buffer, more, grind (arith, common_steps, length-append c.reading.octets.items (take c.in-Some.count c.read.new.buffer), length-take-le c.in-Some.count c.read.new.buffer c.in-Some.ensures.bytes.0))

or-true : (b : Bool) → (b || not false) ≡ true
or-true true = refl
or-true false = refl

-- Out of memory: these octets were read, and they aren't too many.
pub returns-then-is_err-clause-cause : goal.returns-then-is_err-clause-cause
returns-then-is_err-clause-cause g c =
    let last = take c.in-Some.count c.read.new.buffer in
    let octets = c.reading.octets.items ++ last in
    let more = consumes-more (g.R.Read.remaining c.args.reader.now) (g.R.Read.remaining c.reading.reader) (g.R.Read.remaining c.read.new.reader) c.reading.octets.items last
    c.reading.invariant.read c.in-Some.ensures.bytes.1 in
    let long : length octets ≡ length c.reading.octets.items + length last = length-append c.reading.octets.items last in
    let short = length-take-le c.in-Some.count c.read.new.buffer c.in-Some.ensures.bytes.0 in
    let none : (c.in-Some.count == 0) ≡ false = grind (arith, common_steps, c.if-count-eq0.false) in
    let given : (c.reading.faults.given || not (c.in-Some.count == 0)) ≡ true = ap (λ (b : Bool). c.reading.faults.given || not b) none ∙ or-true c.reading.faults.given in
    let well = c.in-Some.ensures.fault.0 ∙ c.reading.invariant.well in
    let on = c.in-Some.ensures.fault.1 ∙ none in (
      octets,
      record { well = well; given = c.in-Some.ensures.fault.2 ∙ given; consumed = more; few = grind (arith, common_steps, long, short) },
      on,
    )
