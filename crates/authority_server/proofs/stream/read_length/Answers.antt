use Rattle.std.proofs.Common.{◌≡◌, ℕ, List, arith, rules, length, take, subst, sym, ◌∙◌}
use Rattle.std.proofs.lemmas.List.{take_all}
use Rattle.std.specs.Prelude.{Option}
use Rattle.std.specs.Io.KnownBytes.{Consumes}
use Rattle.std.proofs.Common.{length-take-le}
use Rattle.authority_server.specs.Frames.{in_length}
use Rattle.std.proofs.lemmas.Result.{err_from_is_err_and}
use Rattle.authority_server.proofs.StreamFaults.{length_fault, read_cause}
use Rattle.authority_server.proofs.stream.read_length.Goals as goal

same_octets : (a b : Option (List ℕ)) (xs ys : List ℕ) → xs ≡ ys → Consumes a b xs → Consumes a b ys
same_octets a b xs ys e h = subst (λ (octets : List ℕ). Consumes a b octets) e h

pub returns-clause-whole : goal.returns-clause-whole
returns-clause-whole g c =
    let octets = c.fill.new.buffer in
    let long : length octets ≡ 2 = search rules in
    let whole : take c.in_ok-count.count octets ≡ octets = take_all c.in_ok-count.count octets (omega arith) in
    same_octets _ _ _ _ (whole ∙ sym c.length_in.ensures) c.in_ok-count.ensures.consumed

pub returns-in_err-count-clause-fault : goal.returns-in_err-count-clause-fault
returns-in_err-count-clause-fault g c =
    let long : length c.fill.new.buffer ≡ 2 = search rules in
    let short = c.in_err-count.ensures.fault in
    let p = err_from_is_err_and c.from_residual.result c.from_residual.ensures.1 in
    rw (p.1, p.2) (length_fault _ _ _ (c.in_err-count.ensures.cause.0, (short.0, rw long at short.1, short.2)))

pub returns-in_err-count-clause-cause : goal.returns-in_err-count-clause-cause
returns-in_err-count-clause-cause g c =
    let p = err_from_is_err_and c.from_residual.result c.from_residual.ensures.1 in
    rw (p.1, p.2) (read_cause _ _ c.in_err-count.ensures.cause)

pub returns-then-count-lt2-clause-fault : goal.returns-then-count-lt2-clause-fault
returns-then-count-lt2-clause-fault g c =
    let octets = take c.in_ok-count.count c.fill.new.buffer in
    let some : length octets ≡ c.in_ok-count.count = length-take-le c.in_ok-count.count c.fill.new.buffer c.in_ok-count.ensures.within in
    (octets, in_length octets (rw some c.if-count-lt2.true), omega (arith, some), c.in_ok-count.ensures.consumed, search rules)
