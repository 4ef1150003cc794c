use Rattle.std.proofs.Common.{◌+◌, ◌≡◌, [], ◌∷◌, ◌++◌, take, drop, arith, sym}
use Rattle.dnw_decoder.specs.Elements.{begins, goes_on}
use Rattle.dnw_decoder.proofs.Standing.{label_stands}
use Rattle.dnw_decoder.proofs.name.run_end.Goals as goal

pub labels-init : goal.labels-init
labels-init c = (([], begins), omega arith, omega (arith, c.min-most.ensures, c.requires.inside))

pub labels-preserved : goal.labels-preserved
labels-preserved c =
    let n = c.from-length.result in
    let one = label_stands c.args.octets.now c.labels.end n (sym c.from-length.ensures) (omega (arith, c.if-most-next.false, c.min-most.ensures)) in
    let behind : c.labels.end + 1 + n ≡ c.labels.end + (1 + n) = omega arith in (
      (
        c.labels.invariant.0.0 ++ take n (drop (c.labels.end + 1) c.args.octets.now) ∷ [],
        rw behind (goes_on {next = take n (drop (c.labels.end + 1) c.args.octets.now)} c.labels.invariant.0.1 (omega (arith, c.if-bound-end.false)) (record { some = omega (arith, one.long, c.if-length-eq0.false); few = omega (arith, one.long, c.if-length-gt63.false) }) one.there),
      ),
      omega (arith, c.labels.invariant.1),
      omega (arith, c.if-most-next.false),
    )
