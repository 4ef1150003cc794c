use Rattle.std.proofs.Common.{ℕ, ◌<◌, get_or, arith, rules}
use Rattle.dnw_wire.proofs.SortedTypes.{rises_increasing}
use Rattle.dnw_wire.proofs.set.rise.Goals as goal

pub returns : goal.returns
returns c =
    let fits : (i : ℕ) → get_or c.args.codes.now i 0 < 65536 = search rules in
    rises_increasing 0 c.args.codes.now c.requires fits (λ some. omega arith) (omega arith)
