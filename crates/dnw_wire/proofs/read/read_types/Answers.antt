use Rattle.std.proofs.Common.{◌≡◌, ℕ, ◌+◌, ◌++◌, ◌*◌, List, subst, sym, arith}
use Rattle.dnw_wire.specs.BitMaps.{map_types}
use Rattle.dnw_wire.proofs.Windows.{TypesAhead, ahead_more, ahead_end}
use Rattle.dnw_wire.proofs.read.read_types.Goals as goal

pub windows-preserved : goal.windows-preserved
windows-preserved c =
    let w = c.in-Some.window in
    let there = rw c.in-Some.is at c.in_ok-window.ensures.ok in
    let codes = c.windows.codes.items ++ map_types (256 * w.number) w.map.now in
    let next : TypesAhead c.args.octets.now codes w.rest.now (w.number + 1) =
    ahead_more c.args.octets.now c.windows.codes.items c.windows.rest.now c.windows.above w.number w.map.now w.rest.now c.windows.invariant there.0 there.1 there.2 there.3 in
    let moved : w.number + 1 ≡ c.from-above.result + 1 = omega (arith, c.from-above.ensures) in
    subst (λ (n : ℕ). TypesAhead c.args.octets.now c.push_map.new.codes.items w.rest.now n) moved
    (subst (λ (cs : List ℕ). TypesAhead c.args.octets.now cs w.rest.now (w.number + 1)) (sym c.in-Ok.ensures) next)

pub returns-clause-ok : goal.returns-clause-ok
returns-clause-ok c =
    let none = rw c.in_default.is at c.in_ok-window.ensures.ok in
    ahead_end c.args.octets.now c.windows.codes.items c.windows.rest.now c.windows.above c.windows.invariant none
