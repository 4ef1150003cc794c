use Rattle.std.proofs.Common.{◌≡◌, length}
use Rattle.dnw_wire.specs.MapOrder.{window_end}
use Rattle.dnw_wire.proofs.order.map_len.Given as goal

abbrev pub invariant-window : goal.invariant-window
invariant-window l = window_end l.code l.codes ≡ window_end l.end l.rest

abbrev pub decreases-window : goal.decreases-window
decreases-window l = length l.rest
