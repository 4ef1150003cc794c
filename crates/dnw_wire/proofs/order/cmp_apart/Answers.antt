use Rattle.std.proofs.Common.{◌≡◌, ◌/◌, sym, ◌∙◌, true, false}
use Rattle.std.specs.Cmp.{ranked}
use Rattle.dnw_wire.proofs.Walk.{one_window, two_windows}
use Rattle.dnw_wire.proofs.order.cmp_apart.Goals as goal

pub returns-in-Equal : goal.returns-in-Equal
returns-in-Equal c =
    let same : c.args.code / 256 ≡ c.args.other / 256 = ranked (c.args.code / 256) (c.args.other / 256) _ (sym c.in-Equal.is ∙ c.cmp.ensures) in
    c.cmp_in_window.ensures ∙ one_window c.args.common c.args.code c.args.other c.args.later.now c.args.further.now same c.requires.apart c.requires.rises c.requires.other_rises

pub returns-then-shares_window : goal.returns-then-shares_window
returns-then-shares_window c =
    c.reverse.ensures
    ∙ two_windows c.args.common c.args.code c.args.other c.args.later.now c.args.further.now c.cmp.result c.cmp.ensures c.in_default.not-Equal c.min.result c.min.ensures true (sym c.if-shares_window.true ∙ c.shares_window.ensures) c.requires.rises c.requires.other_rises

pub returns-else-shares_window : goal.returns-else-shares_window
returns-else-shares_window c =
    two_windows c.args.common c.args.code c.args.other c.args.later.now c.args.further.now c.cmp.result c.cmp.ensures c.in_default.not-Equal c.min.result c.min.ensures false (sym c.if-shares_window.false ∙ c.shares_window.ensures) c.requires.rises c.requires.other_rises
