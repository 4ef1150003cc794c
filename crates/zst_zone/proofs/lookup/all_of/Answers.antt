use Rattle.std.proofs.Common.{◌≡◌, ◌∙◌, map, sym, take_all}
use Rattle.zst_circle.specs.zst_handler.Answers.{set_in}
use Rattle.zst_zone.proofs.Answered.{shows-all, shows-many}
use Rattle.zst_zone.proofs.lookup.all_of.Goals as goal

pub returns : goal.returns
returns c =
    let all : map set_in c.loop-set.lent.items ≡ c.args.sets.now
    = c.loop-set.invariant.lent ∙ take_all c.loop-set.set-index c.args.sets.now c.loop-set-test.false in
    shows-all c.args.options c.args.sets.now c.many.result (sym c.is_empty.ensures ∙ c.if-is_empty.false)
    (shows-many c.args.options.dnssec_ok c.args.sets.now c.loop-set.lent.items _ c.many.ensures all)
