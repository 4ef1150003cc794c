use Rattle.std.proofs.Common.{sym, None}
use Rattle.zst_zone.proofs.Answered.{answers-one, nothing-beside}
use Rattle.zst_zone.proofs.lookup.answer_alone.Goals as goal

pub returns : goal.returns
returns c =
    answers-one c.args.options c.args.sets.now c.args.name.now c.args.record_type c.args.first c.requires.found c.requires.kept
    (sym c.requires.leads) c.in_ok-answer.field-0 c.in_ok-answer.ensures c.new-answers.result None c.new-answers.ensures
    (nothing-beside c.args.sets.now c.args.first.set.now c.args.options.dnssec_ok c.requires.alone)
