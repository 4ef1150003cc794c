use Rattle.std.proofs.Common.{rules, arith, ap, length}
use Rattle.dnw_encoder.proofs.StartLaws.{place_few, place_more}
use Rattle.dnw_encoder.proofs.starts.mark_place.Goals as goal
use Rattle.dnw_encoder.proofs.starts.mark_place.Goals.{then-labels-lt16, else-labels-lt16}

pub returns-clause-value : goal.returns-clause-value
returns-clause-value c =
    elim c.if-labels-lt16.branch [
      | then-labels-lt16 w ↦ place_few c.args.labels.now _ _ w.if-labels-lt16.true w.mixed-is c.word-first.ensures
      | else-labels-lt16 w ↦ place_more c.args.labels.now _ _ _ w.if-labels-lt16.false w.mixed-is c.word-first.ensures w.word.ensures
    ]
