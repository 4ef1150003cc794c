use Rattle.drd_param_keys.proofs.Commas.{ahead-more, ahead-refused, first-part}
use Rattle.drd_param_keys.proofs.texts.entries_of.Goals as goal

pub returns-in-Err-clause-refused : goal.returns-in-Err-clause-refused
returns-in-Err-clause-refused g c =
    ahead-refused g.T.Entry.written g.T.Entry.unwritten c.in-Err.refused c.args.text.now c.entries.entries.items c.in-Some.left c.cut_at_comma.result.0.now c.cut_at_comma.result.1
    (rw c.in-Some.is at c.entries.invariant)
    (first-part c.in-Some.left.now c.cut_at_comma.result.0.now c.cut_at_comma.result.1 c.cut_at_comma.ensures) c.in-Err.ensures.cause

pub entries-preserved : goal.entries-preserved
entries-preserved g c =
    ahead-more g.T.Entry.written c.args.text.now c.entries.entries.items c.push.new.self.items c.in-Some.left c.cut_at_comma.result.0.now c.cut_at_comma.result.1
    c.in-Ok.entry (rw c.in-Some.is at c.entries.invariant)
    (first-part c.in-Some.left.now c.cut_at_comma.result.0.now c.cut_at_comma.result.1 c.cut_at_comma.ensures) c.in-Ok.ensures.ok c.in-Ok-push.ensures.items
