use Rattle.std.proofs.Common.{sym, ap, ◌∙◌, subst, length, take, rules}
use Rattle.std.specs.Str.Lines.{lines}
use Rattle.std.proofs.Math.Seq.{take-length}
use Rattle.std.proofs.lemmas.List.{length_push}
use Rattle.std.proofs.lemmas.Iterator.Splits.{YieldsList-from_lines}
use Rattle.std.proofs.lemmas.Iterator.Consumers.{YieldsList-turn, YieldsList-end}
use Rattle.zsv_blocked.specs.BlockedNames.{AddsLines}
use Rattle.zsv_blocked.proofs.AddsLemmas.{adds_more}
use Rattle.zsv_blocked.proofs.names.BlockedNames.add_lines.Goals as goal

pub loop-line-preserved : goal.loop-line-preserved
loop-line-preserved c =
    let t = YieldsList-turn (YieldsList-from_lines c.args.text.now (search rules)) c.loop-line.yielded _ c.loop-line.yielded_by _ _ c.in-Some.line c.in-Some.is c.next.ensures.steps in
    let n = length_push c.loop-line.yielded c.in-Some.line in
    subst (λ k. AddsLines c.args.self.now (take k (lines c.args.text.now)) c.add_line.new.self) (sym n)
    (adds_more c.args.self.now (lines c.args.text.now) (length c.loop-line.yielded) c.in-Some.line.now c.loop-line.self c.add_line.new.self t c.loop-line.invariant c.in_ok-add_line.ensures)

pub returns : goal.returns
returns c =
    let t = YieldsList-end (YieldsList-from_lines c.args.text.now (search rules)) c.loop-line.yielded _ c.loop-line.yielded_by _ _ c.in-None.is c.next.ensures.steps in
    subst (λ xs. AddsLines c.args.self.now xs c.loop-line.self) (ap (λ k. take k (lines c.args.text.now)) t.1 ∙ take-length (lines c.args.text.now)) c.loop-line.invariant
