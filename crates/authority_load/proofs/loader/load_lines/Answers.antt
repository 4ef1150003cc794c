use Rattle.std.proofs.Common.{sym, ap, ◌∙◌, subst, length, take, arith, rules}
use Rattle.std.specs.Str.Lines.{lines}
use Rattle.std.proofs.Math.Seq.{take-length}
use Rattle.std.proofs.lemmas.List.{length_push}
use Rattle.std.proofs.lemmas.Iterator.Splits.{YieldsList-from_lines}
use Rattle.std.proofs.lemmas.Iterator.Consumers.{YieldsList-turn, YieldsList-end}
use Rattle.authority_load.specs.ZoneText.{Loads}
use Rattle.authority_load.proofs.Loads.{loads_more, refused_at}
use Rattle.authority_load.proofs.loader.load_lines.Goals as goal

pub returns-in-Err-clause-refused : goal.returns-in-Err-clause-refused
returns-in-Err-clause-refused c =
    let t = YieldsList-turn (YieldsList-from_lines c.args.text.now (search rules)) c.loop-line.yielded _ c.loop-line.yielded_by _ _ c.in-Some.line c.in-Some.is c.next.ensures.steps in
    refused_at c.args.zone.now c.loop-line.zone c.args.text.now (length c.loop-line.yielded) c.loop-line.number c.in-Some.line.now c.in-Err.cause t c.loop-line.invariant.count c.loop-line.invariant.loads
    c.in-Err.ensures

pub loop-line-preserved : goal.loop-line-preserved
loop-line-preserved c =
    let t = YieldsList-turn (YieldsList-from_lines c.args.text.now (search rules)) c.loop-line.yielded _ c.loop-line.yielded_by _ _ c.in-Some.line c.in-Some.is c.next.ensures.steps in
    let n = length_push c.loop-line.yielded c.in-Some.line in
    record {
      count = omega (arith, c.loop-line.invariant.count);
      loads = subst (λ k. Loads c.args.zone.now (take k (lines c.args.text.now)) c.load_line.new.zone) (sym n)
          (loads_more c.args.zone.now (lines c.args.text.now) (length c.loop-line.yielded) c.in-Some.line.now c.loop-line.zone c.load_line.new.zone t c.loop-line.invariant.loads c.in-Ok.ensures);
    }

pub returns-clause-loads : goal.returns-clause-loads
returns-clause-loads c =
    let t = YieldsList-end (YieldsList-from_lines c.args.text.now (search rules)) c.loop-line.yielded _ c.loop-line.yielded_by _ _ c.in-None.is c.next.ensures.steps in
    subst (λ xs. Loads c.args.zone.now xs c.loop-line.zone) (ap (λ k. take k (lines c.args.text.now)) t.1 ∙ take-length (lines c.args.text.now)) c.loop-line.invariant.loads
