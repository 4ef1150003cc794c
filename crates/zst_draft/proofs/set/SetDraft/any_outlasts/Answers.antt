use Rattle.std.proofs.Common.{◌∙◌, sym, arith}
use Rattle.zst_map.specs.zst_record.RecordSets.{outlasts}
use Rattle.zst_draft.specs.SetDrafts.{records_in}
use Rattle.zst_draft.proofs.Found.{any_here, any_more}
use Rattle.zst_draft.proofs.set.SetDraft.any_outlasts.Goals as goal

pub returns-then-outlasts : goal.returns-then-outlasts
returns-then-outlasts c =
    any_here (λ s. outlasts s.rdata c.args.rdata.now) (records_in c.args.stored.now c.args.self.now.records) c.loop-at.at c.get.result.now
    (omega (arith, c.loop-at-test.true, c.len-at-end.ensures)) c.get.ensures (sym c.outlasts.ensures ∙ c.if-outlasts.true) c.loop-at.invariant

pub loop-at-preserved : goal.loop-at-preserved
loop-at-preserved c =
    any_more (λ s. outlasts s.rdata c.args.rdata.now) (records_in c.args.stored.now c.args.self.now.records) c.loop-at.at c.get.result.now
    (omega (arith, c.loop-at-test.true, c.len-at-end.ensures)) c.get.ensures (sym c.outlasts.ensures ∙ c.if-outlasts.false) c.loop-at.invariant
