use Rattle.std.proofs.Common.{◌∙◌, sym, arith}
use Rattle.zst_map.specs.drd_rdata.Order.{rdata_eq}
use Rattle.std.specs.Prelude.{◌&&◌, ◌==◌}
use Rattle.zst_draft.specs.SetDrafts.{records_in}
use Rattle.zst_draft.proofs.Found.{any_here, any_more}
use Rattle.zst_draft.proofs.set.SetDraft.holds.Goals as goal

pub returns-then-is_same : goal.returns-then-is_same
returns-then-is_same c =
    any_here (λ s. rdata_eq s.rdata c.args.next.now.rdata && s.ttl == c.args.next.now.ttl) (records_in c.args.stored.now c.args.self.now.records) c.loop-at.at c.get.result.now
    (omega (arith, c.loop-at-test.true, c.len-at-end.ensures)) c.get.ensures (sym c.is_same.ensures ∙ c.if-is_same.true) c.loop-at.invariant

pub loop-at-preserved : goal.loop-at-preserved
loop-at-preserved c =
    any_more (λ s. rdata_eq s.rdata c.args.next.now.rdata && s.ttl == c.args.next.now.ttl) (records_in c.args.stored.now c.args.self.now.records) c.loop-at.at c.get.result.now
    (omega (arith, c.loop-at-test.true, c.len-at-end.ensures)) c.get.ensures (sym c.is_same.ensures ∙ c.if-is_same.false) c.loop-at.invariant
