use Rattle.std.proofs.Common.{◌∙◌, sym, arith}
use Rattle.zst_map.specs.drd_rdata.Order.{rdata_eq}
use Rattle.zst_draft.specs.SetDrafts.{records_in}
use Rattle.zst_draft.proofs.Found.{place_here, place_more}
use Rattle.zst_draft.proofs.set.SetDraft.place_of.Goals as goal

pub returns-then-eq : goal.returns-then-eq
returns-then-eq c =
    place_here (λ s. rdata_eq s.rdata c.args.rdata.now) (records_in c.args.stored.now c.args.self.now.records) c.loop-at.at c.get.result.now
    (omega (arith, c.loop-at-test.true, c.len-at-end.ensures)) c.get.ensures (sym c.eq.ensures.value ∙ c.if-eq.true) c.loop-at.invariant

pub loop-at-preserved : goal.loop-at-preserved
loop-at-preserved c =
    place_more (λ s. rdata_eq s.rdata c.args.rdata.now) (records_in c.args.stored.now c.args.self.now.records) c.loop-at.at c.get.result.now
    (omega (arith, c.loop-at-test.true, c.len-at-end.ensures)) c.get.ensures (sym c.eq.ensures.value ∙ c.if-eq.false) c.loop-at.invariant
