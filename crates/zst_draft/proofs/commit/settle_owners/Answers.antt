use Rattle.std.proofs.Common.{subst}
use Rattle.std.specs.List.{AllByRecursion}
use Rattle.zst_draft.specs.Settling.{CanSettleAll, CanSettleOwner, AreReady, IsReady}
use Rattle.zst_draft.proofs.Settled.{all_before, remains}
use Rattle.zst_draft.proofs.commit.settle_owners.Goals as goal

pub settle_owner-requires-clause-can : goal.settle_owner-requires-clause-can
settle_owner-requires-clause-can c =
    (all_before (λ other. CanSettleOwner c.owners.zone.sets other.0 other.1.sets.items) c.pop.new.self.items (c.in-Some.key, c.in-Some.owner)
    (subst (CanSettleAll c.owners.zone.sets) c.in-Some.ensures.items c.owners.invariant.can).each).1

pub settle_owner-requires-clause-ready : goal.settle_owner-requires-clause-ready
settle_owner-requires-clause-ready c =
    (all_before (λ other. AllByRecursion (IsReady c.owners.zone.sets other.0) other.1.sets.items) c.pop.new.self.items (c.in-Some.key, c.in-Some.owner)
    (subst (AreReady c.owners.zone.sets) c.in-Some.ensures.items c.owners.invariant.ready)).1

pub owners-preserved : goal.owners-preserved
owners-preserved c =
    remains c.args.zone.now c.owners.zone c.settle_owner.new.zone c.args.owners.items c.owners.left.items c.pop.new.self.items c.in-Some.key c.in-Some.owner c.settle_owner.new.owner
    c.owners.invariant c.in-Some.ensures.items c.settle_owner.ensures.settles c.settle_owner.ensures.done
