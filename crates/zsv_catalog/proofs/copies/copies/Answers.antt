use Rattle.std.proofs.Common.{arith}
use Rattle.zsv_catalog.proofs.Copied.{more_copies}
use Rattle.zsv_catalog.proofs.copies.copies.Goals as goal

pub loop-record-preserved : goal.loop-record-preserved
loop-record-preserved c = record {
  copied = more_copies _ _ _ _ _ _ _ (omega arith) c.record-item.is c.loop-record.invariant.copied c.in_ok-copy_of.ensures c.in_ok-push.ensures.items;
}
