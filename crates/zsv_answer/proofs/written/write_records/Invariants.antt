use Rattle.std.proofs.Common.{◌≡◌, ◌≤◌, ◌++◌, List, length}
use Rattle.zsv_reply.specs.zst_pointing.Pointing.{ArePointing}
use Rattle.zsv_reply.specs.zst_record.declared.records.Record.{Record}
use Rattle.zsv_answer.proofs.written.write_records.Given as goal

abbrev pub invariant-records : goal.invariant-records
invariant-records l = record {
  few : l.count ≤ 100;
  written : (taken : List Record) × (l.initial.left ≡ taken ++ l.left) × (length taken ≡ l.count) × ArePointing l.asked taken l.octets.items;
}

abbrev pub decreases-records : goal.decreases-records
decreases-records l = length l.left
