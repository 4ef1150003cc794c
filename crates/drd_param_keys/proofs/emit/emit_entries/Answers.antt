use Rattle.std.proofs.Common.{◌≤◌, length, ◌∙◌, arith}
use Rattle.dnw_encoder.specs.Encoders.{state}
use Rattle.dnw_encoder.proofs.Laws.{writes_then}
use Rattle.drd_param_keys.proofs.Putting.{within_then}
use Rattle.drd_param_keys.proofs.Emitting.{put-more, put-refused}
use Rattle.drd_param_keys.proofs.emit.emit_entries.Goals as goal

pub returns-in-Err-clause-writes : goal.returns-in-Err-clause-writes
returns-in-Err-clause-writes g c =
    writes_then (state c.args.encoder.now) (state c.entries.encoder) (state c.emit_entry.new.encoder) c.entries.invariant.put.writes c.emit_entry.ensures.writes

pub returns-in-Err-clause-within : goal.returns-in-Err-clause-within
returns-in-Err-clause-within g c =
    within_then (state c.args.encoder.now) (state c.entries.encoder) (state c.emit_entry.new.encoder) c.entries.invariant.put.writes.modes.maximum c.emit_entry.ensures.writes.forward c.entries.invariant.put.within c.emit_entry.ensures.within

pub returns-in-Err-clause-refused : goal.returns-in-Err-clause-refused
returns-in-Err-clause-refused g c =
    put-refused g.T.Entry.spelled g.T.Entry.too_long c.args.entries.now c.entries.entry-index c.entry-item.result (state c.args.encoder.now) (state c.entries.encoder) c.in-Err.refused
    (omega arith) c.entry-item.is c.entries.invariant.put c.in-Err.ensures.refused

pub entries-preserved : goal.entries-preserved
entries-preserved g c =
    let old = state c.args.encoder.now in
    let within : old.offset ≤ length old.octets = omega (arith, c.offset-start.ensures.value, c.offset-start.ensures.within) in
    record {
      same = c.emit_entry.ensures.same_reference ∙ c.entries.invariant.same;
      put = put-more g.T.Entry.spelled c.args.entries.now c.entries.entry-index c.entry-item.result c.entry-item.result old (state c.entries.encoder) (state c.emit_entry.new.encoder)
          (omega arith) within c.entry-item.is c.entries.invariant.put c.in-Ok.ensures.ok c.emit_entry.ensures.writes c.emit_entry.ensures.within;
    }
