use Rattle.std.proofs.Common.{◌∙◌}
use Rattle.dnw_encoder.specs.Encoders.{state}
use Rattle.dnw_encoder.proofs.Laws.{writes_then}
use Rattle.dnw_encoder.proofs.RollbackLaws.{wrote_more}
use Rattle.dnw_encoder.proofs.encoder.BinEncoder.emit_iter.Goals as goal

pub returns-in_err-emit_item-clause-writes : goal.returns-in_err-emit_item-clause-writes
returns-in_err-emit_item-clause-writes g c =
    writes_then (state c.args.self.now) (state c.items.self) (state c.emit_item.new.self) c.items.invariant.writes c.emit_item.ensures.writes

pub items-preserved : goal.items-preserved
items-preserved g c =
    let old = state c.args.self.now in
    let now = state c.items.self in
    let new = state c.emit_item.new.self in
    record {
      wrote = wrote_more _ _ c.args.iter.now c.items.iter c.next_of.new.iter c.items.count old now new c.in-Some.item c.items.invariant.wrote c.in-Some.ensures.steps c.in_ok-emit_item.ensures.ok c.emit_item.ensures.writes;
      writes = writes_then old now new c.items.invariant.writes c.emit_item.ensures.writes;
      can = c.in-Some.ensures.on;
      same_reference = c.emit_item.ensures.same_reference ∙ c.items.invariant.same_reference;
    }
