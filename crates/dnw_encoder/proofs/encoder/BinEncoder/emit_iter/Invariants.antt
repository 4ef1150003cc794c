use Rattle.std.proofs.Common.{◌≡◌}
use Rattle.dnw_encoder.specs.Effects.{Wrote, Writes}
use Rattle.dnw_encoder.specs.Encoders.{state}
use Rattle.dnw_encoder.proofs.encoder.BinEncoder.emit_iter.Given as goal

abbrev pub invariant-items : goal.invariant-items
invariant-items g l = record {
  wrote : Wrote g.I.Iterator.next_gives g.I.Item.BinEncodable.emits l.initial.iter l.iter l.count (state l.initial.self) (state l.self);
  writes : Writes (state l.initial.self) (state l.self);
  can : g.I.Iterator.can_next l.iter;
  same_reference : l.self.buffer.ghost_name ≡ l.initial.self.buffer.ghost_name;
}
