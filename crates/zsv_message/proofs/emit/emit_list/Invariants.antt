use Rattle.std.proofs.Common.{◌≡◌, length}
use Rattle.zsv_sections.specs.zst_record.dnw_codes.declared.error.ProtoError.{ProtoError}
use Rattle.zsv_sections.specs.zst_record.dnw_encoder.Effects.{Emitted, Writes}
use Rattle.zsv_sections.specs.zst_record.dnw_encoder.Encoders.{state}
use Rattle.zsv_sections.specs.zst_record.dnw_encoder.State.{State}
use Rattle.zsv_message.specs.Writing.{RefusesAmong}
use Rattle.zsv_message.proofs.emit.emit_list.Given as goal

abbrev pub invariant-values : goal.invariant-values
invariant-values g l = record {
  same_reference : l.encoder.buffer.ghost_name ≡ l.initial.encoder.buffer.ghost_name;
  writes : Writes (state l.initial.encoder) (state l.encoder);
  ok : (new : State) → Emitted g.E.BinEncodable.emits (state l.encoder) l.left new → Emitted g.E.BinEncodable.emits (state l.initial.encoder) l.initial.left new;
  cause : (e : ProtoError) (new : State) → RefusesAmong g.E.BinEncodable.emits (λ value at. g.E.BinEncodable.refuses value at e new) (state l.encoder) l.left
      → RefusesAmong g.E.BinEncodable.emits (λ value at. g.E.BinEncodable.refuses value at e new) (state l.initial.encoder) l.initial.left;
}

abbrev pub decreases-values : goal.decreases-values
decreases-values g l = length l.left
