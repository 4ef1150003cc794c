use Rattle.std.proofs.Common.{inl, inr, ap}
use Rattle.dnw_encoder.specs.State.{writes_pointers}
use Rattle.dnw_encoder.proofs.encoder.BinEncoder.emit_name.Goals as goal

pub emit_in_full-requires : goal.emit_in_full-requires
unfolding writes_pointers
emit_in_full-requires c = record {
  in_full = elim c.in-Uncompressed.is [ inl e ↦ ap writes_pointers e | inr e ↦ ap writes_pointers e ];
  fits = c.requires;
}
