use Rattle.std.proofs.Common.{inl, inr, sym, ap}
use Rattle.dnw_encoder.specs.State.{writes_pointers}
use Rattle.dnw_encoder.proofs.modes.NameEncoding.writes_pointers.Goals as goal

pub returns-in-Compressed : goal.returns-in-Compressed
unfolding writes_pointers
returns-in-Compressed c = sym (ap writes_pointers c.in-Compressed.is)

pub returns-in-Uncompressed : goal.returns-in-Uncompressed
unfolding writes_pointers
returns-in-Uncompressed c = elim c.in-Uncompressed.is [ inl e ↦ sym (ap writes_pointers e) | inr e ↦ sym (ap writes_pointers e) ]
