use Rattle.std.proofs.Common.{refl}
use Rattle.dnw_encoder.specs.dnw_decoder.Octets.{octets_32}
use Rattle.drd_fields.proofs.emit.octets_of_five.Goals as goal

pub returns : goal.returns
unfolding octets_32
returns c = rw (c.to_be_bytes.ensures, c.to_be_bytes-2.ensures, c.to_be_bytes-3.ensures, c.to_be_bytes-4.ensures, c.to_be_bytes-5.ensures) refl
