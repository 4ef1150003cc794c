use Rattle.std.proofs.Common.{rules}
use Rattle.dnw_decoder.specs.Octets.{octets_32}
use Rattle.dnw_encoder.proofs.encoder.BinEncoder.emit_u32.Goals as goal

pub returns-clause-ok : goal.returns-clause-ok
unfolding octets_32
returns-clause-ok c = search rules
