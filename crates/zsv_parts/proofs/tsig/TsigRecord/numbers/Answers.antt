use Rattle.std.proofs.Common.{rules}
use Rattle.dnw_encoder.specs.dnw_decoder.Octets.{octets_32}
use Rattle.zsv_parts.proofs.tsig.TsigRecord.numbers.Goals as goal

pub returns-clause-octets : goal.returns-clause-octets
unfolding octets_32
returns-clause-octets c = search rules
