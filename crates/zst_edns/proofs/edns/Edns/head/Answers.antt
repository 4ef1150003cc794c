use Rattle.std.proofs.Common.{rules}
use Rattle.drd_types.specs.dnw_decoder.Octets.{octets_32}
use Rattle.zst_edns.proofs.edns.Edns.head.Goals as goal

pub returns-clause-octets : goal.returns-clause-octets
unfolding octets_32
returns-clause-octets c = search rules
