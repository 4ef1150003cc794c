use Rattle.std.proofs.Common.{rules}
use Rattle.drd_rdata.specs.dnw_decoder.Octets.{octets_32}
use Rattle.zst_record.proofs.records.RecordRef.head_numbers.Goals as goal

pub returns-clause-octets : goal.returns-clause-octets
unfolding octets_32
returns-clause-octets c = search rules
