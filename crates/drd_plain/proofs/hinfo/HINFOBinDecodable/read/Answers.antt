use Rattle.drd_plain.specs.Fields.{hinfo_fields}
use Rattle.drd_fields.proofs.NoneLaws.{none_there}
use Rattle.drd_plain.proofs.hinfo.HINFOBinDecodable.read.Goals as goal

pub returns-clause-none : goal.returns-clause-none
returns-clause-none c = none_there hinfo_fields c.args.decoder.now.octets c.args.decoder.now.index c.read_value.result c.read_value.ensures.none
