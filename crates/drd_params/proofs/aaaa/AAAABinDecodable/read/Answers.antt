use Rattle.drd_params.specs.AddressFields.{aaaa_fields}
use Rattle.drd_fields.proofs.NoneLaws.{none_there}
use Rattle.drd_params.proofs.aaaa.AAAABinDecodable.read.Goals as goal

pub returns-clause-none : goal.returns-clause-none
returns-clause-none c = none_there aaaa_fields c.args.decoder.now.octets c.args.decoder.now.index c.read_value.result c.read_value.ensures.none
