use Rattle.std.specs.List.{flat_map}
use Rattle.drd_param_keys.specs.Entries.{key_octets}
use Rattle.drd_param_keys.specs.Lists.{AreKeys, RefusesKeys}
use Rattle.drd_param_keys.specs.declared.lists.Mandatory.{Mandatory}
use Rattle.drd_param_keys.proofs.Filling.{no-filling}
use Rattle.drd_param_keys.proofs.read.MandatoryBinDecodable.read.Goals as goal

pub returns-in-Err-clause-none : goal.returns-in-Err-clause-none
returns-in-Err-clause-none c =
    no-filling (λ (v : Mandatory). v.0.items) (flat_map key_octets) AreKeys (RefusesKeys c.take_rest.result.now c.in-Err.refused) c.args.decoder.now.octets c.args.decoder.now.index c.take_rest.result.now c.take_rest.new.decoder.index c.take_rest.ensures.fills
    c.in-Err.ensures.refused
