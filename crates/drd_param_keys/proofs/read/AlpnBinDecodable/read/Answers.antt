use Rattle.std.specs.List.{flat_map}
use Rattle.drd_param_keys.specs.Entries.{text_octets}
use Rattle.drd_param_keys.specs.Lists.{AreProtocols, RefusesProtocols}
use Rattle.drd_param_keys.specs.declared.lists.Alpn.{Alpn}
use Rattle.drd_param_keys.proofs.Filling.{no-filling}
use Rattle.drd_param_keys.proofs.read.AlpnBinDecodable.read.Goals as goal

pub returns-in-Err-clause-none : goal.returns-in-Err-clause-none
returns-in-Err-clause-none c =
    no-filling (λ (v : Alpn). v.0.items) (flat_map text_octets) AreProtocols (RefusesProtocols c.take_rest.result.now c.in-Err.refused) c.args.decoder.now.octets c.args.decoder.now.index c.take_rest.result.now c.take_rest.new.decoder.index c.take_rest.ensures.fills
    c.in-Err.ensures.refused
