use Rattle.std.proofs.Common.{List, subst}
use Rattle.std.specs.Prelude.{IfErr, String}
use Rattle.std.proofs.Common.{◌⊎◌, length}
use Rattle.std.specs.List.{flat_map}
use Rattle.std.specs.declared.alloc.Global.{Global}
use Rattle.dnw_encoder.specs.Effects.{IsRefusal}
use Rattle.dnw_encoder.specs.Encoders.{state}
use Rattle.drd_param_keys.specs.Entries.{text_octets}
use Rattle.drd_param_keys.specs.Lists.{HasLongProtocol}
use Rattle.drd_param_keys.proofs.emit.AlpnBinEncodable.emit.Goals as goal

pub returns-clause-err : goal.returns-clause-err
returns-clause-err c =
    subst (λ (ts : List (String Global)). IfErr c.emit_entries.result (λ e. IsRefusal (state c.args.encoder.now) (length (flat_map text_octets ts)) e ⊎ HasLongProtocol ts e)) c.deref.ensures.value c.emit_entries.ensures.refused
