use Rattle.std.proofs.Common.{◌⊎◌, sym, subst}
use Rattle.drd_params.specs.dnw_decoder.Reading.{IsWantOfMemory}
use Rattle.drd_param_keys.specs.declared.key.SvcParamKey.{SvcParamKey}
use Rattle.drd_params.specs.Refusals.{NoValue}
use Rattle.drd_params.proofs.NoValues.{no-alpn, no-mandatory}
use Rattle.drd_params.proofs.value.SvcParamValue.read.Goals as goal

pub returns-in-Err-clause-refused : goal.returns-in-Err-clause-refused
returns-in-Err-clause-refused c =
    subst (λ (k : SvcParamKey). IsWantOfMemory c.in-Err.refused ⊎ NoValue k c.args.octets.now c.in-Err.refused) (sym c.in-Mandatory.is)
    (no-mandatory c.args.octets.now c.in-Err.refused c.in-Err.ensures.refused)

pub returns-in-Err-read_alpn-clause-refused : goal.returns-in-Err-read_alpn-clause-refused
returns-in-Err-read_alpn-clause-refused c =
    subst (λ (k : SvcParamKey). IsWantOfMemory c.in-Err-read_alpn.refused ⊎ NoValue k c.args.octets.now c.in-Err-read_alpn.refused) (sym c.in-Alpn.is)
    (no-alpn c.args.octets.now c.in-Err-read_alpn.refused c.in-Err-read_alpn.ensures.refused)
