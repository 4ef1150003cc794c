use Rattle.drd_params.proofs.NoValues.{no-ipv4}
use Rattle.drd_params.proofs.value.read_ipv4_hint.Goals as goal

pub returns-in-Err-clause-refused : goal.returns-in-Err-clause-refused
returns-in-Err-clause-refused c = no-ipv4 c.args.octets.now c.in-Err.refused c.in-Err.ensures.refused
