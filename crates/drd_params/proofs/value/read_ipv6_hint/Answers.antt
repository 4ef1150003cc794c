use Rattle.drd_params.proofs.NoValues.{no-ipv6}
use Rattle.drd_params.proofs.value.read_ipv6_hint.Goals as goal

pub returns-in-Err-clause-refused : goal.returns-in-Err-clause-refused
returns-in-Err-clause-refused c = no-ipv6 c.args.octets.now c.in-Err.refused c.in-Err.ensures.refused
