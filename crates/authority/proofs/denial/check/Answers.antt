use Rattle.authority.proofs.Certified.{certified_name}
use Rattle.authority.proofs.denial.check.Goals as goal

pub returns-clause-certifies : goal.returns-clause-certifies
returns-clause-certifies c = certified_name c.check.result c.args.reply.now c.args.name.now c.check.ensures.exact
