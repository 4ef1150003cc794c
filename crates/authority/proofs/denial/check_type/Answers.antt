use Rattle.authority.proofs.Certified.{certified_type}
use Rattle.authority.proofs.denial.check_type.Goals as goal

pub returns-clause-certifies : goal.returns-clause-certifies
returns-clause-certifies c = certified_type c.check_type.result c.args.reply.now c.args.name.now c.args.record_type c.check_type.ensures.exact
