use Rattle.drd_caa.proofs.Issuers.{reads-back}
use Rattle.drd_caa.proofs.issuer.read_issuer.Goals as goal

pub returns-clause-back : goal.returns-clause-back
returns-clause-back c = reads-back (λ v. v.items) c.args.octets.now c.issue_of.result c.issue_of.ensures.ok c.issue_of.ensures.refused
