use Rattle.std.proofs.Common.{rules}
use Rattle.drd_caa.specs.Issue.{trim}
use Rattle.drd_caa.proofs.issuer.trimmed.Goals as goal

pub returns : goal.returns
unfolding trim
returns c = search rules
