use Rattle.std.proofs.Common.{◌≡◌, length}
use Rattle.drd_caa.specs.Issue.{behind_blanks}
use Rattle.drd_caa.proofs.issuer.trim_start.Given as goal

abbrev pub invariant-blanks : goal.invariant-blanks
invariant-blanks l = behind_blanks l.rest ≡ behind_blanks l.octets

abbrev pub decreases-blanks : goal.decreases-blanks
decreases-blanks l = length l.rest
