use Rattle.std.proofs.Common.{◌≡◌, length, reverse}
use Rattle.drd_caa.specs.Issue.{behind_blanks}
use Rattle.drd_caa.proofs.issuer.trim_end.Given as goal

abbrev pub invariant-blanks : goal.invariant-blanks
invariant-blanks l = behind_blanks (reverse l.rest) ≡ behind_blanks (reverse l.octets)

abbrev pub decreases-blanks : goal.decreases-blanks
decreases-blanks l = length l.rest
