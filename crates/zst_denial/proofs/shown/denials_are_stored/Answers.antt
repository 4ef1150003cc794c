use Rattle.zst_denial.proofs.ShownSets.{nsec3_shown, nsec_shown}
use Rattle.zst_denial.proofs.shown.denials_are_stored.Goals as goal

pub returns-clause-nsec : goal.returns-clause-nsec
returns-clause-nsec c = nsec_shown

pub returns-clause-nsec3 : goal.returns-clause-nsec3
returns-clause-nsec3 c = nsec3_shown
