use Rattle.authority_denial.proofs.Whole.{covered_in_parts, lacked_in_parts}
use Rattle.authority_denial.proofs.laws.denials_are_of_the_parts.Goals as goal

pub returns-clause-name : goal.returns-clause-name
returns-clause-name c = covered_in_parts

pub returns-clause-record_type : goal.returns-clause-record_type
returns-clause-record_type c = lacked_in_parts
