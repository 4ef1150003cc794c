use Rattle.authority_denial.proofs.EqualNames.{covers_same, lacks_same}
use Rattle.authority_denial.proofs.laws.equal_names_are_denied.Goals as goal

pub returns-clause-name : goal.returns-clause-name
returns-clause-name c = covers_same

pub returns-clause-record_type : goal.returns-clause-record_type
returns-clause-record_type c = lacks_same
