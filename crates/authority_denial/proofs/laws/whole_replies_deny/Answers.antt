use Rattle.authority_denial.proofs.Whole.{whole_denies_name, whole_denies_type}
use Rattle.authority_denial.proofs.laws.whole_replies_deny.Goals as goal

pub returns-clause-name : goal.returns-clause-name
returns-clause-name c = whole_denies_name

pub returns-clause-record_type : goal.returns-clause-record_type
returns-clause-record_type c = whole_denies_type
