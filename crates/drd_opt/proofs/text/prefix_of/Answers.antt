use Rattle.std.proofs.Common.{rules}
use Rattle.drd_words.proofs.Numbers.{number-read, number-refused}
use Rattle.drd_opt.proofs.text.prefix_of.Goals as goal

pub returns-in-Ok-clause-ok : goal.returns-in-Ok-clause-ok
returns-in-Ok-clause-ok c = number-read 8 c.in-Ok.number c.args.digits.now c.in-Ok.ensures.value.0 (search rules)

pub returns-in-Err-clause-refused : goal.returns-in-Err-clause-refused
returns-in-Err-clause-refused c = number-refused 8 c.args.digits.now c.in-Err.field-0 c.in-Err.ensures.value.0 (search rules)
