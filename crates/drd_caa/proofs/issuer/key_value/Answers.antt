use Rattle.drd_caa.proofs.Parameters.{key-IsUtf8, value-IsUtf8, for_memory}
use Rattle.drd_caa.proofs.issuer.key_value.Goals as goal

pub returns-in-Err-clause-refused : goal.returns-in-Err-clause-refused
returns-in-Err-clause-refused c = for_memory (rw c.in-Err.is at c.text_of.ensures.refused) (key-IsUtf8 c.args.key.now c.requires.key)

pub returns-in-Err-text_of-clause-refused : goal.returns-in-Err-text_of-clause-refused
returns-in-Err-text_of-clause-refused c = for_memory (rw c.in-Err-text_of.is at c.text_of-2.ensures.refused) (value-IsUtf8 c.args.value.now c.requires.value)
