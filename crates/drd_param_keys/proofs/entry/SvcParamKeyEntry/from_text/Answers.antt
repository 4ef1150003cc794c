use Rattle.std.proofs.Common.{inr}
use Rattle.drd_param_keys.specs.Keys.{key_of_text}
use Rattle.drd_words.specs.dnw_codes.declared.error.ParseError.TheVariants.{UnexpectedToken}
use Rattle.drd_param_keys.proofs.KeyTexts.{key-found, key-none}
use Rattle.drd_param_keys.proofs.entry.SvcParamKeyEntry.from_text.Goals as goal

pub returns-in-Ok-clause-ok : goal.returns-in-Ok-clause-ok
returns-in-Ok-clause-ok c = key-found (key_of_text c.args.text.now) c.in-Ok.key UnexpectedToken c.in-Ok.ensures.value

pub returns-in-Err-clause-cause : goal.returns-in-Err-clause-cause
returns-in-Err-clause-cause c = inr (key-none (key_of_text c.args.text.now) c.in-Err.refused UnexpectedToken c.in-Err.ensures.value)
