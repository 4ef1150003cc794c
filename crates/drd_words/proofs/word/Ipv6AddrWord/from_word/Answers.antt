use Rattle.std.proofs.Common.{refl, inr}
use Rattle.drd_words.proofs.word.Ipv6AddrWord.from_word.Goals as goal

pub returns-in-Err-clause-refused : goal.returns-in-Err-clause-refused
returns-in-Err-clause-refused c = inr c.in-Err.ensures.value

pub returns-in-Err-clause-cause : goal.returns-in-Err-clause-cause
returns-in-Err-clause-cause c = inr (refl, c.in-Err.ensures.value)
