use Rattle.drd_svcb.proofs.ParamWords.{Done}
use Rattle.drd_svcb.proofs.words.ParamWordsWords.from_words.Given as goal

abbrev pub invariant-words : goal.invariant-words
invariant-words l = Done l.params.items l.fn.words l.word-index l.least
