use Rattle.std.proofs.Common.{take, map}
use Rattle.drd_words.specs.Words.{EachWord}
use Rattle.drd_csync.specs.Texts.{IsTypeWord}
use Rattle.drd_csync.proofs.types.TypeWordsWords.from_words.Given as goal

abbrev pub invariant-words : goal.invariant-words
invariant-words l = EachWord IsTypeWord l.types.items (map (λ w. w.now) (take l.word-index l.fn.words))
