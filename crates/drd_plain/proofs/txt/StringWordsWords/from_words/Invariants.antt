use Rattle.std.proofs.Common.{take, map}
use Rattle.drd_words.specs.Word.{IsStringWord}
use Rattle.drd_words.specs.Words.{EachWord}
use Rattle.drd_plain.proofs.txt.StringWordsWords.from_words.Given as goal

abbrev pub invariant-words : goal.invariant-words
invariant-words l = EachWord IsStringWord (map (λ s. s.items) l.strings.items) (map (λ w. w.now) (take l.word-index l.fn.words))
