use Rattle.std.proofs.Common.{take, map}
use Rattle.std.specs.Option.{option_copied}
use Rattle.drd_words.specs.Words.{EachWord}
use Rattle.drd_words.proofs.words.VecWords.from_words.Given as goal

abbrev pub invariant-words : goal.invariant-words
invariant-words g l =
    EachWord (λ x word. g.A.Word.written word (option_copied l.fn.origin) x) l.values.items (map (λ w. w.now) (take l.word-index l.fn.words))
