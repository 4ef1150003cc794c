use Rattle.std.proofs.Common.{◌≡◌, take, map}
use Rattle.drd_words.proofs.words.texts.Given as goal

abbrev pub invariant-words : goal.invariant-words
invariant-words g l = map (λ w. w.now) l.texts.items ≡ map g.S.AsStr.text (take l.word-index l.words.items)
