-- Parameters are compared by an equivalence.
use Rattle.std.specs.Cmp.{IsEquivalence}
use Rattle.std.specs.Cmp.Lexicographic.{on_texts_equal}
use Rattle.std.proofs.lemmas.Cmp.{and_equiv}
use Rattle.drd_caa.specs.Issue.{parameter_eq}

pub parameter_equiv : IsEquivalence parameter_eq
parameter_equiv = and_equiv (on_texts_equal (λ p. p.key)) (on_texts_equal (λ p. p.value))
