use Rattle.std.proofs.Common.{◌≡◌, ◌==◌, length, sym, ◌∙◌, rules}
use Rattle.drd_params.proofs.SameLemmas.{params-end}
use Rattle.drd_params.proofs.same.are_equal.Goals as goal

pub returns : goal.returns
returns c =
    let none : length c.params.left.now ≡ 0 = search rules in
    let is : c.is_empty.result ≡ (length c.params.right.now == 0) = search rules in
    sym (c.params.invariant ∙ params-end c.is_empty.result c.params.left.now c.params.right.now none is)
