use Rattle.std.proofs.Common.{◌≡◌, ◌<◌, ◌∷◌, length, sym, ◌∙◌, rules, arith}
use Rattle.std.proofs.lemmas.Bool.Decides.{nat_tests}
use Rattle.drd_params.proofs.OrderLemmas.{cmp-end, cmp-longer}
use Rattle.drd_params.proofs.list_data.cmp_all.Goals as goal

pub returns-in_default-split_first : goal.returns-in_default-split_first
returns-in_default-split_first g c =
    let at : c.entries.left.now ≡ c.in-Some.entry.now ∷ c.in-Some.later.now = search rules in
    let none : length c.entries.right.now ≡ 0 = search rules in
    cmp-longer g.T.Entry.spelled g.T.Entry.laws.0 c.in-Some.entry.now c.in-Some.later.now c.entries.left.now c.entries.right.now at none ∙ sym c.entries.invariant

pub returns-else-is_empty : goal.returns-else-is_empty
returns-else-is_empty g c =
    let none : length c.entries.left.now ≡ 0 = search rules in
    let some : 0 < length c.entries.right.now = grind (arith, nat_tests) in
    cmp-end g.T.Entry.spelled g.T.Entry.laws.0 c.entries.left.now c.entries.right.now none some ∙ sym c.entries.invariant
