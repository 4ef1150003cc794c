use Rattle.std.proofs.Common.{◌≡◌, ◌==◌, Bool, true, false, ◌∷◌, length, subst, rules}
use Rattle.drd_params.specs.drd_fields.Equality.{TellsApart}
use Rattle.drd_params.proofs.ListLemmas.{lists-end, lists-more, lists-short}
use Rattle.drd_params.proofs.list_data.are_same.Goals as goal

pub returns-in_default-split_first : goal.returns-in_default-split_first
returns-in_default-split_first g c =
    let at : c.entries.left.now ≡ c.in-Some.entry.now ∷ c.in-Some.later.now = search rules in
    let none : length c.entries.right.now ≡ 0 = search rules in
    c.entries.invariant false (lists-short g.T.Entry.spelled g.T.Entry.laws.0 c.in-Some.entry.now c.in-Some.later.now c.entries.left.now c.entries.right.now at none)

pub entries-preserved : goal.entries-preserved
entries-preserved g c = λ b tells.
    let entry = c.in-Some.entry.now in
    let other = c.in-Some-split_first.other.now in
    let at : c.entries.left.now ≡ entry ∷ c.in-Some.later.now = search rules in
    let beside : c.entries.right.now ≡ other ∷ c.in-Some-split_first.behind.now = search rules in
    let is : c.same.result ≡ true = search rules in
    c.entries.invariant b (lists-more g.T.Entry.spelled true b entry other c.in-Some.later.now c.in-Some-split_first.behind.now c.entries.left.now c.entries.right.now at beside
    (subst (λ (t : Bool). TellsApart t (g.T.Entry.spelled entry) (g.T.Entry.spelled other)) is c.same.ensures) tells)

pub returns : goal.returns
returns g c =
    let none : length c.entries.left.now ≡ 0 = search rules in
    let is : c.is_empty.result ≡ (length c.entries.right.now == 0) = search rules in
    c.entries.invariant c.is_empty.result (lists-end g.T.Entry.spelled g.T.Entry.laws.0 c.is_empty.result c.entries.left.now c.entries.right.now none is)
