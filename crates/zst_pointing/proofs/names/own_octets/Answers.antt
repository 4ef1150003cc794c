use Rattle.std.proofs.Common.{◌≡◌, ℕ, List, ◌∷◌, [], ◌++◌, ap, arith, sym, true≢false, ◌∙◌}
use Rattle.std.proofs.lemmas.List.{same_from_push}
use Rattle.std.specs.Cmp.Lexicographic.{nat_list_eq_equiv, pointwise, same_text}
use Rattle.std.specs.Prelude.{nat_eq}
use Rattle.zst_pointing.proofs.OwnLabels.{compared_more, label_taken, own_some}
use Rattle.zst_pointing.proofs.names.own_octets.Goals as goal

pub labels-preserved : goal.labels-preserved
labels-preserved c =
    let label = c.in-Some.label.now in
    let other = c.in-Some-next_back.other.now in
    let same : other ≡ label = same_text other label (sym (sym c.eq.ensures ∙ c.if-eq.true)) in
    record {
      compared = compared_more c.args.name.now c.args.other.now c.next_back.new.self c.next_back-in-Some.new.self c.labels.labels c.labels.others label c.labels.invariant.compared
          c.in-Some.ensures.steps (c.in-Some-next_back.ensures.steps ∙ ap (λ (l : List ℕ). c.next_back-in-Some.new.self ++ l ∷ []) same);
      own = omega (arith, c.labels.invariant.own, label_taken c.next_back.new.self c.labels.labels label c.in-Some.ensures.steps);
    }

pub returns-in_default-next_back : goal.returns-in_default-next_back
returns-in_default-next_back c =
    let label = c.in-Some.label.now in
    let other = c.in-Some-next_back.other.now in
    own_some c.args.name.now c.args.other.now c.next_back.new.self c.labels.others c.labels.labels label c.labels.own c.labels.invariant.compared c.in-Some.ensures.steps c.labels.invariant.own
    (λ front is.
    let last = same_from_push c.next_back-in-Some.new.self front other label (sym c.in-Some-next_back.ensures.steps ∙ is) in
    true≢false (sym (nat_list_eq_equiv.refl label) ∙ ap (λ (l : List ℕ). pointwise nat_eq l label) (sym last.1) ∙ sym c.eq.ensures ∙ c.if-eq.false))
