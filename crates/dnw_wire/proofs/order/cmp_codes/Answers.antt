use Rattle.std.proofs.Common.{◌≡◌, ◌∷◌, [], ℕ, ◌⊎◌, inl, inr, sym, ap, ◌∙◌}
use Rattle.std.proofs.lemmas.List.{nil_from_length}
use Rattle.dnw_wire.proofs.Walk.{rises_next, walk_next, walk_end}
use Rattle.dnw_wire.proofs.order.cmp_codes.Goals as goal
use Rattle.dnw_wire.proofs.order.cmp_codes.Goals.{in_default, in_default-2}

pub types-preserved : goal.types-preserved
types-preserved c =
    let common = c.types.common in
    let code = c.in-Some-Some.code.now in
    let later = c.in-Some-Some.later.now in
    let further = c.in-Some-Some.further.now in
    let left = c.in-Some-Some.ensures.cases.0 in
    let right = c.in-Some-Some.ensures'.cases.0 in
    let same = walk_next common code c.in-Some-Some.other.now later further c.types.left.now c.types.right.now left right c.if-code-other.false c.types.invariant.rises c.types.invariant.other_rises in
    record {
      same = c.types.invariant.same ∙ same;
      rises = rises_next common code later c.types.left.now left c.types.invariant.rises;
      other_rises = rises_next common code further c.types.right.now (right ∙ ap (λ (n : ℕ). n ∷ further) (sym c.if-code-other.false)) c.types.invariant.other_rises;
    }

pub returns : goal.returns
returns c =
    let over : (c.types.left.now ≡ []) ⊎ (c.types.right.now ≡ []) = elim c.match-split_first.branch [
      | in_default w ↦ inr (nil_from_length c.types.right.now w.in_default.ensures'.cases)
      | in_default-2 w ↦ inl (nil_from_length c.types.left.now w.in_default.ensures.cases)
    ] in
    c.cmp.ensures ∙ walk_end c.types.common c.types.left.now c.types.right.now over c.types.invariant.rises c.types.invariant.other_rises ∙ sym c.types.invariant.same
