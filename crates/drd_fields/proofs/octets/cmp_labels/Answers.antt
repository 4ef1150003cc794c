use Rattle.std.proofs.Common.{rules, ◌≡◌, ◌≢◌, ◌∷◌, List, ℕ, [], sym, ap, length, ◌∙◌, Less}
use Rattle.drd_fields.specs.Order.{octets_cmp, labels_octets}
use Rattle.drd_fields.proofs.OrderLaws.{cmp_ends}
use Rattle.drd_fields.proofs.octets.cmp_labels.Goals as goal

left_none : (ls : List (List ℕ)) → length ls ≢ 0 → octets_cmp (labels_octets []) (labels_octets ls) ≡ Less
left_none [] some = absurd (some (cc))
left_none (y ∷ ys) some = cmp_ends y ys

pub returns-else-len-eq0 : goal.returns-else-len-eq0
returns-else-len-eq0 c =
    let none : c.labels.left ≡ [] = search rules in
    let some : length c.labels.right ≢ 0 = search rules in
    sym (c.labels.invariant ∙ ap (λ (ls : List (List ℕ)). octets_cmp (labels_octets ls) (labels_octets c.labels.right)) none ∙ left_none c.labels.right some)
