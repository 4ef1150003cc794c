use Rattle.std.proofs.Common.{◌≡◌, ◌∙◌, ◌+◌, ◌≤◌, ◌++◌, ap, length, arith, ℕ, List}
use Rattle.dnw_label.specs.Labels.{HoldLabels, labels_of, label_octets}
use Rattle.dnw_label.proofs.LabelsLemmas.{given-on, held, holds, on-ok, same-spelt, spelt-behind}
use Rattle.dnw_label.proofs.labels.Labels.push_spelled.Goals as goal

abbrev whole-type : goal.After-extend_from_slice → Type 0
whole-type c =
    (others : List (List ℕ)) × (c.args.spelled.now ≡ label_octets others)
    × HoldLabels c.extend_from_slice.new.self.items c.push_lengths.new.lengths.items (labels_of c.self.inside.lengths.items c.self.inside.octets.items ++ others)

whole : (c : goal.After-extend_from_slice) → whole-type c
whole c =
    let room : length c.make_room.new.octets.items + length c.args.spelled.now ≤ c.make_room.new.octets.capacity = omega (arith, c.in_ok-make_room.ensures.ok) in
    let after = on-ok c.extend_from_slice.result (c.extend_from_slice.ensures.succeeds room) c.extend_from_slice.ensures.ok in
    let octets = after ∙ ap (λ os. os ++ c.args.spelled.now) c.in_ok-make_room.ensures.items in
    spelt-behind c.self.inside.octets.items c.self.inside.lengths.items c.args.spelled.now c.extend_from_slice.new.self.items c.push_lengths.new.lengths.items
    (labels_of c.self.inside.lengths.items c.self.inside.octets.items) c.self.invariant octets c.in_ok-push_lengths.ensures.ok

pub invariant_of-self-2 : goal.invariant_of-self-2
invariant_of-self-2 c = holds c.extend_from_slice.new.self.items c.push_lengths.new.lengths.items _ (whole c).2

pub returns-clause-ok : goal.returns-clause-ok
returns-clause-ok c =
    given-on c.extend_from_slice.result
    (λ labels each spelled.
    held c.extend_from_slice.new.self.items c.push_lengths.new.lengths.items _ (whole c).2
    ∙ ap (λ ls. ls ++ (whole c).0) c.self.view_is
    ∙ ap (λ ls. c.args.self.now ++ ls) (same-spelt c.args.spelled.now (whole c).0 labels (whole c).1 spelled))
