use Rattle.std.proofs.Common.{◌∙◌, ◌+◌, ◌≤◌, ◌++◌, ◌∷◌, [], ap, length, arith}
use Rattle.std.proofs.lemmas.List.{length-append}
use Rattle.dnw_label.specs.Labels.{HoldLabels, labels_of}
use Rattle.dnw_label.proofs.LabelsLemmas.{given-on, held, holds, on-ok, pushed}
use Rattle.dnw_label.proofs.labels.Labels.push.Goals as goal

abbrev whole-type : goal.After-extend_from_slice → Type 0
whole-type c = HoldLabels c.extend_from_slice.new.self.items c.push.new.self.items (labels_of c.self.inside.lengths.items c.self.inside.octets.items ++ c.args.label.now ∷ [])

whole : (c : goal.After-extend_from_slice) → whole-type c
whole c =
    let front = c.push_reserved.ensures.items ∙ ap (λ os. os ++ length c.args.label.now ∷ []) c.in_ok-make_room.ensures.items in
    let room : length c.push_reserved.new.self.items + length c.args.label.now ≤ c.push_reserved.new.self.capacity = omega (arith, ap length c.push_reserved.ensures.items, length-append c.make_room.new.octets.items (length c.args.label.now ∷ []), c.push_reserved.ensures.capacity, c.in_ok-make_room.ensures.ok) in
    let after = on-ok c.extend_from_slice.result (c.extend_from_slice.ensures.succeeds room) c.extend_from_slice.ensures.ok in
    pushed c.self.inside.octets.items c.self.inside.lengths.items c.push_reserved.new.self.items c.push.new.self.items c.extend_from_slice.new.self.items
    (labels_of c.self.inside.lengths.items c.self.inside.octets.items) c.args.label.now c.self.invariant c.requires front after c.in_ok-push.ensures.ok

pub invariant_of-self-2 : goal.invariant_of-self-2
invariant_of-self-2 c = holds c.extend_from_slice.new.self.items c.push.new.self.items _ (whole c)

pub returns-clause-ok : goal.returns-clause-ok
returns-clause-ok c =
    given-on c.extend_from_slice.result
    (held c.extend_from_slice.new.self.items c.push.new.self.items _ (whole c) ∙ ap (λ ls. ls ++ c.args.label.now ∷ []) c.self.view_is)
