use Rattle.std.proofs.Common.{◌∙◌, ◌+◌, ◌≤◌, ◌++◌, ap, length, arith}
use Rattle.dnw_label.specs.Labels.{HoldLabels, labels_of, label_octets}
use Rattle.dnw_label.proofs.LabelsLemmas.{both, given-on, held, holds, on-ok}
use Rattle.dnw_label.proofs.labels.Labels.append.Goals as goal

abbrev whole-type : goal.After-extend_from_slice-2 → Type 0
whole-type c = HoldLabels c.extend_from_slice-2.new.self.items c.extend_from_slice.new.self.items (labels_of c.self.inside.lengths.items c.self.inside.octets.items ++ c.args.others.now)

whole : (c : goal.After-extend_from_slice-2) → whole-type c
whole c =
    let room : length c.make_room.new.octets.items + length c.octets-2.result.now ≤ c.make_room.new.octets.capacity = omega (arith, c.in_ok-make_room.ensures.ok, ap length c.octets.ensures.octets, ap length c.octets-2.ensures.octets) in
    let after = on-ok c.extend_from_slice-2.result (c.extend_from_slice-2.ensures.succeeds room) c.extend_from_slice-2.ensures.ok in
    let octets = after ∙ ap (λ os. os ++ c.octets-2.result.now) c.in_ok-make_room.ensures.items ∙ ap (λ os. c.self.inside.octets.items ++ os) c.octets-2.ensures.octets in
    let all = both c.self.inside.octets.items c.self.inside.lengths.items (label_octets c.args.others.now) c.lengths.result.now
    (labels_of c.self.inside.lengths.items c.self.inside.octets.items) c.args.others.now c.self.invariant c.lengths.ensures in
    record { each = all.each; spelled = octets ∙ all.spelled; measured = c.in_ok-extend_from_slice.ensures.ok ∙ all.measured }

pub invariant_of-self-2 : goal.invariant_of-self-2
invariant_of-self-2 c = holds c.extend_from_slice-2.new.self.items c.extend_from_slice.new.self.items _ (whole c)

pub returns-clause-ok : goal.returns-clause-ok
returns-clause-ok c =
    given-on c.extend_from_slice-2.result
    (held c.extend_from_slice-2.new.self.items c.extend_from_slice.new.self.items _ (whole c) ∙ ap (λ ls. ls ++ c.args.others.now) c.self.view_is)
