use Rattle.std.proofs.Common.{◌∙◌, fold, ap, sym, subst, All}
use Rattle.std.specs.List.{flat_map}
use Rattle.std.proofs.lemmas.List.Sums.{fold-append}
use Rattle.std.proofs.lemmas.List.Elements.{All-tail}
use Rattle.dnw_net.specs.dnw_label.Label.{IsLabel}
use Rattle.dnw_net.specs.dnw_label.LabelHash.{label_writes}
use Rattle.dnw_name.proofs.name.order.hash_labels.Goals as goal

pub labels-preserved : goal.labels-preserved
labels-preserved g c = record {
  fed =
      c.labels.invariant.fed ∙ ap (λ ls. fold g.H.Hasher.write c.labels.state (flat_map label_writes ls)) c.in-Some.ensures.steps
      ∙ fold-append g.H.Hasher.write c.labels.state (label_writes c.in-Some.label.now) (flat_map label_writes c.next.new.self)
      ∙ ap (λ s. fold g.H.Hasher.write s (flat_map label_writes c.next.new.self)) (sym c.hash_octets.ensures);
  each = All-tail IsLabel c.in-Some.label.now c.next.new.self (subst (All IsLabel) c.in-Some.ensures.steps c.labels.invariant.each);
}
