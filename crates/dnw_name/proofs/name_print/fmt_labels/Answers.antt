use Rattle.std.proofs.Common.{rules, ◌≡◌, ◌∷◌, ◌++◌, ◌∙◌, ap, sym, List, ℕ}
use Rattle.std.specs.List.{flat_map}
use Rattle.std.proofs.Output.{has_written_append}
use Rattle.std.proofs.lemmas.List.{append_assoc}
use Rattle.dnw_net.specs.dnw_label.LabelPrint.{label_print}
use Rattle.dnw_name.proofs.name_print.fmt_labels.Goals as goal

pub labels-preserved : goal.labels-preserved
labels-preserved g c = λ p.
    let h = c.labels.invariant p in
    let step : c.labels.labels ≡ c.in-Some-next.label.now ∷ c.next-in-labels.new.self = search rules in (
      h.0 ++ 46 ∷ label_print c.in-Some-next.label.now,
      has_written_append _ _ _ _ _ _ h.1 (search rules),
      append_assoc h.0 (46 ∷ label_print c.in-Some-next.label.now) (flat_map (λ label. 46 ∷ label_print label) c.next-in-labels.new.self)
          ∙ ap (λ (ls : List (List ℕ)). h.0 ++ flat_map (λ label. 46 ∷ label_print label) ls) (sym step)
          ∙ h.2,
    )
