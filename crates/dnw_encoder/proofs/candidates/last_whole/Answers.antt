use Rattle.std.proofs.Common.{◌-◌, ◌∷◌, [], ◌++◌, ℕ, List, length, sym, subst, ap, ◌∙◌, arith}
use Rattle.dnw_decoder.specs.dnw_label.Labels.{label_octets}
use Rattle.dnw_encoder.specs.Members.{In}
use Rattle.dnw_encoder.specs.declared.candidates.Entry.{Entry}
use Rattle.dnw_encoder.proofs.CandidateLaws.{blank, in_get}
use Rattle.dnw_encoder.proofs.LongestLaws.{some_octets, whole_longest}
use Rattle.dnw_encoder.proofs.candidates.last_whole.Goals as goal

pub octets-requires : goal.octets-requires
octets-requires c =
    let entries = c.args.entries.now in
    let last = c.in_ok-entry.ensures.item.3 in
    c.requires c.in_ok-entry.entry.now (subst (λ (e : Entry). In e entries) (sym (last.1 blank)) (in_get entries (length entries - 1) blank (omega (arith, last.0))))

pub returns : goal.returns
returns c =
    let entries = c.args.entries.now in
    let last = c.in_ok-entry.ensures.item.3 in
    whole_longest c.args.octets.now entries c.in_ok-entry.entry.now c.args.name.now.labels
    c.requires
    (subst (λ (e : Entry). In e entries) (sym (last.1 blank)) (in_get entries (length entries - 1) blank (omega (arith, last.0))))
    (some_octets c.as_octets-labels.result.now (label_octets c.args.name.now.labels) c.if-is_empty.ensures c.as_octets-labels.ensures.octets)
    (sym c.octets.ensures ∙ c.is_name_of.ensures.0 c.if-not-is_name_of.false ∙ ap (λ (t : List ℕ). t ++ 0 ∷ []) c.as_octets-labels.ensures.octets)
