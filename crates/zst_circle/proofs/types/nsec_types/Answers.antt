use Rattle.std.proofs.Common.{◌≡◌, ◌∙◌, ◌+◌, ◌++◌, ◌∷◌, [], List, ap, sym, take}
use Rattle.std.specs.List.{list_any}
use Rattle.std.proofs.lemmas.List.{map-id, take_all, take_more}
use Rattle.std.specs.Slice.Iter.{iter_rest}
use Rattle.std.specs.Iterator.Adapters.{copied_source}
use Rattle.std.proofs.lemmas.Iterator.{items_from_drains, YieldsList-from_slice}
use Rattle.std.proofs.lemmas.Iterator.Consumers.{YieldsList-from_copied}
use Rattle.zst_absence.specs.dnw_codes.RecordType.{record_type_number, same_record_type}
use Rattle.zst_absence.specs.dnw_codes.declared.record_type.RecordType.{RecordType}
use Rattle.zst_absence.specs.zst_record.RecordSets.{RRset}
use Rattle.zst_circle.specs.NsecCircle.{is_nsec_type}
use Rattle.zst_circle.proofs.Signatures.{if_ok}
use Rattle.zst_circle.proofs.TypesListed.{is_allowed, leaves_type, lists_type}
use Rattle.zst_circle.proofs.types.nsec_types.Goals.{then-is_listed+in_ok-push-3, else-is_listed}
use Rattle.zst_circle.proofs.types.nsec_types.Goals as goal

pub sets-preserved : goal.sets-preserved
sets-preserved c = λ t.
    let sets = c.args.sets.now in
    let delegated = c.args.delegated in
    let set = c.set-item.result in
    let front = take c.sets.set-index sets in
    let more : take (c.sets.set-index + 1) sets ≡ front ++ set ∷ [] = take_more sets c.sets.set-index set c.sets-test.true ∙ ap (λ (x : RRset). front ++ x ∷ []) (sym c.set-item.is) in
    let kind = c.record_type-record_type.ensures in
    elim c.if-is_listed.branch [
      | then-is_listed+in_ok-push-3 w ↦
          ap (list_any (λ x. same_record_type x t)) (ap (λ v. v.items) w.types-is ∙ w.in_ok-push-3.ensures.items ∙ ap (λ (k : RecordType). c.sets.types.items ++ k ∷ []) kind)
          ∙ lists_type delegated front set c.sets.types.items t (ap (is_allowed delegated) (sym kind) ∙ sym c.is_listed.ensures ∙ w.if-is_listed.true) (c.sets.invariant t)
          ∙ ap (λ (l : List RRset). is_nsec_type l delegated t) (sym more)
      | else-is_listed w ↦
          ap (λ v. list_any (λ x. same_record_type x t) v.items) w.types-is
          ∙ leaves_type delegated front set c.sets.types.items t (ap (is_allowed delegated) (sym kind) ∙ sym c.is_listed.ensures ∙ w.if-is_listed.false) (c.sets.invariant t)
          ∙ ap (λ (l : List RRset). is_nsec_type l delegated t) (sym more)
    ]

pub returns : goal.returns
returns c =
    let whole : take c.sets.set-index c.args.sets.now ≡ c.args.sets.now = take_all c.sets.set-index c.args.sets.now c.sets-test.false in
    if_ok c.new.result (λ set found t.
    let same : found.0 ≡ c.sets.types.items = sym (map-id found.0) ∙ items_from_drains {s = c.copied.result} found.0 (found.1.1.0, found.1.1.1, λ done. (found.1.0, found.1.1.2)) (YieldsList-from_copied {s = c.copied.result} (YieldsList-from_slice {s = copied_source c.copied.result} c.sets.types.items (ap iter_rest c.copied.ensures.source ∙ c.iter.ensures.rest ∙ c.deref.ensures.value))) in
    found.2 (record_type_number t) ∙ ap (λ (ts : List RecordType). list_any (λ x. same_record_type x t) ts) same ∙ c.sets.invariant t
    ∙ ap (λ (l : List RRset). is_nsec_type l c.args.delegated t) whole)
    c.new.ensures
