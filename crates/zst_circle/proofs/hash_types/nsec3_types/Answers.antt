use Rattle.std.proofs.Common.{◌≡◌, ◌∙◌, List, sym, ap, ◌||◌, ◌&&◌, take, ◌++◌, ◌∷◌, []}
use Rattle.std.specs.List.{list_any}
use Rattle.std.specs.Slice.Iter.{iter_rest}
use Rattle.std.specs.Iterator.Adapters.{copied_source}
use Rattle.std.proofs.lemmas.List.{map-id}
use Rattle.std.proofs.lemmas.Iterator.{items_from_drains, YieldsList-from_slice}
use Rattle.std.proofs.lemmas.Iterator.Consumers.{YieldsList-from_copied}
use Rattle.zst_absence.specs.dnw_codes.declared.record_type.RecordType.{RecordType}
use Rattle.zst_absence.specs.dnw_codes.RecordType.{record_type_number, same_record_type}
use Rattle.zst_absence.specs.dnw_codes.declared.record_type.RecordType.TheVariants as kind
use Rattle.zst_absence.specs.zst_record.RecordSets.{RRset}
use Rattle.zst_circle.specs.Nsec3Circle.{is_kept_type, is_signed_type}
use Rattle.zst_circle.proofs.NsecHashedTypes.{all_taken, are_kept, if_ok, leaves_type, lists_type, taken}
use Rattle.zst_circle.proofs.hash_types.nsec3_types.Goals as goal
use Rattle.zst_circle.proofs.hash_types.nsec3_types.Goals.{then-is_kept_type+in_ok-push-2, else-is_kept_type}

pub sets-preserved : goal.sets-preserved
sets-preserved c = λ t.
    let delegated = c.args.delegated in
    let signed = same_record_type t kind.RRSIG && list_any (λ set. is_signed_type delegated set.record_type) c.args.sets.now in
    let front = take c.sets.set-index c.args.sets.now in
    let more = taken c.args.sets.now c.sets.set-index c.set-item.result c.sets-test.true c.set-item.is in
    let is : c.is_kept_type.result ≡ is_kept_type delegated c.set-item.result.record_type = c.is_kept_type.ensures ∙ ap (is_kept_type delegated) c.record_type-record_type.ensures in
    elim c.if-is_kept_type.branch [
      | then-is_kept_type+in_ok-push-2 w ↦
          ap (λ ts. list_any (λ x. same_record_type x t) ts.items) w.types-is
          ∙ ap (λ (l : List RecordType). list_any (λ x. same_record_type x t) l) (w.in_ok-push-2.ensures.items ∙ ap (λ (u : RecordType). c.sets.types.items ++ u ∷ []) c.record_type-record_type.ensures)
          ∙ lists_type delegated t front c.set-item.result c.sets.types.items signed (sym is ∙ w.if-is_kept_type.true) (c.sets.invariant t)
          ∙ ap (λ (l : List RRset). are_kept delegated t l || signed) (sym more)
      | else-is_kept_type w ↦
          ap (λ ts. list_any (λ x. same_record_type x t) ts.items) w.types-is
          ∙ leaves_type delegated t front c.set-item.result c.sets.types.items signed (sym is ∙ w.if-is_kept_type.false) (c.sets.invariant t)
          ∙ ap (λ (l : List RRset). are_kept delegated t l || signed) (sym more)
    ]

pub returns : goal.returns
returns c =
    let types = c.sets.types.items in
    if_ok c.new.result (λ set found t.
    let same : found.0 ≡ types = sym (map-id found.0) ∙ items_from_drains {s = c.copied.result} found.0 (found.1.1.0, found.1.1.1, λ done. (found.1.0, found.1.1.2)) (YieldsList-from_copied {s = c.copied.result} (YieldsList-from_slice {s = copied_source c.copied.result} types (ap iter_rest c.copied.ensures.source ∙ c.iter.ensures.rest ∙ c.deref.ensures.value))) in
    found.2 (record_type_number t) ∙ ap (λ (ts : List RecordType). list_any (λ u. same_record_type u t) ts) same ∙ c.sets.invariant t
    ∙ ap (λ (l : List RRset). are_kept c.args.delegated t l || (same_record_type t kind.RRSIG && list_any (λ set. is_signed_type c.args.delegated set.record_type) c.args.sets.now)) (all_taken c.args.sets.now c.sets.set-index c.sets-test.false))
    c.new.ensures
