use Rattle.std.proofs.Common.{◌≡◌, ◌∙◌, sym, ap, subst}
use Rattle.std.specs.Prelude.{List, Some}
use Rattle.zst_handler.specs.dnw_codes.RecordType.{record_type_number}
use Rattle.zst_handler.specs.zst_record.OneOrMany.{items_of}
use Rattle.zst_handler.specs.zst_record.RecordSets.{RRset}
use Rattle.zst_map.specs.Edits.{CanEdit}
use Rattle.zst_map.specs.ZoneMaps.{place_from}
use Rattle.zst_map.proofs.Edited.{edited_code}
use Rattle.zst_map.proofs.NodeSets.{FoundHere, found_here, got_at, missed_here}
use Rattle.zst_map.proofs.node.edit_node.Goals as goal

one : {X : Type 0} (x y : X) → Some x ≡ Some y → x ≡ y
one x y e = cc

pub edit_at-requires-clause-place : goal.edit_at-requires-clause-place
edit_at-requires-clause-place c =
    (found_here (items_of c.args.sets.now) c.args.record_type c.requires.there.0 c.in-Ok.place
    (c.in-Ok.ensures ∙ ap (λ (t : List RRset). place_from 0 t (record_type_number c.args.record_type)) c.as_slice.ensures)).below

pub edit_at-requires-clause-can : goal.edit_at-requires-clause-can
edit_at-requires-clause-can c =
    let d = c.requires.there.0 in
    let f : FoundHere c.in-Ok.place (items_of c.args.sets.now) c.args.record_type d
    = found_here (items_of c.args.sets.now) c.args.record_type d c.in-Ok.place
    (c.in-Ok.ensures ∙ ap (λ (t : List RRset). place_from 0 t (record_type_number c.args.record_type)) c.as_slice.ensures) in
    λ s is. subst (CanEdit c.args.edit) (one d s (sym c.requires.there.1 ∙ f.found ∙ sym (got_at (items_of c.args.sets.now) d c.in-Ok.place f.below) ∙ is)) c.requires.there.2

pub returns-in-Ok : goal.returns-in-Ok
returns-in-Ok c = λ s is can.
    let d = c.requires.there.0 in
    let f : FoundHere c.in-Ok.place (items_of c.args.sets.now) c.args.record_type d
    = found_here (items_of c.args.sets.now) c.args.record_type d c.in-Ok.place
    (c.in-Ok.ensures ∙ ap (λ (t : List RRset). place_from 0 t (record_type_number c.args.record_type)) c.as_slice.ensures) in
    c.edit_at.ensures s (got_at (items_of c.args.sets.now) d c.in-Ok.place f.below ∙ sym f.found ∙ is)
    ∙ sym (f.with _ (edited_code c.args.edit s c.args.record_type (items_of c.args.sets.now) can is))

pub returns-in-Err : goal.returns-in-Err
returns-in-Err c =
    let missed = missed_here (items_of c.args.sets.now) c.args.record_type c.in-Err.field-0 c.requires.rise
    (c.in-Err.ensures ∙ ap (λ (t : List RRset). place_from 0 t (record_type_number c.args.record_type)) c.as_slice.ensures) in
    let h : ⊥ = let e = sym c.requires.there.1 ∙ missed.found in cc in
    absurd h
