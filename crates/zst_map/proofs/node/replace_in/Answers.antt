use Rattle.std.proofs.Common.{◌∙◌, refl, sym, ap}
use Rattle.std.specs.Prelude.{List, is_some}
use Rattle.std.proofs.lemmas.Bool.{true≢false}
use Rattle.zst_handler.specs.dnw_codes.RecordType.{record_type_number}
use Rattle.zst_handler.specs.dnw_codes.declared.record_type.RecordType.{RecordType}
use Rattle.zst_handler.specs.zst_record.OneOrMany.{items_of}
use Rattle.zst_handler.specs.zst_record.RecordSets.{RRset}
use Rattle.zst_map.specs.ZoneMaps.{place_from}
use Rattle.zst_map.proofs.NodeSets.{found_here, missed_here}
use Rattle.zst_map.proofs.node.replace_in.Goals as goal

pub set-requires : goal.set-requires
set-requires c =
    (found_here (items_of c.args.sets.now) c.args.set.record_type c.args.set c.in-Ok.place
    (c.in-Ok.ensures ∙ ap (λ (t : List RRset). place_from 0 t (record_type_number c.record_type.result)) c.as_slice.ensures
    ∙ ap (λ (t : RecordType). place_from 0 (items_of c.args.sets.now) (record_type_number t)) c.record_type.ensures)).below

pub returns-in-Ok : goal.returns-in-Ok
returns-in-Ok c =
    let f = found_here (items_of c.args.sets.now) c.args.set.record_type c.args.set c.in-Ok.place
    (c.in-Ok.ensures ∙ ap (λ (t : List RRset). place_from 0 t (record_type_number c.record_type.result)) c.as_slice.ensures
    ∙ ap (λ (t : RecordType). place_from 0 (items_of c.args.sets.now) (record_type_number t)) c.record_type.ensures) in
    c.set.ensures ∙ sym (f.with c.args.set refl)

pub returns-in-Err : goal.returns-in-Err
returns-in-Err c =
    let missed = missed_here (items_of c.args.sets.now) c.args.set.record_type c.in-Err.field-0 c.requires.rise
    (c.in-Err.ensures ∙ ap (λ (t : List RRset). place_from 0 t (record_type_number c.record_type.result)) c.as_slice.ensures
    ∙ ap (λ (t : RecordType). place_from 0 (items_of c.args.sets.now) (record_type_number t)) c.record_type.ensures) in
    absurd (true≢false (sym c.requires.there ∙ ap is_some missed.found))
