use Rattle.std.proofs.Common.{◌∙◌, sym, ap, subst, get_or, set}
use Rattle.std.specs.Prelude.{◌≡◌, true, Option, slice_get, List, Some, None}
use Rattle.std.specs.List.{insert}
use Rattle.std.proofs.lemmas.Result.{IfOk-weaker, on_ok_weaker}
use Rattle.zst_handler.specs.dnw_codes.declared.record_type.RecordType.{RecordType}
use Rattle.zst_handler.specs.dnw_codes.RecordType.{record_type_number, same_record_type}
use Rattle.zst_handler.specs.dnw_name.DomainName.{name_eq}
use Rattle.zst_handler.specs.zst_record.OneOrMany.{items_of}
use Rattle.zst_handler.specs.zst_record.RecordSets.{RRset}
use Rattle.zst_map.specs.Changes.{alters, made, owner_of, type_in}
use Rattle.zst_map.specs.ZoneMaps.{place_from}
use Rattle.zst_map.proofs.NodeSets.{FoundHere, found_here, MissedHere, missed_here, alters_none, change_type, each_at, got_at}
use Rattle.zst_map.proofs.node.change_node.Goals as goal

pub change_at-requires-clause-place : goal.change_at-requires-clause-place
change_at-requires-clause-place c =
    let f : FoundHere c.in-Ok.place (items_of c.args.sets.now) (type_in c.args.change) (made c.args.change None)
    = found_here (items_of c.args.sets.now) (type_in c.args.change) (made c.args.change None) c.in-Ok.place
    (c.in-Ok.ensures ∙ ap (λ (t : List RRset). place_from 0 t (record_type_number c.record_type.result)) c.as_slice.ensures
    ∙ ap (λ (t : RecordType). place_from 0 (items_of c.args.sets.now) (record_type_number t)) c.record_type.ensures) in
    f.below

one : {X : Type 0} (x y : X) → Some x ≡ Some y → x ≡ y
one x y e = cc

pub change_at-requires-clause-owner : goal.change_at-requires-clause-owner
change_at-requires-clause-owner c =
    let f : FoundHere c.in-Ok.place (items_of c.args.sets.now) (type_in c.args.change) (made c.args.change None)
    = found_here (items_of c.args.sets.now) (type_in c.args.change) (made c.args.change None) c.in-Ok.place
    (c.in-Ok.ensures ∙ ap (λ (t : List RRset). place_from 0 t (record_type_number c.record_type.result)) c.as_slice.ensures
    ∙ ap (λ (t : RecordType). place_from 0 (items_of c.args.sets.now) (record_type_number t)) c.record_type.ensures) in
    let d = made c.args.change None in
    let g : slice_get (items_of c.args.sets.now) c.in-Ok.place ≡ Some (get_or (items_of c.args.sets.now) c.in-Ok.place d)
    = got_at (items_of c.args.sets.now) d c.in-Ok.place f.below in
    λ s is. subst (λ (t : RRset). name_eq (owner_of c.args.change) t.name ≡ true) (one (get_or (items_of c.args.sets.now) c.in-Ok.place d) s (sym g ∙ is))
    (each_at (λ (t : RRset). name_eq (owner_of c.args.change) t.name ≡ true) (items_of c.args.sets.now) d c.in-Ok.place c.requires.owned f.below)

pub change_at-requires-clause-kind : goal.change_at-requires-clause-kind
change_at-requires-clause-kind c =
    let f : FoundHere c.in-Ok.place (items_of c.args.sets.now) (type_in c.args.change) (made c.args.change None)
    = found_here (items_of c.args.sets.now) (type_in c.args.change) (made c.args.change None) c.in-Ok.place
    (c.in-Ok.ensures ∙ ap (λ (t : List RRset). place_from 0 t (record_type_number c.record_type.result)) c.as_slice.ensures
    ∙ ap (λ (t : RecordType). place_from 0 (items_of c.args.sets.now) (record_type_number t)) c.record_type.ensures) in
    let d = made c.args.change None in
    let g : slice_get (items_of c.args.sets.now) c.in-Ok.place ≡ Some (get_or (items_of c.args.sets.now) c.in-Ok.place d)
    = got_at (items_of c.args.sets.now) d c.in-Ok.place f.below in
    λ s is. subst (λ (t : RRset). same_record_type (type_in c.args.change) t.record_type ≡ true) (one (get_or (items_of c.args.sets.now) c.in-Ok.place d) s (sym g ∙ is)) f.kind

pub insert-requires : goal.insert-requires
insert-requires c =
    let f : MissedHere c.in-Err.place (items_of c.args.sets.now) (type_in c.args.change)
    = missed_here (items_of c.args.sets.now) (type_in c.args.change) c.in-Err.place c.requires.rise
    (c.in-Err.ensures ∙ ap (λ (t : List RRset). place_from 0 t (record_type_number c.record_type.result)) c.as_slice.ensures
    ∙ ap (λ (t : RecordType). place_from 0 (items_of c.args.sets.now) (record_type_number t)) c.record_type.ensures) in
    f.within

pub returns-in-Ok-clause-changed : goal.returns-in-Ok-clause-changed
returns-in-Ok-clause-changed c =
    let f : FoundHere c.in-Ok.place (items_of c.args.sets.now) (type_in c.args.change) (made c.args.change None)
    = found_here (items_of c.args.sets.now) (type_in c.args.change) (made c.args.change None) c.in-Ok.place
    (c.in-Ok.ensures ∙ ap (λ (t : List RRset). place_from 0 t (record_type_number c.record_type.result)) c.as_slice.ensures
    ∙ ap (λ (t : RecordType). place_from 0 (items_of c.args.sets.now) (record_type_number t)) c.record_type.ensures) in
    let d = made c.args.change None in
    let g : slice_get (items_of c.args.sets.now) c.in-Ok.place ≡ Some (get_or (items_of c.args.sets.now) c.in-Ok.place d)
    = got_at (items_of c.args.sets.now) d c.in-Ok.place f.below in
    IfOk-weaker c.change_at.result _ _ (λ changed e. e ∙ ap (alters c.args.change) (g ∙ sym f.found)) c.change_at.ensures.changed

pub returns-in-Ok-clause-ok : goal.returns-in-Ok-clause-ok
returns-in-Ok-clause-ok c =
    let f : FoundHere c.in-Ok.place (items_of c.args.sets.now) (type_in c.args.change) (made c.args.change None)
    = found_here (items_of c.args.sets.now) (type_in c.args.change) (made c.args.change None) c.in-Ok.place
    (c.in-Ok.ensures ∙ ap (λ (t : List RRset). place_from 0 t (record_type_number c.record_type.result)) c.as_slice.ensures
    ∙ ap (λ (t : RecordType). place_from 0 (items_of c.args.sets.now) (record_type_number t)) c.record_type.ensures) in
    let d = made c.args.change None in
    let g : slice_get (items_of c.args.sets.now) c.in-Ok.place ≡ Some (get_or (items_of c.args.sets.now) c.in-Ok.place d)
    = got_at (items_of c.args.sets.now) d c.in-Ok.place f.below in
    on_ok_weaker c.change_at.result
    (λ e. e ∙ ap (λ (o : Option RRset). set (items_of c.args.sets.now) c.in-Ok.place (made c.args.change o)) (g ∙ sym f.found)
    ∙ sym (f.with _ (change_type (items_of c.args.sets.now) c.args.change)))
    c.change_at.ensures.ok

pub returns-in_ok-insert-in-Err-clause-changed : goal.returns-in_ok-insert-in-Err-clause-changed
returns-in_ok-insert-in-Err-clause-changed c =
    let f : MissedHere c.in-Err.place (items_of c.args.sets.now) (type_in c.args.change)
    = missed_here (items_of c.args.sets.now) (type_in c.args.change) c.in-Err.place c.requires.rise
    (c.in-Err.ensures ∙ ap (λ (t : List RRset). place_from 0 t (record_type_number c.record_type.result)) c.as_slice.ensures
    ∙ ap (λ (t : RecordType). place_from 0 (items_of c.args.sets.now) (record_type_number t)) c.record_type.ensures) in
    alters_none c.args.change ∙ ap (alters c.args.change) (sym f.found)

pub returns-in_ok-insert-in-Err-clause-ok : goal.returns-in_ok-insert-in-Err-clause-ok
returns-in_ok-insert-in-Err-clause-ok c =
    let f : MissedHere c.in-Err.place (items_of c.args.sets.now) (type_in c.args.change)
    = missed_here (items_of c.args.sets.now) (type_in c.args.change) c.in-Err.place c.requires.rise
    (c.in-Err.ensures ∙ ap (λ (t : List RRset). place_from 0 t (record_type_number c.record_type.result)) c.as_slice.ensures
    ∙ ap (λ (t : RecordType). place_from 0 (items_of c.args.sets.now) (record_type_number t)) c.record_type.ensures) in
    c.in_ok-insert-in-Err.ensures.ok
    ∙ ap (insert (items_of c.args.sets.now) c.in-Err.place) (c.into_set-set.ensures ∙ ap (made c.args.change) (sym f.found))
    ∙ sym (f.with _ (change_type (items_of c.args.sets.now) c.args.change))
