use Rattle.std.proofs.Common.{◌≡◌, ◌<◌, ◌∙◌, sym, ap, arith, length}
use Rattle.std.specs.Prelude.{true, false, List, [], ◌∷◌, Some}
use Rattle.zst_handler.specs.dnw_codes.declared.record_type.RecordType.{RecordType}
use Rattle.zst_handler.specs.dnw_codes.declared.record_type.RecordType.TheVariants as kind
use Rattle.zst_handler.specs.dnw_name.DomainName.{domain_name}
use Rattle.zst_handler.specs.dnw_codes.RecordType.{record_type_number}
use Rattle.zst_handler.specs.zst_record.OneOrMany.{items_of}
use Rattle.zst_handler.specs.zst_record.RecordSets.{RRset, empty_set}
use Rattle.zst_handler.specs.Updates.{set_of_type}
use Rattle.zst_map.specs.Changes.{is_only}
use Rattle.zst_map.specs.ZoneMaps.{place_from}
use Rattle.zst_map.proofs.NodeSets.{FoundHere, MissedHere, found_here, got_at, missed_here, none_without}
use Rattle.zst_map.proofs.node.take_out.Goals as goal

any_set : RRset
any_set = empty_set (domain_name true []) kind.A

-- Where a set of the type is found, but not alone, there are others.
not_alone : (sets : List RRset) (t : RecordType) (s : RRset) → set_of_type t sets ≡ Some s → is_only sets t ≡ false → 1 < length sets
not_alone [] t s found two = let h : ⊥ = cc in absurd h
not_alone (x ∷ []) t s found two = absurd (let h : ⊥ = cc in h)
not_alone (x ∷ y ∷ sets) t s found two = omega arith

pub remove-requires-clause-place : goal.remove-requires-clause-place
remove-requires-clause-place c =
    let f : FoundHere c.in-Ok.place (items_of c.args.sets.now) c.args.record_type any_set
    = found_here (items_of c.args.sets.now) c.args.record_type any_set c.in-Ok.place
    (c.in-Ok.ensures ∙ ap (λ (t : List RRset). place_from 0 t (record_type_number c.args.record_type)) c.as_slice.ensures) in
    f.below

pub remove-requires-clause-more : goal.remove-requires-clause-more
remove-requires-clause-more c =
    let f : FoundHere c.in-Ok.place (items_of c.args.sets.now) c.args.record_type any_set
    = found_here (items_of c.args.sets.now) c.args.record_type any_set c.in-Ok.place
    (c.in-Ok.ensures ∙ ap (λ (t : List RRset). place_from 0 t (record_type_number c.args.record_type)) c.as_slice.ensures) in
    not_alone (items_of c.args.sets.now) c.args.record_type _ f.found c.requires.others

pub returns-in-Ok-clause-value : goal.returns-in-Ok-clause-value
returns-in-Ok-clause-value c =
    let f : FoundHere c.in-Ok.place (items_of c.args.sets.now) c.args.record_type any_set
    = found_here (items_of c.args.sets.now) c.args.record_type any_set c.in-Ok.place
    (c.in-Ok.ensures ∙ ap (λ (t : List RRset). place_from 0 t (record_type_number c.args.record_type)) c.as_slice.ensures) in
    c.remove.ensures.value ∙ got_at (items_of c.args.sets.now) any_set c.in-Ok.place f.below ∙ sym f.found

pub returns-in-Ok-clause-others : goal.returns-in-Ok-clause-others
returns-in-Ok-clause-others c =
    let f : FoundHere c.in-Ok.place (items_of c.args.sets.now) c.args.record_type any_set
    = found_here (items_of c.args.sets.now) c.args.record_type any_set c.in-Ok.place
    (c.in-Ok.ensures ∙ ap (λ (t : List RRset). place_from 0 t (record_type_number c.args.record_type)) c.as_slice.ensures) in
    c.remove.ensures.rest ∙ sym f.without

pub returns-in-Err-clause-value : goal.returns-in-Err-clause-value
returns-in-Err-clause-value c =
    let f : MissedHere c.in-Err.field-0 (items_of c.args.sets.now) c.args.record_type
    = missed_here (items_of c.args.sets.now) c.args.record_type c.in-Err.field-0 c.requires.rise
    (c.in-Err.ensures ∙ ap (λ (t : List RRset). place_from 0 t (record_type_number c.args.record_type)) c.as_slice.ensures) in
    sym f.found

pub returns-in-Err-clause-others : goal.returns-in-Err-clause-others
returns-in-Err-clause-others c =
    let f : MissedHere c.in-Err.field-0 (items_of c.args.sets.now) c.args.record_type
    = missed_here (items_of c.args.sets.now) c.args.record_type c.in-Err.field-0 c.requires.rise
    (c.in-Err.ensures ∙ ap (λ (t : List RRset). place_from 0 t (record_type_number c.args.record_type)) c.as_slice.ensures) in
    sym (none_without c.args.record_type (items_of c.args.sets.now) f.found)
