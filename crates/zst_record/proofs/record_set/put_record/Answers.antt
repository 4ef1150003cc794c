use Rattle.std.proofs.Common.{ℕ, ◌∙◌, ap, length}
use Rattle.std.specs.Prelude.{position}
use Rattle.std.specs.List.{insert}
use Rattle.zst_record.specs.OneOrMany.{items_of}
use Rattle.zst_record.specs.declared.records.Record.{Record}
use Rattle.drd_rdata.specs.Order.{rdata_eq}
use Rattle.zst_record.proofs.PutRecords.{insert_last, put_record_found, put_record_missed}
use Rattle.zst_record.proofs.TakenRecords.{FoundEqual, found_equal}
use Rattle.zst_record.proofs.record_set.put_record.Goals as goal

pub set-requires : goal.set-requires
set-requires c =
    let f : FoundEqual (items_of c.args.records.now) c.args.next.rdata c.in-Some.place
    = found_equal (items_of c.args.records.now) c.args.next.rdata c.in-Some.place
    (c.in-Some.ensures ∙ ap (position (λ (s : Record). rdata_eq s.rdata c.args.next.rdata)) c.as_slice-held.ensures) in
    f.within

pub returns-in-Some-clause-ok : goal.returns-in-Some-clause-ok
returns-in-Some-clause-ok c =
    c.set.ensures
    ∙ put_record_found (items_of c.args.records.now) c.args.next c.in-Some.place
    (c.in-Some.ensures ∙ ap (position (λ (s : Record). rdata_eq s.rdata c.args.next.rdata)) c.as_slice-held.ensures)

pub returns-in_ok-insert-in-None-clause-ok : goal.returns-in_ok-insert-in-None-clause-ok
returns-in_ok-insert-in-None-clause-ok c =
    c.in_ok-insert-in-None.ensures.ok
    ∙ ap (λ (n : ℕ). insert (items_of c.args.records.now) n c.args.next) (ap length c.as_slice-held.ensures)
    ∙ insert_last (items_of c.args.records.now) c.args.next
    ∙ put_record_missed (items_of c.args.records.now) c.args.next
    (c.in-None.ensures ∙ ap (position (λ (s : Record). rdata_eq s.rdata c.args.next.rdata)) c.as_slice-held.ensures)
