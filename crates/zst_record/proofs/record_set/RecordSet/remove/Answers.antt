use Rattle.std.proofs.Common.{◌∙◌, ap, sym, subst}
use Rattle.std.specs.Prelude.{◌≡◌, true, cond, List, position, length, [], Bool}
use Rattle.drd_rdata.specs.Order.{rdata_eq}
use Rattle.zst_record.specs.OneOrMany.{items_of}
use Rattle.zst_record.specs.RecordSets.{RRset, IsHeld, held_set, removed}
use Rattle.zst_record.specs.declared.records.Record.{Record}
use Rattle.zst_record.proofs.TakenRecords.{FoundEqual, found_equal, held_others, last_left, none_equal, nothing_lost, one_lost, others_left}
use Rattle.zst_record.proofs.record_set.RecordSet.remove.Goals as goal

pub returns-in_default-clause-done : goal.returns-in_default-clause-done
returns-in_default-clause-done c =
    sym (nothing_lost c.args.self.now c.args.record.now (sym c.keeps_last.ensures ∙ c.if-keeps_last.false)
    (none_equal c.args.self.now.records c.args.record.now.rdata
    (c.in_default.ensures ∙ ap (position (λ (s : Record). rdata_eq s.rdata c.args.record.now.rdata)) c.as_slice-held.ensures.value)))

pub returns-in_default-clause-set : goal.returns-in_default-clause-set
returns-in_default-clause-set c =
    ap (λ (b : Bool). cond b (removed c.args.self.now c.args.record.now) c.args.self.now) (returns-in_default-clause-done c)

pub returns-then-count-eq1-clause-done : goal.returns-then-count-eq1-clause-done
returns-then-count-eq1-clause-done c =
    let f : FoundEqual c.args.self.now.records c.args.record.now.rdata c.in-Some.place
    = found_equal c.args.self.now.records c.args.record.now.rdata c.in-Some.place
    (c.in-Some.ensures ∙ ap (position (λ (s : Record). rdata_eq s.rdata c.args.record.now.rdata)) c.as_slice-held.ensures.value) in
    sym (one_lost c.args.self.now c.args.record.now (sym c.keeps_last.ensures ∙ c.if-keeps_last.false) f.there)

pub returns-then-count-eq1-clause-set : goal.returns-then-count-eq1-clause-set
returns-then-count-eq1-clause-set c =
    let items = items_of c.self.inside.records in
    let e = c.self.inside.is_empty in
    let own : c.as_slice-held.result.now ≡ cond e [] items = c.as_slice-held.ensures.value ∙ ap (λ (s : RRset). s.records) (sym c.self.view_is) in
    let f : FoundEqual (cond e [] items) c.args.record.now.rdata c.in-Some.place
    = found_equal (cond e [] items) c.args.record.now.rdata c.in-Some.place
    (c.in-Some.ensures ∙ ap (position (λ (s : Record). rdata_eq s.rdata c.args.record.now.rdata)) own) in
    let one : length (cond e [] items) ≡ 1 = sym (ap length own) ∙ c.if-count-eq1.true in
    ap (held_set c.self.inside.record_type true items) c.clear.ensures.items
    ∙ last_left c.self.inside.record_type e items c.self.inside.rrsigs.items c.args.record.now c.in-Some.place f one
    ∙ ap (λ (s : RRset). removed s c.args.record.now) c.self.view_is
    ∙ ap (λ (b : Bool). cond b (removed c.args.self.now c.args.record.now) c.args.self.now) (returns-then-count-eq1-clause-done c)

pub invariant_of-self-2 : goal.invariant_of-self-2
invariant_of-self-2 c =
    let items = items_of c.self.inside.records in
    let e = c.self.inside.is_empty in
    let own : c.as_slice-held.result.now ≡ cond e [] items = c.as_slice-held.ensures.value ∙ ap (λ (s : RRset). s.records) (sym c.self.view_is) in
    let f : FoundEqual (cond e [] items) c.args.record.now.rdata c.in-Some.place
    = found_equal (cond e [] items) c.args.record.now.rdata c.in-Some.place
    (c.in-Some.ensures ∙ ap (position (λ (s : Record). rdata_eq s.rdata c.args.record.now.rdata)) own) in
    subst (λ (sigs : List Record). IsHeld c.self.inside.record_type e (items_of c.remove.new.self) sigs) (sym c.clear.ensures.items)
    (held_others c.self.inside.record_type e items c.self.inside.rrsigs.items (items_of c.remove.new.self) c.args.record.now c.in-Some.place c.self.invariant f
    (λ one. c.if-count-eq1.false (ap length own ∙ one)) c.remove.ensures.rest)

pub returns-clause-done : goal.returns-clause-done
returns-clause-done c =
    let f : FoundEqual c.args.self.now.records c.args.record.now.rdata c.in-Some.place
    = found_equal c.args.self.now.records c.args.record.now.rdata c.in-Some.place
    (c.in-Some.ensures ∙ ap (position (λ (s : Record). rdata_eq s.rdata c.args.record.now.rdata)) c.as_slice-held.ensures.value) in
    sym (one_lost c.args.self.now c.args.record.now (sym c.keeps_last.ensures ∙ c.if-keeps_last.false) f.there)

pub returns-clause-set : goal.returns-clause-set
returns-clause-set c =
    let items = items_of c.self.inside.records in
    let e = c.self.inside.is_empty in
    let own : c.as_slice-held.result.now ≡ cond e [] items = c.as_slice-held.ensures.value ∙ ap (λ (s : RRset). s.records) (sym c.self.view_is) in
    let f : FoundEqual (cond e [] items) c.args.record.now.rdata c.in-Some.place
    = found_equal (cond e [] items) c.args.record.now.rdata c.in-Some.place
    (c.in-Some.ensures ∙ ap (position (λ (s : Record). rdata_eq s.rdata c.args.record.now.rdata)) own) in
    ap (held_set c.self.inside.record_type e (items_of c.remove.new.self)) c.clear.ensures.items
    ∙ others_left c.self.inside.record_type e items c.self.inside.rrsigs.items (items_of c.remove.new.self) c.args.record.now c.in-Some.place f
    (λ one. c.if-count-eq1.false (ap length own ∙ one)) c.remove.ensures.rest
    ∙ ap (λ (s : RRset). removed s c.args.record.now) c.self.view_is
    ∙ ap (λ (b : Bool). cond b (removed c.args.self.now c.args.record.now) c.args.self.now) (returns-clause-done c)
