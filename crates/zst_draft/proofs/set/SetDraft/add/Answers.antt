use Rattle.std.proofs.Common.{◌≡◌, ◌∙◌, ◌<◌, ap, length, subst, sym}
use Rattle.std.specs.Prelude.{List, Some, [], true, false}
use Rattle.zst_map.specs.dnw_codes.declared.record_type.RecordType.{RecordType}
use Rattle.zst_map.specs.zst_handler.Updates.{joins}
use Rattle.zst_map.specs.zst_handler.Zones.{rrset_at}
use Rattle.zst_map.specs.zst_record.RecordSets.{held_set, takes}
use Rattle.zst_map.specs.zst_record.declared.records.Record.{Record}
use Rattle.zst_draft.specs.SetDrafts.{filled, joined, records_in, records_of, set_by, set_in}
use Rattle.zst_draft.proofs.SetDrafts.{filled_long, held_by, joined_held, joined_set, kept_set, taken_held}
use Rattle.zst_draft.proofs.set.SetDraft.add.Goals as goal

pub returns-then-not-is_filled-clause-draft : goal.returns-then-not-is_filled-clause-draft
returns-then-not-is_filled-clause-draft c = c.in_ok-begin.ensures.draft (rrset_at c.args.sets.now c.args.key.now c.args.self.now.record_type)

pub takes-requires-clause-filled : goal.takes-requires-clause-filled
takes-requires-clause-filled c =
    let t = c.args.self.now.record_type in
    let stored = rrset_at c.args.sets.now c.args.key.now t in
    subst (λ (l : List Record). 0 < length (records_in l c.args.self.now.records)) (sym c.stored_records-stored.ensures)
    (filled_long stored t c.args.self.now.records c.requires.draft (sym c.is_filled.ensures ∙ c.if-not-is_filled.false))

pub returns-then-not-takes-clause-changed : goal.returns-then-not-takes-clause-changed
returns-then-not-takes-clause-changed c =
    let t = c.args.self.now.record_type in
    let stored = rrset_at c.args.sets.now c.args.key.now t in
    let d = c.args.self.now.records in
    let long = filled_long stored t d c.requires.draft (sym c.is_filled.ensures ∙ c.if-not-is_filled.false) in
    sym (taken_held (set_in stored c.args.self.now) t (records_in (records_of stored) d) c.args.next (held_by stored t d c.requires.draft) long
    ∙ sym (ap (λ (l : List Record). takes (held_set t false (records_in l d) []) c.args.next) c.stored_records-stored.ensures) ∙ sym c.takes.ensures ∙ c.if-not-takes.true)

pub returns-then-not-takes-clause-set : goal.returns-then-not-takes-clause-set
returns-then-not-takes-clause-set c =
    let stored = rrset_at c.args.sets.now c.args.key.now c.args.self.now.record_type in
    kept_set (set_in stored c.args.self.now) c.args.next (sym (returns-then-not-takes-clause-changed c))

pub returns-clause-set : goal.returns-clause-set
returns-clause-set c =
    let t = c.args.self.now.record_type in
    let stored = rrset_at c.args.sets.now c.args.key.now t in
    let d = c.args.self.now.records in
    let held = held_by stored t d c.requires.draft in
    let long = filled_long stored t d c.requires.draft (sym c.is_filled.ensures ∙ c.if-not-is_filled.false) in
    let joins_it : joins (set_in stored c.args.self.now) c.args.next ≡ true =
    taken_held (set_in stored c.args.self.now) t (records_in (records_of stored) d) c.args.next held long
    ∙ sym (ap (λ (l : List Record). takes (held_set t false (records_in l d) []) c.args.next) c.stored_records-stored.ensures) ∙ sym c.takes.ensures ∙ c.if-not-takes.false in
    let records : records_in (records_of stored) (Some c.in_ok-draft.draft) ≡ joined t (records_in (records_of stored) d) c.args.next =
    subst (λ (l : List Record). records_in l (Some c.in_ok-draft.draft) ≡ joined t (records_in l d) c.args.next) c.stored_records-stored.ensures c.in_ok-draft.ensures.records in
    joined_set (set_in stored c.args.self.now) (set_by stored c.joined.new.self.record_type c.replace.new.dest) c.args.next joins_it
    (ap (set_by stored c.joined.new.self.record_type) c.replace.ensures.after
    ∙ ap (λ (k : RecordType). filled k (records_in (records_of stored) (Some c.in_ok-draft.draft))) c.joined.ensures.kind
    ∙ ap (filled t) records ∙ joined_held (set_in stored c.args.self.now) t (records_in (records_of stored) d) c.args.next held long)
