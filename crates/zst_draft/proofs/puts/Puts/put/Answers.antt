use Rattle.std.proofs.Common.{◌≡◌, ◌∙◌, ap, subst, sym, inl}
use Rattle.std.specs.Prelude.{Option, Some, None, cond, is_some}
use Rattle.zst_map.specs.zst_handler.Zones.{rrset_at}
use Rattle.zst_map.specs.zst_record.RecordSets.{RRset}
use Rattle.zst_map.proofs.Indexed.{rrset_same}
use Rattle.zst_draft.specs.SetDrafts.{IsRecordsDraft, set_by, set_in}
use Rattle.zst_draft.specs.Settling.{IsOverStored, IsSetOf}
use Rattle.zst_draft.proofs.Backing.{replaces_as}
use Rattle.zst_draft.proofs.DraftedRecords.{on_ok_one}
use Rattle.zst_draft.proofs.Names.{one_lower}
use Rattle.zst_draft.proofs.SetDrafts.{empty_taken, filled_taken, none_is, type_taken}
use Rattle.zst_draft.proofs.Settled.{same_kind, settles_replaced}
use Rattle.zst_draft.proofs.puts.Puts.put.Goals as goal

pub take_set-requires-clause-set : goal.take_set-requires-clause-set
take_set-requires-clause-set c =
    let key = c.args.key.now in
    let e = c.args.draft.now in
    let none = none_is (rrset_at c.args.zone.now.sets key e.record_type) c.get_at.result c.is_some.result c.get_at.ensures c.is_some.ensures c.if-is_some.false in
    (key, subst (λ (o : Option RRset). IsSetOf key (set_in o e)) none c.requires.can.set)

pub put_set-requires-clause-key : goal.put_set-requires-clause-key
put_set-requires-clause-key c =
    let key = c.args.key.now in
    let e = c.args.draft.now in
    let set = c.in-Some.set in
    let none = none_is (rrset_at c.args.zone.now.sets key e.record_type) c.get_at.result c.is_some.result c.get_at.ensures c.is_some.ensures c.if-is_some.false in
    let of = subst (λ (o : Option RRset). IsSetOf key (set_in o e)) none c.requires.can.set in
    let taken : set_in None e ≡ Some set = sym c.take_set.ensures.set ∙ c.in-Some.is in
    let owned = filled_taken key set (set_in None e) taken of in
    sym c.requires.lower ∙ one_lower key set.name owned.1

pub put_set-requires-clause-none : goal.put_set-requires-clause-none
put_set-requires-clause-none c =
    let key = c.args.key.now in
    let e = c.args.draft.now in
    let set = c.in-Some.set in
    let none = none_is (rrset_at c.args.zone.now.sets key e.record_type) c.get_at.result c.is_some.result c.get_at.ensures c.is_some.ensures c.if-is_some.false in
    let of = subst (λ (o : Option RRset). IsSetOf key (set_in o e)) none c.requires.can.set in
    let taken : set_in None e ≡ Some set = sym c.take_set.ensures.set ∙ c.in-Some.is in
    let owned = filled_taken key set (set_in None e) taken of in
    rrset_same c.args.zone.now.sets key set.name set.record_type owned.1
    ∙ ap (rrset_at c.args.zone.now.sets key) (type_taken e.record_type e.records set taken) ∙ none

pub returns-in-Some-clause-settles : goal.returns-in-Some-clause-settles
returns-in-Some-clause-settles c =
    let key = c.args.key.now in
    let e = c.args.draft.now in
    let set = c.in-Some.set in
    let none = none_is (rrset_at c.args.zone.now.sets key e.record_type) c.get_at.result c.is_some.result c.get_at.ensures c.is_some.ensures c.if-is_some.false in
    let of = subst (λ (o : Option RRset). IsSetOf key (set_in o e)) none c.requires.can.set in
    let taken : set_in None e ≡ Some set = sym c.take_set.ensures.set ∙ c.in-Some.is in
    let owned = filled_taken key set (set_in None e) taken of in
    let kind = type_taken e.record_type e.records set taken in
    on_ok_one c.put_set.result
    (λ replaced. settles_replaced c.args.zone.now c.put_set.new.zone key e c.take_set.new.self (Some set)
    (replaces_as c.args.zone.now c.put_set.new.zone key set.name set.record_type e.record_type (Some set) owned.1 (same_kind set.record_type e.record_type kind) replaced)
    (sym (ap (λ (o : Option RRset). set_in o e) none ∙ taken))
    c.take_set.ensures.kind
    (c.take_set.ensures.records ∙ ap (λ (o : Option RRset). cond (is_some o) None e.records) c.in-Some.is)
    c.requires.can)
    c.put_set.ensures.ok

pub returns-in-None-clause-ready : goal.returns-in-None-clause-ready
returns-in-None-clause-ready c = λ records is.
    let key = c.args.key.now in
    let e = c.args.draft.now in
    let none = none_is (rrset_at c.args.zone.now.sets key e.record_type) c.get_at.result c.is_some.result c.get_at.ensures c.is_some.ensures c.if-is_some.false in
    let same : e.records ≡ Some records = sym (c.take_set.ensures.records ∙ ap (λ (o : Option RRset). cond (is_some o) None e.records) c.in-None.is) ∙ is in
    let over : IsRecordsDraft 0 records = subst (IsOverStored None) same (subst (λ (o : Option RRset). IsOverStored o e.records) none c.requires.can.is) in
    let nothing : set_by None e.record_type (Some records) ≡ None = sym (ap (set_by None e.record_type) same) ∙ sym c.take_set.ensures.set ∙ c.in-None.is in
    inl (empty_taken e.record_type records over nothing)
