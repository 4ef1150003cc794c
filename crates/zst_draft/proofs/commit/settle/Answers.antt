use Rattle.std.proofs.Common.{◌≡◌, inl, inr, ◌∙◌, refl, sym}
use Rattle.std.specs.Prelude.{Some, IsSome}
use Rattle.zst_map.specs.Edits.{edited}
use Rattle.zst_map.specs.declared.edit.Edit.TheVariants as edits
use Rattle.zst_map.specs.zst_handler.Zones.{rrset_at}
use Rattle.zst_draft.proofs.Edited.{editable, emptied}
use Rattle.zst_draft.proofs.Settled.{settles_replaced}
use Rattle.zst_draft.proofs.commit.settle.Goals as goal

pub returns-then-len-eq0-clause-settles : goal.returns-then-len-eq0-clause-settles
returns-then-len-eq0-clause-settles c =
    settles_replaced c.args.zone.now c.remove_at.new.self c.args.key.now c.args.draft.now (record c.args.draft.now { records = c.take.new.self }) _ c.remove_at.ensures.set
    (emptied c.args.zone.now.sets c.args.key.now c.args.draft.now c.in-Some.records (sym c.take.ensures.value ∙ c.in-Some.is) c.requires.can (sym c.len.ensures ∙ c.if-len-eq0.true))
    refl c.take.ensures.after c.requires.can

pub edit_at-requires : goal.edit_at-requires
edit_at-requires c =
    let e = c.args.draft.now in
    let sets = c.args.zone.now.sets in
    let records_is : e.records ≡ Some c.in-Some.records = sym c.take.ensures.value ∙ c.in-Some.is in
    let some : c.in-Some.records.len ≡ 0 → ⊥ = λ none. c.if-len-eq0.false (c.len.ensures ∙ none) in
    let there : IsSome (rrset_at sets c.args.key.now e.record_type) = elim (c.requires.ready c.in-Some.records records_is) [ inl none ↦ absurd (some none) | inr stored ↦ stored ] in
    let edit = editable sets c.args.key.now e c.in-Some.records records_is c.requires.can some c.into_list.result c.into_list.ensures there in
    (edit.set, edit.there, edit.can_edit)

pub returns-clause-settles : goal.returns-clause-settles
returns-clause-settles c =
    let e = c.args.draft.now in
    let sets = c.args.zone.now.sets in
    let records_is : e.records ≡ Some c.in-Some.records = sym c.take.ensures.value ∙ c.in-Some.is in
    let some : c.in-Some.records.len ≡ 0 → ⊥ = λ none. c.if-len-eq0.false (c.len.ensures ∙ none) in
    let there : IsSome (rrset_at sets c.args.key.now e.record_type) = elim (c.requires.ready c.in-Some.records records_is) [ inl none ↦ absurd (some none) | inr stored ↦ stored ] in
    let edit = editable sets c.args.key.now e c.in-Some.records records_is c.requires.can some c.into_list.result c.into_list.ensures there in
    settles_replaced c.args.zone.now c.edit_at.new.self c.args.key.now e (record e { records = c.take.new.self }) (Some (edited (edits.Settle e.record_type c.into_list.result) edit.set))
    (c.edit_at.ensures edit.set edit.there edit.can_edit) edit.edits_to refl c.take.ensures.after c.requires.can
