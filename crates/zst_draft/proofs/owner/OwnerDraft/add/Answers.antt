use Rattle.std.proofs.Common.{◌≡◌, ◌∙◌, ap, subst, sym}
use Rattle.std.specs.Prelude.{true, false, position, slice_set}
use Rattle.zst_map.specs.dnw_codes.RecordType.{same_record_type}
use Rattle.zst_map.specs.dnw_codes.declared.dns_class.DNSClass.TheVariants as classes
use Rattle.zst_map.specs.dnw_codes.declared.record_type.RecordType.{RecordType}
use Rattle.zst_map.specs.drd_rdata.Types.{type_of}
use Rattle.zst_map.specs.zst_handler.Zones.{rrset_at}
use Rattle.zst_draft.specs.OwnerDrafts.{Applies, is_draft_of, keeps_out}
use Rattle.zst_draft.proofs.AppliedDrafts.{add_applies, begin_applies, kept_out, turned}
use Rattle.zst_draft.proofs.DraftedRecords.{all_three}
use Rattle.zst_draft.proofs.DraftedTypes.{found_passes, place_found}
use Rattle.zst_draft.proofs.DraftedZones.{by_number}
use Rattle.zst_draft.proofs.Found.{there_or}
use Rattle.zst_draft.proofs.owner.OwnerDraft.add.Goals as goal

pub returns-then-keeps_out : goal.returns-then-keeps_out
returns-then-keeps_out c =
    kept_out (rrset_at c.args.sets.now c.args.key.now) c.args.self.now.sets.items c.args.next c.requires
    (ap (keeps_out c.args.self.now.sets.items) (sym c.record_type-record_type.ensures) ∙ sym c.keeps_out.ensures ∙ c.if-keeps_out.true)

pub add-requires-clause-kind : goal.add-requires-clause-kind
add-requires-clause-kind c =
    let es = c.args.self.now.sets.items in
    let found = place_found (is_draft_of c.record_type-record_type.result) es c.in-Some.place c.in-Some.ensures in
    let passes = found_passes (is_draft_of c.record_type-record_type.result) es c.index_mut.result.now
    (found.0 ∙ there_or es c.in-Some.place _ c.index_mut.result.now found.1 c.index_mut.ensures.value) in
    turned c.index_mut.result.now.record_type (type_of c.args.next.rdata)
    (subst (λ (t : RecordType). same_record_type c.index_mut.result.now.record_type t ≡ true) c.record_type-record_type.ensures passes)

pub returns-in-Some : goal.returns-in-Some
returns-in-Some c =
    let es = c.args.self.now.sets.items in
    let i = c.in-Some.place in
    let place = c.in-Some.ensures ∙ ap (λ (t : RecordType). position (is_draft_of t) es) c.record_type-record_type.ensures in
    let small = (place_found (is_draft_of c.record_type-record_type.result) es i c.in-Some.ensures).1 in
    all_three c.add.result _
    (λ changed. Applies (rrset_at c.args.sets.now c.args.key.now) es false c.args.next classes.IN changed (slice_set es i c.add.new.self))
    (λ changed answer of kind set.
    add_applies (rrset_at c.args.sets.now c.args.key.now) es i c.index_mut.result.now c.add.new.self c.args.next changed (by_number c.args.sets.now c.args.key.now) c.requires
    (ap (keeps_out es) (sym c.record_type-record_type.ensures) ∙ sym c.keeps_out.ensures ∙ c.if-keeps_out.false)
    place (there_or es i _ c.index_mut.result.now small c.index_mut.ensures.value) of kind answer set)
    c.add.ensures.changed c.add.ensures.draft c.add.ensures.kind c.add.ensures.set

pub returns-in_ok-push-in-None : goal.returns-in_ok-push-in-None
returns-in_ok-push-in-None c =
    let es = c.args.self.now.sets.items in
    let stored = rrset_at c.args.sets.now c.args.key.now in
    let draft = c.in_ok-draft-in-None.draft in
    subst (Applies stored es false c.args.next classes.IN true) (sym c.in_ok-push-in-None.ensures.ok)
    (begin_applies stored es draft c.args.next c.requires
    (ap (keeps_out es) (sym c.record_type-record_type.ensures) ∙ sym c.keeps_out.ensures ∙ c.if-keeps_out.false)
    (c.in-None.ensures ∙ ap (λ (t : RecordType). position (is_draft_of t) es) c.record_type-record_type.ensures)
    c.in_ok-draft-in-None.ensures.kind (c.in_ok-draft-in-None.ensures.draft (stored draft.record_type)) (c.in_ok-draft-in-None.ensures.set (stored draft.record_type)))
