use Rattle.std.proofs.Common.{◌∙◌, ap}
use Rattle.std.specs.Prelude.{position, slice_set}
use Rattle.zst_map.specs.dnw_codes.declared.dns_class.DNSClass.TheVariants as classes
use Rattle.zst_map.specs.dnw_codes.declared.record_type.RecordType.{RecordType}
use Rattle.zst_map.specs.zst_handler.Zones.{rrset_at}
use Rattle.std.specs.Prelude.{false}
use Rattle.zst_draft.specs.OwnerDrafts.{Applies, is_draft_of}
use Rattle.zst_draft.proofs.AppliedDrafts.{none_applies, take_applies}
use Rattle.zst_draft.proofs.DraftedRecords.{all_three}
use Rattle.zst_draft.proofs.DraftedTypes.{place_found}
use Rattle.zst_draft.proofs.DraftedZones.{by_number}
use Rattle.zst_draft.proofs.Found.{there_or}
use Rattle.zst_draft.proofs.owner.OwnerDraft.take.Goals as goal

pub returns-in-Some : goal.returns-in-Some
returns-in-Some c =
    let es = c.args.self.now.sets.items in
    let i = c.in-Some.place in
    let place = c.in-Some.ensures ∙ ap (λ (t : RecordType). position (is_draft_of t) es) c.record_type.ensures in
    let small = (place_found (is_draft_of c.record_type.result) es i c.in-Some.ensures).1 in
    all_three c.take.result _
    (λ changed. Applies (rrset_at c.args.sets.now c.args.key.now) es false c.args.change.now classes.NONE changed (slice_set es i c.take.new.self))
    (λ changed answer of kind set.
    take_applies (rrset_at c.args.sets.now c.args.key.now) es i c.index_mut.result.now c.take.new.self c.args.change.now changed (by_number c.args.sets.now c.args.key.now) c.requires place
    (there_or es i _ c.index_mut.result.now small c.index_mut.ensures.value) of kind answer set)
    c.take.ensures.changed c.take.ensures.draft c.take.ensures.kind c.take.ensures.set

pub returns-in-None : goal.returns-in-None
returns-in-None c =
    none_applies (rrset_at c.args.sets.now c.args.key.now) c.args.self.now.sets.items c.args.change.now c.requires
    (c.in-None.ensures ∙ ap (λ (t : RecordType). position (is_draft_of t) c.args.self.now.sets.items) c.record_type.ensures)
