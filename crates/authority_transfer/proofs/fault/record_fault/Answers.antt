use Rattle.std.proofs.Common.{◌∙◌, sym, ap, refl}
use Rattle.authority_load.proofs.LowerNames.{inside-keyed}
use Rattle.authority_load.specs.Loaded.{added_by_signing}
use Rattle.authority_transfer.proofs.fault.record_fault.Goals as goal

pub returns-then-not-is_in_zone : goal.returns-then-not-is_in_zone
returns-then-not-is_in_zone c =
    let inside = sym (inside-keyed c.args.zone.now.origin c.args.key.now c.args.next.now.name c.requires) ∙ sym c.is_in_zone.ensures ∙ c.if-not-is_in_zone.true in
    rw inside refl

pub returns-then-is_added_by_signing : goal.returns-then-is_added_by_signing
returns-then-is_added_by_signing c =
    let inside = sym (inside-keyed c.args.zone.now.origin c.args.key.now c.args.next.now.name c.requires) ∙ sym c.is_in_zone.ensures ∙ c.if-not-is_in_zone.false in
    let proof = sym (c.is_added_by_signing.ensures ∙ ap added_by_signing c.record_type.ensures) ∙ c.if-is_added_by_signing.true in
    rw (inside, proof) refl

pub returns-then-may_join : goal.returns-then-may_join
returns-then-may_join c =
    let inside = sym (inside-keyed c.args.zone.now.origin c.args.key.now c.args.next.now.name c.requires) ∙ sym c.is_in_zone.ensures ∙ c.if-not-is_in_zone.false in
    let proof = sym (c.is_added_by_signing.ensures ∙ ap added_by_signing c.record_type.ensures) ∙ c.if-is_added_by_signing.false in
    let joins = sym c.may_join.ensures ∙ c.if-may_join.true in
    rw (inside, proof, joins) refl

pub returns-else-may_join : goal.returns-else-may_join
returns-else-may_join c =
    let inside = sym (inside-keyed c.args.zone.now.origin c.args.key.now c.args.next.now.name c.requires) ∙ sym c.is_in_zone.ensures ∙ c.if-not-is_in_zone.false in
    let proof = sym (c.is_added_by_signing.ensures ∙ ap added_by_signing c.record_type.ensures) ∙ c.if-is_added_by_signing.false in
    let joins = sym c.may_join.ensures ∙ c.if-may_join.false in
    rw (inside, proof, joins) refl
