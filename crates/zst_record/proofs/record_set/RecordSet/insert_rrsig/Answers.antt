use Rattle.std.proofs.Common.{◌∙◌, ap, subst, sym}
use Rattle.std.specs.Prelude.{List}
use Rattle.zst_record.specs.OneOrMany.{items_of}
use Rattle.zst_record.specs.declared.records.Record.{Record}
use Rattle.zst_record.specs.RecordSets.{IsHeld, RRset, is_signature_of}
use Rattle.zst_record.proofs.PutRecords.{held_signed}
use Rattle.zst_record.proofs.record_set.RecordSet.insert_rrsig.Goals as goal

pub invariant_of-self-2 : goal.invariant_of-self-2
invariant_of-self-2 c =
    subst (λ (rs : List Record). IsHeld c.self.inside.record_type c.self.inside.is_empty (items_of c.self.inside.records) rs) (sym c.in_ok-push.ensures.items)
    (held_signed c.self.inside.record_type c.self.inside.is_empty (items_of c.self.inside.records) c.self.inside.rrsigs.items c.args.rrsig c.self.invariant
    (ap (λ (s : RRset). is_signature_of s c.args.rrsig) c.self.view_is ∙ sym c.is_signed_by.ensures ∙ c.if-not-is_signed_by.false))
