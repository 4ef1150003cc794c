use Rattle.std.proofs.Common.{refl, subst, sym}
use Rattle.std.specs.Prelude.{◌≡◌, ◌∷◌, [], false, true}
use Rattle.drd_rdata.specs.dnw_codes.declared.record_type.RecordType.{RecordType}
use Rattle.drd_rdata.specs.dnw_codes.RecordType.{same_record_type}
use Rattle.drd_rdata.specs.Types.{type_of}
use Rattle.zst_record.proofs.PutRecords.{held_one, same_type}
use Rattle.zst_record.proofs.record_set.RecordSet.from_record.Goals as goal

pub invariant_of-result : goal.invariant_of-result
invariant_of-result c =
    held_one c.args.first c.record_type-record_type.result (c.args.first ∷ []) c.new.result.items refl c.new.ensures.items
    (subst (λ (t : RecordType). same_record_type (type_of c.args.first.rdata) t ≡ true) (sym c.record_type-record_type.ensures) (same_type c.args.first)) false
