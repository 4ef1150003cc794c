use Rattle.std.specs.Prelude.{◌≡◌, ◌||◌, ◌&&◌}
use Rattle.std.proofs.Common.{take}
use Rattle.std.specs.List.{list_any}
use Rattle.zst_absence.specs.dnw_codes.RecordType.{same_record_type}
use Rattle.zst_absence.specs.dnw_codes.declared.record_type.RecordType.{RecordType}
use Rattle.zst_absence.specs.dnw_codes.declared.record_type.RecordType.TheVariants as kind
use Rattle.zst_circle.specs.Nsec3Circle.{is_signed_type}
use Rattle.zst_circle.proofs.NsecHashedTypes.{are_kept}
use Rattle.zst_circle.proofs.hash_types.nsec3_types.Given as goal

abbrev pub invariant-sets : goal.invariant-sets
invariant-sets l =
    (t : RecordType) → list_any (λ x. same_record_type x t) l.types.items
    ≡ (are_kept l.fn.delegated t (take l.set-index l.sets) || (same_record_type t kind.RRSIG && list_any (λ set. is_signed_type l.fn.delegated set.record_type) l.sets))
