use Rattle.std.specs.Prelude.{◌≡◌}
use Rattle.std.proofs.Common.{take}
use Rattle.std.specs.List.{list_any}
use Rattle.zst_absence.specs.dnw_codes.RecordType.{same_record_type}
use Rattle.zst_absence.specs.dnw_codes.declared.record_type.RecordType.{RecordType}
use Rattle.zst_circle.specs.NsecCircle.{is_nsec_type}
use Rattle.zst_circle.proofs.types.nsec_types.Given as goal

abbrev pub invariant-sets : goal.invariant-sets
invariant-sets l =
    (t : RecordType) → list_any (λ x. same_record_type x t) l.types.items ≡ is_nsec_type (take l.set-index l.sets) l.delegated t
