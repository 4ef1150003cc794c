use Rattle.std.proofs.Common.{take}
use Rattle.zst_absence.specs.dnw_codes.declared.record_type.RecordType.TheVariants as kind
use Rattle.zst_absence.specs.zst_handler.Zones.{Zone}
use Rattle.zst_circle.specs.Nsec3Circle.{AreGathered, hashing_of}
use Rattle.zst_circle.specs.Securing.{AreAuthoritative, IsZoneAt}
use Rattle.zst_circle.proofs.NsecHashedNames.{Levels}
use Rattle.zst_circle.proofs.hashed.put_levels.Given as goal

abbrev pub invariant-levels : goal.invariant-levels
invariant-levels l =
    (zone : Zone) → IsZoneAt l.sets l.key zone → AreAuthoritative kind.NSEC3 zone l.names
    → AreGathered (hashing_of l.by) l.by.opt_out zone l.origin (take l.place l.names) l.initial.circle.entries
    → Levels (hashing_of l.by) l.by.opt_out zone l.origin (take l.place l.names) l.name l.level l.circle.entries
