use Rattle.std.proofs.Common.{take}
use Rattle.zst_absence.specs.zst_handler.Zones.{Zone}
use Rattle.zst_circle.specs.Nsec3Circle.{AreGathered, hashing_of}
use Rattle.zst_circle.specs.Securing.{IsZoneAt}
use Rattle.zst_circle.proofs.hashed.hashed_names.Given as goal

abbrev pub invariant-places : goal.invariant-places
invariant-places l =
    (zone : Zone) → IsZoneAt l.sets l.key zone → AreGathered (hashing_of l.by) l.by.opt_out zone l.origin (take l.place l.names) l.circle.entries
