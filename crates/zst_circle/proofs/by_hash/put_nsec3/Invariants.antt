use Rattle.std.proofs.Common.{take}
use Rattle.zst_circle.specs.Nsec3Circle.{hashing_of}
use Rattle.zst_circle.proofs.NsecHashed.{Nsec3sPut}
use Rattle.zst_circle.proofs.by_hash.put_nsec3.Given as goal

abbrev pub invariant-places : goal.invariant-places
invariant-places g l =
    Nsec3sPut (hashing_of l.by) l.by.opt_out g.K.ZoneSigner.gives g.K.ZoneSigner.fails l.keys l.now l.initial.sets l.key l.origin l.hashed.items l.ttl (take l.place l.hashed.items) l.sets
