use Rattle.std.proofs.Common.{take}
use Rattle.zst_circle.proofs.NsecSecured.{NsecsPut}
use Rattle.zst_circle.proofs.by_name.put_nsec.Given as goal

abbrev pub invariant-places : goal.invariant-places
invariant-places g l =
    NsecsPut g.K.ZoneSigner.gives g.K.ZoneSigner.fails l.keys l.now l.initial.sets l.origin l.names l.ttl (take l.place l.names) l.sets
