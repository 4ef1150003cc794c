use Rattle.zst_zone.proofs.handler.StoredZone.lookup_origin.Goals as goal

pub returns-in-SOA : goal.returns-in-SOA
returns-in-SOA c = rw c.in-SOA.is c.lookup_start.ensures
