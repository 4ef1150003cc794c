use Rattle.std.proofs.Common.{◌≡◌, subst, List}
use Rattle.std.specs.Prelude.{IfSome, Option, Some, None, OnOk, Result, Ok, Err}
use Rattle.zst_circle.specs.dnw_codes.declared.record_type.RecordType.{RecordType}
use Rattle.zst_circle.specs.dnw_name.DomainName.{DomainName}
use Rattle.zst_circle.specs.zst_handler.Zones.{AreInOrder, AreStored, IsStored, rrset_at}
use Rattle.zst_circle.specs.zst_record.RecordSets.{RRset}
use Rattle.zst_zone.proofs.ReadBack.{each_found}
use Rattle.zst_zone.proofs.Stored.{kept_after}
use Rattle.zst_zone.proofs.handler.StoredZone.secure.Goals as goal

some_found : (P : RRset → Type 0) (o : Option RRset) (s : RRset) → o ≡ Some s → IfSome o P → P s
some_found P (Some x) s e p = let same : x ≡ s = cc in subst P same p
some_found P None s e p = absurd (cc e)

all_stored : {T E : Type 0} (r : Result T E) (old new : List RRset) → AreStored old → OnOk r (AreInOrder new)
    → OnOk r (AreStored old → (name : DomainName) (t : RecordType) → IfSome (rrset_at new name t) IsStored) → OnOk r (AreStored new)
all_stored (Ok x) old new before ordered stored =
    each_found IsStored new ordered (λ name t s e. some_found IsStored (rrset_at new name t) s e (stored before name t))
all_stored (Err e) old new before ordered stored = tt

pub invariant_of-self : goal.invariant_of-self
invariant_of-self g c =
    let inside = c.self.inside in
    kept_after c.secure.result inside.origin inside.origin_key inside.sets c.secure.new.sets c.self.invariant c.secure.ensures.ordered
    (all_stored c.secure.result inside.sets c.secure.new.sets c.self.invariant.stored c.secure.ensures.ordered c.secure.ensures.stored)
    c.secure.ensures.err
