use Rattle.std.proofs.Common.{subst, sym, List}
use Rattle.zst_absence.specs.dnw_codes.declared.record_type.RecordType.TheVariants as kind
use Rattle.zst_absence.specs.dnw_name.DomainName.{DomainName}
use Rattle.zst_circle.specs.Securing.{AreAuthoritative}
use Rattle.zst_circle.proofs.secured.put_nsec_circle.Goals as goal

pub put_nsec-requires-clause-names : goal.put_nsec-requires-clause-names
put_nsec-requires-clause-names g c = λ zone at.
    subst (λ (l : List DomainName). AreAuthoritative kind.NSEC zone l) (sym c.deref.ensures.value) (c.in_ok-names.ensures.are kind.NSEC zone at c.requires.none)
