use Rattle.std.proofs.Common.{Bool, subst, sym}
use Rattle.drd_fields.specs.Equality.{Tells}
use Rattle.drd_fields.specs.Writing.{fields_octets}
use Rattle.drd_csync.specs.Data.{csync_fields}
use Rattle.drd_csync.proofs.Equality.{csync_tells}
use Rattle.drd_csync.proofs.csync.CSYNCPartialEq.eq.Goals as goal

pub returns-clause-canonical : goal.returns-clause-canonical
returns-clause-canonical c = λ xs ys written also.
    subst (λ (same : Bool). Tells same (fields_octets (csync_fields c.args.self.now xs)) (fields_octets (csync_fields c.args.other.now ys))) (sym c.is_same.ensures.value)
    (csync_tells c.args.self.now c.args.other.now c.is_same.ensures.small.0 c.is_same.ensures.small.1 xs ys written also)
