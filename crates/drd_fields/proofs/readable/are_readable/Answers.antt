use Rattle.std.proofs.Common.{map}
use Rattle.drd_fields.specs.Seen.{seen}
use Rattle.drd_fields.proofs.ReadableLaws.{to_readable, from_readable}
use Rattle.drd_fields.proofs.readable.are_readable.Goals as goal

pub returns-then-stand_alone : goal.returns-then-stand_alone
returns-then-stand_alone c =
    let fs = map seen c.args.fields.now in
    (λ yes. to_readable fs (c.stand_alone.ensures.0 c.if-stand_alone.true) (c.take_octets.ensures.0 yes), λ can. c.take_octets.ensures.1 (from_readable fs can).1)

pub returns-else-stand_alone : goal.returns-else-stand_alone
returns-else-stand_alone c =
    let fs = map seen c.args.fields.now in
    (λ yes. absurd (cc (yes, c.if-stand_alone.false)), λ can. c.stand_alone.ensures.1 (from_readable fs can).0)
