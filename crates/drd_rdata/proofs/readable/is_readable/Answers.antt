use Rattle.drd_rdata.proofs.ReadableLaws.{from_read, to_read}
use Rattle.drd_rdata.proofs.readable.is_readable.Goals as goal

pub returns : goal.returns
returns c =
    (λ yes. to_read c.args.rdata.now (c.can_be_read.ensures.0 yes), λ can. c.can_be_read.ensures.1 (from_read c.args.rdata.now can))
