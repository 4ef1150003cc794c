use Rattle.zsv_parts.proofs.TsigLaws.{refused_none}
use Rattle.zsv_parts.proofs.tsig.read_tsig.Goals as goal

pub returns-in-Ok-clause-none : goal.returns-in-Ok-clause-none
returns-in-Ok-clause-none c =
    refused_none c.read_signed.result c.args.decoder.now.octets c.args.decoder.now.index c.args.len c.in-Ok.algorithm c.read.new.decoder.index c.in-Ok.ensures.ok
    (rw (c.index-start.ensures.value, c.in-Ok.ensures.same) at c.read_signed.ensures.err)
