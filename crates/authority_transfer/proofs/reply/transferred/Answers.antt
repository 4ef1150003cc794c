use Rattle.std.proofs.Common.{Vec, Global}
use Rattle.zsv_message.specs.zst_record.declared.records.Record.{Record}
use Rattle.authority_transfer.proofs.Given.{between_gives, between_unframed}
use Rattle.authority_transfer.proofs.reply.transferred.Goals as goal

pub returns-in-Some-clause-gives : goal.returns-in-Some-clause-gives
returns-in-Some-clause-gives c = c.in-Some.ensures.first c.args.origin.now

pub returns-clause-gives : goal.returns-clause-gives
returns-clause-gives c =
    let said = c.in_default.ensures.first in
    between_gives c.args.origin.now c.args.reply.now said.0 said.2 c.in-Ok.answers.items (c.in-Ok.ensures.ok said.0 said.1) c.in-Ok.ensures.fits {X = Vec Record Global} (λ records. records.items) c.between.result c.between.ensures.ok c.between.ensures.unframed

pub returns-clause-unframed : goal.returns-clause-unframed
returns-clause-unframed c =
    let said = c.in_default.ensures.first in
    between_unframed c.args.origin.now c.args.reply.now said.0 said.2 c.in-Ok.answers.items (c.in-Ok.ensures.ok said.0 said.1) c.in-Ok.ensures.fits c.between.result c.between.ensures.unframed
