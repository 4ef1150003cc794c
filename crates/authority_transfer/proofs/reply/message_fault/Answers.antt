use Rattle.std.proofs.Common.{sym, ◌∙◌}
use Rattle.authority_transfer.proofs.Given.{read_framed, read_gives}
use Rattle.authority_transfer.proofs.reply.message_fault.Goals as goal

pub returns-clause-first : goal.returns-clause-first
returns-clause-first c = read_gives c.args.reply.now c.read.result c.read.ensures c.fault_of.result c.fault_of.ensures

pub returns-clause-framed : goal.returns-clause-framed
returns-clause-framed c = λ same. read_framed c.read.result (sym c.fault_of.ensures ∙ same)
