use Rattle.zsv_reply.specs.zsv_message.Messages.{IsMessage}
use Rattle.authority_denial.proofs.Denying.{denies_type_if, is_found, is_none, told_long}
use Rattle.authority_denial.proofs.checking.check_type.Goals as goal

pub returns-in-Some-clause-exact : goal.returns-in-Some-clause-exact
returns-in-Some-clause-exact c =
    denies_type_if c.tells_type.result c.args.reply.now c.in-Some.message c.args.name.now c.args.record_type (is_found (IsMessage c.args.reply.now) _ c.in_ok-message.field-0 c.in-Some.message c.in-Some.is c.in_ok-message.ensures.found) c.tells_type.ensures

pub returns-in-None-clause-exact : goal.returns-in-None-clause-exact
returns-in-None-clause-exact c = λ d. is_none (IsMessage c.args.reply.now) _ c.in_ok-message.field-0 c.in-None.is c.in_ok-message.ensures.found d.message d.is

pub returns-in-Some-clause-memory : goal.returns-in-Some-clause-memory
returns-in-Some-clause-memory c = told_long c.tells_type.result c.args.reply.now c.in-Some.message (is_found (IsMessage c.args.reply.now) _ c.in_ok-message.field-0 c.in-Some.message c.in-Some.is c.in_ok-message.ensures.found)
