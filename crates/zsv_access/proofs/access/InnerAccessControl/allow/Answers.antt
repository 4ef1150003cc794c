use Rattle.std.proofs.Common.{◌∙◌, sym}
use Rattle.zsv_access.proofs.NoNetworks.{none_decide}
use Rattle.zsv_access.proofs.access.InnerAccessControl.allow.Goals as goal

pub returns-then-is_empty : goal.returns-then-is_empty
returns-then-is_empty c = sym (none_decide c.args.self.now c.args.width c.args.addr (sym c.is_empty.ensures ∙ c.if-is_empty.true))
