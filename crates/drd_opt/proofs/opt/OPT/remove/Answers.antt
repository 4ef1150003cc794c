use Rattle.std.proofs.Common.{not, rules}
use Rattle.std.proofs.lemmas.Fn.{filter_same}
use Rattle.drd_opt.specs.Entries.{Entry, has_code}
use Rattle.drd_opt.proofs.opt.OPT.remove.Goals as goal

pub returns : goal.returns
returns c = filter_same _ (λ (entry : Entry). not (has_code c.args.code entry)) _ (λ x b f h. (search rules, search rules)) _ _ c.retain.ensures.filtered
