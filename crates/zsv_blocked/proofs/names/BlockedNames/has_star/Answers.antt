use Rattle.std.proofs.Common.{ap, ◌∙◌}
use Rattle.zsv_blocked.specs.BlockedNames.{is_listed}
use Rattle.zst_key.specs.Ancestors.{star}
use Rattle.zsv_blocked.proofs.names.BlockedNames.has_star.Goals as goal

pub returns : goal.returns
returns c = c.holds.ensures ∙ ap (λ key. is_listed c.args.self.now key) (c.in_ok-to_star.ensures.ok ∙ ap star c.in_ok-star.ensures.cases)
