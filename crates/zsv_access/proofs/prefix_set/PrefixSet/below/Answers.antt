use Rattle.std.proofs.Common.{◌≡◌, false, ◌∙◌, ap}
use Rattle.zsv_access.specs.Prefixes.{has_prefix}
use Rattle.zsv_access.proofs.PrefixLemmas.{not-shorter, shorter-less}
use Rattle.zsv_access.proofs.prefix_set.PrefixSet.below.Goals as goal

pub returns-in_err-shorter-clause-greatest : goal.returns-in_err-shorter-clause-greatest
returns-in_err-shorter-clause-greatest c prefix has short =
    let none : has_prefix c.self.inside.prefixes.keys prefix ≡ false = (c.range.ensures.in_range tt).5 c.in_err-shorter.ensures.steps.0 prefix (tt, shorter-less prefix c.args.len 0 short) in
    absurd (cc (has, none, c.self.view_is))

pub returns-clause-greatest : goal.returns-clause-greatest
returns-clause-greatest c prefix has short =
    not-shorter c.in_ok-shorter.shorter.now prefix
    ((c.range.ensures.in_range tt).4 c.in_ok-shorter.shorter.now c.next_back.new.self c.in_ok-shorter.ensures.steps prefix (tt, shorter-less prefix c.args.len 0 short) (ap (λ keys. has_prefix keys prefix) c.self.view_is ∙ has))
