use Rattle.std.proofs.Common.{◌≡◌, ◌≤◌, ◌<◌, ◌-◌, false, arith, sym, ◌∙◌}
use Rattle.std.proofs.lemmas.Grind.{common_steps}
use Rattle.zsv_blocked.specs.BlockedNames.{is_listed, wildcard_over}
use Rattle.zsv_blocked.proofs.NamesLemmas.{has-none, has-one, next-level, next-listed, passed-more}
use Rattle.zsv_blocked.proofs.names.BlockedNames.finds_wildcard.Goals as goal

pub returns-then-branch : goal.returns-then-branch
returns-then-branch c =
    let low : c.args.depth < c.levels.count = grind (arith, common_steps) in
    let above = c.to_parent.ensures ∙ next-level c.args.name.now c.levels.above c.levels.count c.levels.invariant.above c.levels.invariant.few (omega (arith, low)) in
    let found = sym (next-listed c.args.self.now c.args.name.now c.to_parent.new.self (c.levels.count - 1) above (omega (arith, low, c.levels.invariant.few))) ∙ sym c.in_ok-has_star.ensures ∙ c.if-branch.true in
    sym (has-one c.args.self.now c.args.depth (c.levels.count - 1) c.args.name.now (omega (arith, low)) (omega (arith, low, c.levels.invariant.few)) found)

pub levels-preserved : goal.levels-preserved
levels-preserved c =
    let low : c.args.depth < c.levels.count = grind (arith, common_steps) in
    let above = c.to_parent.ensures ∙ next-level c.args.name.now c.levels.above c.levels.count c.levels.invariant.above c.levels.invariant.few (omega (arith, low)) in
    let gone : is_listed c.args.self.now (wildcard_over (c.levels.count - 1) c.args.name.now) ≡ false =
    sym (next-listed c.args.self.now c.args.name.now c.to_parent.new.self (c.levels.count - 1) above (omega (arith, low, c.levels.invariant.few))) ∙ sym c.in_ok-has_star.ensures ∙ c.if-branch.false in
    record {
      few = omega (arith, c.levels.invariant.few);
      above = above;
      passed = passed-more c.args.self.now c.args.name.now c.levels.count (omega (arith, low)) gone c.levels.invariant.passed;
    }

pub returns : goal.returns
returns c =
    let low : c.levels.count ≤ c.args.depth = grind (arith, common_steps) in
    sym (has-none c.args.self.now c.args.depth c.args.name.now (λ k from high. c.levels.invariant.passed k (omega (arith, low, from)) high))
