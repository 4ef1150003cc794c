use Rattle.std.proofs.Common.{ap, sym, ◌∙◌}
use Rattle.zsv_access.specs.Prefixes.{has_prefix, longest}
use Rattle.zsv_access.proofs.PrefixLemmas.{begin-shorter, longest-here, longest-none, not-shorter}
use Rattle.zsv_access.proofs.prefix_set.PrefixSet.longest.Goals as goal

pub lengths-init : goal.lengths-init
lengths-init c prefix has begins = not-shorter c.in_ok-len.field-0.now prefix (c.in_ok-len.ensures.greatest prefix has)

pub returns-then-contains : goal.returns-then-contains
returns-then-contains c =
    let keys = c.self.inside.prefixes.keys in
    let here = ap (has_prefix keys) (sym c.of.ensures) ∙ sym c.contains.ensures ∙ c.if-contains.true in
    sym (longest-here c.args.width c.args.addr c.lengths.len keys here c.lengths.invariant) ∙ ap (longest c.args.width c.args.addr) c.self.view_is

pub returns-in_err-len-2 : goal.returns-in_err-len-2
returns-in_err-len-2 c =
    let keys = c.self.inside.prefixes.keys in
    let missing = ap (has_prefix keys) (sym c.of.ensures) ∙ sym c.contains.ensures ∙ c.if-contains.false in
    c.from_residual-in_err-len-2.ensures
    ∙ sym (longest-none c.args.width c.args.addr keys (λ q there begin. c.in_err-len-2.ensures.greatest q (ap (λ ps. has_prefix ps q) (sym c.self.view_is) ∙ there)
    (begin-shorter c.args.width c.args.addr c.lengths.len keys missing c.lengths.invariant q there begin)))
    ∙ ap (longest c.args.width c.args.addr) c.self.view_is

pub lengths-preserved : goal.lengths-preserved
lengths-preserved c q there begin =
    let keys = c.self.inside.prefixes.keys in
    let missing = ap (has_prefix keys) (sym c.of.ensures) ∙ sym c.contains.ensures ∙ c.if-contains.false in
    c.in_ok-len-2.ensures.greatest q (ap (λ ps. has_prefix ps q) (sym c.self.view_is) ∙ there)
    (begin-shorter c.args.width c.args.addr c.lengths.len keys missing c.lengths.invariant q there begin)
