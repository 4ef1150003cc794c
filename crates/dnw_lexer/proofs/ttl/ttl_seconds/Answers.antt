use Rattle.std.proofs.Common.{◌≡◌, ◌∷◌, [], ◌∙◌, sym, ap, subst}
use Rattle.dnw_lexer.specs.Ttl.{TtlText}
use Rattle.dnw_lexer.proofs.Numbers.{ttl-none, ttl-ended, ttl-no_unit, ttl-over, ttl-unit, ttl-more, empty-is, zero-test, some-test}
use Rattle.dnw_lexer.proofs.ttl.ttl_seconds.Goals as goal

pub returns-in_err-number : goal.returns-in_err-number
returns-in_err-number c =
    rw c.from_residual.ensures (ttl-none c.args.text.now c.groups.seconds c.groups.rest.now 4294967296 c.groups.invariant c.in_err-number.ensures)

pub returns-in_default : goal.returns-in_default
returns-in_default c =
    ttl-ended c.args.text.now c.with_group.result c.groups.seconds c.groups.rest.now c.in_ok-number.number c.in_ok-number.behind.now 4294967296
    c.groups.invariant c.in_ok-number.ensures (empty-is c.in_ok-number.behind.now c.in_default.ensures.cases) c.with_group.ensures

pub returns-in_err-unit : goal.returns-in_err-unit
returns-in_err-unit c =
    rw c.from_residual-in_err-unit.ensures
    (λ m t small. ttl-no_unit c.args.text.now c.groups.seconds c.groups.rest.now c.in_ok-number.number c.in_ok-number.behind.now c.in-Some.letter.now c.in-Some.later.now
    c.groups.invariant c.in_ok-number.ensures c.in-Some.ensures.cases.0 (sym c.unit_seconds.ensures ∙ c.in_err-unit.was) m t)

pub returns-in_err-seconds : goal.returns-in_err-seconds
returns-in_err-seconds c =
    rw c.from_residual-in_err-seconds.ensures
    (ttl-over c.args.text.now c.groups.seconds c.groups.rest.now c.in_ok-number.number c.in_ok-number.behind.now c.in-Some.letter.now c.in_ok-unit.unit c.in-Some.later.now 4294967296
    c.groups.invariant c.in_ok-number.ensures c.in-Some.ensures.cases.0 (sym c.unit_seconds.ensures ∙ c.in_ok-unit.was) c.in_err-seconds.ensures)

pub returns-then-is_empty : goal.returns-then-is_empty
returns-then-is_empty c =
    let none : c.in-Some.later.now ≡ [] = empty-is c.in-Some.later.now (zero-test _ c.if-is_empty.ensures) in
    subst (TtlText c.args.text.now) (sym (c.in_ok-seconds.ensures).1)
    (ttl-unit c.args.text.now c.groups.seconds c.groups.rest.now c.in_ok-number.number c.in_ok-number.behind.now c.in-Some.letter.now c.in_ok-unit.unit
    c.groups.invariant c.in_ok-number.ensures (c.in-Some.ensures.cases.0 ∙ ap (λ t. c.in-Some.letter.now ∷ t) none) (sym c.unit_seconds.ensures ∙ c.in_ok-unit.was))

pub groups-preserved : goal.groups-preserved
groups-preserved c =
    ttl-more c.args.text.now c.groups.seconds c.groups.rest.now c.in_ok-number.number c.in_ok-number.behind.now c.in-Some.letter.now c.in_ok-unit.unit c.in-Some.later.now c.in_ok-seconds.seconds
    c.groups.invariant c.in_ok-number.ensures c.in-Some.ensures.cases.0 (sym c.unit_seconds.ensures ∙ c.in_ok-unit.was) (c.in_ok-seconds.ensures).1 (some-test _ c.if-is_empty.ensures)
