use Rattle.std.proofs.Common.{sym, subst}
use Rattle.dnw_lexer.specs.Ttl.{NoDigit}
use Rattle.dnw_lexer.proofs.Numbers.{digits-more, digits-done, digits-over, no_digit-empty}
use Rattle.dnw_lexer.proofs.ttl.digits_at.Goals as goal

pub returns-then-not-is_ascii_digit : goal.returns-then-not-is_ascii_digit
returns-then-not-is_ascii_digit c =
    digits-done c.args.text.now c.digits.value c.digits.rest.now c.digits.invariant
    (subst NoDigit (sym c.in-Some.ensures.cases.0) (sym c.if-not-is_ascii_digit.ensures.value))

pub returns-in_err-value : goal.returns-in_err-value
returns-in_err-value c =
    rw c.from_residual.ensures
    (digits-over c.args.text.now c.digits.value c.digits.rest.now c.in-Some.digit.now c.in-Some.behind.now 4294967296 c.digits.invariant
    c.in-Some.ensures.cases.0 (sym c.if-not-is_ascii_digit.ensures.value) c.in_err-value.ensures)

pub digits-preserved : goal.digits-preserved
digits-preserved c =
    digits-more c.args.text.now c.digits.value c.digits.rest.now c.in-Some.digit.now c.in-Some.behind.now c.in_ok-value.value c.digits.invariant
    c.in-Some.ensures.cases.0 (sym c.if-not-is_ascii_digit.ensures.value) (sym (c.in_ok-value.ensures).1)

pub returns : goal.returns
returns c =
    digits-done c.args.text.now c.digits.value c.digits.rest.now c.digits.invariant (no_digit-empty c.digits.rest.now c.in_default.ensures.cases)
