use Rattle.std.proofs.Common.{rules, ◌≡◌, ◌∷◌, ◌∙◌, sym, ap}
use Rattle.dnw_label.proofs.EscapeLemmas.{quoted_text, octal_text, no_octal_text}
use Rattle.dnw_label.proofs.escape.escaped_octet.Goals as goal

pub returns-then-not-is_ascii_digit : goal.returns-then-not-is_ascii_digit
returns-then-not-is_ascii_digit c = search (rules, quoted_text)

pub returns-in_err-octet : goal.returns-in_err-octet
returns-in_err-octet c =
    let whole : c.args.text.now ≡ c.in_ok-first.first.now ∷ c.in_ok-second.second.now ∷ c.in_ok-third.third.now ∷ c.in_ok-third.rest.now =
    c.in_ok-first.ensures.cases.0
    ∙ ap (λ r. c.in_ok-first.first.now ∷ r) (c.in_ok-second.ensures.cases.0
    ∙ ap (λ r. c.in_ok-second.second.now ∷ r) c.in_ok-third.ensures.cases.0) in
    rw (c.from_residual-in_err-octet.ensures, whole)
    (no_octal_text c.in_ok-first.first.now c.in_ok-second.second.now c.in_ok-third.third.now c.in_ok-third.rest.now
    (sym c.is_ascii_digit.ensures.value ∙ c.if-not-is_ascii_digit.false) (c.in_err-octet.ensures))

pub returns : goal.returns
returns c =
    octal_text c.in_ok-first.first.now c.in_ok-second.second.now c.in_ok-third.third.now c.in_ok-octet.octet
    c.args.text.now c.in_ok-first.rest.now c.in_ok-second.rest.now c.in_ok-third.rest.now
    c.in_ok-first.ensures.cases.0 c.in_ok-second.ensures.cases.0 c.in_ok-third.ensures.cases.0
    (c.in_ok-octet.ensures).0.0 (c.in_ok-octet.ensures).0.1 (sym (c.in_ok-octet.ensures).1)
