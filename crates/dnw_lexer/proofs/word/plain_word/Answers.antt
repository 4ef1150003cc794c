use Rattle.std.proofs.Common.{◌∙◌, ◌-◌, ap, sym, subst, length, length-append, arith}
use Rattle.std.proofs.lemmas.Str.{IsCharBoundary-from_drop}
use Rattle.std.specs.Prelude.{IsUtf8}
use Rattle.std.specs.Str.{encode_utf8_all}
use Rattle.dnw_lexer.proofs.Words.{plain-octets, behind-octets, front-octets}
use Rattle.dnw_lexer.proofs.word.plain_word.Goals as goal

pub overflow_sub-text : goal.overflow_sub-text
overflow_sub-text c =
    let word = c.in_ok-rest.ensures.ok in
    let parts = plain-octets c.args.inside c.args.text.now c.in_ok-rest.rest.now word.0 c.utf8.text c.in_ok-rest.ensures.text word.1 in
    omega (arith, ap length parts, length-append (encode_utf8_all word.0) c.in_ok-rest.rest.now)

pub split_at-requires : goal.split_at-requires
split_at-requires c =
    let word = c.in_ok-rest.ensures.ok in
    let parts = plain-octets c.args.inside c.args.text.now c.in_ok-rest.rest.now word.0 c.utf8.text c.in_ok-rest.ensures.text word.1 in
    let place = length c.args.text.now - length c.in_ok-rest.rest.now in
    IsCharBoundary-from_drop c.args.text.now place (omega arith)
    (subst IsUtf8 (sym (behind-octets c.args.text.now (encode_utf8_all word.0) c.in_ok-rest.rest.now parts)) c.in_ok-rest.ensures.text)

pub returns-in-Ok-clause-ok : goal.returns-in-Ok-clause-ok
returns-in-Ok-clause-ok c =
    let word = c.in_ok-rest.ensures.ok in
    let parts = plain-octets c.args.inside c.args.text.now c.in_ok-rest.rest.now word.0 c.utf8.text c.in_ok-rest.ensures.text word.1 in
    (word.0, c.in-Ok.ensures.ok ∙ c.split_at.ensures.front ∙ front-octets c.args.text.now (encode_utf8_all word.0) c.in_ok-rest.rest.now parts, word.1)
