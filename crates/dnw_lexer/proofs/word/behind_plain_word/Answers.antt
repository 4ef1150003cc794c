use Rattle.std.proofs.Common.{◌≡◌, ◌∙◌, ◌∷◌, ◌++◌, ap, sym, refl, true, false}
use Rattle.std.specs.Prelude.{chars}
use Rattle.std.proofs.lemmas.Result.{err_from_is_err_and}
use Rattle.std.specs.Str.{encode_utf8_all}
use Rattle.dnw_lexer.specs.Lexer.{PlainText, ends, ends_word}
use Rattle.dnw_lexer.proofs.Words.{more, done, failed, plain-step, plain-refused}
use Rattle.dnw_lexer.proofs.word.behind_plain_word.Goals as goal

pub returns-then-ends_word-clause-ok : goal.returns-then-ends_word-clause-ok
returns-then-ends_word-clause-ok c =
    let stop : ends_word c.args.inside (chars c.characters.rest.now) ≡ true = ap (ends_word c.args.inside) c.in-Some.ensures.split ∙ sym c.if-ends_word.ensures in
    let all = done (PlainText c.args.inside) (chars c.args.text.now) (c.characters.invariant.1).0 (chars c.characters.rest.now) (chars c.characters.rest.now)
    (c.characters.invariant.1).1 (ends (chars c.characters.rest.now) stop) in
    (all.0, all.2)

pub returns-clause-ok : goal.returns-clause-ok
returns-clause-ok c =
    let stop : ends_word c.args.inside (chars c.characters.rest.now) ≡ true = ap (ends_word c.args.inside) c.in_default.ensures.split in
    let all = done (PlainText c.args.inside) (chars c.args.text.now) (c.characters.invariant.1).0 (chars c.characters.rest.now) (chars c.characters.rest.now)
    (c.characters.invariant.1).1 (ends (chars c.characters.rest.now) stop) in
    (all.0, all.2)

pub returns-in_err-rest-clause-err : goal.returns-in_err-rest-clause-err
returns-in_err-rest-clause-err c =
    let goes : ends_word c.args.inside (c.in-Some.c ∷ chars c.in-Some.behind.now) ≡ false = sym c.ends_word.ensures ∙ c.if-ends_word.false in
    let p = err_from_is_err_and c.from_residual.result c.from_residual.ensures.1 in
    rw (p.1, p.2)
    (failed (PlainText c.args.inside) (chars c.args.text.now) (c.characters.invariant.1).0 (chars c.characters.rest.now) c.in_err-rest.field-0.0
    (c.characters.invariant.1).1
    (plain-refused c.args.inside c.in-Some.c (chars c.characters.rest.now) (chars c.in-Some.behind.now) c.in_err-rest.field-0.0
    c.in-Some.ensures.split goes c.in_err-rest.ensures.err))

pub characters-preserved : goal.characters-preserved
characters-preserved c =
    let goes : ends_word c.args.inside (c.in-Some.c ∷ chars c.in-Some.behind.now) ≡ false = sym c.ends_word.ensures ∙ c.if-ends_word.false in
    let step = plain-step c.args.inside c.in-Some.c (chars c.characters.rest.now) (chars c.in-Some.behind.now) (chars c.in_ok-rest.rest.now) c.in-Some.ensures.split goes c.in_ok-rest.ensures.ok in (
      c.in_ok-rest.ensures.text,
      (
        (c.characters.invariant.1).0 ++ encode_utf8_all step.0,
        more (PlainText c.args.inside) (chars c.args.text.now) (c.characters.invariant.1).0 (chars c.characters.rest.now)
            step.0 ((c.characters.invariant.1).0 ++ encode_utf8_all step.0) (chars c.in_ok-rest.rest.now)
            (c.characters.invariant.1).1 refl step.1,
      ),
    )
