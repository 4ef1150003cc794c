use Rattle.std.proofs.Common.{◌∷◌, [], sym, inr, subst, List, ℕ}
use Rattle.std.specs.Prelude.{chars, Ok, Err}
use Rattle.std.specs.String.{string_bytes}
use Rattle.dnw_codes.specs.declared.error.LexerError.TheVariants.{UnclosedQuotedString}
use Rattle.dnw_lexer.specs.Lexer.{StringText, closes, unclosed}
use Rattle.dnw_lexer.proofs.Words.{more, done, failed, string-step, string-refused}
use Rattle.dnw_lexer.proofs.word.quoted_string.Goals as goal

pub returns-then-c-eq34-clause-ok : goal.returns-then-c-eq34-clause-ok
returns-then-c-eq34-clause-ok c =
    done StringText (chars c.args.text.now) (string_bytes c.characters.word) (chars c.characters.rest.now) (chars c.in-Some.behind.now)
    c.characters.invariant.1
    (subst (λ (t : List ℕ). StringText t (Ok ([], chars c.in-Some.behind.now))) (sym c.in-Some.ensures.split) (closes c.in-Some.c (chars c.in-Some.behind.now) c.if-c-eq34.true))

pub returns-clause-err : goal.returns-clause-err
returns-clause-err c =
    inr (failed StringText (chars c.args.text.now) (string_bytes c.characters.word) (chars c.characters.rest.now) UnclosedQuotedString c.characters.invariant.1
    (subst (λ (t : List ℕ). StringText t (Err UnclosedQuotedString)) (sym c.in_default.ensures.split) unclosed))

pub returns-in-Err-clause-err : goal.returns-in-Err-clause-err
returns-in-Err-clause-err c =
    inr (failed StringText (chars c.args.text.now) (string_bytes c.characters.word) (chars c.characters.rest.now) c.in-Err.refused c.characters.invariant.1
    (string-refused c.in-Some.c (chars c.characters.rest.now) (chars c.in-Some.behind.now) c.in-Err.refused c.in-Some.ensures.split c.in-Err.ensures.err))

pub characters-preserved : goal.characters-preserved
characters-preserved c = (
  c.in-Ok.ensures.text,
  more StringText (chars c.args.text.now) (string_bytes c.characters.word) (chars c.characters.rest.now)
      (c.in-Ok.found.0 ∷ []) (string_bytes c.push.new.word) (chars c.in-Ok.found.1.now)
      c.characters.invariant.1 c.in_ok-push.ensures.pushed
      (string-step c.in-Some.c c.in-Ok.found.0 (chars c.characters.rest.now) (chars c.in-Some.behind.now) (chars c.in-Ok.found.1.now)
      c.in-Some.ensures.split c.if-c-eq34.false c.in-Ok.ensures.ok),
)
