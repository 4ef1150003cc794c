use Rattle.std.proofs.Common.{refl}
use Rattle.std.specs.Prelude.{chars, Some}
use Rattle.dnw_lexer.specs.Lexer.{end_of_line}
use Rattle.dnw_lexer.proofs.TokenLemmas.{line-ends, line-goes}
use Rattle.dnw_lexer.proofs.lexer.line_token.Goals as goal

pub returns-then-at_line_end-clause-ok : goal.returns-then-at_line_end-clause-ok
returns-then-at_line_end-clause-ok c = (
  Some end_of_line,
  (end_of_line, refl, refl),
  line-ends c.args.front (chars c.args.text.now) c.in-Some.c (chars c.in-Some.behind.now) (chars c.behind_line_end.result.now)
      c.in-Some.ensures.split c.if-at_line_end.ensures c.behind_line_end.ensures,
)

pub returns-in-Ok-clause-ok : goal.returns-in-Ok-clause-ok
returns-in-Ok-clause-ok c =
    let h = c.in-Ok.ensures.ok in (
      Some h.0,
      (h.0, h.1, refl),
      line-goes c.args.front (chars c.args.text.now) c.in-Some.c (chars c.in-Some.behind.now) _
          c.in-Some.ensures.split c.if-at_line_end.ensures h.2,
    )
