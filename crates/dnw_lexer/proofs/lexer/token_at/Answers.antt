use Rattle.std.proofs.Common.{refl}
use Rattle.std.specs.Prelude.{chars, Some}
use Rattle.dnw_lexer.specs.Lexer.{blank}
use Rattle.dnw_lexer.proofs.TokenLemmas.{blank-token}
use Rattle.dnw_lexer.proofs.lexer.token_at.Goals as goal

pub returns-then-begins_blank-clause-ok : goal.returns-then-begins_blank-clause-ok
returns-then-begins_blank-clause-ok c = (
  Some blank,
  (blank, refl, refl),
  blank-token c.args.front (chars c.args.text.now) (chars c.without_blanks.result.now) c.if-front.true c.if-begins_blank.ensures c.without_blanks.ensures,
)
