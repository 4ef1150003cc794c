use Rattle.std.proofs.Common.{refl}
use Rattle.std.specs.Prelude.{chars}
use Rattle.dnw_lexer.specs.Lexer.{word}
use Rattle.dnw_lexer.proofs.TokenLemmas.{string-token}
use Rattle.dnw_lexer.proofs.lexer.word_token.Goals as goal

pub returns-in-Ok-clause-ok : goal.returns-in-Ok-clause-ok
returns-in-Ok-clause-ok c =
    let h = c.in-Ok.ensures.ok in
    (word h.0, (h.0, h.1, refl), string-token c.args.c (chars c.args.behind.now) h.0 (chars c.in-Ok.later.now) c.in-34.is h.2)
