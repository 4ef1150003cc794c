use Rattle.std.proofs.Common.{rules, refl}
use Rattle.std.specs.String.{string_bytes}
use Rattle.dnw_lexer.specs.Lexer.{word}
use Rattle.dnw_lexer.proofs.TokenLemmas.{bare-word}
use Rattle.dnw_lexer.proofs.lexer.bare_token.Goals as goal

pub returns : goal.returns
returns c = λ w e. (word w, (w, e, refl), bare-word (string_bytes c.args.word) w e (search rules) (search rules) (search rules) (search rules) (search rules))
