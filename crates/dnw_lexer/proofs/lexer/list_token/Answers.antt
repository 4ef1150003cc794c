use Rattle.std.proofs.Common.{refl}
use Rattle.std.specs.Prelude.{chars, Ok}
use Rattle.dnw_lexer.specs.Lexer.{list}
use Rattle.dnw_lexer.proofs.lexer.list_token.Goals as goal

pub returns-clause-ok : goal.returns-clause-ok
returns-clause-ok c =
    let h = c.in-Ok.ensures.ok in
    (list h.0, (h.0, h.1, refl), (Ok (h.0, chars c.in-Ok.found.1.now), h.2, refl))
