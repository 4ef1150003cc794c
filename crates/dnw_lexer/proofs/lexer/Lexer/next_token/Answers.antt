use Rattle.std.specs.Prelude.{chars}
use Rattle.dnw_lexer.specs.Lexer.{unread}
use Rattle.dnw_lexer.proofs.TokenLemmas.{only-token, only-error}
use Rattle.dnw_lexer.proofs.lexer.Lexer.next_token.Goals as goal

pub returns-in-Ok-clause-only : goal.returns-in-Ok-clause-only
returns-in-Ok-clause-only c = λ given p.
    let h = c.in-Ok.ensures.ok in
    (h.0, h.1, only-token (unread c.self.inside.front (chars c.self.inside.text.now)) c.args.self.now given h.0 (unread c.in-Ok.front (chars c.in-Ok.text.now)) c.self.view_is p h.2)

pub returns-in-Err-clause-only : goal.returns-in-Err-clause-only
returns-in-Err-clause-only c = λ given p.
    only-error (unread c.self.inside.front (chars c.self.inside.text.now)) c.args.self.now given c.in-Err.refused c.self.view_is p c.in-Err.ensures.err
