use Rattle.std.proofs.Common.{◌∙◌, ◌++◌, ap, sym}
use Rattle.std.specs.Char.{encode_utf8}
use Rattle.dnw_lexer.proofs.Characters.{first-char}
use Rattle.dnw_lexer.proofs.character.split_char.Goals as goal

pub returns-clause-split : goal.returns-clause-split
returns-clause-split c =
    first-char c.args.text.now c.as_str.result.now c.in_ok-first.first c.utf8.text
    (sym c.chars-characters.ensures.rest ∙ c.in_ok-first.ensures.steps.0 ∙ ap (λ bs. encode_utf8 c.in_ok-first.first ++ bs) (sym c.as_str.ensures))

pub returns-clause-text : goal.returns-clause-text
returns-clause-text c = c.as_str.utf8
