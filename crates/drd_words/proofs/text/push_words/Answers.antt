use Rattle.std.proofs.Common.{◌≡◌, ◌∙◌, ◌++◌, ◌∷◌, [], ℕ, List, map, ap, subst}
use Rattle.std.specs.Prelude.{None}
use Rattle.std.specs.Str.{encode_utf8_all}
use Rattle.std.specs.String.{string_bytes}
use Rattle.std.proofs.lemmas.List.{map-append}
use Rattle.dnw_lexer.specs.Tokens.{IsLexeme}
use Rattle.dnw_lexer.specs.declared.token.Token.{Token}
use Rattle.dnw_lexer.specs.dnw_codes.declared.error.ParseError.TheVariants.{UnexpectedToken}
use Rattle.drd_words.proofs.TextLemmas.{push-then}
use Rattle.drd_words.specs.Word.{IsOutOfMemory}
use Rattle.drd_words.specs.Text.{lexeme_words}
use Rattle.drd_words.proofs.text.push_words.Goals as goal

pub returns-in-Ok : goal.returns-in-Ok
returns-in-Ok c = λ lexeme is.
    let h = subst (λ (t : Token). IsLexeme t lexeme) c.in-List.is is in (
      map encode_utf8_all h.0,
      ap lexeme_words h.2,
      ap (map string_bytes) c.in-Ok.ensures.items ∙ map-append string_bytes c.args.words.now.items c.in-List.list.items
          ∙ ap (λ (ws : List (List ℕ)). map string_bytes c.args.words.now.items ++ ws) h.1,
    )

pub returns-in-CharData : goal.returns-in-CharData
returns-in-CharData c = λ lexeme is.
    let h = subst (λ (t : Token). IsLexeme t lexeme) c.in-CharData.is is in
    push-then IsOutOfMemory (λ e. (e ≡ UnexpectedToken) × (lexeme_words lexeme ≡ None)) c.push.result
    (λ pushed. (
      encode_utf8_all h.0 ∷ [],
      ap lexeme_words h.2,
      ap (map string_bytes) pushed ∙ map-append string_bytes c.args.words.now.items (c.in-CharData.word ∷ [])
          ∙ ap (λ (w : List ℕ). map string_bytes c.args.words.now.items ++ w ∷ []) h.1,
    ))
    c.push.ensures.pushed c.push.ensures.refused
