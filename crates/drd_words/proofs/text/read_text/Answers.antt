use Rattle.std.proofs.Common.{true, map, ap, ◌∙◌}
use Rattle.std.specs.Prelude.{chars, None}
use Rattle.std.specs.String.{string_bytes}
use Rattle.dnw_lexer.specs.Lexer.{unread}
use Rattle.drd_words.specs.Word.{IsOutOfMemory}
use Rattle.drd_words.proofs.TextLemmas.{words-or_error, refused-none, refused-words, refused-cause, values-refused, values-only}
use Rattle.drd_words.proofs.text.read_text.Goals as goal

pub returns-in-Err-clause-refused : goal.returns-in-Err-clause-refused
returns-in-Err-clause-refused g c =
    refused-none (λ words v. g.T.Words.written words None v) (unread true (chars c.args.text.now)) c.in-Err.refused c.in-Err.ensures.refused

pub returns-in-Err-clause-only : goal.returns-in-Err-clause-only
returns-in-Err-clause-only g c = λ words read.
    refused-words (λ v. g.T.Words.written words None v) (unread true (chars c.args.text.now)) c.in-Err.refused words c.in-Err.ensures.refused read

pub returns-in-Err-clause-cause : goal.returns-in-Err-clause-cause
returns-in-Err-clause-cause g c = λ e read.
    refused-cause (unread true (chars c.args.text.now)) c.in-Err.refused e c.in-Err.ensures.refused read

pub returns-clause-refused : goal.returns-clause-refused
returns-clause-refused g c =
    values-refused (λ words v. g.T.Words.written words None v) IsOutOfMemory (unread true (chars c.args.text.now)) c.from_words.result
    (map (λ w. w.now) c.as_slice.result.now) (map string_bytes c.in-Ok.words.items) (ap (map (λ w. w.now)) c.as_slice.ensures.value ∙ c.in-Ok-texts.ensures)
    c.in-Ok.ensures.ok c.from_words.ensures.refused

pub returns-clause-only : goal.returns-clause-only
returns-clause-only g c = λ ws read.
    values-only (λ words v. g.T.Words.written words None v) IsOutOfMemory (unread true (chars c.args.text.now)) c.from_words.result
    (map (λ w. w.now) c.as_slice.result.now) (map string_bytes c.in-Ok.words.items) ws (ap (map (λ w. w.now)) c.as_slice.ensures.value ∙ c.in-Ok-texts.ensures)
    c.in-Ok.ensures.ok read c.from_words.ensures.ok c.from_words.ensures.refused

pub returns-clause-cause : goal.returns-clause-cause
returns-clause-cause g c = λ e read.
    absurd (words-or_error (unread true (chars c.args.text.now)) (map string_bytes c.in-Ok.words.items) e c.in-Ok.ensures.ok read)
