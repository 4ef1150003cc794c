use Rattle.std.proofs.Common.{true, map, inl, inr}
use Rattle.std.specs.Prelude.{chars}
use Rattle.std.specs.String.{string_bytes}
use Rattle.dnw_lexer.specs.Lexer.{unread}
use Rattle.drd_words.proofs.Shorter.{token-shorter}
use Rattle.drd_words.proofs.TextLemmas.{so_far-more, so_far-misplaced, refused-by, refused-cause, memory-only, words-one, words-or_error, token-at, end-token}
use Rattle.drd_words.proofs.text.words_of_text.Goals as goal

pub returns-in-Ok-None-clause-ok : goal.returns-in-Ok-None-clause-ok
returns-in-Ok-None-clause-ok c =
    end-token (unread true (chars c.args.text.now)) (map string_bytes c.tokens.words.items) c.tokens.lexer c.next_token.new.self c.in-Ok-None.field-0
    c.in-Ok-None.field-0-is c.tokens.invariant c.in-Ok-None.ensures.ok

pub returns-in-Ok-None-clause-only : goal.returns-in-Ok-None-clause-only
returns-in-Ok-None-clause-only c = λ parts read.
    words-one (unread true (chars c.args.text.now)) (map string_bytes c.tokens.words.items) parts
    (end-token (unread true (chars c.args.text.now)) (map string_bytes c.tokens.words.items) c.tokens.lexer c.next_token.new.self c.in-Ok-None.field-0
    c.in-Ok-None.field-0-is c.tokens.invariant c.in-Ok-None.ensures.ok) read

pub returns-in-Ok-None-clause-cause : goal.returns-in-Ok-None-clause-cause
returns-in-Ok-None-clause-cause c = λ e read.
    words-or_error (unread true (chars c.args.text.now)) (map string_bytes c.tokens.words.items) e
    (end-token (unread true (chars c.args.text.now)) (map string_bytes c.tokens.words.items) c.tokens.lexer c.next_token.new.self c.in-Ok-None.field-0
    c.in-Ok-None.field-0-is c.tokens.invariant c.in-Ok-None.ensures.ok) read

pub returns-in-Err-clause-cause : goal.returns-in-Err-clause-cause
returns-in-Err-clause-cause c = λ e read.
    refused-cause (unread true (chars c.args.text.now)) c.unreadable.result e
    (refused-by (unread true (chars c.args.text.now)) (map string_bytes c.tokens.words.items) c.tokens.lexer c.in-Err.refused c.unreadable.result
    c.tokens.invariant c.unreadable.ensures c.in-Err.ensures.err.1) read

pub returns-in-Err-clause-only : goal.returns-in-Err-clause-only
returns-in-Err-clause-only c = λ parts read.
    memory-only (unread true (chars c.args.text.now)) c.unreadable.result parts
    (refused-by (unread true (chars c.args.text.now)) (map string_bytes c.tokens.words.items) c.tokens.lexer c.in-Err.refused c.unreadable.result
    c.tokens.invariant c.unreadable.ensures c.in-Err.ensures.err.1) read

pub returns-in-Err-clause-refused : goal.returns-in-Err-clause-refused
returns-in-Err-clause-refused c =
    refused-by (unread true (chars c.args.text.now)) (map string_bytes c.tokens.words.items) c.tokens.lexer c.in-Err.refused c.unreadable.result
    c.tokens.invariant c.unreadable.ensures c.in-Err.ensures.err.1

pub tokens-smaller : goal.tokens-smaller
tokens-smaller c =
    let at = token-at c.tokens.lexer c.next_token.new.self c.in-Ok-Some.field-0 c.in-Ok-Some.token c.in-Ok-Some.field-0-is c.in-Ok-Some.ensures.ok in
    token-shorter c.tokens.lexer c.next_token.new.self at.0 at.2

pub tokens-preserved : goal.tokens-preserved
tokens-preserved c =
    let at = token-at c.tokens.lexer c.next_token.new.self c.in-Ok-Some.field-0 c.in-Ok-Some.token c.in-Ok-Some.field-0-is c.in-Ok-Some.ensures.ok in
    let more = c.in-Ok.ensures at.0 at.1 in
    so_far-more (unread true (chars c.args.text.now)) (map string_bytes c.tokens.words.items) c.tokens.lexer c.next_token.new.self at.0 more.0
    (map string_bytes c.push_words.new.words.items) c.tokens.invariant at.2 more.1 more.2

pub returns-in-Err-push_words-clause-refused : goal.returns-in-Err-push_words-clause-refused
returns-in-Err-push_words-clause-refused c =
    let at = token-at c.tokens.lexer c.next_token.new.self c.in-Ok-Some.field-0 c.in-Ok-Some.token c.in-Ok-Some.field-0-is c.in-Ok-Some.ensures.ok in
    elim (c.in-Err-push_words.ensures at.0 at.1) [
      | inl m ↦ inl m
      | inr h ↦ inr (so_far-misplaced (unread true (chars c.args.text.now)) (map string_bytes c.tokens.words.items) c.tokens.lexer c.next_token.new.self at.0
          c.in-Err-push_words.refused c.tokens.invariant at.2 h.1 h.0)
    ]

pub returns-in-Err-push_words-clause-only : goal.returns-in-Err-push_words-clause-only
returns-in-Err-push_words-clause-only c = λ parts read.
    let at = token-at c.tokens.lexer c.next_token.new.self c.in-Ok-Some.field-0 c.in-Ok-Some.token c.in-Ok-Some.field-0-is c.in-Ok-Some.ensures.ok in
    elim (c.in-Err-push_words.ensures at.0 at.1) [
      | inl m ↦ m
      | inr h ↦ absurd (words-or_error (unread true (chars c.args.text.now)) parts c.in-Err-push_words.refused read
          (so_far-misplaced (unread true (chars c.args.text.now)) (map string_bytes c.tokens.words.items) c.tokens.lexer c.next_token.new.self at.0
          c.in-Err-push_words.refused c.tokens.invariant at.2 h.1 h.0))
    ]

pub returns-in-Err-push_words-clause-cause : goal.returns-in-Err-push_words-clause-cause
returns-in-Err-push_words-clause-cause c = λ e read.
    let at = token-at c.tokens.lexer c.next_token.new.self c.in-Ok-Some.field-0 c.in-Ok-Some.token c.in-Ok-Some.field-0-is c.in-Ok-Some.ensures.ok in
    elim (c.in-Err-push_words.ensures at.0 at.1) [
      | inl m ↦ inl m
      | inr h ↦ refused-cause (unread true (chars c.args.text.now)) c.in-Err-push_words.refused e
          (inr (so_far-misplaced (unread true (chars c.args.text.now)) (map string_bytes c.tokens.words.items) c.tokens.lexer c.next_token.new.self at.0
          c.in-Err-push_words.refused c.tokens.invariant at.2 h.1 h.0)) read
    ]
