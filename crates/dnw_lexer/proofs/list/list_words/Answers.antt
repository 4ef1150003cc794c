use Rattle.std.proofs.Common.{◌∷◌, [], ◌∙◌, ap, sym, inr, map}
use Rattle.std.specs.Prelude.{chars}
use Rattle.std.specs.String.{string_bytes}
use Rattle.std.proofs.lemmas.List.{map-append}
use Rattle.dnw_codes.specs.declared.error.LexerError.TheVariants.{UnclosedList}
use Rattle.dnw_lexer.specs.Lexer.{unclosed}
use Rattle.dnw_lexer.proofs.LeftLaws.{list-shorter}
use Rattle.dnw_lexer.proofs.Lists.{list-more, list-done, list-failed, list-refused}
use Rattle.dnw_lexer.proofs.list.list_words.Goals as goal

pub returns-in_default-clause-err : goal.returns-in_default-clause-err
returns-in_default-clause-err c =
    inr (list-failed (chars c.args.text.now) (map string_bytes c.words.words.items) (chars c.words.rest.now) UnclosedList c.words.invariant.1
    (unclosed (chars c.words.rest.now) (sym c.behind_gap-start.ensures ∙ c.in_default.ensures.split)))

pub returns-then-c-eq41-clause-ok : goal.returns-then-c-eq41-clause-ok
returns-then-c-eq41-clause-ok c =
    list-done (chars c.args.text.now) (map string_bytes c.words.words.items) (chars c.words.rest.now) (chars c.in-Some.behind.now) c.in-Some.c
    c.words.invariant.1 (sym c.behind_gap-start.ensures ∙ c.in-Some.ensures.split) c.if-c-eq41.true

pub returns-in-Err-clause-err : goal.returns-in-Err-clause-err
returns-in-Err-clause-err c =
    list-refused (chars c.args.text.now) (map string_bytes c.words.words.items) (chars c.words.rest.now) c.in-Some.c (chars c.in-Some.behind.now) c.in-Err.refused
    c.words.invariant.1 (sym c.behind_gap-start.ensures ∙ c.in-Some.ensures.split) c.if-c-eq41.false c.in-Err.ensures.err

pub words-smaller : goal.words-smaller
words-smaller c =
    list-shorter (chars c.words.rest.now) c.in-Some.c (chars c.in-Some.behind.now) (c.in-Ok.ensures.ok).0 (chars c.in-Ok.found.1.now)
    (sym c.behind_gap-start.ensures ∙ c.in-Some.ensures.split) c.if-c-eq41.false (c.in-Ok.ensures.ok).2

pub words-preserved : goal.words-preserved
words-preserved c = (
  c.in-Ok.ensures.text,
  list-more (chars c.args.text.now) (map string_bytes c.words.words.items) (chars c.words.rest.now) (string_bytes c.in-Ok.found.0) (c.in-Ok.ensures.ok).0 (chars c.in-Ok.found.1.now)
      (map string_bytes c.push.new.self.items) c.in-Some.c (chars c.in-Some.behind.now)
      c.words.invariant.1 (ap (map string_bytes) c.in-Ok-push.ensures.items ∙ map-append string_bytes c.words.words.items (c.in-Ok.found.0 ∷ [])) (c.in-Ok.ensures.ok).1
      (sym c.behind_gap-start.ensures ∙ c.in-Some.ensures.split) c.if-c-eq41.false (c.in-Ok.ensures.ok).2,
)
