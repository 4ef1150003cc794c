use Rattle.std.proofs.Common.{List, refl, arith, inl, inr}
use Rattle.dnw_wire.specs.dnw_codes.declared.record_type.RecordType.{RecordType}
use Rattle.drd_words.proofs.EachWord.{each-step, each-refused, each-cause}
use Rattle.drd_csync.specs.Texts.{IsTypeWord, RefusesType}
use Rattle.drd_csync.proofs.Words.{answered, unanswered}
use Rattle.drd_csync.proofs.types.TypeWordsWords.from_words.Goals as goal

pub words-preserved : goal.words-preserved
words-preserved c =
    each-step IsTypeWord c.words.types.items c.push.new.self.items c.args.words.now c.words.word-index _ c.in-Ok.record_type
    (omega arith) c.words.invariant (answered _ _ c.in-Ok.record_type c.in-Ok.ensures.value) c.in-Ok-push.ensures.items

pub returns-in-Err-clause-refused : goal.returns-in-Err-clause-refused
returns-in-Err-clause-refused c =
    elim (each-refused IsTypeWord {M = ⊥} (λ (given : List RecordType). given) c.args.words.now c.words.word-index _ (omega arith) (inr (unanswered _ _ c.in-Err.field-0 c.in-Err.ensures.value))) [
      | inl never ↦ inl never
      | inr none ↦ inr (λ value there. none there.0 there.1)
    ]

pub returns-in-Err-clause-cause : goal.returns-in-Err-clause-cause
returns-in-Err-clause-cause c =
    elim (each-cause IsTypeWord {M = ⊥} RefusesType _ c.words.types.items c.args.words.now c.words.word-index _ (omega arith) c.words.invariant (inr (refl, unanswered _ _ c.in-Err.field-0 c.in-Err.ensures.value))) [
      | inl never ↦ inl never
      | inr cause ↦ inr cause
    ]
