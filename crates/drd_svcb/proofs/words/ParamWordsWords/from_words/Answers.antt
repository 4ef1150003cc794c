use Rattle.std.proofs.Common.{◌+◌, inr, refl, arith}
use Rattle.drd_svcb.proofs.ParamWords.{done-more, no-order, no-param, cause-of-order, cause-of-param}
use Rattle.drd_svcb.specs.declared.words.ParamWords.{ParamWords}
use Rattle.drd_svcb.proofs.words.ParamWordsWords.from_words.Goals as goal

pub returns-in-Err-clause-refused : goal.returns-in-Err-clause-refused
returns-in-Err-clause-refused c =
    no-param c.in-Err.refused (λ (v : ParamWords). v.0.items) c.words.params.items c.args.words.now c.words.word-index c.words.least _ (omega arith) c.words.invariant c.in-Err.ensures.refused

pub returns-then-number-least-clause-refused : goal.returns-then-number-least-clause-refused
returns-then-number-least-clause-refused c =
    inr (no-order (λ (v : ParamWords). v.0.items) c.words.params.items c.args.words.now c.words.word-index c.words.least _ c.in-Ok.param (omega arith)
    c.words.invariant c.in-Ok.ensures.ok.0 (omega (arith, c.from.ensures, c.from-number.ensures, c.if-number-least.true)))

pub words-preserved : goal.words-preserved
words-preserved c =
    done-more c.words.params.items c.push.new.self.items c.args.words.now c.words.word-index c.words.least (c.from-number.result + 1) _ c.in-Ok.param (omega arith)
    c.words.invariant c.in-Ok.ensures.ok (omega (arith, c.from.ensures, c.from-number.ensures, c.if-number-least.false)) c.in-Ok-push.ensures.items
    (omega (arith, c.from.ensures, c.from-number.ensures))

pub returns-in-Err-clause-cause : goal.returns-in-Err-clause-cause
returns-in-Err-clause-cause c =
    cause-of-param c.in-Err.refused c.words.params.items c.args.words.now c.words.word-index c.words.least _ (omega arith) c.words.invariant c.in-Err.ensures.refused

pub returns-then-number-least-clause-cause : goal.returns-then-number-least-clause-cause
returns-then-number-least-clause-cause c =
    inr (cause-of-order _ c.words.params.items c.args.words.now c.words.word-index c.words.least _ c.in-Ok.param refl (omega arith)
    c.words.invariant c.in-Ok.ensures.ok (omega (arith, c.from.ensures, c.from-number.ensures, c.if-number-least.true)))
