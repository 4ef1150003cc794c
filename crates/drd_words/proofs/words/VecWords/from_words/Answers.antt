use Rattle.std.proofs.Common.{arith}
use Rattle.std.specs.Option.{option_copied}
use Rattle.drd_words.proofs.EachWord.{each-step, each-refused, each-cause}
use Rattle.drd_words.proofs.words.VecWords.from_words.Goals as goal

pub words-preserved : goal.words-preserved
words-preserved g c =
    each-step (λ x word. g.A.Word.written word (option_copied c.args.origin) x) c.words.values.items c.push.new.values.items c.args.words.now c.words.word-index _ c.in-Ok.value
    (omega arith) c.words.invariant c.in-Ok.ensures.ok c.in-Ok-push.ensures.pushed

pub returns-in-Err-clause-refused : goal.returns-in-Err-clause-refused
returns-in-Err-clause-refused g c =
    each-refused (λ x word. g.A.Word.written word (option_copied c.args.origin) x) (λ v. v.items) c.args.words.now c.words.word-index _
    (omega arith) c.in-Err.ensures.refused

pub returns-in-Err-clause-cause : goal.returns-in-Err-clause-cause
returns-in-Err-clause-cause g c =
    each-cause (λ x word. g.A.Word.written word (option_copied c.args.origin) x) (λ word. g.A.Word.refuses word (option_copied c.args.origin))
    c.in-Err.refused c.words.values.items c.args.words.now c.words.word-index _ (omega arith) c.words.invariant c.in-Err.ensures.cause
