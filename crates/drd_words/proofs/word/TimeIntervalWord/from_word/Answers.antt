use Rattle.std.proofs.Common.{refl, inr, arith}
use Rattle.drd_words.proofs.Numbers.{ttl-one}
use Rattle.drd_words.proofs.word.TimeIntervalWord.from_word.Goals as goal

pub returns-else-seconds-clause-refused : goal.returns-else-seconds-clause-refused
returns-else-seconds-clause-refused c =
    inr (λ v h. absurd (omega (arith, c.if-seconds.false, h.2, ttl-one c.args.word.now c.in-Ok.seconds h.0 c.in-Ok.ensures.ok h.1)))

pub returns-else-seconds-clause-cause : goal.returns-else-seconds-clause-cause
returns-else-seconds-clause-cause c =
    inr (refl, λ v h. absurd (omega (arith, c.if-seconds.false, h.2, ttl-one c.args.word.now c.in-Ok.seconds h.0 c.in-Ok.ensures.ok h.1)))
