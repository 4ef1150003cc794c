use Rattle.std.proofs.Common.{inr, refl}
use Rattle.drd_params.proofs.entry.AAAAEntry.from_text.Goals as goal

pub returns-in-Err-clause-refused : goal.returns-in-Err-clause-refused
returns-in-Err-clause-refused c = inr c.in-Err.ensures.value

pub returns-in-Err-clause-cause : goal.returns-in-Err-clause-cause
returns-in-Err-clause-cause c = inr (refl, λ address is. c.in-Err.ensures.value (record { 0 = address }) is)
