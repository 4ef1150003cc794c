use Rattle.std.proofs.Common.{inl, inr}
use Rattle.drd_svcb.specs.declared.https.HTTPS.{HTTPS}
use Rattle.drd_svcb.proofs.https.HTTPSRecordDataDecodable.read_data.Goals as goal

pub returns-in-Err-clause-none : goal.returns-in-Err-clause-none
returns-in-Err-clause-none c = elim c.in-Err.ensures.none [
  | inl m ↦ inl m
  | inr none ↦ inr (λ (value : HTTPS) there. none value.0 there)
]
