use Rattle.std.proofs.Common.{inl, inr}
use Rattle.std.proofs.lemmas.Result.{IfErr-weaker}
use Rattle.drd_names.proofs.soa.SOABinDecodable.read.Goals as goal

pub returns-clause-none : goal.returns-clause-none
returns-clause-none c = IfErr-weaker c.read_value.result _ _ (λ e. elim [
  | inl memory ↦ inl memory
  | inr none ↦ inr (λ soa end there. none soa end there tt)
]) c.read_value.ensures.none
