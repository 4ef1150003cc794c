use Rattle.std.proofs.Common.{sym, ◌∙◌}
use Rattle.drd_caa.proofs.Parameters.{bad_key, bad_value}
use Rattle.drd_caa.proofs.issuer.parameter_of.Goals as goal

pub returns-then-not-is_key-clause-refused : goal.returns-then-not-is_key-clause-refused
returns-then-not-is_key-clause-refused c =
    bad_key c.args.octets.now c.cut.result.0.now c.in-Some.behind.now c.trimmed-key.result.now c.cut.ensures.front
    (rw c.in-Some.is at c.cut.ensures.parts) c.trimmed-key.ensures (sym c.is_key.ensures ∙ c.if-not-is_key.true)

pub returns-then-not-is_value-clause-refused : goal.returns-then-not-is_value-clause-refused
returns-then-not-is_value-clause-refused c =
    bad_value c.args.octets.now c.cut.result.0.now c.in-Some.behind.now c.trimmed-value.result.now c.cut.ensures.front
    (rw c.in-Some.is at c.cut.ensures.parts) c.trimmed-value.ensures (sym c.is_value.ensures ∙ c.if-not-is_value.true)
