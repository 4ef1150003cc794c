use Rattle.std.proofs.Common.{◌∙◌}
use Rattle.zst_denial.proofs.Signings.{fits}
use Rattle.zst_denial.proofs.signatures.rrsig_record.Goals as goal

pub returns-clause-fit : goal.returns-clause-fit
returns-clause-fit c =
    fits c.args.set.now c.in_ok-name.name c.dns_class.result (c.in_ok-name.ensures.cases ∙ c.name-2.ensures) c.dns_class.ensures
