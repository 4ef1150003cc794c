use Rattle.std.proofs.Common.{refl, sym, subst, ap, ◌∙◌}
use Rattle.drd_types.specs.dnw_codes.declared.record_type.RecordType.{RecordType}
use Rattle.drd_rdata.specs.declared.rdata.RData.TheVariants as rdata
use Rattle.drd_rdata.specs.Reading.{IsEmptyOf}
use Rattle.drd_rdata.proofs.rdata.RData.empty.Goals as goal

pub returns-in-OPT-clause-value : goal.returns-in-OPT-clause-value
returns-in-OPT-clause-value c =
    subst (λ (t : RecordType). IsEmptyOf t (rdata.OPT c.new-in-OPT.result)) (sym c.in-OPT.is)
    (c.new-in-OPT.result, refl, ap (λ options. options.items) c.new-in-OPT.ensures ∙ c.new.ensures.items)
