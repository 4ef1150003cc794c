use Rattle.std.proofs.Common.{ℕ, List, ap, ◌∙◌}
use Rattle.dnw_wire.specs.MapOrder.{types_cmp}
use Rattle.dnw_wire.specs.MapOrderLaws.{types_order}
use Rattle.dnw_wire.proofs.set.RecordTypeSetOrd.cmp.Goals as goal

pub returns-clause-canonical : goal.returns-clause-canonical
returns-clause-canonical c = λ xs ys tight also.
    c.cmp_codes.ensures
    ∙ ap (λ (ts : List ℕ). types_cmp ts c.deref-2.result.now) (c.deref.ensures.value ∙ c.self.view_is)
    ∙ ap (types_cmp c.args.self.now) (c.deref-2.ensures.value ∙ c.other.view_is)
    ∙ types_order xs ys c.args.self.now c.args.other.now tight also
