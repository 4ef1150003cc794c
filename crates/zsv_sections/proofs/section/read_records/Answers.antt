use Rattle.std.proofs.Common.{[], ◌∷◌, ap, arith, inr, length, length-append, ◌∙◌}
use Rattle.std.proofs.lemmas.Result.{err_from_is_err_and}
use Rattle.zsv_sections.proofs.Sectioning.{ordinary_more, ordinary_none, ordinary_refused}
use Rattle.zsv_sections.proofs.section.read_records.Goals as goal

pub returns-in_err-standing-clause-refused : goal.returns-in_err-standing-clause-refused
returns-in_err-standing-clause-refused c =
    let p = err_from_is_err_and c.from_residual.result c.from_residual.ensures.1 in
    let refused = rw c.records.invariant.same at c.in_err-standing.ensures.refused in
    rw (p.1, p.2) (inr (ordinary_refused c.args.at c.args.decoder.now.octets c.args.decoder.now.index c.args.count _ _ _ c.requires c.records.invariant.there (omega arith) refused))

pub returns-in_err-standing-clause-none : goal.returns-in_err-standing-clause-none
returns-in_err-standing-clause-none c =
    let p = err_from_is_err_and c.from_residual.result c.from_residual.ensures.1 in
    let none = rw c.records.invariant.same at c.in_err-standing.ensures.none in
    rw (p.1, p.2) (ordinary_none c.args.at c.args.decoder.now.octets c.args.decoder.now.index c.args.count _ _ _ c.requires c.records.invariant.there (omega arith) none)

pub records-preserved : goal.records-preserved
records-preserved c =
    let here = rw c.records.invariant.same at c.in_ok-standing.ensures.ok in
    record {
      there = rw c.in-Ok.ensures.ok (ordinary_more c.args.at c.args.decoder.now.octets c.args.decoder.now.index _ _ _ _ c.requires c.records.invariant.there here c.in_ok-standing.ensures.placed);
      counted = omega (arith, ap length c.in-Ok.ensures.ok ∙ length-append c.records.records.items (c.in_ok-standing.standing ∷ []), c.records.invariant.counted);
      same = c.in_ok-standing.ensures.same ∙ c.records.invariant.same;
    }

pub returns-clause-ok : goal.returns-clause-ok
returns-clause-ok c = (c.records.invariant.there, omega (arith, c.records.invariant.counted))
