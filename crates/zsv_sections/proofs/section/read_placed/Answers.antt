use Rattle.std.proofs.Common.{sym}
use Rattle.std.proofs.lemmas.Result.{err_from_is_err_and}
use Rattle.zsv_sections.proofs.Sectioning.{no_other_may, none_may}
use Rattle.zsv_sections.proofs.section.read_placed.Goals as goal

pub returns-in_err-standing-clause-none : goal.returns-in_err-standing-clause-none
returns-in_err-standing-clause-none c =
    let p = err_from_is_err_and c.from_residual.result c.from_residual.ensures.1 in
    rw (p.1, p.2) (none_may c.args.at c.args.decoder.now.octets c.args.decoder.now.index _ c.in_err-standing.ensures.none)

pub returns-in-Some-clause-none : goal.returns-in-Some-clause-none
returns-in-Some-clause-none c =
    no_other_may c.args.at c.args.decoder.now.octets c.args.decoder.now.index c.in_ok-standing.standing _ c.in-Some.cause c.in_ok-standing.ensures.ok (sym c.in-Some.ensures)
