use Rattle.std.proofs.Common.{List, subst, sym}
use Rattle.zsv_answer.specs.Parts.{AtOrigin}
use Rattle.zsv_answer.proofs.Answering.{origin_answers}
use Rattle.zsv_answer.proofs.authoritative.at_origin.Goals as goal

pub returns : goal.returns
returns g c =
    let view = g.H.ZoneHandler.view c.args.handler.now in
    subst (λ (rs : List _). AtOrigin view c.args.options.dnssec_ok c.args.record_type rs) (sym c.found_by.ensures) (origin_answers view c.args.options c.args.record_type c.in_ok-flow.flow c.in_ok-flow.ensures)
