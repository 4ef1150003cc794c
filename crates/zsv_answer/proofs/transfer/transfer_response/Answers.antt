use Rattle.std.proofs.Common.{◌∙◌, map, subst}
use Rattle.zst_request.specs.Requested.{asked_of}
use Rattle.zsv_answer.specs.Transferring.{TransfersFound, transferring}
use Rattle.zsv_answer.proofs.Transferred.{found_parts}
use Rattle.zsv_answer.proofs.transfer.transfer_response.Goals as goal

pub returns-in-Some-clause-parts : goal.returns-in-Some-clause-parts
returns-in-Some-clause-parts g c =
    let zone = transferring (map g.H.ZoneHandler.view c.args.handlers.now) in
    let asked = asked_of c.args.request.now in
    let d = c.args.options.dnssec_ok in
    c.answered.ensures.parts
    ∙ found_parts c.args.metadata d asked c.args.now zone (c.in-Some.answer, c.in-Some.context) (subst (λ given. TransfersFound zone asked d c.args.now given) c.in-Some.is c.in_ok-answer.ensures.found)
