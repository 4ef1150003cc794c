use Rattle.std.proofs.Common.{◌∙◌, subst, sym}
use Rattle.zst_request.specs.zst_codes.declared.settings.ZoneType.{ZoneType}
use Rattle.zsv_answer.specs.Parts.{PartsAs}
use Rattle.zsv_answer.specs.Resolution.{resolution_in}
use Rattle.zsv_answer.specs.Responses.{parts_of}
use Rattle.zsv_answer.proofs.chain.handler_response.Goals as goal

pub returns-in-External-clause-parts : goal.returns-in-External-clause-parts
returns-in-External-clause-parts g c =
    subst (λ (kind : ZoneType). PartsAs kind (g.H.ZoneHandler.view c.args.handler.now) c.args.metadata c.args.options.dnssec_ok c.args.name.now c.args.record_type (resolution_in c.args.told) (parts_of c.forwarded_response.result))
    (sym c.in-External.is ∙ c.zone_type.ensures) c.forwarded_response.ensures.parts
