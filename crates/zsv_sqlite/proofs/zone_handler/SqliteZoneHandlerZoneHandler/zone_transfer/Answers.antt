use Rattle.std.proofs.Common.{◌∙◌, sym}
use Rattle.zst_request.specs.Requested.{asked_of}
use Rattle.zst_request.specs.Transfers.{guard_refused}
use Rattle.zsv_sqlite.specs.Guarded.{guarded_zone}
use Rattle.zsv_sqlite.proofs.Guarding.{guard_passes, guard_refuses, handler_transfer, passed_as, refused_as}
use Rattle.zsv_sqlite.proofs.zone_handler.SqliteZoneHandlerZoneHandler.zone_transfer.Goals as goal

pub returns-in-Ok-clause-given : goal.returns-in-Ok-clause-given
returns-in-Ok-clause-given g c =
    let zone = guarded_zone c.args.self.now in
    let asked = asked_of c.args.request.now in
    guard_passes zone asked c.args.options.dnssec_ok c.args.now c.in_ok-permitted.context c.in_ok-permitted.ensures.context c.transfer.result
    (passed_as (guard_refused zone.guard asked) tt (sym c.in-Ok.is ∙ c.in_ok-permitted.ensures.permitted))
    (handler_transfer c.args.self.now c.in_memory.result.now c.in_memory.ensures c.args.options.dnssec_ok c.transfer.result c.transfer.ensures.answer)

pub returns-in-Err-clause-given : goal.returns-in-Err-clause-given
returns-in-Err-clause-given g c =
    let zone = guarded_zone c.args.self.now in
    let asked = asked_of c.args.request.now in
    guard_refuses zone asked c.args.options.dnssec_ok c.args.now c.in_ok-permitted.context c.in_ok-permitted.ensures.context c.in-Err.code
    (refused_as (guard_refused zone.guard asked) c.in-Err.code (sym c.in-Err.is ∙ c.in_ok-permitted.ensures.permitted))
