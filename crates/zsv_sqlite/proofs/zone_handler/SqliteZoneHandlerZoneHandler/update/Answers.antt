use Rattle.std.proofs.Common.{◌∙◌, sym}
use Rattle.std.specs.Prelude.{true}
use Rattle.zst_request.specs.Requested.{asked_of}
use Rattle.zsv_sqlite.specs.Guarded.{forbidden, guarded_zone}
use Rattle.zsv_sqlite.proofs.Guarding.{forbidden_view, refused_as}
use Rattle.zsv_sqlite.proofs.Kept.{alias_changes, ns_changes, soa_changes}
use Rattle.zsv_sqlite.proofs.zone_handler.SqliteZoneHandlerZoneHandler.update.Goals as goal

pub returns-in-Err-clause-told : goal.returns-in-Err-clause-told
returns-in-Err-clause-told g c =
    forbidden_view (guarded_zone c.args.self.now) (asked_of c.args.request) c.in-Err.code
    (refused_as (forbidden (guarded_zone c.args.self.now) (asked_of c.args.request)) c.in-Err.code (sym c.in-Err.is ∙ c.in-Ok.ensures.permitted))

pub returns-clause-alias : goal.returns-clause-alias
returns-clause-alias g c =
    alias_changes _ true (guarded_zone c.args.self.now) c.args.request.updates.items c.in_ok-answer.answer (guarded_zone c.change.new.self) c.in_ok-answer.ensures.ok

pub returns-clause-soa : goal.returns-clause-soa
returns-clause-soa g c =
    soa_changes _ true (guarded_zone c.args.self.now) c.args.request.updates.items c.in_ok-answer.answer (guarded_zone c.change.new.self) c.in_ok-answer.ensures.ok

pub returns-clause-ns : goal.returns-clause-ns
returns-clause-ns g c =
    ns_changes _ true (guarded_zone c.args.self.now) c.args.request.updates.items c.in_ok-answer.answer (guarded_zone c.change.new.self) c.in_ok-answer.ensures.ok
