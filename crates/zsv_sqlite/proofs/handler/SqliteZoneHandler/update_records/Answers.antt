use Rattle.zst_request.specs.Updating.{soa_refused}
use Rattle.std.specs.Prelude.{None, cond}
use Rattle.zsv_sqlite.specs.Laws.{AliasesAlone, HasNs, HasOneSoa}
use Rattle.zsv_sqlite.proofs.Kept.{alias_changes, kept_result, ns_changes, soa_changes}
use Rattle.zsv_sqlite.proofs.handler.SqliteZoneHandler.update_records.Goals as goal

pub returns-clause-alias : goal.returns-clause-alias
returns-clause-alias g c =
    let old = c.args.self.now.in_memory.zone in
    let new = c.apply_changes.new.zone in
    let refused = cond c.args.increment (soa_refused old c.args.records.items) None in
    kept_result AliasesAlone refused c.args.increment old c.args.records.items new c.apply_changes.result
    (λ answer is. alias_changes refused c.args.increment old c.args.records.items answer new is)
    c.apply_changes.ensures.ok c.apply_changes.ensures.err

pub returns-clause-soa : goal.returns-clause-soa
returns-clause-soa g c =
    let old = c.args.self.now.in_memory.zone in
    let new = c.apply_changes.new.zone in
    let refused = cond c.args.increment (soa_refused old c.args.records.items) None in
    kept_result HasOneSoa refused c.args.increment old c.args.records.items new c.apply_changes.result
    (λ answer is. soa_changes refused c.args.increment old c.args.records.items answer new is)
    c.apply_changes.ensures.ok c.apply_changes.ensures.err

pub returns-clause-ns : goal.returns-clause-ns
returns-clause-ns g c =
    let old = c.args.self.now.in_memory.zone in
    let new = c.apply_changes.new.zone in
    let refused = cond c.args.increment (soa_refused old c.args.records.items) None in
    kept_result HasNs refused c.args.increment old c.args.records.items new c.apply_changes.result
    (λ answer is. ns_changes refused c.args.increment old c.args.records.items answer new is)
    c.apply_changes.ensures.ok c.apply_changes.ensures.err
