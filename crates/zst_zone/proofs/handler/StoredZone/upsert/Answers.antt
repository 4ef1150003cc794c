use Rattle.std.proofs.Common.{subst}
use Rattle.std.specs.Prelude.{None, OnOk}
use Rattle.zst_circle.specs.zst_handler.Updates.{Upserts}
use Rattle.zst_circle.specs.zst_handler.Zones.{Zone}
use Rattle.zst_zone.proofs.Stored.{kept_updated, upserts_to}
use Rattle.zst_zone.proofs.handler.StoredZone.upsert.Goals as goal

pub invariant_of-self : goal.invariant_of-self
invariant_of-self c =
    kept_updated c.upsert.result c.self.inside.origin c.self.inside.origin_key c.self.inside.sets c.upsert.new.self c.args.next c.self.invariant
    c.upsert.ensures.ok c.upsert.ensures.ordered c.upsert.ensures.unchanged c.upsert.ensures.err

pub returns-clause-ok : goal.returns-clause-ok
returns-clause-ok c =
    let before : Zone = record {
      origin = c.self.inside.origin;
      zone_type = c.self.inside.zone_type;
      axfr_policy = c.self.inside.axfr_policy;
      nx_proof_kind = c.self.inside.nx_proof_kind;
      guard = None;
      sets = c.self.inside.sets;
    } in
    subst (λ (z : Zone). OnOk c.upsert.result (Upserts z c.args.next (record before { sets = c.upsert.new.self }))) c.self.view_is
    (upserts_to c.upsert.result before c.upsert.new.self c.args.next c.upsert.ensures.ok c.upsert.ensures.ordered c.upsert.ensures.unchanged)
