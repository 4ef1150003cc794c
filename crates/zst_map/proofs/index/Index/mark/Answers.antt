use Rattle.std.proofs.lemmas.Result.{on_ok_weaker}
use Rattle.zst_map.proofs.Indexed.{marked}
use Rattle.zst_map.proofs.index.Index.mark.Goals as goal

pub returns-clause-marked : goal.returns-clause-marked
returns-clause-marked c =
    on_ok_weaker c.put_above_if.result
    (λ above. rw c.is_cut.ensures
    (marked c.args.owner.now c.args.record_type c.args.key.now c.args.owns_soa c.eq-is_ns.result c.is_wildcard.result c.is_denial_type.result c.is_fqdn.result c.args.self.now.has_cuts c.args.self.now.has_relative
    c.put_if.new.names c.put_above_if.new.names c.put_if-2.new.names c.requires c.eq-is_ns.ensures c.is_fqdn.ensures c.is_wildcard.ensures c.is_denial_type.ensures c.in_ok-put_if.ensures.there above c.in_ok-put_if-2.ensures.there))
    c.put_above_if.ensures.there
