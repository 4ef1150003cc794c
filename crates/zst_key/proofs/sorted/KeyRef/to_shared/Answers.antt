use Rattle.std.proofs.Common.{refl, take, ◌∙◌}
use Rattle.zst_key.proofs.KeyLemmas.{lower-itself, octets-of}
use Rattle.zst_key.proofs.SharedEnds.{shared-key}
use Rattle.zst_key.proofs.sorted.KeyRef.to_shared.Goals as goal

pub invariant_of-self : goal.invariant_of-self
invariant_of-self c =
    (shared-key c.self.inside.octets.now c.as_slice.result.now (take c.shared_end-end.result c.self.inside.octets.now) c.shared_end-end.result c.args.self.now c.args.other.now c.is_fqdn.result c.is_fqdn-2.result
    (octets-of c.self.inside.octets.now c.args.self.now c.self.invariant c.self.view_is)
    (c.as_slice.ensures ∙ octets-of c.other.inside.octets.items c.args.other.now c.other.invariant c.other.view_is)
    (lower-itself c.self.inside.octets.now c.args.self.now c.self.invariant c.self.view_is)
    c.is_fqdn.ensures c.is_fqdn-2.ensures c.if-is_fqdn.false c.shared_end-end.ensures.shared refl).0

pub returns-clause-shared : goal.returns-clause-shared
returns-clause-shared c = λ same.
    (shared-key c.self.inside.octets.now c.as_slice.result.now (take c.shared_end-end.result c.self.inside.octets.now) c.shared_end-end.result c.args.self.now c.args.other.now c.is_fqdn.result c.is_fqdn-2.result
    (octets-of c.self.inside.octets.now c.args.self.now c.self.invariant c.self.view_is)
    (c.as_slice.ensures ∙ octets-of c.other.inside.octets.items c.args.other.now c.other.invariant c.other.view_is)
    (lower-itself c.self.inside.octets.now c.args.self.now c.self.invariant c.self.view_is)
    c.is_fqdn.ensures c.is_fqdn-2.ensures c.if-is_fqdn.false c.shared_end-end.ensures.shared refl).1
