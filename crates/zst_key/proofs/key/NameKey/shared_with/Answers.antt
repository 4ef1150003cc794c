use Rattle.std.proofs.Common.{◌∙◌}
use Rattle.zst_key.specs.Ancestors.{GoesToShared}
use Rattle.zst_key.specs.NameKeys.{IsKey, name_of_key}
use Rattle.zst_key.proofs.KeyLemmas.{lower-itself, octets-of}
use Rattle.zst_key.proofs.SharedEnds.{shared-key}
use Rattle.zst_key.proofs.key.NameKey.shared_with.Goals as goal
use Rattle.zst_key.proofs.key.NameKey.shared_with.Goals.{In_ok-octets}

found : (c : In_ok-octets) → IsKey c.in_ok-octets.octets.items × GoesToShared c.args.self.now c.args.other.now (name_of_key c.in_ok-octets.octets.items)
found c =
    shared-key c.as_slice-octets.result.now c.as_slice.result.now c.in_ok-octets.octets.items c.shared_end-end.result c.args.self.now c.args.other.now c.is_fqdn.result c.is_fqdn-2.result
    (c.as_slice-octets.ensures ∙ octets-of c.self.inside.octets.items c.args.self.now c.self.invariant c.self.view_is)
    (c.as_slice.ensures ∙ octets-of c.other.inside.octets.items c.args.other.now c.other.invariant c.other.view_is)
    (lower-itself c.self.inside.octets.items c.args.self.now c.self.invariant c.self.view_is)
    c.is_fqdn.ensures c.is_fqdn-2.ensures c.if-is_fqdn.false c.shared_end-end.ensures.shared c.in_ok-octets.ensures.ok

pub invariant_of-result : goal.invariant_of-result
invariant_of-result c = (found c).0

pub returns-clause-shared : goal.returns-clause-shared
returns-clause-shared c = (found c).1
