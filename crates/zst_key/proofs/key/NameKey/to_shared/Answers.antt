use Rattle.std.proofs.Common.{◌∙◌, ap, sym, take}
use Rattle.zst_key.specs.Ancestors.{GoesToShared}
use Rattle.zst_key.specs.NameKeys.{IsKey, name_of_key}
use Rattle.zst_key.proofs.KeyLemmas.{lower-itself, octets-of}
use Rattle.zst_key.proofs.SharedEnds.{shared-key}
use Rattle.zst_key.proofs.key.NameKey.to_shared.Goals as goal

found : (c : goal.After-truncate) → IsKey c.truncate.new.self.items × GoesToShared c.args.self.now c.args.other.now (name_of_key c.truncate.new.self.items)
found c =
    shared-key c.as_slice.result.now c.as_slice-2.result.now c.truncate.new.self.items c.shared_end-end.result c.args.self.now c.args.other.now c.is_fqdn.result c.is_fqdn-2.result
    (c.as_slice.ensures ∙ octets-of c.self.inside.octets.items c.args.self.now c.self.invariant c.self.view_is)
    (c.as_slice-2.ensures ∙ octets-of c.other.inside.octets.items c.args.other.now c.other.invariant c.other.view_is)
    (lower-itself c.self.inside.octets.items c.args.self.now c.self.invariant c.self.view_is)
    c.is_fqdn.ensures c.is_fqdn-2.ensures c.if-is_fqdn.false c.shared_end-end.ensures.shared
    (c.truncate.ensures.items ∙ ap (take c.shared_end-end.result) (sym c.as_slice.ensures))

pub invariant_of-self : goal.invariant_of-self
invariant_of-self c = (found c).0

pub returns-clause-shared : goal.returns-clause-shared
returns-clause-shared c = λ same. (found c).1
