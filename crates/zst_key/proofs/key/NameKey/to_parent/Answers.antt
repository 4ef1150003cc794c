use Rattle.std.proofs.Common.{◌∙◌, ap, take, sym}
use Rattle.zst_key.specs.Ancestors.{parent}
use Rattle.zst_key.proofs.KeyLemmas.{is-key, octets-of, lower-itself, name-of-octets, parent-lower}
use Rattle.zst_key.proofs.key.NameKey.to_parent.Goals as goal

pub invariant_of-self : goal.invariant_of-self
invariant_of-self c =
    let octets = c.self.inside.octets.items in
    let after = c.truncate.ensures.items ∙ ap (take c.parent_end-end.result) (sym c.as_slice.ensures)
    ∙ c.parent_end-end.ensures.parent c.args.self.now (c.as_slice.ensures ∙ octets-of octets c.args.self.now c.self.invariant c.self.view_is) in
    is-key c.truncate.new.self.items (parent c.args.self.now) after

pub returns : goal.returns
returns c =
    let octets = c.self.inside.octets.items in
    let after = c.truncate.ensures.items ∙ ap (take c.parent_end-end.result) (sym c.as_slice.ensures)
    ∙ c.parent_end-end.ensures.parent c.args.self.now (c.as_slice.ensures ∙ octets-of octets c.args.self.now c.self.invariant c.self.view_is) in
    name-of-octets c.truncate.new.self.items (parent c.args.self.now) after (parent-lower c.args.self.now (lower-itself octets c.args.self.now c.self.invariant c.self.view_is))
