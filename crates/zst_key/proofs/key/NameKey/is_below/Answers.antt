use Rattle.std.proofs.Common.{◌≡◌, ◌∙◌, ap, sym, List, ℕ, nat_eq}
use Rattle.std.specs.List.{starts_with}
use Rattle.zst_key.specs.NameKeys.{name_key}
use Rattle.zst_key.proofs.KeyLemmas.{key-below, lower-itself}
use Rattle.zst_key.proofs.key.NameKey.is_below.Goals as goal

pub returns-clause-below : goal.returns-clause-below
returns-clause-below c =
    let own : c.deref.result.now ≡ name_key c.args.self.now = c.deref.ensures ∙ sym c.self.invariant ∙ ap name_key c.self.view_is in
    let others : c.deref-2.result.now ≡ name_key c.args.other.now = c.deref-2.ensures ∙ sym c.other.invariant ∙ ap name_key c.other.view_is in
    c.starts_with.ensures.value ∙ ap (λ (t : List ℕ). starts_with nat_eq t c.deref-2.result.now) own
    ∙ ap (starts_with nat_eq (name_key c.args.self.now)) others ∙ key-below c.args.self.now c.args.other.now

pub returns-clause-lower : goal.returns-clause-lower
returns-clause-lower c = lower-itself c.self.inside.octets.items c.args.self.now c.self.invariant c.self.view_is

pub returns-clause-lower_other : goal.returns-clause-lower_other
returns-clause-lower_other c = lower-itself c.other.inside.octets.items c.args.other.now c.other.invariant c.other.view_is
