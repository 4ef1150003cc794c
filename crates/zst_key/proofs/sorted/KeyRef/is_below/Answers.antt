use Rattle.std.proofs.Common.{◌≡◌, ◌∙◌, ap, List, ℕ, nat_eq}
use Rattle.std.specs.List.{starts_with}
use Rattle.zst_key.specs.NameKeys.{name_key}
use Rattle.zst_key.proofs.KeyLemmas.{key-below, lower-itself, octets-of}
use Rattle.zst_key.proofs.sorted.KeyRef.is_below.Goals as goal

pub returns-clause-below : goal.returns-clause-below
returns-clause-below c =
    let own : c.self.inside.octets.now ≡ name_key c.args.self.now = octets-of c.self.inside.octets.now c.args.self.now c.self.invariant c.self.view_is in
    let others : c.as_slice.result.now ≡ name_key c.args.other.now = c.as_slice.ensures ∙ octets-of c.other.inside.octets.items c.args.other.now c.other.invariant c.other.view_is in
    c.starts_with.ensures.value ∙ ap (λ (t : List ℕ). starts_with nat_eq t c.as_slice.result.now) own
    ∙ ap (starts_with nat_eq (name_key c.args.self.now)) others ∙ key-below c.args.self.now c.args.other.now

pub returns-clause-lower : goal.returns-clause-lower
returns-clause-lower c = lower-itself c.self.inside.octets.now c.args.self.now c.self.invariant c.self.view_is

pub returns-clause-lower_other : goal.returns-clause-lower_other
returns-clause-lower_other c = lower-itself c.other.inside.octets.items c.args.other.now c.other.invariant c.other.view_is
