use Rattle.std.proofs.Common.{◌∙◌, ap, List, ℕ}
use Rattle.std.specs.Cmp.Lexicographic.{slice_cmp}
use Rattle.std.specs.Ordering.{nat_cmp}
use Rattle.zst_key.specs.NameKeys.{name_key}
use Rattle.zst_key.proofs.KeyOrder.{key-order}
use Rattle.zst_key.proofs.KeyLemmas.{octets-of}
use Rattle.zst_key.proofs.sorted.KeyRef.order_of.Goals as goal

pub returns : goal.returns
returns c =
    let own = octets-of c.self.inside.octets.now c.args.self.now c.self.invariant c.self.view_is in
    let others = c.as_slice.ensures ∙ octets-of c.other.inside.octets.items c.args.other.now c.other.invariant c.other.view_is in
    c.order.ensures ∙ ap (λ (t : List ℕ). slice_cmp nat_cmp t c.self.inside.octets.now) others
    ∙ ap (slice_cmp nat_cmp (name_key c.args.other.now)) own ∙ key-order c.args.other.now c.args.self.now
