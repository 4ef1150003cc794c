use Rattle.std.proofs.Common.{◌∙◌, ap, List, ℕ}
use Rattle.std.specs.Cmp.Lexicographic.{slice_cmp}
use Rattle.std.specs.Ordering.{nat_cmp}
use Rattle.zst_key.specs.NameKeys.{name_key}
use Rattle.zst_key.proofs.KeyOrder.{key-order}
use Rattle.zst_key.proofs.KeyLemmas.{octets-of}
use Rattle.zst_key.proofs.key.NameKeyOrd.cmp.Goals as goal

pub returns : goal.returns
returns c =
    let own = c.as_slice.ensures ∙ octets-of c.self.inside.octets.items c.args.self.now c.self.invariant c.self.view_is in
    let others = c.as_slice-2.ensures ∙ octets-of c.other.inside.octets.items c.args.other.now c.other.invariant c.other.view_is in
    c.order.ensures ∙ ap (λ (t : List ℕ). slice_cmp nat_cmp t c.as_slice-2.result.now) own
    ∙ ap (slice_cmp nat_cmp (name_key c.args.self.now)) others ∙ key-order c.args.self.now c.args.other.now
