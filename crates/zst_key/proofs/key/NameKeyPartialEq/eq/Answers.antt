use Rattle.std.proofs.Common.{◌∙◌, ap, List, ℕ}
use Rattle.std.specs.Str.{bytes_eq}
use Rattle.zst_key.specs.NameKeys.{name_key}
use Rattle.zst_key.proofs.KeyLemmas.{same_key, octets-of}
use Rattle.zst_key.proofs.key.NameKeyPartialEq.eq.Goals as goal

pub returns : goal.returns
returns c =
    let own = c.as_slice.ensures ∙ octets-of c.self.inside.octets.items c.args.self.now c.self.invariant c.self.view_is in
    let others = c.as_slice-2.ensures ∙ octets-of c.other.inside.octets.items c.args.other.now c.other.invariant c.other.view_is in
    c.are_same.ensures ∙ ap (λ (t : List ℕ). bytes_eq t c.as_slice-2.result.now) own
    ∙ ap (bytes_eq (name_key c.args.self.now)) others ∙ same_key c.args.self.now c.args.other.now
