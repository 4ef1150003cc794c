use Rattle.std.proofs.Common.{◌≡◌, ◌∙◌, ap, sym, take, List, ℕ}
use Rattle.std.specs.Str.{bytes_eq}
use Rattle.std.proofs.lemmas.Slice.Eq.{bytes_eq-Decides}
use Rattle.zst_key.specs.Ancestors.{parent}
use Rattle.zst_key.specs.NameKeys.{name_key, name_of_key}
use Rattle.zst_key.proofs.KeyLemmas.{lower-itself, name-read, octets-of, parent-lower}
use Rattle.zst_key.proofs.key.NameKey.is_child_of.Goals as goal

pub returns : goal.returns
returns c =
    let octets = c.self.inside.octets.items in
    let above = parent c.args.self.now in
    let lower = parent-lower c.args.self.now (lower-itself octets c.args.self.now c.self.invariant c.self.view_is) in
    let also = lower-itself c.other.inside.octets.items c.args.other.now c.other.invariant c.other.view_is in
    let own : take c.parent_end.result c.as_slice-octets.result.now ≡ name_key above
    = c.parent_end.ensures.parent c.args.self.now (c.as_slice-octets.ensures ∙ octets-of octets c.args.self.now c.self.invariant c.self.view_is) in
    let others : c.as_slice.result.now ≡ name_key c.args.other.now
    = c.as_slice.ensures ∙ octets-of c.other.inside.octets.items c.args.other.now c.other.invariant c.other.view_is in
    let told : c.eq.result ≡ bytes_eq (name_key above) (name_key c.args.other.now)
    = c.eq.ensures ∙ ap (λ (t : List ℕ). bytes_eq t c.as_slice.result.now) own ∙ ap (bytes_eq (name_key above)) others in
    let decides = bytes_eq-Decides (name_key above) (name_key c.args.other.now) in (
      λ yes. sym (name-read above ∙ lower) ∙ ap name_of_key (decides.0 (sym told ∙ yes)) ∙ name-read c.args.other.now ∙ also,
      λ same. told ∙ decides.1 (ap name_key same),
    )
