use Rattle.std.proofs.Common.{◌≡◌, ◌∙◌, ◌-◌, ap, refl, List, [], ◌∷◌, ℕ, nat_eq, drop, take, length, arith}
use Rattle.std.proofs.Math.Seq.{take-length}
use Rattle.std.specs.List.{starts_with}
use Rattle.zst_key.specs.NameKeys.{labels_key}
use Rattle.zst_key.proofs.KeyFronts.{key-front}
use Rattle.zst_key.proofs.KeyLemmas.{octets-of}
use Rattle.zst_key.proofs.key.NameKey.is_at_or_below.Goals as goal

behind_first : (xs : List ℕ) → take (length xs - 1) (drop 1 xs) ≡ drop 1 xs
behind_first [] = refl
behind_first (x ∷ xs) =
    let all : length (x ∷ xs) - 1 ≡ length xs = omega arith in
    ap (λ (n : ℕ). take n xs) all ∙ take-length xs

pub returns : goal.returns
returns c =
    let own : drop 1 c.as_slice.result.now ≡ labels_key c.args.self.now.labels
    = ap (drop 1) (c.as_slice.ensures ∙ octets-of c.self.inside.octets.items c.args.self.now c.self.invariant c.self.view_is) in
    let others : drop 1 c.as_slice-2.result.now ≡ labels_key c.args.other.now.labels
    = ap (drop 1) (c.as_slice-2.ensures ∙ octets-of c.other.inside.octets.items c.args.other.now c.other.invariant c.other.view_is) in
    c.starts_with.ensures.value
    ∙ ap (λ (t : List ℕ). starts_with nat_eq t (take (length c.as_slice-2.result.now - 1) (drop 1 c.as_slice-2.result.now))) (behind_first c.as_slice.result.now)
    ∙ ap (starts_with nat_eq (drop 1 c.as_slice.result.now)) (behind_first c.as_slice-2.result.now)
    ∙ ap (λ (t : List ℕ). starts_with nat_eq t (drop 1 c.as_slice-2.result.now)) own
    ∙ ap (starts_with nat_eq (labels_key c.args.self.now.labels)) others ∙ key-front c.args.self.now c.args.other.now
