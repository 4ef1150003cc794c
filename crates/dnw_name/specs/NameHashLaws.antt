-- Equal names feed a hasher the same.
use Rattle.std.proofs.Common.{◌≡◌, ℕ, Bool, true, false, ◌&&◌, suc, List, [], ◌∷◌, ◌++◌, length, ap, refl, ◌∙◌}
use Rattle.std.specs.Hash as fed
use Rattle.std.specs.Bool.{beq}
use Rattle.std.specs.Cmp.Lexicographic.{pointwise}
use Rattle.std.specs.List.{flat_map}
use Rattle.dnw_net.specs.dnw_label.Label.{label_eq}
use Rattle.dnw_net.specs.dnw_label.LabelHash.{label_writes}
use Rattle.dnw_net.specs.dnw_label.LabelHashLaws.{label_writes-alike}
use Rattle.dnw_name.specs.DomainName.{DomainName, name_eq}
use Rattle.dnw_name.specs.NameHash.{name_writes}

pub labels_writes-alike : (xs ys : List (List ℕ)) → pointwise label_eq xs ys ≡ true
    → fed.slice label_writes xs ≡ fed.slice label_writes ys
labels_writes-alike xs ys same =
    ap2 (λ n w. fed.usize n ++ w) (same-length xs ys same) (same-writes xs ys same)
  where
    and-parts : (a b : Bool) → (a && b) ≡ true → (a ≡ true) × (b ≡ true)
    and-parts true b e = (refl, e)
    and-parts false b e = absurd (cc)

    same-length : (xs ys : List (List ℕ)) → pointwise label_eq xs ys ≡ true → length xs ≡ length ys
    same-length [] [] e = refl
    same-length [] (y ∷ ys) e = absurd (cc)
    same-length (x ∷ xs) [] e = absurd (cc)
    same-length (x ∷ xs) (y ∷ ys) e =
        ap suc (same-length xs ys (and-parts (label_eq x y) (pointwise label_eq xs ys) e).1)

    same-writes : (xs ys : List (List ℕ)) → pointwise label_eq xs ys ≡ true
        → flat_map label_writes xs ≡ flat_map label_writes ys
    same-writes [] [] e = refl
    same-writes [] (y ∷ ys) e = absurd (cc)
    same-writes (x ∷ xs) [] e = absurd (cc)
    same-writes (x ∷ xs) (y ∷ ys) e =
        let parts = and-parts (label_eq x y) (pointwise label_eq xs ys) e in
        ap (λ w. w ++ flat_map label_writes xs) (label_writes-alike x y parts.0)
        ∙ ap (λ w. label_writes y ++ w) (same-writes xs ys parts.1)

    ap2 : {A B C : Type 0} (f : A → B → C) {a a' : A} {b b' : B} → a ≡ a' → b ≡ b' → f a b ≡ f a' b'
    ap2 f {a} {a'} {b} {b'} p q = ap (λ x. f x b) p ∙ ap (f a') q

pub name_writes-alike : (x y : DomainName) → name_eq x y ≡ true → name_writes x ≡ name_writes y
name_writes-alike x y same = both x.fqdn y.fqdn same
  where
    both : (f g : Bool) → (beq f g && pointwise label_eq x.labels y.labels) ≡ true
        → fed.bool f ++ fed.slice label_writes x.labels
        ≡ fed.bool g ++ fed.slice label_writes y.labels
    both true true e = ap (λ w. fed.bool true ++ w) (labels_writes-alike x.labels y.labels e)
    both false false e = ap (λ w. fed.bool false ++ w) (labels_writes-alike x.labels y.labels e)
    both true false e = absurd (cc)
    both false true e = absurd (cc)
