-- Lists in the order of their octets.
use Rattle.std.proofs.Common.{◌≡◌, ◌≢◌, ℕ, ◌<◌, List, [], ◌∷◌, ◌++◌, length, refl, sym, ap, ◌∙◌, arith}
use Rattle.std.specs.List.{flat_map}
use Rattle.std.specs.Ordering.{ordering_then}
use Rattle.std.specs.declared.cmp.Ordering.{Ordering}
use Rattle.std.specs.declared.cmp.Ordering.TheVariants.{Less, Equal, Greater}
use Rattle.std.proofs.lemmas.List.Concat.{flat_map-cons}
use Rattle.drd_params.specs.drd_fields.Order.{octets_cmp, OrdersFronts}

pub then-equal : (o : Ordering) → ordering_then o Equal ≡ o
then-equal Less = refl
then-equal Equal = refl
then-equal Greater = refl

-- An unequal front decides.
pub decided : (o r : Ordering) → o ≢ Equal → ordering_then o r ≡ o
decided Less r unequal = refl
decided Equal r unequal = absurd (unequal refl)
decided Greater r unequal = refl

module _ {T : Type 0} (spelled : T → List ℕ) where
  pub cmp-first : (x y : T) (xs ys left right : List T) (o : Ordering) → left ≡ x ∷ xs → right ≡ y ∷ ys → OrdersFronts o (spelled x) (spelled y) → octets_cmp (flat_map spelled left) (flat_map spelled right) ≡ ordering_then o (octets_cmp (flat_map spelled xs) (flat_map spelled ys))
  cmp-first x y xs ys left right o at other front =
      ap (λ (l : List T). octets_cmp (flat_map spelled l) (flat_map spelled right)) at
      ∙ ap (λ (l : List T). octets_cmp (flat_map spelled (x ∷ xs)) (flat_map spelled l)) other
      ∙ ap (λ (l : List ℕ). octets_cmp l (flat_map spelled (y ∷ ys))) (flat_map-cons spelled x xs)
      ∙ ap (octets_cmp (spelled x ++ flat_map spelled xs)) (flat_map-cons spelled y ys)
      ∙ front.decides (flat_map spelled xs) (flat_map spelled ys)

  some-octets : ((x : T) → 0 < length (spelled x)) → (x : T) (xs : List T) → (o : ℕ) × (os : List ℕ) × (flat_map spelled (x ∷ xs) ≡ o ∷ os)
  some-octets takes x xs = by_front (spelled x) (takes x) (flat_map-cons spelled x xs)
    where
      by_front : (front : List ℕ) → 0 < length front → flat_map spelled (x ∷ xs) ≡ front ++ flat_map spelled xs → (o : ℕ) × (os : List ℕ) × (flat_map spelled (x ∷ xs) ≡ o ∷ os)
      by_front [] some e = absurd (omega (arith, some))
      by_front (o ∷ os) some e = (o, os ++ flat_map spelled xs, e)

  pub cmp-longer : ((x : T) → 0 < length (spelled x)) → (x : T) (xs left right : List T) → left ≡ x ∷ xs → length right ≡ 0 → Greater ≡ octets_cmp (flat_map spelled left) (flat_map spelled right)
  cmp-longer takes x xs left [] at none =
      let first = some-octets takes x xs in
      sym (ap (λ (l : List T). octets_cmp (flat_map spelled l) []) at ∙ ap (λ (l : List ℕ). octets_cmp l []) first.2)
  cmp-longer takes x xs left (y ∷ ys) at none = absurd (omega (arith, none))

  pub cmp-end : ((x : T) → 0 < length (spelled x)) → (left right : List T) → length left ≡ 0 → 0 < length right → Less ≡ octets_cmp (flat_map spelled left) (flat_map spelled right)
  cmp-end takes [] [] none some = absurd (omega (arith, some))
  cmp-end takes [] (y ∷ ys) none some =
      let first = some-octets takes y ys in
      sym (ap (octets_cmp []) first.2)
  cmp-end takes (x ∷ xs) right none some = absurd (omega (arith, none))

  pub cmp-same : (left right : List T) → length left ≡ 0 → length right ≡ 0 → Equal ≡ octets_cmp (flat_map spelled left) (flat_map spelled right)
  cmp-same [] [] none nor = refl
  cmp-same [] (y ∷ ys) none nor = absurd (omega (arith, nor))
  cmp-same (x ∷ xs) right none nor = absurd (omega (arith, none))
