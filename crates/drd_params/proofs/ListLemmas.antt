-- Lists that are compared entry by entry.
use Rattle.std.proofs.Common.{◌≡◌, ◌==◌, ◌&&◌, Bool, false, ℕ, ◌<◌, List, [], ◌∷◌, ◌++◌, length, length-append, refl, sym, ap, subst, ◌∙◌, arith}
use Rattle.std.specs.List.{flat_map}
use Rattle.std.proofs.lemmas.Bool.Decides.{nat_tests}
use Rattle.std.proofs.lemmas.List.Concat.{flat_map-cons}
use Rattle.drd_params.specs.drd_fields.Equality.{Tells, TellsApart}
use Rattle.drd_fields.proofs.EqualityLaws.{front_tells}
pub use Rattle.drd_fields.proofs.EqualityLaws.{short_apart, string_apart}

module _ {T : Type 0} (spelled : T → List ℕ) where
  pub lists-more : (b c : Bool) (x y : T) (xs ys left right : List T) → left ≡ x ∷ xs → right ≡ y ∷ ys → TellsApart b (spelled x) (spelled y) → Tells c (flat_map spelled xs) (flat_map spelled ys) → Tells (b && c) (flat_map spelled left) (flat_map spelled right)
  lists-more b c x y xs ys left right at other front later =
      let one : spelled x ++ flat_map spelled xs ≡ flat_map spelled left = sym (flat_map-cons spelled x xs) ∙ ap (λ (l : List T). flat_map spelled l) (sym at) in
      let two : spelled y ++ flat_map spelled ys ≡ flat_map spelled right = sym (flat_map-cons spelled y ys) ∙ ap (λ (l : List T). flat_map spelled l) (sym other) in
      subst (λ (o : List ℕ). Tells (b && c) o (flat_map spelled right)) one
      (subst (λ (o : List ℕ). Tells (b && c) (spelled x ++ flat_map spelled xs) o) two (front_tells b c (spelled x) (spelled y) (flat_map spelled xs) (flat_map spelled ys) front later))

  pub lists-differ : (x y : T) (xs ys left right : List T) → left ≡ x ∷ xs → right ≡ y ∷ ys → TellsApart false (spelled x) (spelled y) → Tells false (flat_map spelled left) (flat_map spelled right)
  lists-differ x y xs ys left right at other front = record {
    equal = λ e. absurd (cc e);
    other = λ e same. front.other refl (flat_map spelled xs) (flat_map spelled ys)
        (sym (flat_map-cons spelled x xs) ∙ ap (λ (l : List T). flat_map spelled l) (sym at) ∙ same ∙ ap (λ (l : List T). flat_map spelled l) other ∙ flat_map-cons spelled y ys);
  }

  pub lists-short : ((x : T) → 0 < length (spelled x)) → (x : T) (xs left right : List T) → left ≡ x ∷ xs → length right ≡ 0 → Tells false (flat_map spelled left) (flat_map spelled right)
  lists-short takes x xs left [] at none = record {
    equal = λ e. absurd (cc e);
    other = λ e same. omega (arith, takes x, length-append (spelled x) (flat_map spelled xs), ap length (sym (flat_map-cons spelled x xs) ∙ ap (λ (l : List T). flat_map spelled l) (sym at) ∙ same));
  }
  lists-short takes x xs left (y ∷ ys) at none = absurd (omega (arith, none))

  pub lists-end : ((x : T) → 0 < length (spelled x)) → (b : Bool) (left right : List T) → length left ≡ 0 → b ≡ (length right == 0) → Tells b (flat_map spelled left) (flat_map spelled right)
  lists-end takes b [] [] none is = record { equal = λ e. refl; other = λ e same. absurd (cc (sym e ∙ is)) }
  lists-end takes b [] (y ∷ ys) none is = record {
    equal = λ e. absurd (grind (arith, nat_tests));
    other = λ e same. omega (arith, takes y, length-append (spelled y) (flat_map spelled ys), ap length (same ∙ flat_map-cons spelled y ys));
  }
  lists-end takes b (x ∷ xs) right none is = absurd (omega (arith, none))
