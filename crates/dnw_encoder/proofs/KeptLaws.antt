-- What a list keeps where a test is asked of each item.
use Rattle.std.proofs.Common.{◌≡◌, Bool, List, [], ◌∷◌, filter, cond, ap, subst, ◌∙◌}
use Rattle.std.specs.List.Retain.{RetainsInTurn}

-- The test changes neither itself nor the items.
pub retained : {X F : Type 0} (R : F → X → Bool → F → X → Type 0) (test : X → Bool) (f : F) → ((x : X) (b : Bool) (g : F) (y : X) → R f x b g y → (g ≡ f) × (b ≡ test x) × (y ≡ x)) → (xs ys : List X) → RetainsInTurn R f xs ys → ys ≡ filter test xs
retained R test f h [] ys k = k
retained {X} {F} R test f h (x ∷ xs) ys k =
    let one = h x k.0 k.1 k.2 k.3 in
    let later = retained R test f h xs k.4 (subst (λ (g : F). RetainsInTurn R g xs k.4) one.0 k.5) in
    k.6
    ∙ ap (λ (b : Bool). cond b (k.2 ∷ k.4) k.4) one.1
    ∙ ap (λ (y : X). cond (test x) (y ∷ k.4) k.4) one.2
    ∙ ap (λ (zs : List X). cond (test x) (x ∷ zs) zs) later
