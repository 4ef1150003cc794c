-- What a draft's steps make of its list.
use Rattle.std.proofs.Common.{◌≡◌, ◌∙◌, ℕ, ◌+◌, ◌<◌, ◌++◌, suc, zero, refl, sym, ap, arith, length, subst}
use Rattle.std.specs.Prelude.{List, [], ◌∷◌, Option, Some, None, Result, Ok, Err, OnOk, get_or, set, slice_get}
use Rattle.std.specs.List.{remove}
use Rattle.std.proofs.lemmas.Option.{get_or_from_slice_get}
use Rattle.zst_record.specs.Drafts.{Rise, drafted, picked}

pub drafted_push : {X : Type 0} (stored : List X) (ps : List (Option ℕ)) (xs : List X) (x : X) → length ps ≡ length xs → drafted stored (ps ++ None ∷ []) (xs ++ x ∷ []) ≡ drafted stored ps xs ++ x ∷ []
drafted_push stored [] [] x long = refl
drafted_push stored [] (y ∷ xs) x long = absurd (omega (arith, long))
drafted_push stored (p ∷ ps) [] x long = absurd (omega (arith, long))
drafted_push stored (p ∷ ps) (y ∷ xs) x long = ap (λ (l : List _). picked stored p y ∷ l) (drafted_push stored ps xs x (omega (arith, long)))

pub drafted_put : {X : Type 0} (stored : List X) (ps : List (Option ℕ)) (xs : List X) (at : ℕ) (x : X) → length ps ≡ length xs → drafted stored (set ps at None) (set xs at x) ≡ set (drafted stored ps xs) at x
drafted_put stored [] [] at x long = refl
drafted_put stored [] (y ∷ xs) at x long = absurd (omega (arith, long))
drafted_put stored (p ∷ ps) [] at x long = absurd (omega (arith, long))
drafted_put stored (p ∷ ps) (y ∷ xs) zero x long = refl
drafted_put stored (p ∷ ps) (y ∷ xs) (suc at) x long = ap (λ (l : List _). picked stored p y ∷ l) (drafted_put stored ps xs at x (omega (arith, long)))

pub drafted_removed : {X : Type 0} (stored : List X) (ps : List (Option ℕ)) (xs : List X) (at : ℕ) → length ps ≡ length xs → drafted stored (remove ps at) (remove xs at) ≡ remove (drafted stored ps xs) at
drafted_removed stored [] [] zero long = refl
drafted_removed stored [] [] (suc at) long = refl
drafted_removed stored [] (y ∷ xs) at long = absurd (omega (arith, long))
drafted_removed stored (p ∷ ps) [] at long = absurd (omega (arith, long))
drafted_removed stored (p ∷ ps) (y ∷ xs) zero long = refl
drafted_removed stored (p ∷ ps) (y ∷ xs) (suc at) long = ap (λ (l : List _). picked stored p y ∷ l) (drafted_removed stored ps xs at (omega (arith, long)))

-- ---- answers
pub on_ok : {T E A B P : Type 0} (r : Result T E) → (A → B → P) → OnOk r A → OnOk r B → OnOk r P
on_ok (Ok x) f a b = f a b
on_ok (Err e) f a b = tt

-- ---- the item at an index
pub place_below : (low count at p : ℕ) (ps : List (Option ℕ)) → Rise low count ps → slice_get ps at ≡ Some (Some p) → p < count
place_below low count at p [] rise e = let h : ⊥ = cc in absurd h
place_below low count zero p (None ∷ ps) rise e = let h : ⊥ = cc in absurd h
place_below low count zero p (Some q ∷ ps) (from, below, more) e = let h : q ≡ p = cc in subst (λ (n : ℕ). n < count) h below
place_below low count (suc at) p (None ∷ ps) rise e = place_below low count at p ps rise e
place_below low count (suc at) p (Some q ∷ ps) (from, below, more) e = place_below (q + 1) count at p ps more e

pub got_drafted : {X : Type 0} (stored : List X) (ps : List (Option ℕ)) (xs : List X) (at : ℕ) (p : Option ℕ) (x : X) → slice_get ps at ≡ Some p → slice_get xs at ≡ Some x
    → slice_get (drafted stored ps xs) at ≡ Some (picked stored p x)
got_drafted stored [] xs at p x e f = let h : ⊥ = cc in absurd h
got_drafted stored (q ∷ ps) [] at p x e f = let h : ⊥ = cc in absurd h
got_drafted stored (q ∷ ps) (y ∷ xs) zero p x e f = let g : q ≡ p = cc in let h : y ≡ x = cc in ap (λ (o : Option ℕ). Some (picked stored o y)) g ∙ ap (λ (z : _). Some (picked stored p z)) h
got_drafted stored (q ∷ ps) (y ∷ xs) (suc at) p x e f = got_drafted stored ps xs at p x e f

pub got_stored : {X : Type 0} (stored : List X) (ps : List (Option ℕ)) (xs : List X) (at p : ℕ) (y : X) → at < length xs → slice_get ps at ≡ Some (Some p) → slice_get stored p ≡ Some y
    → slice_get (drafted stored ps xs) at ≡ Some y
got_stored stored [] xs at p y below e f = let h : ⊥ = cc in absurd h
got_stored stored (q ∷ ps) [] at p y below e f = absurd (omega (arith, below))
got_stored stored (q ∷ ps) (x ∷ xs) zero p y below e f =
    let g : q ≡ Some p = cc in
    ap (λ (o : Option ℕ). Some (picked stored o x)) g ∙ ap (λ (z : _). Some z) (get_or_from_slice_get stored p y x f)
got_stored stored (q ∷ ps) (x ∷ xs) (suc at) p y below e f = got_stored stored ps xs at p y (omega (arith, below)) e f

pub there_at : {X : Type 0} (xs : List X) (at : ℕ) (d x y : X) → at < length xs → x ≡ get_or xs at d → x ≡ y → slice_get xs at ≡ Some y
there_at [] at d x y below e f = absurd (omega (arith, below))
there_at (z ∷ xs) zero d x y below e f = ap (λ (v : _). Some v) (sym e ∙ f)
there_at (z ∷ xs) (suc at) d x y below e f = there_at xs at d x y (omega (arith, below)) e f
