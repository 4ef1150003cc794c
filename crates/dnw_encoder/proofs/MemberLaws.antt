-- What is in a list once items are added, and once some are left out.
use Rattle.std.proofs.Common.{◌≡◌, Bool, true, false, ◌≤◌, List, [], ◌∷◌, ◌++◌, length, filter, cond, ◌⊎◌, inl, inr, refl, sym, subst, ◌∙◌, ap, arith}
use Rattle.dnw_encoder.specs.Members.{In}

pub in_push : {X : Type 0} (x y : X) (xs : List X) → In x (xs ++ y ∷ []) → In x xs ⊎ (y ≡ x)
in_push x y [] (inl e) = inr e
in_push x y [] (inr later) = absurd later
in_push x y (z ∷ zs) (inl e) = inl (inl e)
in_push x y (z ∷ zs) (inr later) = elim (in_push x y zs later) [ inl found ↦ inl (inr found) | inr e ↦ inr e ]

pub in_front : {X : Type 0} (x : X) (xs ys : List X) → In x xs → In x (xs ++ ys)
in_front x [] ys found = absurd found
in_front x (z ∷ zs) ys (inl e) = inl e
in_front x (z ∷ zs) ys (inr later) = inr (in_front x zs ys later)

pub in_last : {X : Type 0} (x : X) (xs : List X) → In x (xs ++ x ∷ [])
in_last x [] = inl refl
in_last x (z ∷ zs) = inr (in_last x zs)

in_kept : {X : Type 0} (p : X → Bool) (x z : X) (zs : List X) (b : Bool) → p z ≡ b → (In x (filter p zs) → In x zs × (p x ≡ true)) → In x (cond b (z ∷ filter p zs) (filter p zs)) → In x (z ∷ zs) × (p x ≡ true)
in_kept p x z zs true e later (inl same) = (inl same, ap p (sym same) ∙ e)
in_kept p x z zs true e later (inr found) = let h = later found in (inr h.0, h.1)
in_kept p x z zs false e later found = let h = later found in (inr h.0, h.1)

pub in_filter : {X : Type 0} (p : X → Bool) (x : X) (xs : List X) → In x (filter p xs) → In x xs × (p x ≡ true)
in_filter p x [] found = absurd found
in_filter p x (z ∷ zs) found = in_kept p x z zs (p z) refl (in_filter p x zs) found

in_kept_back : {X : Type 0} (p : X → Bool) (x z : X) (zs : List X) (b : Bool) → p z ≡ b → p x ≡ true → In x (z ∷ zs) → (In x zs → In x (filter p zs)) → In x (cond b (z ∷ filter p zs) (filter p zs))
in_kept_back p x z zs true e holds (inl same) later = inl same
in_kept_back p x z zs true e holds (inr found) later = inr (later found)
in_kept_back p x z zs false e holds (inl same) later = let f = ap p same in absurd (cc (e, f, holds))
in_kept_back p x z zs false e holds (inr found) later = later found

pub in_filter_back : {X : Type 0} (p : X → Bool) (x : X) (xs : List X) → p x ≡ true → In x xs → In x (filter p xs)
in_filter_back p x [] holds found = absurd found
in_filter_back p x (z ∷ zs) holds found = in_kept_back p x z zs (p z) refl holds found (in_filter_back p x zs holds)

-- A test leaves at most what is there, and all where it holds of each.
few_kept : {X : Type 0} (p : X → Bool) (z : X) (zs : List X) (b : Bool) → length (filter p zs) ≤ length zs → length (cond b (z ∷ filter p zs) (filter p zs)) ≤ length (z ∷ zs)
few_kept p z zs true le = omega (arith, le)
few_kept p z zs false le = omega (arith, le)

pub few_filter : {X : Type 0} (p : X → Bool) (xs : List X) → length (filter p xs) ≤ length xs
few_filter p [] = omega arith
few_filter p (z ∷ zs) = few_kept p z zs (p z) (few_filter p zs)

few_twice : {X : Type 0} (q p : X → Bool) (z : X) (zs : List X) (b c : Bool) → q z ≡ b → p z ≡ c → length (filter q (filter p zs)) ≤ length (filter q zs) → length (filter q (cond c (z ∷ filter p zs) (filter p zs))) ≤ length (cond b (z ∷ filter q zs) (filter q zs))
few_twice q p z zs b true e f le = few_more b e where
  few_more : (d : Bool) → q z ≡ d → length (filter q (z ∷ filter p zs)) ≤ length (cond b (z ∷ filter q zs) (filter q zs))
  few_more d g = omega (arith, both b d e g)
    where
      both : (b d : Bool) → q z ≡ b → q z ≡ d → length (cond (q z) (z ∷ filter q (filter p zs)) (filter q (filter p zs))) ≤ length (cond b (z ∷ filter q zs) (filter q zs))
      both true d e g = subst (λ (t : Bool). length (cond t (z ∷ filter q (filter p zs)) (filter q (filter p zs))) ≤ length (z ∷ filter q zs)) (sym e) (omega (arith, le))
      both false d e g = subst (λ (t : Bool). length (cond t (z ∷ filter q (filter p zs)) (filter q (filter p zs))) ≤ length (filter q zs)) (sym e) le
few_twice q p z zs true false e f le = omega (arith, le)
few_twice q p z zs false false e f le = le

pub few_filters : {X : Type 0} (q p : X → Bool) (xs : List X) → length (filter q (filter p xs)) ≤ length (filter q xs)
few_filters q p [] = omega arith
few_filters q p (z ∷ zs) = few_twice q p z zs (q z) (p z) refl refl (few_filters q p zs)

pub all_filter : {X : Type 0} (p : X → Bool) (xs : List X) → ((x : X) → In x xs → p x ≡ true) → filter p xs ≡ xs
all_filter p [] holds = refl
all_filter {X} p (z ∷ zs) holds =
    ap (λ (b : Bool). cond b (z ∷ filter p zs) (filter p zs)) (holds z (inl refl)) ∙ ap (λ (ys : List X). z ∷ ys) (all_filter p zs (λ x found. holds x (inr found)))

-- None is left of those behind, where it holds of none.
pub none_filter : {X : Type 0} (p : X → Bool) (xs ys : List X) → ((y : X) → In y ys → p y ≡ false) → filter p (xs ++ ys) ≡ filter p xs
none_filter p [] [] fails = refl
none_filter p [] (y ∷ ys) fails =
    ap (λ (b : Bool). cond b (y ∷ filter p ys) (filter p ys)) (fails y (inl refl)) ∙ none_filter p [] ys (λ x found. fails x (inr found))
none_filter {X} p (z ∷ zs) ys fails = ap (λ (l : List X). cond (p z) (z ∷ l) l) (none_filter p zs ys fails)
