-- Octets in order, eight at a time.
use Rattle.std.proofs.Common.{◌≡◌, ℕ, zero, suc, ◌+◌, ◌-◌, ◌*◌, ◌<◌, ◌≤◌, ◌++◌, true, List, [], ◌∷◌, length, take, drop, get_or, refl, ap, sym, ◌∙◌, ◌⊎◌, arith, inl, inr}
use Rattle.std.specs.Cmp.Lexicographic.{slice_cmp}
use Rattle.std.specs.Int.{from_be_bytes, w64}
use Rattle.std.specs.Cmp.{nat_cmp_is}
use Rattle.std.specs.Ordering.{nat_cmp, is_ne, ordering_then}
use Rattle.std.specs.declared.cmp.Ordering.{Ordering}
use Rattle.std.specs.declared.cmp.Ordering.TheVariants.{Less, Equal, Greater}
use Rattle.std.proofs.lemmas.Bool.Decides.{nat_tests}
use Rattle.std.proofs.lemmas.Bool.{true≢false, cases_lt}
use Rattle.std.proofs.lemmas.List.{drop_more, get_or-drop, get_or-take, length-drop, length-take, take-append-drop}
use Rattle.std.proofs.lemmas.Map.Lookups.{exact_bytes}
use Rattle.std.proofs.Math.Seq.{drop-cons}
use Rattle.zst_key.proofs.KeyOrder.{then-assoc}

-- The number that octets spell behind a number.
abbrev worth : ℕ → List ℕ → ℕ
worth n [] = n
worth n (x ∷ xs) = worth (n * 256 + x) xs

abbrev AreOctets : List ℕ → Type 0
AreOctets [] = Unit {0}
AreOctets (x ∷ xs) = (x < 256) × AreOctets xs

digit-order : (m n x y : ℕ) → x < 256 → y < 256 → nat_cmp (m * 256 + x) (n * 256 + y) ≡ ordering_then (nat_cmp m n) (nat_cmp x y)
digit-order m n x y few less = grind (arith, nat_tests, few, less)

then-equal : (o : Ordering) → o ≡ ordering_then o Equal
then-equal Less = refl
then-equal Equal = refl
then-equal Greater = refl

worth-order : (xs ys : List ℕ) (m n : ℕ) → length xs ≡ length ys → AreOctets xs → AreOctets ys → nat_cmp (worth m xs) (worth n ys) ≡ ordering_then (nat_cmp m n) (slice_cmp nat_cmp xs ys)
worth-order [] [] m n e p q = then-equal (nat_cmp m n)
worth-order [] (y ∷ ys) m n e p q = absurd (omega (arith, e))
worth-order (x ∷ xs) [] m n e p q = absurd (omega (arith, e))
worth-order (x ∷ xs) (y ∷ ys) m n e p q =
    worth-order xs ys (m * 256 + x) (n * 256 + y) (omega (arith, e)) p.1 q.1
    ∙ ap (λ o. ordering_then o (slice_cmp nat_cmp xs ys)) (digit-order m n x y p.0 q.0)
    ∙ sym (then-assoc (nat_cmp m n) (nat_cmp x y) (slice_cmp nat_cmp xs ys))

-- The eight octets from a place on.
abbrev eight : List ℕ → ℕ → List ℕ
eight xs at =
    get_or xs at 0 ∷ get_or xs (at + 1) 0 ∷ get_or xs (at + 2) 0 ∷ get_or xs (at + 3) 0 ∷ get_or xs (at + 4) 0
    ∷ get_or xs (at + 5) 0 ∷ get_or xs (at + 6) 0 ∷ get_or xs (at + 7) 0 ∷ []

take_next : (xs : List ℕ) (at next n : ℕ) (later : List ℕ) → next ≡ at + 1 → at < length xs → take n (drop next xs) ≡ later → take (suc n) (drop at xs) ≡ get_or xs at 0 ∷ later
take_next xs at next n later e in_it rest =
    ap (take (suc n)) (drop_more xs at 0 in_it)
    ∙ ap (λ l. get_or xs at 0 ∷ l) (ap (λ (j : ℕ). take n (drop j xs)) (sym e) ∙ rest)

eight-taken : (xs : List ℕ) (at : ℕ) → at + 8 ≤ length xs → take 8 (drop at xs) ≡ eight xs at
eight-taken xs at within =
    take_next xs at (at + 1) 7 _ refl (omega (arith, within)) (take_next xs (at + 1) (at + 2) 6 _ (omega arith) (omega (arith, within))
    (take_next xs (at + 2) (at + 3) 5 _ (omega arith) (omega (arith, within)) (take_next xs (at + 3) (at + 4) 4 _ (omega arith) (omega (arith, within))
    (take_next xs (at + 4) (at + 5) 3 _ (omega arith) (omega (arith, within)) (take_next xs (at + 5) (at + 6) 2 _ (omega arith) (omega (arith, within))
    (take_next xs (at + 6) (at + 7) 1 _ (omega arith) (omega (arith, within)) (take_next xs (at + 7) (at + 8) 0 [] (omega arith) (omega (arith, within)) refl)))))))

eight-worth : (xs : List ℕ) (at : ℕ) → from_be_bytes w64 (eight xs at) ≡ worth 0 (eight xs at)
eight-worth xs at = omega arith

words-order : (xs ys : List ℕ) (at : ℕ) → ((i : ℕ) → get_or xs i 0 < 256) → ((i : ℕ) → get_or ys i 0 < 256)
    → nat_cmp (from_be_bytes w64 (eight xs at)) (from_be_bytes w64 (eight ys at)) ≡ slice_cmp nat_cmp (eight xs at) (eight ys at)
words-order xs ys at few less =
    (λ i. nat_cmp (eight-worth xs at i) (eight-worth ys at i))
    ∙ worth-order (eight xs at) (eight ys at) 0 0 refl
    (few at, (few (at + 1), (few (at + 2), (few (at + 3), (few (at + 4), (few (at + 5), (few (at + 6), (few (at + 7), tt))))))))
    (less at, (less (at + 1), (less (at + 2), (less (at + 3), (less (at + 4), (less (at + 5), (less (at + 6), (less (at + 7), tt))))))))

-- Numbers of eight octets stand as the octets do.
eight_order : (xs ys : List ℕ) (at : ℕ) → at + 8 ≤ length xs → at + 8 ≤ length ys → ((i : ℕ) → get_or xs i 0 < 256) → ((i : ℕ) → get_or ys i 0 < 256)
    → nat_cmp (from_be_bytes w64 (take 8 (drop at xs))) (from_be_bytes w64 (take 8 (drop at ys))) ≡ slice_cmp nat_cmp (take 8 (drop at xs)) (take 8 (drop at ys))
eight_order xs ys at p q few less =
    (λ i. nat_cmp (from_be_bytes w64 (eight-taken xs at p i)) (from_be_bytes w64 (eight-taken ys at q i)))
    ∙ words-order xs ys at few less
    ∙ (λ i. slice_cmp nat_cmp (sym (eight-taken xs at p) i) (sym (eight-taken ys at q) i))

-- So many octets of both are the same.
abbrev pub AreAlike : List ℕ → List ℕ → ℕ → Type 0
AreAlike xs ys n = (i : ℕ) → i < n → get_or xs i 0 ≡ get_or ys i 0

-- What is alike in front decides nothing.
pub past_alike : (n : ℕ) (xs ys : List ℕ) → n ≤ length xs → n ≤ length ys → AreAlike xs ys n → slice_cmp nat_cmp xs ys ≡ slice_cmp nat_cmp (drop n xs) (drop n ys)
past_alike zero xs ys p q same = refl
past_alike (suc n) xs ys p q same =
    past_alike n xs ys (omega (arith, p)) (omega (arith, q)) (λ i before. same i (omega (arith, before)))
    ∙ (λ i. slice_cmp nat_cmp (drop-cons xs n 0 (omega (arith, p)) i) (drop-cons ys n 0 (omega (arith, q)) i))
    ∙ ap (λ o. ordering_then o (slice_cmp nat_cmp (drop (suc n) xs) (drop (suc n) ys))) (sym (nat_cmp_is (get_or xs n 0) (get_or ys n 0) Equal (same n (omega arith))))

front_first : (p q s t : List ℕ) → length p ≡ length q → slice_cmp nat_cmp (p ++ s) (q ++ t) ≡ ordering_then (slice_cmp nat_cmp p q) (slice_cmp nat_cmp s t)
front_first [] [] s t e = refl
front_first [] (y ∷ q) s t e = absurd (omega (arith, e))
front_first (x ∷ p) [] s t e = absurd (omega (arith, e))
front_first (x ∷ p) (y ∷ q) s t e =
    ap (ordering_then (nat_cmp x y)) (front_first p q s t (omega (arith, e))) ∙ then-assoc (nat_cmp x y) (slice_cmp nat_cmp p q) (slice_cmp nat_cmp s t)

settled : (o rest : Ordering) → is_ne o ≡ true → o ≡ ordering_then o rest
settled Less rest ne = refl
settled Equal rest ne = absurd (true≢false (sym ne))
settled Greater rest ne = refl

-- Octets in a list are below 256.
abbrev pub AreSmall : List ℕ → Type 0
AreSmall xs = (i : ℕ) → get_or xs i 0 < 256

-- This is the number of the eight octets from a place on.
abbrev pub IsWord : List ℕ → ℕ → ℕ → Type 0
IsWord xs at n = n ≡ from_be_bytes w64 (take 8 (drop at xs))

not_even : (m n : ℕ) → (m ≡ n → ⊥) → is_ne (nat_cmp m n) ≡ true
not_even m n other = grind (arith, nat_tests, other)

-- Eight octets that aren't the same decide, behind what is alike.
pub eight_decide : (xs ys : List ℕ) (k at m n : ℕ) (o : Ordering) → at ≤ k → at + 8 ≤ length xs → at + 8 ≤ length ys → AreSmall xs → AreSmall ys → AreAlike xs ys k
    → IsWord xs at m → IsWord ys at n → (m ≡ n → ⊥) → o ≡ nat_cmp m n → o ≡ slice_cmp nat_cmp xs ys
eight_decide xs ys k at m n o before p q few less same is is_other other e =
    let s = drop 8 (drop at xs) in
    let t = drop 8 (drop at ys) in
    let long : length (take 8 (drop at xs)) ≡ length (take 8 (drop at ys))
    = omega (arith, p, q, length-take 8 (drop at xs), length-take 8 (drop at ys), length-drop at xs, length-drop at ys) in
    let found : nat_cmp m n ≡ slice_cmp nat_cmp (take 8 (drop at xs)) (take 8 (drop at ys))
    = (λ i. nat_cmp (is i) (is_other i)) ∙ eight_order xs ys at p q few less in
    e
    ∙ settled (nat_cmp m n) (slice_cmp nat_cmp s t) (not_even m n other)
    ∙ ap (λ k. ordering_then k (slice_cmp nat_cmp s t)) found
    ∙ sym (front_first (take 8 (drop at xs)) (take 8 (drop at ys)) s t long)
    ∙ (λ i. slice_cmp nat_cmp (take-append-drop 8 (drop at xs) i) (take-append-drop 8 (drop at ys) i))
    ∙ sym (past_alike at xs ys (omega (arith, p)) (omega (arith, q)) (λ i lt. same i (omega (arith, lt, before))))

at_eight : (xs : List ℕ) (at i : ℕ) → at ≤ i → i < at + 8 → get_or (take 8 (drop at xs)) (i - at) 0 ≡ get_or xs i 0
at_eight xs at i from within =
    get_or-take 8 (drop at xs) (i - at) 0 (omega (arith, from, within)) ∙ get_or-drop at xs (i - at) 0
    ∙ ap (λ (j : ℕ). get_or xs j 0) (omega (arith, from))

-- Eight octets that are the same are alike, as those before.
pub eight_alike : (xs ys : List ℕ) (k at m n : ℕ) → at ≤ k → at + 8 ≤ length xs → at + 8 ≤ length ys → AreSmall xs → AreSmall ys → AreAlike xs ys k
    → IsWord xs at m → IsWord ys at n → m ≡ n → AreAlike xs ys (at + 8)
eight_alike xs ys k at m n before p q few less same is is_other equal i within = elim (cases_lt i k) [
  | inl old ↦ same i old
  | inr new ↦
      let even : slice_cmp nat_cmp (take 8 (drop at xs)) (take 8 (drop at ys)) ≡ Equal
      = sym (eight_order xs ys at p q few less) ∙ sym (λ i. nat_cmp (is i) (is_other i)) ∙ sym (nat_cmp_is m n Equal equal) in
      let one = exact_bytes (take 8 (drop at xs)) (take 8 (drop at ys)) even in
      sym (at_eight xs at i (omega (arith, before, new)) within) ∙ ap (λ l. get_or l (i - at) 0) one ∙ at_eight ys at i (omega (arith, before, new)) within
]

shorter : (s t : List ℕ) (n : ℕ) → n ≡ length s → n ≡ 0 → nat_cmp (length s) (length t) ≡ slice_cmp nat_cmp s t
shorter [] [] n e z = refl
shorter [] (y ∷ t) n e z = sym (nat_cmp_is 0 (length (y ∷ t)) Less (omega arith))
shorter (x ∷ s) t n e z = absurd (omega (arith, e, z))

longer : (s t : List ℕ) (n : ℕ) → n ≡ length t → n ≡ 0 → nat_cmp (length s) (length t) ≡ slice_cmp nat_cmp s t
longer [] [] n e z = refl
longer (x ∷ s) [] n e z = sym (nat_cmp_is (length (x ∷ s)) 0 Greater (omega arith))
longer s (y ∷ t) n e z = absurd (omega (arith, e, z))

less-cmp : (a b n : ℕ) → n ≤ a → n ≤ b → nat_cmp a b ≡ nat_cmp (a - n) (b - n)
less-cmp a b n p q = grind (arith, nat_tests, p, q)

-- Where all is alike that both have, the lengths decide.
pub lengths_decide : (xs ys : List ℕ) (n : ℕ) → n ≤ length xs → n ≤ length ys → AreAlike xs ys n → (length xs ≤ n) ⊎ (length ys ≤ n)
    → nat_cmp (length xs) (length ys) ≡ slice_cmp nat_cmp xs ys
lengths_decide xs ys n p q same ends =
    less-cmp (length xs) (length ys) n p q
    ∙ sym (λ i. nat_cmp (length-drop n xs i) (length-drop n ys i))
    ∙ elim ends [
      | inl e ↦ shorter (drop n xs) (drop n ys) (length xs - n) (sym (length-drop n xs)) (omega (arith, e))
      | inr e ↦ longer (drop n xs) (drop n ys) (length ys - n) (sym (length-drop n ys)) (omega (arith, e))
    ]
    ∙ sym (past_alike n xs ys p q same)
