-- Sorted numbers without repetition.
use Rattle.std.proofs.Common.{◌≡◌, ℕ, suc, ◌+◌, ◌<◌, ◌≤◌, ◌==◌, ◌||◌, Bool, true, false, List, [], ◌∷◌, length, get_or, map, cond, eqb, refl, sym, ap, subst, ◌∙◌, arith}
use Rattle.std.specs.List.{list_any, dedup, dedup_from}
use Rattle.std.specs.List.Sorted.{IsStrictlyIncreasing}
use Rattle.std.proofs.lemmas.Bool.{eqb-true}
use Rattle.dnw_codes.specs.RecordType.{record_type_number}
use Rattle.dnw_codes.specs.declared.record_type.RecordType.{RecordType}
use Rattle.dnw_wire.specs.BitMaps.{Rises}

pub rises_increasing : (low : ℕ) (xs : List ℕ) → IsStrictlyIncreasing xs → ((i : ℕ) → get_or xs i 0 < 65536) → (0 < length xs → low ≤ get_or xs 0 0) → low ≤ 65536 → Rises low xs 65536
rises_increasing low [] inc fits over le = le
rises_increasing low (x ∷ xs) inc fits over le =
    let small : x < 65536 = fits 0 in (
      over (omega arith),
      rises_increasing (x + 1) xs
          (λ k lt.
          let e : suc k + 1 ≡ suc (k + 1) = omega arith in
          subst (λ (n : ℕ). get_or xs k 0 < get_or (x ∷ xs) n 0) e (inc (suc k) (omega (arith, lt))))
          (λ i. fits (suc i))
          (λ some. omega (arith, inc 0 (omega (arith, some))))
          (omega arith),
    )

twice : (b c : Bool) → (b || c) ≡ (b || (b || c))
twice true c = refl
twice false c = refl

same_or : (p : ℕ → Bool) (k x : ℕ) (xs : List ℕ) (b : Bool) → eqb x k ≡ b → list_any p (dedup_from eqb k xs) ≡ (p k || list_any p xs) → list_any p (dedup_from eqb x xs) ≡ (p x || list_any p xs) → list_any p (cond b (dedup_from eqb k xs) (k ∷ dedup_from eqb x xs)) ≡ (p k || (p x || list_any p xs))
same_or p k x xs true e here there =
    let same : x ≡ k = eqb-true x k e in
    here ∙ twice (p k) (list_any p xs) ∙ ap (λ (n : ℕ). p k || (p n || list_any p xs)) (sym same)
same_or p k x xs false e here there = ap (λ (v : Bool). p k || v) there

any_from : (p : ℕ → Bool) (k : ℕ) (xs : List ℕ) → list_any p (dedup_from eqb k xs) ≡ (p k || list_any p xs)
any_from p k [] = refl
any_from p k (x ∷ xs) = same_or p k x xs (eqb x k) refl (any_from p k xs) (any_from p x xs)

pub any_dedup : (p : ℕ → Bool) (xs : List ℕ) → list_any p (dedup eqb xs) ≡ list_any p xs
any_dedup p [] = refl
any_dedup p (x ∷ xs) = any_from p x xs

pub any_map : (code : ℕ) (types : List RecordType) → list_any (λ c. c == code) (map record_type_number types) ≡ list_any (λ t. record_type_number t == code) types
any_map code [] = refl
any_map code (t ∷ ts) = ap (λ (v : Bool). (record_type_number t == code) || v) (any_map code ts)
