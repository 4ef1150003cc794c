-- Texts without an octet.
use Rattle.std.proofs.Common.{ℕ, ◌≡◌, Bool, true, false, List, [], ◌∷◌, length, arith, refl}
use Rattle.std.specs.List.{list_any, position_or_len}

-- Where the first octet that passes is behind all, none does.
pub none-passes : (p : ℕ → Bool) (xs : List ℕ) → position_or_len p xs ≡ length xs → list_any p xs ≡ false
none-passes p [] e = refl
none-passes p (x ∷ xs) e = by_first (p x) refl (none-passes p xs)
  where
    by_first : (b : Bool) → p x ≡ b → (position_or_len p xs ≡ length xs → list_any p xs ≡ false) → list_any p (x ∷ xs) ≡ false
    by_first true h rest = absurd (omega (arith, rw h at e))
    by_first false h rest = rw h (rest (let more = rw h at e in omega (arith, more)))
