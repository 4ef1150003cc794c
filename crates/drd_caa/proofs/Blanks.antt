-- Blanks around octets.
use Rattle.std.proofs.Common.{◌≡◌, ◌∙◌, ◌&&◌, ℕ, Bool, true, false, not, List, [], ◌∷◌, reverse, refl, ap, sym}
use Rattle.std.specs.List.{list_all}
use Rattle.std.specs.Prelude.{cond}
use Rattle.std.proofs.lemmas.Bool.{and_parts, and_from, not-true}
use Rattle.std.proofs.lemmas.List.{reverse-append, reverse-reverse}
use Rattle.std.proofs.lemmas.List.Folds.{list_all-append}
use Rattle.drd_words.specs.dnw_codes.Ascii.{is_blank}
use Rattle.drd_caa.specs.Issue.{behind_blanks, trim}

pub blanks-more : (c : ℕ) (cs : List ℕ) → is_blank c ≡ true → behind_blanks (c ∷ cs) ≡ behind_blanks cs
blanks-more c cs h = ap (λ b. cond b (behind_blanks cs) (c ∷ cs)) h

pub blanks-end : (c : ℕ) (cs : List ℕ) → is_blank c ≡ false → behind_blanks (c ∷ cs) ≡ c ∷ cs
blanks-end c cs h = ap (λ b. cond b (behind_blanks cs) (c ∷ cs)) h

and_swap : (b c : Bool) → (b && c) ≡ (c && b)
and_swap true true = refl
and_swap true false = refl
and_swap false true = refl
and_swap false false = refl

and_one : (b : Bool) → (b && true) ≡ b
and_one true = refl
and_one false = refl

module _ (q : ℕ → Bool) where
  all_reverse : (xs : List ℕ) → list_all q (reverse xs) ≡ list_all q xs
  all_reverse [] = refl
  all_reverse (x ∷ xs) =
      ap (list_all q) (reverse-append (x ∷ []) xs) ∙ list_all-append q (reverse xs) (x ∷ []) ∙ and_swap (list_all q (reverse xs)) (list_all q (x ∷ []))
      ∙ ap (λ b. b && list_all q (reverse xs)) (and_one (q x)) ∙ ap (λ b. q x && b) (all_reverse xs)

  module _ (blank : (c : ℕ) → is_blank c ≡ true → q c ≡ true) where
    behind_step : (x : ℕ) (xs : List ℕ) (b : Bool) → is_blank x ≡ b → (list_all q (behind_blanks xs) ≡ true → list_all q xs ≡ true) → list_all q (behind_blanks (x ∷ xs)) ≡ true → list_all q (x ∷ xs) ≡ true
    behind_step x xs true e later h = and_from (q x) (list_all q xs) (blank x e) (later (ap (list_all q) (sym (blanks-more x xs e)) ∙ h))
    behind_step x xs false e later h = ap (list_all q) (sym (blanks-end x xs e)) ∙ h

    all_behind : (xs : List ℕ) → list_all q (behind_blanks xs) ≡ true → list_all q xs ≡ true
    all_behind [] h = refl
    all_behind (x ∷ xs) h = behind_step x xs (is_blank x) refl (all_behind xs) h

    -- What passes without the blanks passes with them.
    pub all_trimmed : (xs : List ℕ) → list_all q (trim xs) ≡ true → list_all q xs ≡ true
    unfolding trim
    all_trimmed xs h =
        all_behind xs (sym (all_reverse (behind_blanks xs)) ∙ all_behind (reverse (behind_blanks xs)) (sym (all_reverse (behind_blanks (reverse (behind_blanks xs)))) ∙ h))

no_blanks : (xs : List ℕ) → list_all (λ c. not (is_blank c)) xs ≡ true → behind_blanks xs ≡ xs
no_blanks [] h = refl
no_blanks (x ∷ xs) h = blanks-end x xs (not-true (is_blank x) (and_parts (not (is_blank x)) (list_all (λ c. not (is_blank c)) xs) h).0)

-- Octets that are no blanks stay.
pub trimmed-same : (xs : List ℕ) → list_all (λ c. not (is_blank c)) xs ≡ true → trim xs ≡ xs
unfolding trim
trimmed-same xs h =
    ap (λ s. reverse (behind_blanks (reverse s))) (no_blanks xs h)
    ∙ ap reverse (no_blanks (reverse xs) (all_reverse (λ c. not (is_blank c)) xs ∙ h)) ∙ reverse-reverse xs

pub trimmed-space : (xs : List ℕ) → trim (32 ∷ xs) ≡ trim xs
unfolding trim
trimmed-space xs = refl
