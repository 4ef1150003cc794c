-- The words of record data, one behind the other (RFC 1035 5.1).
use Rattle.std.specs.Prelude.{ℕ, List, [], ◌∷◌, ◌++◌}
use Rattle.std.specs.List.{concat}

-- No word is left.
abbrev pub NoWords : List (List ℕ) → Type 0
NoWords [] = Unit {0}
NoWords (word ∷ words) = ⊥

-- One word, and then the rest.
abbrev pub OneThen : (List ℕ → Type 0) → (List (List ℕ) → Type 0) → List (List ℕ) → Type 0
OneThen One Rest [] = ⊥
OneThen One Rest (word ∷ words) = One word × Rest words

-- As many words as values, each for one of them.
abbrev pub EachWord : {A : Type 0} → (A → List ℕ → Type 0) → List A → List (List ℕ) → Type 0
EachWord One [] [] = Unit {0}
EachWord One [] (word ∷ words) = ⊥
EachWord One (x ∷ xs) [] = ⊥
EachWord One (x ∷ xs) (word ∷ words) = One x word × EachWord One xs words

-- All words that are left, at least one, joined without anything between them.
abbrev pub Joined : (List ℕ → Type 0) → List (List ℕ) → Type 0
Joined Whole [] = ⊥
Joined Whole (word ∷ words) = Whole (word ++ concat words)
