-- The words that the iterator of a list gives are those of the list.
use Rattle.std.specs.Prelude.{Result, Ok, Err, IfOk, IfErr, MatchResult}
use Rattle.std.specs.String.{string_bytes}
use Rattle.std.specs.Borrow.{Bor}
use Rattle.std.proofs.Common.{◌≡◌, ℕ, ◌⊎◌, inl, inr, subst, String, Global, List, [], ◌∷◌, ◌++◌, length, map, refl, sym, ap, ◌∙◌}
use Rattle.std.specs.Iterator.{Yields, Drains}
use Rattle.std.specs.Slice.Iter.{iter_rest, iter_steps}
use Rattle.std.specs.declared.slice.Iter.{Iter}

given : {A B : Type 0} (v : A → B) (xs : List (Bor A)) (s t : Iter A) → Yields iter_steps s xs t → map v (iter_rest s) ≡ map (λ x. v x.now) xs ++ map v (iter_rest t)
given v [] s t same = ap (λ (i : Iter _). map v (iter_rest i)) same
given {A = A} {B = B} v (x ∷ xs) s t steps =
    ap (map v) steps.1 ∙ ap (λ (ys : List B). v x.now ∷ ys) (given v xs steps.0 t steps.2)

nothing : {A B : Type 0} (v : A → B) (xs : List A) → length xs ≡ 0 → map v xs ≡ []
nothing v [] e = refl
nothing v (x ∷ xs) e = absurd (cc e)

append_none : {A : Type 0} (xs ys : List A) → ys ≡ [] → xs ++ ys ≡ xs
append_none [] ys none = none
append_none {A = A} (x ∷ xs) ys none = ap (λ (zs : List A). x ∷ zs) (append_none xs ys none)

pub drained : {A B : Type 0} (v : A → B) (s : Iter A) (xs : List (Bor A)) → Drains iter_steps s xs → map (λ x. v x.now) xs ≡ map v (iter_rest s)
drained v s xs d =
    sym (append_none (map (λ x. v x.now) xs) (map v (iter_rest d.1.0)) (nothing v (iter_rest d.1.0) d.1.2.0)) ∙ sym (given v xs s d.1.0 d.1.1)

-- A value of the words that the iterator gives is one of the list's.
pub ok_of : {X E : Type 0} (IsText : List (List ℕ) → Type 0) (Writes : List (List ℕ) → X → Type 0) (s : Iter (String Global)) (words : List (List ℕ)) (r : Result X E) → map string_bytes (iter_rest s) ≡ words → IsText words → IfOk r (λ value. (xs : List (Bor (String Global))) × Drains iter_steps s xs × Writes (map (λ x. string_bytes x.now) xs) value) → IfOk r (λ value. (ws : List (List ℕ)) × IsText ws × Writes ws value)
ok_of IsText Writes s words (Ok value) same there h =
    (words, there, subst (λ (ws : List (List ℕ)). Writes ws value) (drained string_bytes s h.0 h.1 ∙ same) h.2)
ok_of IsText Writes s words (Err e) same there h = h

-- Where they write no value, those of the list don't.
pub refused_of : {X E : Type 0} (IsText : List (List ℕ) → Type 0) (Writes : List (List ℕ) → X → Type 0) (IsMemory Unread Unsupported : E → Type 0) (s : Iter (String Global)) (words : List (List ℕ)) (r : Result X E) → map string_bytes (iter_rest s) ≡ words → IsText words → IfErr r (λ e. IsMemory e ⊎ ((xs : List (Bor (String Global))) × Drains iter_steps s xs × ((value : X) → Writes (map (λ x. string_bytes x.now) xs) value → ⊥)) ⊎ (Unsupported e × ((ws : List (List ℕ)) (value : X) → Writes ws value → ⊥))) → IfErr r (λ e. IsMemory e ⊎ Unread e ⊎ ((ws : List (List ℕ)) × IsText ws × ((value : X) → Writes ws value → ⊥)))
refused_of IsText Writes IsMemory Unread Unsupported s words (Ok value) same there h = h
refused_of IsText Writes IsMemory Unread Unsupported s words (Err e) same there (inl memory) = inl memory
refused_of IsText Writes IsMemory Unread Unsupported s words (Err e) same there (inr (inl none)) =
    inr (inr (words, there, λ value writes. none.2 value (subst (λ (ws : List (List ℕ)). Writes ws value) (sym (drained string_bytes s none.0 none.1 ∙ same)) writes)))
refused_of IsText Writes IsMemory Unread Unsupported s words (Err e) same there (inr (inr never)) = inr (inr (words, there, never.1 words))

-- The same where the words are known.
pub only_of : {X E : Type 0} (Writes : List (List ℕ) → X → Type 0) (IsMemory Unsupported : E → Type 0) (s : Iter (String Global)) (words : List (List ℕ)) (r : Result X E) → map string_bytes (iter_rest s) ≡ words → IfOk r (λ value. (xs : List (Bor (String Global))) × Drains iter_steps s xs × Writes (map (λ x. string_bytes x.now) xs) value) → IfErr r (λ e. IsMemory e ⊎ ((xs : List (Bor (String Global))) × Drains iter_steps s xs × ((value : X) → Writes (map (λ x. string_bytes x.now) xs) value → ⊥)) ⊎ (Unsupported e × ((ws : List (List ℕ)) (value : X) → Writes ws value → ⊥))) → MatchResult r (λ value. Writes words value) (λ e. IsMemory e ⊎ ((value : X) → Writes words value → ⊥))
only_of Writes IsMemory Unsupported s words (Ok value) same ok err =
    subst (λ (ws : List (List ℕ)). Writes ws value) (drained string_bytes s ok.0 ok.1 ∙ same) ok.2
only_of Writes IsMemory Unsupported s words (Err e) same ok (inl memory) = inl memory
only_of Writes IsMemory Unsupported s words (Err e) same ok (inr (inl none)) =
    inr (λ value writes. none.2 value (subst (λ (ws : List (List ℕ)). Writes ws value) (sym (drained string_bytes s none.0 none.1 ∙ same)) writes))
only_of Writes IsMemory Unsupported s words (Err e) same ok (inr (inr never)) = inr (never.1 words)

-- Where they are refused, those of the list are.
pub fault_of : {X E : Type 0} (IsText : List (List ℕ) → Type 0) (Refuses : List (List ℕ) → E → Type 0) (IsMemory Unread : E → Type 0) (s : Iter (String Global)) (words : List (List ℕ)) (r : Result X E) → map string_bytes (iter_rest s) ≡ words → IsText words → IfErr r (λ e. IsMemory e ⊎ ((xs : List (Bor (String Global))) × Drains iter_steps s xs × Refuses (map (λ x. string_bytes x.now) xs) e)) → IfErr r (λ e. IsMemory e ⊎ Unread e ⊎ ((ws : List (List ℕ)) × IsText ws × Refuses ws e))
fault_of IsText Refuses IsMemory Unread s words (Ok value) same there h = h
fault_of IsText Refuses IsMemory Unread s words (Err e) same there (inl memory) = inl memory
fault_of IsText Refuses IsMemory Unread s words (Err e) same there (inr refused) =
    inr (inr (words, there, subst (λ (ws : List (List ℕ)). Refuses ws e) (drained string_bytes s refused.0 refused.1 ∙ same) refused.2))
