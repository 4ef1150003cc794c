-- Words that are joined.
use Rattle.std.proofs.Common.{◌≡◌, ◌∙◌, ◌==◌, ◌++◌, ℕ, List, [], ◌∷◌, map, length, false, refl, sym, ap, subst, ◌⊎◌, inl, inr}
use Rattle.std.specs.Borrow.{Bor}
use Rattle.std.specs.List.{concat, flat_map}
use Rattle.dnw_lexer.specs.dnw_codes.declared.error.ParseError.{ParseError}
use Rattle.dnw_lexer.specs.dnw_codes.declared.error.ParseError.TheVariants.{DataEncoding}
use Rattle.drd_words.specs.Refusals.{RefusesJoined}
use Rattle.drd_words.specs.Words.{Joined}

joins : (ws : List (Bor (List ℕ))) → flat_map (λ w. w.now) ws ≡ concat (map (λ w. w.now) ws)
joins [] = refl
joins (w ∷ ws) = ap (λ (t : List ℕ). w.now ++ t) (joins ws)

-- What holds of the joined words, where there is one.
pub joined-whole : (Whole : List ℕ → Type 0) (ws : List (Bor (List ℕ))) (text : List ℕ) → false ≡ (length ws == 0) → text ≡ flat_map (λ w. w.now) ws → Whole text → Joined Whole (map (λ w. w.now) ws)
joined-whole Whole [] text some e h = absurd (cc)
joined-whole Whole (w ∷ ws) text some e h = subst Whole (e ∙ joins (w ∷ ws)) h

pub whole-joined : (Whole : List ℕ → Type 0) (ws : List (Bor (List ℕ))) (text : List ℕ) → text ≡ flat_map (λ w. w.now) ws → Joined Whole (map (λ w. w.now) ws) → Whole text
whole-joined Whole [] text e h = absurd h
whole-joined Whole (w ∷ ws) text e h = subst Whole (sym (e ∙ joins (w ∷ ws))) h

pub joined-refused : {M V : Type 0} (Whole : V → List ℕ → Type 0) (ws : List (Bor (List ℕ))) (text : List ℕ) → text ≡ flat_map (λ w. w.now) ws → M ⊎ ((v : V) → Whole v text → ⊥) → M ⊎ ((v : V) → Joined (Whole v) (map (λ w. w.now) ws) → ⊥)
joined-refused Whole ws text e (inl m) = inl m
joined-refused Whole ws text e (inr h) = inr (λ v j. h v (whole-joined (Whole v) ws text e j))

pub joined-cause : {M : Type 0} (what : List ℕ) (Whole : List ℕ → List ℕ → Type 0) (ws : List (Bor (List ℕ))) (text : List ℕ) (e : ParseError) → false ≡ (length ws == 0) → text ≡ flat_map (λ w. w.now) ws → M ⊎ ((e ≡ DataEncoding) × ((octets : List ℕ) → Whole octets text → ⊥)) → M ⊎ RefusesJoined what Whole (map (λ w. w.now) ws) e
joined-cause what Whole ws text e some same (inl m) = inl m
joined-cause what Whole [] text e some same (inr h) = absurd (cc)
joined-cause what Whole (w ∷ ws) text e some same (inr h) = inr (h.0, λ octets j. h.1 octets (whole-joined (Whole octets) (w ∷ ws) text same j))
