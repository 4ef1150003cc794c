-- What was read of a list, and what is left of its text.
use Rattle.std.proofs.Common.{◌≡◌, ◌≢◌, ◌∙◌, ℕ, ◌++◌, false, List, [], ◌∷◌, map, refl, sym, ap, subst, ◌⊎◌, inl, inr}
use Rattle.std.specs.Prelude.{Ok, Err}
use Rattle.std.specs.Str.{encode_utf8_all}
use Rattle.std.proofs.lemmas.List.{append_assoc, append-nil, map-append}
use Rattle.dnw_codes.specs.declared.error.LexerError.{LexerError}
use Rattle.dnw_lexer.specs.Lexer.{Words, words_before, after_gap, ListWord, ListText, closes, word, refused}

before-nothing : (r : Words) → words_before [] r ≡ r
before-nothing (Ok found) = refl
before-nothing (Err e) = refl

before-before : (v w : List (List ℕ)) (r : Words) → words_before v (words_before w r) ≡ words_before (v ++ w) r
before-before v w (Ok found) = ap (λ (x : List (List ℕ)). Ok (x, found.1)) (sym (append_assoc v w found.0))
before-before v w (Err e) = refl

-- The octets of the words so far, and what stands for the text from here on stands for the whole behind them.
pub record ListSoFar (text : List ℕ) (octets : List (List ℕ)) (rest : List ℕ) : Type 0 where
  pub words : List (List ℕ)
  pub is : octets ≡ map encode_utf8_all words
  pub sound : (r : Words) → ListText rest r → ListText text (words_before words r)

module _ (text : List ℕ) where
  pub list-start : ListSoFar text [] text
  list-start = record { words = []; is = refl; sound = λ r p. subst (ListText text) (sym (before-nothing r)) p }

  pub list-more : (octets : List (List ℕ)) (rest o w behind : List ℕ) (longer : List (List ℕ)) (c : ℕ) (later : List ℕ) → ListSoFar text octets rest → longer ≡ octets ++ o ∷ [] → o ≡ encode_utf8_all w → after_gap false rest ≡ c ∷ later → c ≢ 41 → ListWord c later (Ok (w, behind)) → ListSoFar text longer behind
  list-more octets rest o w behind longer c later h e is at other found =
      record {
        words = h.words ++ w ∷ [];
        is = e ∙ ap (λ os. os ++ o ∷ []) h.is ∙ ap (λ x. map encode_utf8_all h.words ++ x ∷ []) is ∙ sym (map-append encode_utf8_all h.words (w ∷ []));
        sound = λ r p. subst (ListText text) (before-before h.words (w ∷ []) r) (h.sound (words_before (w ∷ []) r) (word rest c later w behind r at other found p));
      }

  pub list-done : (octets : List (List ℕ)) (rest behind : List ℕ) (c : ℕ) → ListSoFar text octets rest → after_gap false rest ≡ c ∷ behind → c ≡ 41 → (ws : List (List ℕ)) × (octets ≡ map encode_utf8_all ws) × ListText text (Ok (ws, behind))
  list-done octets rest behind c h at e =
      (h.words, h.is, subst (λ (ws : List (List ℕ)). ListText text (Ok (ws, behind))) (append-nil h.words) (h.sound (Ok ([], behind)) (closes rest c behind at e)))

  pub list-failed : (octets : List (List ℕ)) (rest : List ℕ) (e : LexerError) → ListSoFar text octets rest → ListText rest (Err e) → ListText text (Err e)
  list-failed octets rest e h p = h.sound (Err e) p

  pub list-refused : {M : Type 0} (octets : List (List ℕ)) (rest : List ℕ) (c : ℕ) (later : List ℕ) (e : LexerError) → ListSoFar text octets rest → after_gap false rest ≡ c ∷ later → c ≢ 41 → M ⊎ ListWord c later (Err e) → M ⊎ ListText text (Err e)
  list-refused octets rest c later e h at other (inl m) = inl m
  list-refused octets rest c later e h at other (inr found) = inr (list-failed octets rest e h (refused rest c later e at other found))
