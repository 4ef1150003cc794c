-- Words that stand for one value each.
use Rattle.std.proofs.Common.{◌≡◌, ◌∙◌, ◌++◌, ◌+◌, ◌<◌, ℕ, zero, suc, List, [], ◌∷◌, length, map, take, drop, get_or, refl, sym, ap, subst, arith, ◌⊎◌, inl, inr}
use Rattle.std.specs.Borrow.{Bor}
use Rattle.std.proofs.lemmas.List.{take_more, map-append}
use Rattle.dnw_lexer.specs.dnw_codes.declared.error.ParseError.{ParseError}
use Rattle.drd_words.specs.Refusals.{RefusesEach}
use Rattle.drd_words.specs.Words.{EachWord}

split-at : {B : Type 0} (xs : List B) (i : ℕ) (d : B) → i < length xs → xs ≡ take i xs ++ get_or xs i d ∷ drop (suc i) xs
split-at [] i d h = absurd (omega arith)
split-at (x ∷ xs) zero d h = refl
split-at (x ∷ xs) (suc i) d h = ap (λ t. x ∷ t) (split-at xs i d (omega arith))

module _ {A : Type 0} (One : A → List ℕ → Type 0) where
  -- One word more.
  pub each-more : (xs : List A) (front : List (List ℕ)) (x : A) (word : List ℕ) → EachWord One xs front → One x word → EachWord One (xs ++ x ∷ []) (front ++ word ∷ [])
  each-more [] [] x word h one = (one, tt)
  each-more [] (w ∷ ws) x word h one = absurd h
  each-more (y ∷ ys) [] x word h one = absurd h
  each-more (y ∷ ys) (w ∷ ws) x word h one = (h.0, each-more ys ws x word h.1 one)

  -- The word behind some others stands for one value too.
  pub each-one : (xs : List A) (front : List (List ℕ)) (word : List ℕ) (later : List (List ℕ)) → EachWord One xs (front ++ word ∷ later) → (x : A) × One x word
  each-one [] [] word later h = absurd h
  each-one [] (w ∷ ws) word later h = absurd h
  each-one (x ∷ xs) [] word later h = (x, h.0)
  each-one (x ∷ xs) (w ∷ ws) word later h = each-one xs ws word later h.1

  -- A turn of the loop over the words, and one that refuses its word.
  pub each-step : (xs longer : List A) (words : List (Bor (List ℕ))) (i : ℕ) (d : Bor (List ℕ)) (x : A) → i < length words → EachWord One xs (map (λ w. w.now) (take i words)) → One x (get_or words i d).now → longer ≡ xs ++ x ∷ [] → EachWord One longer (map (λ w. w.now) (take (i + 1) words))
  each-step xs longer words i d x small h one e =
      let now : Bor (List ℕ) → List ℕ = λ w. w.now in
      let more : map now (take (i + 1) words) ≡ map now (take i words) ++ now (get_or words i d) ∷ [] = ap (map now) (take_more words i d small) ∙ map-append now (take i words) (get_or words i d ∷ []) in
      subst (λ (l : List A). EachWord One l (map now (take (i + 1) words))) (sym e)
      (subst (λ (ws : List (List ℕ)). EachWord One (xs ++ x ∷ []) ws) (sym more) (each-more xs (map now (take i words)) x (now (get_or words i d)) h one))

  -- The words, with the one at an index between those before it and those behind it.
  parts-at : (words : List (Bor (List ℕ))) (i : ℕ) (d : Bor (List ℕ)) → i < length words → map (λ w. w.now) words ≡ map (λ w. w.now) (take i words) ++ (get_or words i d).now ∷ map (λ w. w.now) (drop (suc i) words)
  parts-at words i d small =
      let now : Bor (List ℕ) → List ℕ = λ w. w.now in
      ap (map now) (split-at words i d small) ∙ map-append now (take i words) (get_or words i d ∷ drop (suc i) words)

  pub each-refused : {M V : Type 0} (items : V → List A) (words : List (Bor (List ℕ))) (i : ℕ) (d : Bor (List ℕ)) → i < length words → M ⊎ ((x : A) → One x (get_or words i d).now → ⊥) → M ⊎ ((v : V) → EachWord One (items v) (map (λ w. w.now) words) → ⊥)
  each-refused items words i d small (inl m) = inl m
  each-refused items words i d small (inr h) = inr (λ v all.
      let found = each-one (items v) (map (λ w. w.now) (take i words)) (get_or words i d).now (map (λ w. w.now) (drop (suc i) words)) (subst (λ (ws : List (List ℕ)). EachWord One (items v) ws) (parts-at words i d small) all) in
      h found.0 found.1)

  -- The word that is refused stands behind words for one value each.
  cause-behind : (RefusesOne : List ℕ → ParseError → Type 0) (e : ParseError) (xs : List A) (front : List (List ℕ)) (word : List ℕ) (later : List (List ℕ)) → EachWord One xs front → RefusesOne word e → RefusesEach One RefusesOne (front ++ word ∷ later) e
  cause-behind RefusesOne e [] [] word later h r = inl r
  cause-behind RefusesOne e [] (w ∷ ws) word later h r = absurd h
  cause-behind RefusesOne e (x ∷ xs) [] word later h r = absurd h
  cause-behind RefusesOne e (x ∷ xs) (w ∷ ws) word later h r = inr (x, h.0, cause-behind RefusesOne e xs ws word later h.1 r)

  pub each-cause : {M : Type 0} (RefusesOne : List ℕ → ParseError → Type 0) (e : ParseError) (xs : List A) (words : List (Bor (List ℕ))) (i : ℕ) (d : Bor (List ℕ)) → i < length words → EachWord One xs (map (λ w. w.now) (take i words)) → M ⊎ RefusesOne (get_or words i d).now e → M ⊎ RefusesEach One RefusesOne (map (λ w. w.now) words) e
  each-cause RefusesOne e xs words i d small h (inl m) = inl m
  each-cause RefusesOne e xs words i d small h (inr r) =
      inr (subst (λ (ws : List (List ℕ)). RefusesEach One RefusesOne ws e) (sym (parts-at words i d small))
      (cause-behind RefusesOne e xs (map (λ w. w.now) (take i words)) (get_or words i d).now (map (λ w. w.now) (drop (suc i) words)) h r))
