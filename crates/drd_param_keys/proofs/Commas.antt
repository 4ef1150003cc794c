-- Texts between commas.
use Rattle.std.proofs.Common.{◌≡◌, ◌≢◌, ◌<◌, ◌++◌, ℕ, suc, false, List, [], ◌∷◌, length, get_or, append_assoc, append-nil, refl, ap, sym, subst, ◌∙◌, arith, ◌⊎◌, inl, inr}
use Rattle.std.specs.Borrow.{Bor}
use Rattle.std.specs.List.{slice_split, onto_first}
use Rattle.std.specs.Prelude.{Option, Some, None, MatchOption}
use Rattle.std.proofs.lemmas.Bool.Decides.{nat_tests}
use Rattle.std.proofs.lemmas.List.Splits.{slice_split-cons_yes, slice_split-cons_no}
use Rattle.drd_words.proofs.EachWord.{each-more}
use Rattle.drd_words.specs.dnw_codes.declared.error.ParseError.{ParseError}
use Rattle.drd_words.specs.Refusals.{RefusesEach}
use Rattle.drd_words.specs.Words.{EachWord}
use Rattle.drd_param_keys.specs.ListTexts.{is_comma, IsListText, RefusesList}

abbrev parts_of : List ℕ → List (List ℕ)
parts_of text = slice_split is_comma text

no-comma : (c : ℕ) → c ≢ 44 → is_comma c ≡ false
no-comma c other = grind (arith, nat_tests)

pub one-part : (text : List ℕ) → ((i : ℕ) → i < length text → get_or text i 0 ≢ 44) → parts_of text ≡ text ∷ []
one-part [] none = refl
one-part (c ∷ cs) none =
    slice_split-cons_no is_comma c cs (no-comma c (none 0 (omega arith))) ∙ ap (onto_first c) (one-part cs (λ i small. none (suc i) (omega (arith, small))))

pub more-parts : (front behind : List ℕ) → ((i : ℕ) → i < length front → get_or front i 0 ≢ 44) → parts_of (front ++ 44 ∷ behind) ≡ front ∷ parts_of behind
more-parts [] behind none = slice_split-cons_yes is_comma 44 behind refl
more-parts (c ∷ cs) behind none =
    slice_split-cons_no is_comma c (cs ++ 44 ∷ behind) (no-comma c (none 0 (omega arith)))
    ∙ ap (onto_first c) (more-parts cs behind (λ i small. none (suc i) (omega (arith, small))))

-- The parts of what is left, if anything is.
abbrev pub parts_left : Option (Bor (List ℕ)) → List (List ℕ)
parts_left None = []
parts_left (Some text) = parts_of text.now

pub first-part : (text front : List ℕ) (behind : Option (Bor (List ℕ))) → MatchOption behind (parts_of text ≡ front ∷ []) (λ later. parts_of text ≡ front ∷ parts_of later.now) → parts_of text ≡ front ∷ parts_left behind
first-part text front None e = e
first-part text front (Some later) e = e

module _ {A : Type 0} (One : A → List ℕ → Type 0) where
  -- These entries stand for the first parts of a text, and this is left of it.
  pub record Ahead (text : List ℕ) (found : List A) (left : Option (Bor (List ℕ))) : Type 0 where
    pub front : List (List ℕ)
    pub parts : parts_of text ≡ front ++ parts_left left
    pub each : EachWord One found front

  pub ahead-start : (text : Bor (List ℕ)) → Ahead text.now [] (Some text)
  ahead-start text = record { front = []; parts = refl; each = tt }

  pub ahead-more : (text : List ℕ) (found longer : List A) (left : Bor (List ℕ)) (part : List ℕ) (behind : Option (Bor (List ℕ))) (x : A) → Ahead text found (Some left) → parts_of left.now ≡ part ∷ parts_left behind → One x part → longer ≡ found ++ x ∷ [] → Ahead text longer behind
  ahead-more text found longer left part behind x ahead cut one pushed =
      subst (λ (xs : List A). Ahead text xs behind) (sym pushed) (record {
        front = ahead.front ++ part ∷ [];
        parts = ahead.parts ∙ ap (λ (ps : List (List ℕ)). ahead.front ++ ps) cut ∙ sym (append_assoc ahead.front (part ∷ []) (parts_left behind));
        each = each-more One found ahead.front x part ahead.each one;
      })

  pub ahead-end : (text : List ℕ) (found : List A) → Ahead text found None → IsListText One found text
  ahead-end text found ahead = subst (λ (ps : List (List ℕ)). EachWord One found ps) (sym (ahead.parts ∙ append-nil ahead.front)) ahead.each

  refused-behind : (Unwritten : List ℕ → ParseError → Type 0) (e : ParseError) (xs : List A) (front : List (List ℕ)) (part : List ℕ) (later : List (List ℕ)) → EachWord One xs front → Unwritten part e → RefusesEach One Unwritten (front ++ part ∷ later) e
  refused-behind Unwritten e [] [] part later each here = inl here
  refused-behind Unwritten e [] (w ∷ ws) part later each here = absurd each
  refused-behind Unwritten e (x ∷ xs) [] part later each here = absurd each
  refused-behind Unwritten e (x ∷ xs) (w ∷ ws) part later each here = inr (x, each.0, refused-behind Unwritten e xs ws part later each.1 here)

  pub ahead-refused : {M : Type 0} (Unwritten : List ℕ → ParseError → Type 0) (e : ParseError) (text : List ℕ) (found : List A) (left : Bor (List ℕ)) (part : List ℕ) (behind : Option (Bor (List ℕ))) → Ahead text found (Some left) → parts_of left.now ≡ part ∷ parts_left behind → M ⊎ Unwritten part e → M ⊎ RefusesList One Unwritten text e
  ahead-refused Unwritten e text found left part behind ahead cut (inl m) = inl m
  ahead-refused Unwritten e text found left part behind ahead cut (inr here) =
      let whole = ahead.parts ∙ ap (λ (ps : List (List ℕ)). ahead.front ++ ps) cut in
      inr (subst (λ (ps : List (List ℕ)). RefusesEach One Unwritten ps e) (sym whole) (refused-behind Unwritten e found ahead.front part (parts_left behind) ahead.each here))
