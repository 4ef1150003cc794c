-- The words of a line, one after the other.
use Rattle.std.proofs.Common.{suc, zero, ◌≡◌, refl, sym, ap, ◌∙◌, subst, ℕ, ◌+◌, ◌<◌, ◌≤◌, Bool, true, false, not, List, [], ◌∷◌, ◌++◌, length, take, drop, get_or, Option, Some, None, unwrap_or, arith}
use Rattle.std.specs.Prelude.{filter, position, nat_lt, ◌||◌, eqb}
use Rattle.std.specs.List.{All, slice_split, position_or_len}
use Rattle.std.specs.Str.{IsCharBoundary, IsUtf8}
use Rattle.std.proofs.lemmas.Bool.{both_ways, eqb-true, ltb-false}
use Rattle.std.proofs.lemmas.List.{take-append-drop, get_or-take, length-take}
use Rattle.std.proofs.lemmas.Bool.{lt-ltb}
use Rattle.std.proofs.lemmas.List.Quantifiers.{position-Some}
use Rattle.std.proofs.lemmas.List.Sums.{fails_before_first, prefix_len-le-length}
use Rattle.std.proofs.lemmas.Str.{IsCharBoundary-start, IsCharBoundary-end, IsCharBoundary-before_ascii, IsCharBoundary-after_ascii}
use Rattle.std.proofs.lemmas.List.Splits.{slice_split_none, slice_split_at, slice_split-cons_yes}
use Rattle.std.proofs.Math.Seq.{drop-cons, take-length, drop-length}
use Rattle.dnw_lexer.specs.dnw_codes.Ascii.{is_blank}
use Rattle.authority_load.specs.ZoneText.{behind_word, from_word, words_of}

abbrev no_words : List (List ℕ) → List (List ℕ)
no_words parts = filter (λ word. nat_lt 0 (length word)) parts

not_false : (b : Bool) → not b ≡ false → b ≡ true
not_false true h = refl
not_false false h = cc

not_true : (b : Bool) → not b ≡ true → b ≡ false
not_true true h = cc
not_true false h = refl

skip : (n : ℕ) (text : List ℕ) → ((k : ℕ) → k < n → not (is_blank (get_or text k 0)) ≡ false) → n ≤ length text → words_of (drop n text) ≡ words_of text
skip zero text h le = refl
skip (suc n) [] h le = absurd (omega arith)
skip (suc n) (x ∷ xs) h le =
    skip n xs (λ k lt. h (suc k) (omega arith)) (omega arith)
    ∙ sym (ap no_words (slice_split-cons_yes is_blank x xs (not_false (is_blank x) (h 0 (omega arith)))))

not_found : (p : ℕ → Bool) (text : List ℕ) → (b : Bool) → nat_lt (position_or_len p text) (length text) ≡ b → position p text ≡ None → (k : ℕ) (d : ℕ) → k < length text → p (get_or text k d) ≡ false
not_found p text true e none k d lt = let found : position p text ≡ Some (position_or_len p text) = rw e in cc
not_found p text false e none k d lt =
    let all : length text ≤ position_or_len p text = ltb-false (position_or_len p text) (length text) e in
    fails_before_first p text k d (omega arith)

pub words_none : (text : List ℕ) → position (λ octet. not (is_blank octet)) text ≡ None → words_of text ≡ []
words_none text none =
    let blank : (k : ℕ) → k < length text → not (is_blank (get_or text k 0)) ≡ false = λ k lt. not_found (λ octet. not (is_blank octet)) text _ refl none k 0 lt in
    sym (skip (length text) text blank (omega arith)) ∙ ap words_of (drop-length text)

pub words_from : (text : List ℕ) (i : ℕ) (rest : List ℕ) → position (λ octet. not (is_blank octet)) text ≡ Some i → rest ≡ drop i text
    → (words_of text ≡ words_of rest) × (is_blank (get_or rest 0 0) ≡ false) × (0 < length rest)
words_from text i rest found e =
    let at = position-Some (λ octet. not (is_blank octet)) text i 0 found in
    let behind : rest ≡ get_or text i 0 ∷ drop (suc i) text = e ∙ drop-cons text i 0 at.0 in (
      sym (skip i text (λ k lt. at.2 k lt) (omega (arith, at.0))) ∙ ap words_of (sym e),
      ap (λ xs. is_blank (get_or xs 0 0)) behind ∙ not_true (is_blank (get_or text i 0)) at.1,
      omega (arith, ap length behind),
    )

filtered : (word : List ℕ) (parts : List (List ℕ)) → 0 < length word → no_words (word ∷ parts) ≡ word ∷ no_words parts
filtered [] parts lt = absurd (omega arith)
filtered (x ∷ xs) parts lt = let long : nat_lt 0 (length (x ∷ xs)) ≡ true = lt-ltb 0 (length (x ∷ xs)) (omega arith) in rw long

-- A text that is cut at a blank.
cut_at : (front : List ℕ) (b : ℕ) (rest : List ℕ) → All (λ octet. is_blank octet ≡ false) front → is_blank b ≡ true → 0 < length front → words_of (front ++ b ∷ rest) ≡ front ∷ words_of (b ∷ rest)
cut_at front b rest plain blank lt =
    ap no_words (slice_split_at is_blank front b rest plain blank) ∙ filtered front (slice_split is_blank rest) lt
    ∙ ap (λ words. front ∷ words) (sym (ap no_words (slice_split-cons_yes is_blank b rest blank)))

pub word_first : (text : List ℕ) → 0 < length text → is_blank (get_or text 0 0) ≡ false → (r : Option ℕ) → position is_blank text ≡ r
    → words_of text ≡ take (unwrap_or r (length text)) text ∷ words_of (drop (unwrap_or r (length text)) text)
word_first text lt plain None e =
    let whole : slice_split is_blank text ≡ text ∷ [] = slice_split_none is_blank text (λ k d lt. not_found is_blank text _ refl e k d lt) in
    ap no_words whole ∙ filtered text [] lt
    ∙ ap (λ front. front ∷ []) (sym (take-length text)) ∙ ap (λ rest. take (length text) text ∷ words_of rest) (sym (drop-length text))
word_first text lt plain (Some n) e =
    let at : (n < length text) × (is_blank (get_or text n 0) ≡ true) × ((k : ℕ) → k < n → is_blank (get_or text k 0) ≡ false) = position-Some is_blank text n 0 e in
    let front-plain : All (λ octet. is_blank octet ≡ false) (take n text) = front_plain n e in
    let some : 0 < n = above n at.1 in
    let long : 0 < length (take n text) = omega (arith, length-take n text, at.0) in
    let behind : drop n text ≡ get_or text n 0 ∷ drop (suc n) text = drop-cons text n 0 at.0 in
    let parts : text ≡ take n text ++ (get_or text n 0 ∷ drop (suc n) text) = sym (take-append-drop n text) ∙ ap (λ rest. take n text ++ rest) behind in
    ap words_of parts ∙ cut_at (take n text) (get_or text n 0) (drop (suc n) text) front-plain at.1 long
    ∙ ap (λ rest. take n text ∷ words_of rest) (sym behind)
  where
    above : (m : ℕ) → is_blank (get_or text m 0) ≡ true → 0 < m
    above zero yes-blank = absurd (both_ways (is_blank (get_or text 0 0)) plain yes-blank)
    above (suc m) yes-blank = omega arith

    front_plain : (m : ℕ) → position is_blank text ≡ Some m → All (λ octet. is_blank octet ≡ false) (take m text)
    front_plain m found = λ k d below.
        let k-below : k < m = omega (arith, length-take m text) in
        ap is_blank (get_or-take m text k d k-below) ∙ (position-Some is_blank text m d found).2 k k-below

-- The place that a search gives, or the length.
place_is : (p : ℕ → Bool) (text : List ℕ) (r : Option ℕ) → position p text ≡ r → position_or_len p text ≡ unwrap_or r (length text)
place_is p text r found = decided (nat_lt (position_or_len p text) (length text)) refl
  where
    decided : (b : Bool) → nat_lt (position_or_len p text) (length text) ≡ b → position_or_len p text ≡ unwrap_or r (length text)
    decided true e =
        let there : position p text ≡ Some (position_or_len p text) = rw e refl in
        ap (λ (o : Option ℕ). unwrap_or o (length text)) (sym there ∙ found)
    decided false e =
        let none : position p text ≡ None = rw e refl in
        let all : length text ≤ position_or_len p text = ltb-false (position_or_len p text) (length text) e in
        let most : position_or_len p text ≤ length text = prefix_len-le-length (λ x. not (p x)) text in
        let whole : position_or_len p text ≡ length text = omega arith in
        whole ∙ ap (λ (o : Option ℕ). unwrap_or o (length text)) (sym none ∙ found)

-- What stands behind the first word of a text that has one.
pub behind_first : (text : List ℕ) (i : ℕ) (rest : List ℕ) (r : Option ℕ) → position (λ octet. not (is_blank octet)) text ≡ Some i → rest ≡ drop i text → position is_blank rest ≡ r
    → drop (unwrap_or r (length rest)) rest ≡ behind_word text
behind_first text i rest r found e cut =
    let from : rest ≡ from_word text = e ∙ ap (λ (n : ℕ). drop n text) (sym (place_is (λ octet. not (is_blank octet)) text (Some i) found)) in
    ap (λ (n : ℕ). drop n rest) (sym (place_is is_blank rest r cut)) ∙ ap (λ (t : List ℕ). drop (position_or_len is_blank t) t) from

-- ---- a text may be cut beside a blank
pub blank_ascii : (octet : ℕ) → is_blank octet ≡ true → octet < 128
blank_ascii octet h = either (eqb octet 32) (eqb octet 9) refl refl h
  where
    either : (a b : Bool) → eqb octet 32 ≡ a → eqb octet 9 ≡ b → a || b ≡ true → octet < 128
    either true b x y h = omega (arith, eqb-true octet 32 x)
    either false true x y h = omega (arith, eqb-true octet 9 y)
    either false false x y h = absurd (cc)

pub plain_boundary : (text : List ℕ) (place : ℕ) → IsUtf8 text → position (λ octet. not (is_blank octet)) text ≡ Some place → IsCharBoundary text place
plain_boundary text zero utf8 found = IsCharBoundary-start text utf8
plain_boundary text (suc k) utf8 found =
    let at = position-Some (λ octet. not (is_blank octet)) text (suc k) 0 found in
    let blank : is_blank (get_or text k 0) ≡ true = not_false (is_blank (get_or text k 0)) (at.2 k (omega arith)) in
    let next : k + 1 ≡ suc k = omega arith in
    subst (λ (i : ℕ). IsCharBoundary text i) next (IsCharBoundary-after_ascii text k utf8 (omega (arith, at.0)) (blank_ascii (get_or text k 0) blank))

pub blank_boundary : (text : List ℕ) (r : Option ℕ) → position is_blank text ≡ r → IsCharBoundary text (unwrap_or r (length text))
blank_boundary text None found = IsCharBoundary-end text
blank_boundary text (Some i) found =
    let at = position-Some is_blank text i 0 found in
    IsCharBoundary-before_ascii text i at.0 (blank_ascii (get_or text i 0) at.1)

-- ---- the only word of a text
pub behind_blank : (b : ℕ) (text : List ℕ) → is_blank b ≡ true → words_of (b ∷ text) ≡ words_of text
behind_blank b text blank = ap no_words (slice_split-cons_yes is_blank b text blank)

-- A text that begins with no blank has a word, which may be its only one.
pub first_of : (c : ℕ) (cs : List ℕ) → is_blank c ≡ false → (front back : List ℕ) × (c ∷ cs ≡ front ++ back) × (words_of (c ∷ cs) ≡ front ∷ words_of back)
first_of c cs plain =
    let n : ℕ = unwrap_or (position is_blank (c ∷ cs)) (length (c ∷ cs)) in
    (take n (c ∷ cs), drop n (c ∷ cs), sym (take-append-drop n (c ∷ cs)), word_first (c ∷ cs) (omega arith) plain (position is_blank (c ∷ cs)) refl)
