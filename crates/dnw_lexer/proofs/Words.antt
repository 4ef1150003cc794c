-- What was read of a word, and what is left of its text.
use Rattle.std.proofs.Common.{◌≡◌, ◌≢◌, ◌∙◌, ℕ, ◌++◌, Bool, true, false, List, [], ◌∷◌, refl, sym, ap, subst, ◌⊎◌, inl, inr, arith, ◌-◌, length, length-append, take, drop}
use Rattle.std.proofs.lemmas.Bool.Decides.{nat_tests}
use Rattle.std.specs.Prelude.{Ok, Err, MatchBool, IsUtf8, chars, ◌==◌}
use Rattle.std.specs.Str.{encode_utf8_all}
use Rattle.std.proofs.lemmas.List.{append_assoc, append-nil, take_at, drop_at}
use Rattle.std.proofs.lemmas.Str.{encodes-append, encodes-chars}
use Rattle.dnw_codes.specs.declared.error.LexerError.{LexerError}
use Rattle.dnw_codes.specs.declared.error.LexerError.TheVariants.{EOF, UnrecognizedChar}
use Rattle.dnw_lexer.specs.Lexer.{WordResult, prepend, ends_word, escape, PlainText, ends, plain, escaped, bracket, cut, StringText, plain as string-plain, escaped as string-escaped, no_escape}

before-nothing : (r : WordResult) → prepend [] r ≡ r
before-nothing (Ok found) = refl
before-nothing (Err e) = refl

before-before : (v w : List ℕ) (r : WordResult) → prepend v (prepend w r) ≡ prepend (v ++ w) r
before-before v w (Ok found) = ap (λ (x : List ℕ). Ok (x, found.1)) (sym (append_assoc v w found.0))
before-before v w (Err e) = refl

-- The octets of the word so far, and what stands for the text from here on stands for the whole behind the word.
pub record SoFar (P : List ℕ → WordResult → Type 0) (text octets rest : List ℕ) : Type 0 where
  pub word : List ℕ
  pub is : octets ≡ encode_utf8_all word
  pub sound : (r : WordResult) → P rest r → P text (prepend word r)

module _ (P : List ℕ → WordResult → Type 0) (text : List ℕ) where
  pub start : SoFar P text [] text
  start = record { word = []; is = refl; sound = λ r p. subst (P text) (sym (before-nothing r)) p }

  pub more : (octets rest : List ℕ) (u longer behind : List ℕ) → SoFar P text octets rest → longer ≡ octets ++ encode_utf8_all u → ((r : WordResult) → P behind r → P rest (prepend u r)) → SoFar P text longer behind
  more octets rest u longer behind h e step =
      record {
        word = h.word ++ u;
        is = e ∙ ap (λ o. o ++ encode_utf8_all u) h.is ∙ sym (encodes-append h.word u);
        sound = λ r p. subst (P text) (before-before h.word u r) (h.sound (prepend u r) (step r p));
      }

  pub done : (octets rest behind : List ℕ) → SoFar P text octets rest → P rest (Ok ([], behind)) → (w : List ℕ) × (octets ≡ encode_utf8_all w) × P text (Ok (w, behind))
  done octets rest behind h p =
      (h.word, h.is, subst (λ (w : List ℕ). P text (Ok (w, behind))) (append-nil h.word) (h.sound (Ok ([], behind)) p))

  pub failed : (octets rest : List ℕ) (e : LexerError) → SoFar P text octets rest → P rest (Err e) → P text (Err e)
  failed octets rest e h p = h.sound (Err e) p

-- A character of a plain word, and the one that stays with it.
pub plain-step : (inside : Bool) (c : ℕ) (rest behind later : List ℕ) → rest ≡ c ∷ behind → ends_word inside (c ∷ behind) ≡ false → (c ≢ 41) × (((c ≢ 92) × (later ≡ behind)) ⊎ ((c ≡ 92) × ((d : ℕ) × (behind ≡ d ∷ later)))) → (unit : List ℕ) × ((r : WordResult) → PlainText inside later r → PlainText inside rest (prepend unit r))
plain-step inside c rest behind later e no_end (no_bracket, inl h) = (
  c ∷ [],
  λ r p. subst (λ (t : List ℕ). PlainText inside t (prepend (c ∷ []) r)) (sym e)
      (plain c behind r no_end no_bracket h.0 (subst (λ (t : List ℕ). PlainText inside t r) h.1 p)),
)
plain-step inside c rest behind later e no_end (no_bracket, inr h) =
    let d = (h.1).0 in
    (c ∷ d ∷ [], λ r p. subst (λ (t : List ℕ). PlainText inside t (prepend (c ∷ d ∷ []) r)) (sym (e ∙ ap (λ t. c ∷ t) (h.1).1)) (escaped c d later r h.0 p))

-- What begins a text, and the text behind it, are the text.
abbrev IsAll : List ℕ → WordResult → Type 0
IsAll text (Ok found) = text ≡ found.0 ++ found.1
IsAll text (Err e) = Unit {0}

behind-front : (front text : List ℕ) (r : WordResult) → IsAll text r → IsAll (front ++ text) (prepend front r)
behind-front front text (Ok found) h = ap (λ t. front ++ t) h ∙ sym (append_assoc front found.0 found.1)
behind-front front text (Err e) h = tt

plain-all : (inside : Bool) (text : List ℕ) (r : WordResult) → PlainText inside text r → IsAll text r
plain-all inside text r (ends _ e) = refl
plain-all inside text r (plain c rest r' e n m p) = behind-front (c ∷ []) rest r' (plain-all inside rest r' p)
plain-all inside text r (escaped c d rest r' e p) = behind-front (c ∷ d ∷ []) rest r' (plain-all inside rest r' p)
plain-all inside text r (bracket c rest e n) = tt
plain-all inside text r (cut c e) = tt

-- The octets of a plain word and of what stands behind it are those of the text.
pub plain-octets : (inside : Bool) (text rest w : List ℕ) → IsUtf8 text → IsUtf8 rest → PlainText inside (chars text) (Ok (w, chars rest)) → text ≡ encode_utf8_all w ++ rest
plain-octets inside text rest w all behind p =
    sym (encodes-chars text all) ∙ ap encode_utf8_all (plain-all inside (chars text) (Ok (w, chars rest)) p) ∙ encodes-append w (chars rest)
    ∙ ap (λ o. encode_utf8_all w ++ o) (encodes-chars rest behind)

-- Where the octets behind a front begin.
pub behind-octets : (text front rest : List ℕ) → text ≡ front ++ rest → drop (length text - length rest) text ≡ rest
behind-octets text front rest e =
    let place : length text - length rest ≡ length front = omega (arith, ap length e, length-append front rest) in
    ap (λ n. drop n text) place ∙ ap (drop (length front)) e ∙ drop_at front rest (length front) refl

pub front-octets : (text front rest : List ℕ) → text ≡ front ++ rest → take (length text - length rest) text ≡ front
front-octets text front rest e =
    let place : length text - length rest ≡ length front = omega (arith, ap length e, length-append front rest) in
    ap (λ n. take n text) place ∙ ap (take (length front)) e ∙ take_at front rest (length front) refl

-- A character that has no place in a plain word.
pub plain-refused : (inside : Bool) (c : ℕ) (rest behind : List ℕ) (e : LexerError) → rest ≡ c ∷ behind → ends_word inside (c ∷ behind) ≡ false → ((c ≡ 41) × (e ≡ UnrecognizedChar c)) ⊎ ((c ≡ 92) × (behind ≡ []) × (e ≡ EOF)) → PlainText inside rest (Err e)
plain-refused inside c rest behind e is no_end (inl h) =
    rw (is, h.1) (bracket c behind no_end h.0)
plain-refused inside c rest behind e is no_end (inr h) =
    let alone : rest ≡ c ∷ [] = is ∙ ap (λ t. c ∷ t) h.1 in
    rw (alone, h.2) (cut c h.0)

is_slash : (c : ℕ) → (c == 92) ≡ true → c ≡ 92
is_slash c e = grind (arith, nat_tests)

not_slash : (c : ℕ) → (c == 92) ≡ false → c ≢ 92
not_slash c e h = absurd (grind (arith, nat_tests))

-- A character of a string in quotes.
pub string-step : (c d : ℕ) (rest behind later : List ℕ) → rest ≡ c ∷ behind → c ≢ 34 → MatchBool (c == 92) (escape behind ≡ Ok (d, later)) ((d ≡ c) × (later ≡ behind)) → (r : WordResult) → StringText later r → StringText rest (prepend (d ∷ []) r)
string-step c d rest behind later is no_quote h r p = by_test (c == 92) refl h
  where
    by_test : (b : Bool) → (c == 92) ≡ b → MatchBool b (escape behind ≡ Ok (d, later)) ((d ≡ c) × (later ≡ behind)) → StringText rest (prepend (d ∷ []) r)
    by_test true e h = rw is (string-escaped c d behind later r (is_slash c e) h p)
    by_test false e h = rw (is, h.0) (string-plain c behind r no_quote (not_slash c e) (subst (λ (t : List ℕ). StringText t r) h.1 p))

pub string-refused : (c : ℕ) (rest behind : List ℕ) (e : LexerError) → rest ≡ c ∷ behind → (c ≡ 92) × (escape behind ≡ Err e) → StringText rest (Err e)
string-refused c rest behind e is h = rw is (no_escape c behind e h.0 h.1)
