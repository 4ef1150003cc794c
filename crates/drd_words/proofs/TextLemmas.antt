-- The words of a text, token by token.
use Rattle.std.proofs.Common.{◌≡◌, ◌∙◌, ℕ, ◌++◌, List, [], refl, sym, ap, subst, ◌⊎◌, inl, inr}
use Rattle.std.specs.Prelude.{Result, Ok, Err, Option, Some, None, OnOk, IfOk, IfErr, MatchResult}
use Rattle.std.proofs.lemmas.List.{append_assoc, append-nil}
use Rattle.dnw_lexer.specs.dnw_codes.declared.error.LexerError.{LexerError}
use Rattle.dnw_lexer.specs.dnw_codes.declared.error.ParseError.{ParseError}
use Rattle.dnw_lexer.specs.dnw_codes.declared.error.ParseError.TheVariants.{Lexer, UnexpectedToken}
use Rattle.dnw_lexer.specs.dnw_codes.declared.error.LexerError.TheVariants.{Memory}
use Rattle.dnw_lexer.specs.Lexer.{Lexeme, Unread, Given, IsToken}
use Rattle.dnw_lexer.specs.Tokens.{IsLexeme, AreLexemes}
use Rattle.dnw_lexer.specs.declared.token.Token.{Token}
use Rattle.dnw_lexer.proofs.Unique.{is_token-one}
use Rattle.drd_words.specs.Word.{IsOutOfMemory}
use Rattle.drd_words.specs.Text.{lexeme_words, WordsResult, words_after, TextReading, ends, more, misplaced, unreadable}

behind-nothing : (r : WordsResult) → words_after [] r ≡ r
behind-nothing (Ok words) = refl
behind-nothing (Err e) = refl

behind-behind : (v w : List (List ℕ)) (r : WordsResult) → words_after v (words_after w r) ≡ words_after (v ++ w) r
behind-behind v w (Ok words) = ap (λ (x : List (List ℕ)). Ok x) (sym (append_assoc v w words))
behind-behind v w (Err e) = refl

-- What was read, and what is left of the text.
pub record SoFar (start : Unread) (words : List (List ℕ)) (left : Unread) : Type 0 where
  pub sound : (r : WordsResult) → TextReading left r → TextReading start (words_after words r)

pub so_far-start : (start : Unread) (words : List (List ℕ)) → words ≡ [] → SoFar start words start
so_far-start start words e =
    record { sound = λ r h. subst (TextReading start) (sym (behind-nothing r) ∙ ap (λ (w : List (List ℕ)). words_after w r) (sym e)) h }

pub so_far-more : (start : Unread) (words : List (List ℕ)) (left after : Unread) (lexeme : Lexeme) (next longer : List (List ℕ)) → SoFar start words left → IsToken left (Ok (Some lexeme, after)) → lexeme_words lexeme ≡ Some next → longer ≡ words ++ next → SoFar start longer after
so_far-more start words left after lexeme next longer h at is e =
    record { sound = λ r p. subst (TextReading start) (behind-behind words next r ∙ ap (λ (w : List (List ℕ)). words_after w r) (sym e)) (h.sound (words_after next r) (more left after lexeme next r at is p)) }

pub so_far-ends : (start : Unread) (words : List (List ℕ)) (left after : Unread) → SoFar start words left → IsToken left (Ok (None, after)) → TextReading start (Ok words)
so_far-ends start words left after h at =
    subst (λ (w : List (List ℕ)). TextReading start (Ok w)) (append-nil words) (h.sound (Ok []) (ends left after at))

pub so_far-misplaced : (start : Unread) (words : List (List ℕ)) (left after : Unread) (lexeme : Lexeme) (e : ParseError) → SoFar start words left → IsToken left (Ok (Some lexeme, after)) → lexeme_words lexeme ≡ None → e ≡ UnexpectedToken → TextReading start (Err e)
so_far-misplaced start words left after lexeme e h at is same =
    subst (λ (x : ParseError). TextReading start (Err x)) (sym same) (h.sound (Err UnexpectedToken) (misplaced left after lexeme at is))

pub so_far-unreadable : (start : Unread) (words : List (List ℕ)) (left : Unread) (e : LexerError) → SoFar start words left → IsToken left (Err e) → TextReading start (Err (Lexer e))
so_far-unreadable start words left e h at = h.sound (Err (Lexer e)) (unreadable left e at)

-- The parts of what is given.
abbrev first : Given → Option Lexeme
first (Ok found) = found.0
first (Err e) = None

abbrev rest_of : Unread → Given → Unread
rest_of other (Ok found) = found.1
rest_of other (Err e) = other

abbrev refused_by : LexerError → Given
refused_by e = Err e

same-token : (left after later : Unread) (l k : Lexeme) → IsToken left (Ok (Some l, after)) → IsToken left (Ok (Some k, later)) → (k ≡ l) × (later ≡ after)
same-token left after later l k a b =
    let same = is_token-one left (Ok (Some l, after)) (Ok (Some k, later)) a b in
    let lexemes : Some l ≡ Some k = ap first same in
    (cc, sym (ap (rest_of after) same))

no-token : (left after later : Unread) (l : Lexeme) → IsToken left (Ok (None, after)) → IsToken left (Ok (Some l, later)) → ⊥
no-token left after later l a b =
    let none : None ≡ Some l = ap first (is_token-one left (Ok (None, after)) (Ok (Some l, later)) a b) in absurd (cc)

no-error : (left : Unread) (found : Option Lexeme × Unread) (e : LexerError) → IsToken left (Ok found) → IsToken left (Err e) → ⊥
no-error left found e a b = let same = is_token-one left (Ok found) (Err e) a b in absurd (cc)

same-error : (left : Unread) (e f : LexerError) → IsToken left (Err e) → IsToken left (Err f) → e ≡ f
same-error left e f a b = let same : refused_by e ≡ refused_by f = is_token-one left (Err e) (Err f) a b in cc

some-one : (a b : Option (List (List ℕ))) (x y : List (List ℕ)) → a ≡ b → a ≡ Some x → b ≡ Some y → x ≡ y
some-one a b x y e f g = cc

some-none : (a b : Option (List (List ℕ))) (x : List (List ℕ)) → a ≡ b → a ≡ Some x → b ≡ None → ⊥
some-none a b x e f g = absurd (cc)

-- A text has one reading.
pub reading-one : (left : Unread) (r r' : WordsResult) → TextReading left r → TextReading left r' → r ≡ r'
reading-one left r r' (ends _ after at) (ends _ later at') = refl
reading-one left r r' (ends _ after at) (more _ later l ws s at' is h) = absurd (no-token left after later l at at')
reading-one left r r' (ends _ after at) (misplaced _ later l at' is) = absurd (no-token left after later l at at')
reading-one left r r' (ends _ after at) (unreadable _ f at') = absurd (no-error left (None, after) f at at')
reading-one left r r' (more _ after l ws s at is h) (ends _ later at') = absurd (no-token left later after l at' at)
reading-one left r r' (more _ after l ws s at is h) (more _ later k vs s' at' is' h') =
    let same = same-token left after later l k at at' in
    let words : ws ≡ vs = some-one (lexeme_words l) (lexeme_words k) ws vs (ap lexeme_words (sym same.0)) is is' in
    ap (words_after ws) (reading-one after s s' h (subst (λ (u : Unread). TextReading u s') same.1 h')) ∙ ap (λ (w : List (List ℕ)). words_after w s') words
reading-one left r r' (more _ after l ws s at is h) (misplaced _ later k at' is') =
    absurd (some-none (lexeme_words l) (lexeme_words k) ws (ap lexeme_words (sym (same-token left after later l k at at').0)) is is')
reading-one left r r' (more _ after l ws s at is h) (unreadable _ f at') = absurd (no-error left (Some l, after) f at at')
reading-one left r r' (misplaced _ after l at is) (ends _ later at') = absurd (no-token left later after l at' at)
reading-one left r r' (misplaced _ after l at is) (more _ later k vs s' at' is' h') =
    absurd (some-none (lexeme_words k) (lexeme_words l) vs (ap lexeme_words (same-token left after later l k at at').0) is' is)
reading-one left r r' (misplaced _ after l at is) (misplaced _ later k at' is') = refl
reading-one left r r' (misplaced _ after l at is) (unreadable _ f at') = absurd (no-error left (Some l, after) f at at')
reading-one left r r' (unreadable _ e at) (ends _ later at') = absurd (no-error left (None, later) e at' at)
reading-one left r r' (unreadable _ e at) (more _ later k vs s' at' is' h') = absurd (no-error left (Some k, later) e at' at)
reading-one left r r' (unreadable _ e at) (misplaced _ later k at' is') = absurd (no-error left (Some k, later) e at' at)
reading-one left r r' (unreadable _ e at) (unreadable _ f at') = ap (λ (x : LexerError). Err (Lexer x)) (same-error left e f at at')

-- The words of a text are these and no others.
pub words-one : (left : Unread) (v w : List (List ℕ)) → TextReading left (Ok v) → TextReading left (Ok w) → v ≡ w
words-one left v w a b = let e = reading-one left (Ok v) (Ok w) a b in cc

pub words-or_error : (left : Unread) (v : List (List ℕ)) (e : ParseError) → TextReading left (Ok v) → TextReading left (Err e) → ⊥
words-or_error left v e a b = let same = reading-one left (Ok v) (Err e) a b in absurd (cc)

pub error-one : (left : Unread) (e f : ParseError) → TextReading left (Err e) → TextReading left (Err f) → e ≡ f
error-one left e f a b = let same = reading-one left (Err e) (Err f) a b in cc

-- What has the words of a text is refused for no fault of the text.
pub memory-only : {M : Type 0} (left : Unread) (e : ParseError) (words : List (List ℕ)) → M ⊎ TextReading left (Err e) → TextReading left (Ok words) → M
memory-only left e words (inl m) read = m
memory-only left e words (inr h) read = absurd (words-or_error left words e read h)

-- The token that the lexer gave, with what it means.
pub token-at : (left after : Unread) (given : Option Token) (token : Token) → given ≡ Some token → (lexeme : Option Lexeme) × AreLexemes given lexeme × IsToken left (Ok (lexeme, after)) → (l : Lexeme) × IsLexeme token l × IsToken left (Ok (Some l, after))
token-at left after None token e h = absurd (cc)
token-at left after (Some t) token e h =
    let same : t ≡ token = cc in
    (h.1.0, subst (λ (x : Token). IsLexeme x h.1.0) same h.1.1, subst (λ (o : Option Lexeme). IsToken left (Ok (o, after))) h.1.2 h.2)

pub end-token : (start : Unread) (words : List (List ℕ)) (left after : Unread) (given : Option Token) → given ≡ None → SoFar start words left → (lexeme : Option Lexeme) × AreLexemes given lexeme × IsToken left (Ok (lexeme, after)) → TextReading start (Ok words)
end-token start words left after None e so h =
    so_far-ends start words left after so (subst (λ (o : Option Lexeme). IsToken left (Ok (o, after))) h.1 h.2)
end-token start words left after (Some t) e so h = absurd (cc)

-- The error for a token that can't be read.
pub refused-by : (start : Unread) (words : List (List ℕ)) (left : Unread) (refused : LexerError) (e : ParseError) → SoFar start words left → ((refused ≡ Memory) × IsOutOfMemory e) ⊎ ((refused ≡ Memory → ⊥) × (e ≡ Lexer refused)) → (refused ≡ Memory) ⊎ IsToken left (Err refused) → IsOutOfMemory e ⊎ TextReading start (Err e)
refused-by start words left refused e so (inl m) h = inl m.1
refused-by start words left refused e so (inr other) (inl m) = absurd (other.0 m)
refused-by start words left refused e so (inr other) (inr at) =
    inr (subst (λ (x : ParseError). TextReading start (Err x)) (sym other.1) (so_far-unreadable start words left refused so at))

-- What pushing a word gives.
pub push-then : {P Q : Type 0} (M N : ParseError → Type 0) (r : Result (Unit {0}) ParseError) → (P → Q) → OnOk r P → IfErr r M → MatchResult r (λ _. Q) (λ e. M e ⊎ N e)
push-then M N (Ok v) h p m = h p
push-then M N (Err e) h p m = inl m

-- A text without words stands for no value.
pub refused-none : {M T : Type 0} (W : List (List ℕ) → T → Type 0) (left : Unread) (e : ParseError) → M ⊎ TextReading left (Err e) → M ⊎ ((words : List (List ℕ)) (v : T) → TextReading left (Ok words) → W words v → ⊥)
refused-none W left e (inl m) = inl m
refused-none W left e (inr h) = inr (λ words v read w. words-or_error left words e read h)

pub refused-words : {M T : Type 0} (W : T → Type 0) (left : Unread) (e : ParseError) (words : List (List ℕ)) → M ⊎ TextReading left (Err e) → TextReading left (Ok words) → M ⊎ ((v : T) → W v → ⊥)
refused-words W left e words (inl m) read = inl m
refused-words W left e words (inr h) read = absurd (words-or_error left words e read h)

pub refused-cause : {M : Type 0} (left : Unread) (e f : ParseError) → M ⊎ TextReading left (Err e) → TextReading left (Err f) → M ⊎ (e ≡ f)
refused-cause left e f (inl m) read = inl m
refused-cause left e f (inr h) read = inr (error-one left e f h read)

-- The value of a text's words.
module _ {T : Type 0} (W : List (List ℕ) → T → Type 0) (M : ParseError → Type 0) (left : Unread) where
  pub values-refused : (r : Result T ParseError) (parts words : List (List ℕ)) → parts ≡ words → TextReading left (Ok words) → IfErr r (λ e. M e ⊎ ((v : T) → W parts v → ⊥)) → IfErr r (λ e. M e ⊎ ((ws : List (List ℕ)) (v : T) → TextReading left (Ok ws) → W ws v → ⊥))
  values-refused (Ok v) parts words p at h = h
  values-refused (Err e) parts words p at (inl m) = inl m
  values-refused (Err e) parts words p at (inr h) =
      inr (λ ws v read w. h v (subst (λ (x : List (List ℕ)). W x v) (words-one left ws words read at ∙ sym p) w))

  pub values-only : (r : Result T ParseError) (parts words ws : List (List ℕ)) → parts ≡ words → TextReading left (Ok words) → TextReading left (Ok ws) → IfOk r (λ v. W parts v) → IfErr r (λ e. M e ⊎ ((v : T) → W parts v → ⊥)) → MatchResult r (λ v. W ws v) (λ e. M e ⊎ ((v : T) → W ws v → ⊥))
  values-only (Ok v) parts words ws p at read ok err = subst (λ (x : List (List ℕ)). W x v) (p ∙ words-one left words ws at read) ok
  values-only (Err e) parts words ws p at read ok (inl m) = inl m
  values-only (Err e) parts words ws p at read ok (inr h) =
      inr (λ v w. h v (subst (λ (x : List (List ℕ)). W x v) (words-one left ws words read at ∙ sym p) w))
