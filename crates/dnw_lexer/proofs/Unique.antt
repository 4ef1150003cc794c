-- Each text has one reading.
use Rattle.std.proofs.Common.{◌≡◌, ◌∙◌, ℕ, ◌&&◌, ◌==◌, Bool, true, false, List, [], ◌∷◌, refl, sym, ap, subst, arith}
use Rattle.std.specs.Prelude.{Result, Ok, Err, Some, MatchBool}
use Rattle.dnw_codes.specs.declared.error.LexerError.{LexerError}
use Rattle.dnw_codes.specs.declared.error.LexerError.TheVariants.{UnrecognizedChar}
use Rattle.dnw_lexer.specs.Lexer.{WordResult, prepend, Words, words_before, after_gap, at_line_end, behind_line_end, begins_blank, without_blanks, without_comment, ends_word, escape, PlainText, ends, plain, escaped, bracket, cut, StringText, closes as string-closes, plain as string-plain, escaped as string-escaped, no_escape, unclosed as string-unclosed, ListWord, ListText, closes, word, refused, unclosed, Given, Unread, unread, BareToken, WordToken, LineToken, IsToken, bare_given, string_given, list_given, end_of_line, blank}

-- A backslash ends no word.
slash-goes : (inside : Bool) (c : ℕ) (rest : List ℕ) → c ≡ 92 → ends_word inside (c ∷ rest) ≡ false
slash-goes true c [] e = rw e refl
slash-goes true c (d ∷ rest) e = rw e refl
slash-goes false c [] e = rw e refl
slash-goes false c (d ∷ rest) e = rw e refl

module _ (inside : Bool) where
  pub plain-one : (text : List ℕ) (r r' : WordResult) → PlainText inside text r → PlainText inside text r' → r ≡ r'
  plain-one text r r' (ends _ e) (ends _ e') = refl
  plain-one text r r' (ends _ e) (plain c rest s goes n m p) = absurd (cc)
  plain-one text r r' (ends _ e) (escaped c d rest s n p) = let goes = slash-goes inside c (d ∷ rest) n in absurd (cc)
  plain-one text r r' (ends _ e) (bracket c rest goes n) = absurd (cc)
  plain-one text r r' (ends _ e) (cut c n) = let goes = slash-goes inside c [] n in absurd (cc)
  plain-one text r r' (plain c rest s goes n m p) (ends _ e) = absurd (cc)
  plain-one text r r' (plain c rest s goes n m p) (plain _ _ s' goes' n' m' p') = ap (prepend (c ∷ [])) (plain-one rest s s' p p')
  plain-one text r r' (plain c rest s goes n m p) (escaped _ d rest' s' e p') = absurd (m e)
  plain-one text r r' (plain c rest s goes n m p) (bracket _ _ goes' e) = absurd (n e)
  plain-one text r r' (plain c rest s goes n m p) (cut _ e) = absurd (m e)
  plain-one text r r' (escaped c d rest s n p) (ends _ e) = let goes = slash-goes inside c (d ∷ rest) n in absurd (cc)
  plain-one text r r' (escaped c d rest s n p) (plain _ _ s' goes' n' m' p') = absurd (m' n)
  plain-one text r r' (escaped c d rest s n p) (escaped _ _ _ s' n' p') = ap (prepend (c ∷ d ∷ [])) (plain-one rest s s' p p')
  plain-one text r r' (escaped c d rest s n p) (bracket _ _ goes' e) = absurd (omega arith)
  plain-one text r r' (bracket c rest goes n) (ends _ e) = absurd (cc)
  plain-one text r r' (bracket c rest goes n) (plain _ _ s' goes' n' m' p') = absurd (n' n)
  plain-one text r r' (bracket c rest goes n) (escaped _ d rest' s' n' p') = absurd (omega arith)
  plain-one text r r' (bracket c rest goes n) (bracket _ _ goes' n') = refl
  plain-one text r r' (bracket c rest goes n) (cut _ e) = absurd (omega arith)
  plain-one text r r' (cut c n) (ends _ e) = let goes = slash-goes inside c [] n in absurd (cc)
  plain-one text r r' (cut c n) (plain _ _ s' goes' n' m' p') = absurd (m' n)
  plain-one text r r' (cut c n) (bracket _ _ goes' e) = absurd (omega arith)
  plain-one text r r' (cut c n) (cut _ n') = refl

ok-one : {X E : Type 0} (r : Result X E) (x y : X) → r ≡ Ok x → r ≡ Ok y → x ≡ y
ok-one r x y a b = cc

err-one : {X E : Type 0} (r : Result X E) (e f : E) → r ≡ Err e → r ≡ Err f → e ≡ f
err-one r e f a b = cc

pub string-one : (text : List ℕ) (r r' : WordResult) → StringText text r → StringText text r' → r ≡ r'
string-one text r r' (string-closes c rest e) (string-closes _ _ e') = refl
string-one text r r' (string-closes c rest e) (string-plain _ _ s n m p) = absurd (n e)
string-one text r r' (string-closes c rest e) (string-escaped _ d _ behind s n at p) = absurd (omega arith)
string-one text r r' (string-closes c rest e) (no_escape _ _ f n at) = absurd (omega arith)
string-one text r r' (string-plain c rest s n m p) (string-closes _ _ e) = absurd (n e)
string-one text r r' (string-plain c rest s n m p) (string-plain _ _ s' n' m' p') = ap (prepend (c ∷ [])) (string-one rest s s' p p')
string-one text r r' (string-plain c rest s n m p) (string-escaped _ d _ behind s' e at p') = absurd (m e)
string-one text r r' (string-plain c rest s n m p) (no_escape _ _ f e at) = absurd (m e)
string-one text r r' (string-escaped c d rest behind s n at p) (string-closes _ _ e) = absurd (omega arith)
string-one text r r' (string-escaped c d rest behind s n at p) (string-plain _ _ s' n' m' p') = absurd (m' n)
string-one text r r' (string-escaped c d rest behind s n at p) (string-escaped _ d' _ behind' s' n' at' p') =
    let same : (d, behind) ≡ (d', behind') = ok-one (escape rest) (d, behind) (d', behind') at at' in
    let first : d ≡ d' = ap (λ (x : ℕ × List ℕ). x.0) same in
    let rest-same : behind' ≡ behind = sym (ap (λ (x : ℕ × List ℕ). x.1) same) in
    ap (prepend (d ∷ [])) (string-one behind s s' p (subst (λ (t : List ℕ). StringText t s') rest-same p')) ∙ ap (λ x. prepend (x ∷ []) s') first
string-one text r r' (string-escaped c d rest behind s n at p) (no_escape _ _ f e at') = absurd (cc)
string-one text r r' (no_escape c rest f n at) (string-closes _ _ e) = absurd (omega arith)
string-one text r r' (no_escape c rest f n at) (string-plain _ _ s' n' m' p') = absurd (m' n)
string-one text r r' (no_escape c rest f n at) (string-escaped _ d' _ behind' s' n' at' p') = absurd (cc)
string-one text r r' (no_escape c rest f n at) (no_escape _ _ f' n' at') = ap Err (err-one (escape rest) f f' at at')
string-one text r r' string-unclosed string-unclosed = refl

same-found : (x y : List ℕ × List ℕ) (e : Result (List ℕ × List ℕ) LexerError) → e ≡ Ok x → e ≡ Ok y → x ≡ y
same-found x y e a b = ok-one e x y a b

same-cause : (r : WordResult) (e f : LexerError) → r ≡ Err e → r ≡ Err f → e ≡ f
same-cause r e f a b = err-one r e f a b

word-one : (c : ℕ) (rest : List ℕ) (r r' : WordResult) → ListWord c rest r → ListWord c rest r' → r ≡ r'
word-one c rest r r' h h' = by_tests (c == 34) (c == 40) h h'
  where
    by_tests : (s t : Bool) → MatchBool s (StringText rest r) (MatchBool t (r ≡ Err (UnrecognizedChar c)) (PlainText true (c ∷ rest) r)) → MatchBool s (StringText rest r') (MatchBool t (r' ≡ Err (UnrecognizedChar c)) (PlainText true (c ∷ rest) r')) → r ≡ r'
    by_tests true t p q = string-one rest r r' p q
    by_tests false true p q = p ∙ sym q
    by_tests false false p q = plain-one true (c ∷ rest) r r' p q

first-same : (xs : List ℕ) (c d : ℕ) (rest later : List ℕ) → xs ≡ c ∷ rest → xs ≡ d ∷ later → (d ≡ c) × (later ≡ rest)
first-same xs c d rest later a b = (cc, cc)

word-same : (text : List ℕ) (c d : ℕ) (rest later : List ℕ) (r r' : WordResult) → after_gap false text ≡ c ∷ rest → after_gap false text ≡ d ∷ later → ListWord c rest r → ListWord d later r' → r ≡ r'
word-same text c d rest later r r' a b h h' =
    let same = first-same (after_gap false text) c d rest later a b in
    word-one c rest r r' h
    (subst (λ (x : ℕ). ListWord x rest r') same.0 (subst (λ (t : List ℕ). ListWord d t r') same.1 h'))

pub list-one : (text : List ℕ) (r r' : Words) → ListText text r → ListText text r' → r ≡ r'
list-one text r r' (closes _ c rest at e) (closes _ d later at' e') =
    ap (λ (t : List ℕ). Ok ([], t)) (sym (first-same (after_gap false text) c d rest later at at').1)
list-one text r r' (closes _ c rest at e) (word _ d later w behind s at' other h p) = absurd (other ((first-same (after_gap false text) c d rest later at at').0 ∙ e))
list-one text r r' (closes _ c rest at e) (refused _ d later f at' other h) = absurd (other ((first-same (after_gap false text) c d rest later at at').0 ∙ e))
list-one text r r' (closes _ c rest at e) (unclosed _ none) = absurd (cc)
list-one text r r' (word _ c rest w behind s at other h p) (closes _ d later at' e) = absurd (other (sym (first-same (after_gap false text) c d rest later at at').0 ∙ e))
list-one text r r' (word _ c rest w behind s at other h p) (word _ d later w' behind' s' at' other' h' p') =
    let same : (w, behind) ≡ (w', behind') = same-found (w, behind) (w', behind') (Ok (w, behind)) refl (word-same text c d rest later (Ok (w, behind)) (Ok (w', behind')) at at' h h') in
    let first : w ≡ w' = ap (λ (x : List ℕ × List ℕ). x.0) same in
    let rest-same : behind' ≡ behind = sym (ap (λ (x : List ℕ × List ℕ). x.1) same) in
    ap (words_before (w ∷ [])) (list-one behind s s' p (subst (λ (t : List ℕ). ListText t s') rest-same p')) ∙ ap (λ x. words_before (x ∷ []) s') first
list-one text r r' (word _ c rest w behind s at other h p) (refused _ d later f at' other' h') =
    let same = word-same text c d rest later (Ok (w, behind)) (Err f) at at' h h' in absurd (cc)
list-one text r r' (word _ c rest w behind s at other h p) (unclosed _ none) = absurd (cc)
list-one text r r' (refused _ c rest f at other h) (closes _ d later at' e) = absurd (other (sym (first-same (after_gap false text) c d rest later at at').0 ∙ e))
list-one text r r' (refused _ c rest f at other h) (word _ d later w' behind' s' at' other' h' p') =
    let same = word-same text c d rest later (Err f) (Ok (w', behind')) at at' h h' in absurd (cc)
list-one text r r' (refused _ c rest f at other h) (refused _ d later f' at' other' h') =
    ap Err (same-cause (Err f) f f' refl (word-same text c d rest later (Err f) (Err f') at at' h h'))
list-one text r r' (refused _ c rest f at other h) (unclosed _ none) = absurd (cc)
list-one text r r' (unclosed _ none) (closes _ d later at' e) = absurd (cc)
list-one text r r' (unclosed _ none) (word _ d later w' behind' s' at' other' h' p') = absurd (cc)
list-one text r r' (unclosed _ none) (refused _ d later f at' other h) = absurd (cc)
list-one text r r' (unclosed _ none) (unclosed _ none') = refl

bare-one : (text : List ℕ) (g g' : Given) → BareToken text g → BareToken text g' → g ≡ g'
bare-one text g g' h h' = h.2 ∙ ap bare_given (plain-one false text h.0 h'.0 h.1 h'.1) ∙ sym h'.2

token-one : (c : ℕ) (rest : List ℕ) (g g' : Given) → WordToken c rest g → WordToken c rest g' → g ≡ g'
token-one c rest g g' h h' = by_tests (c == 40) (c == 34) h h'
  where
    by_tests : (s t : Bool) → MatchBool s ((r : Words) × ListText rest r × (g ≡ list_given r)) (MatchBool t ((r : WordResult) × StringText rest r × (g ≡ string_given r)) (BareToken (c ∷ rest) g)) → MatchBool s ((r : Words) × ListText rest r × (g' ≡ list_given r)) (MatchBool t ((r : WordResult) × StringText rest r × (g' ≡ string_given r)) (BareToken (c ∷ rest) g')) → g ≡ g'
    by_tests true t p q = p.2 ∙ ap list_given (list-one rest p.0 q.0 p.1 q.1) ∙ sym q.2
    by_tests false true p q = p.2 ∙ ap string_given (string-one rest p.0 q.0 p.1 q.1) ∙ sym q.2
    by_tests false false p q = bare-one (c ∷ rest) g g' p q

line-one : (front : Bool) (text : List ℕ) (g g' : Given) → LineToken front text g → LineToken front text g' → g ≡ g'
line-one front [] g g' h h' = h ∙ sym h'
line-one front (c ∷ rest) g g' h h' = by_test (at_line_end (c ∷ rest)) h h'
  where
    by_test : (s : Bool) → MatchBool s (g ≡ Ok (Some end_of_line, unread true (behind_line_end (c ∷ rest)))) (WordToken c rest g) → MatchBool s (g' ≡ Ok (Some end_of_line, unread true (behind_line_end (c ∷ rest)))) (WordToken c rest g') → g ≡ g'
    by_test true p q = p ∙ sym q
    by_test false p q = token-one c rest g g' p q

-- At a place of a text one token stands, or one error.
pub is_token-one : (left : Unread) (g g' : Given) → IsToken left g → IsToken left g' → g ≡ g'
is_token-one left g g' h h' = by_test (left.front && begins_blank left.text) h h'
  where
    later : List ℕ
    later = without_comment (without_blanks left.text)

    by_test : (s : Bool) → MatchBool s (g ≡ Ok (Some blank, unread false (without_blanks left.text))) (LineToken left.front later g) → MatchBool s (g' ≡ Ok (Some blank, unread false (without_blanks left.text))) (LineToken left.front later g') → g ≡ g'
    by_test true p q = p ∙ sym q
    by_test false p q = line-one left.front later g g' p q
