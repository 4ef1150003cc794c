-- A word of digits and dots that stands alone, as the lexer reads it.
use Rattle.std.proofs.Common.{◌≡◌, refl, sym, ap, ◌∙◌, subst, ℕ, ◌<◌, ◌≤◌, Bool, true, false, List, [], ◌∷◌, ◌++◌, length, length-append, ne_eqb, arith}
use Rattle.std.specs.Prelude.{◌==◌, Ok, Some, None, chars, codes, decimal}
use Rattle.std.specs.Str.{IsAscii, encode_utf8_all}
use Rattle.std.specs.Str.Parse.{AllDigits}
use Rattle.std.specs.declared.net.ipv4_addr.Ipv4Addr.{Ipv4Addr}
use Rattle.std.specs.Net.Grammar.{IsIpv4Text}
use Rattle.std.specs.Net.Text.{dotted_text}
use Rattle.std.proofs.lemmas.Fmt.{decimal_is_IsNumeral, decimal_nonempty}
use Rattle.std.proofs.lemmas.Str.{IsAscii-append, chars-IsAscii, encodes-IsAscii}
use Rattle.std.proofs.lemmas.Str.Ascii.{IsAscii-nil, IsAscii-cons}
use Rattle.std.proofs.lemmas.Str.Parse.{digit_from_value}
use Rattle.dnw_lexer.specs.dnw_codes.Ascii.{is_blank}
use Rattle.dnw_lexer.specs.Lexer.{at_line_end, without_blanks, without_comment, ends_word, PlainText, ends as word-ends, plain, blank, word, bare_lexeme, lexeme_given, Given, unread, BareToken, WordToken, LineToken, IsToken}
use Rattle.dnw_lexer.proofs.TokenLemmas.{bare-word, blank-token, line-goes}
use Rattle.zst_zone.specs.drd_words.Text.{IsSplitInto, TextReading, ends, more}
use Rattle.authority_load.specs.ZoneText.{words_of}
use Rattle.authority_load.proofs.LoneWords.{AreBlanks, ascii-blanks, alone}

-- Digits and dots.
abbrev AreFigures : List ℕ → Type 0
AreFigures [] = Unit {0}
AreFigures (c ∷ cs) = (46 ≤ c) × (c ≤ 57) × AreFigures cs

figures-append : (xs ys : List ℕ) → AreFigures xs → AreFigures ys → AreFigures (xs ++ ys)
figures-append [] ys h k = k
figures-append (x ∷ xs) ys h k = (h.0, h.1, figures-append xs ys h.2 k)

figures-digits : (ds : List ℕ) → AllDigits 10 ds → AreFigures ds
figures-digits [] h = tt
figures-digits (c ∷ cs) h = let range = digit_from_value c h.0 in (omega (arith, range), omega (arith, range), figures-digits cs h.1)

figures-decimal : (n : ℕ) → n < 256 → AreFigures (decimal n)
figures-decimal n h = figures-digits (decimal n) (decimal_is_IsNumeral n (omega arith)).0.1

figures-more : (front : List ℕ) (n : ℕ) → AreFigures front → n < 256 → AreFigures (front ++ codes "." ++ decimal n)
figures-more front n h small =
    figures-append (front ++ codes ".") (decimal n) (figures-append front (codes ".") h (omega arith, omega arith, tt)) (figures-decimal n small)

figures-dotted : (a b c d : ℕ) → (a < 256) × (b < 256) × (c < 256) × (d < 256) → AreFigures (dotted_text a b c d)
figures-dotted a b c d (h, i, j, k) =
    let two : List ℕ = decimal a ++ codes "." ++ decimal b in
    let three : List ℕ = two ++ codes "." ++ decimal c in
    figures-more three d (figures-more two c (figures-more (decimal a) b (figures-decimal a h) i) j) k

ascii-figures : (w : List ℕ) → AreFigures w → IsAscii w
ascii-figures [] h = IsAscii-nil
ascii-figures (c ∷ cs) h = IsAscii-cons c cs (omega (arith, h.1)) (ascii-figures cs h.2)

-- The lexer's tests at a digit or a dot.
module _ (c : ℕ) (least : 46 ≤ c) (most : c ≤ 57) where
  other : (k : ℕ) → (c ≡ k → ⊥) → (c == k) ≡ false
  other k h = ne_eqb c k h

  no_blank : is_blank c ≡ false
  no_blank = rw (other 32 (λ e. omega arith), other 9 (λ e. omega arith)) refl

  no_line_end : (rest : List ℕ) → at_line_end (c ∷ rest) ≡ false
  no_line_end [] = other 10 (λ e. omega arith)
  no_line_end (d ∷ rest) = rw (other 10 (λ e. omega arith), other 13 (λ e. omega arith)) refl

  goes_on : (rest : List ℕ) → ends_word false (c ∷ rest) ≡ false
  goes_on rest = rw (no_blank, other 59 (λ e. omega arith), no_line_end rest) refl

  no_comment : (rest : List ℕ) → without_comment (c ∷ rest) ≡ c ∷ rest
  no_comment rest = rw (other 59 (λ e. omega arith)) refl

  stays : (rest : List ℕ) → without_blanks (c ∷ rest) ≡ c ∷ rest
  stays rest = rw no_blank refl

  bare : (cs : List ℕ) → encode_utf8_all (c ∷ cs) ≡ c ∷ cs → bare_lexeme (c ∷ cs) ≡ Ok (word (c ∷ cs))
  bare cs e =
      bare-word (c ∷ cs) (c ∷ cs) (sym e) (rw (other 64 (λ e. omega arith)) refl) (rw (other 36 (λ e. omega arith)) refl) (rw (other 36 (λ e. omega arith)) refl) (rw (other 36 (λ e. omega arith)) refl)
      (rw (ne_eqb 36 c (λ e. omega arith)) refl)

ends-blanks : (back : List ℕ) → AreBlanks back → ends_word false back ≡ true
ends-blanks [] h = refl
ends-blanks (b ∷ back) h = rw h.0 refl

plain-figures : (w back : List ℕ) → AreFigures w → AreBlanks back → PlainText false (w ++ back) (Ok (w, back))
plain-figures [] back h b = word-ends back (ends-blanks back b)
plain-figures (c ∷ cs) back h b =
    plain c (cs ++ back) (Ok (cs, back)) (goes_on c h.0 h.1 (cs ++ back)) (λ e. omega (arith, h.0)) (λ e. omega (arith, h.1)) (plain-figures cs back h.2 b)

blanks-only : (blanks : List ℕ) → AreBlanks blanks → without_blanks blanks ≡ []
blanks-only [] h = refl
blanks-only (b ∷ blanks) h = rw h.0 (blanks-only blanks h.1)

blanks-gone : (blanks rest : List ℕ) → AreBlanks blanks → without_blanks (blanks ++ rest) ≡ without_blanks rest
blanks-gone [] rest h = refl
blanks-gone (b ∷ blanks) rest h = rw h.0 (blanks-gone blanks rest h.1)

-- A text that begins with a word of digits and dots, behind which only blanks stand.
module _ (c : ℕ) (cs back : List ℕ) (figures : AreFigures (c ∷ cs)) (blanks : AreBlanks back) where
  same : encode_utf8_all (c ∷ cs) ≡ c ∷ cs
  same = encodes-IsAscii (c ∷ cs) (ascii-figures (c ∷ cs) figures)

  line : (front : Bool) → LineToken front ((c ∷ cs) ++ back) (Ok (Some (word (c ∷ cs)), unread false back))
  line front =
      let given : Given = Ok (Some (word (c ∷ cs)), unread false back) in
      let bare : BareToken (c ∷ cs ++ back) given = (
        Ok (c ∷ cs, back),
        plain-figures (c ∷ cs) back figures blanks,
        sym (ap (λ lexeme. lexeme_given lexeme back) (bare c figures.0 figures.1 cs same)),
      ) in
      let at : WordToken c (cs ++ back) given = rw (other c figures.0 figures.1 40 (λ e. omega (arith, figures.0)), other c figures.0 figures.1 34 (λ e. omega (arith, figures.0))) bare in
      line-goes front (c ∷ cs ++ back) c (cs ++ back) given refl (sym (no_line_end c figures.0 figures.1 (cs ++ back))) at

  token : (front : Bool) → IsToken (unread front ((c ∷ cs) ++ back)) (Ok (Some (word (c ∷ cs)), unread false back))
  token true = rw (no_blank c figures.0 figures.1, no_comment c figures.0 figures.1 (cs ++ back)) (line true)
  token false = rw (no_blank c figures.0 figures.1, no_comment c figures.0 figures.1 (cs ++ back)) (line false)

token-end : (back : List ℕ) → AreBlanks back → IsToken (unread false back) (Ok (None, unread false []))
token-end back blanks = rw (blanks-only back blanks) refl

module _ (c : ℕ) (cs back : List ℕ) (figures : AreFigures (c ∷ cs)) (behind : AreBlanks back) where
  word-split : (front : Bool) → TextReading (unread front ((c ∷ cs) ++ back)) (Ok ((c ∷ cs) ∷ []))
  word-split front =
      let octets : encode_utf8_all (c ∷ cs) ≡ c ∷ cs = encodes-IsAscii (c ∷ cs) (ascii-figures (c ∷ cs) figures) in
      subst (λ (w : List ℕ). TextReading (unread front ((c ∷ cs) ++ back)) (Ok (w ∷ []))) octets
      (more (unread front ((c ∷ cs) ++ back)) (unread false back) (word (c ∷ cs)) (encode_utf8_all (c ∷ cs) ∷ []) (Ok [])
      (token c cs back figures behind front) refl (ends (unread false back) (unread false []) (token-end back behind)))

  text-split : (front : List ℕ) → AreBlanks front → TextReading (unread true (front ++ ((c ∷ cs) ++ back))) (Ok ((c ∷ cs) ∷ []))
  text-split [] before = word-split true
  text-split (b ∷ front) before =
      let text : List ℕ = (b ∷ front) ++ ((c ∷ cs) ++ back) in
      let gone : without_blanks text ≡ (c ∷ cs) ++ back = blanks-gone (b ∷ front) ((c ∷ cs) ++ back) before ∙ stays c figures.0 figures.1 (cs ++ back) in
      more (unread true text) (unread false ((c ∷ cs) ++ back)) blank [] (Ok ((c ∷ cs) ∷ []))
      (blank-token true text ((c ∷ cs) ++ back) refl (sym before.0) (sym gone)) refl (word-split false)

-- The words of a text whose only word has digits and dots alone.
lone-split : (text word : List ℕ) → words_of text ≡ word ∷ [] → AreFigures word → 0 < length word → IsSplitInto text (word ∷ [])
lone-split text [] only figures some = absurd (omega arith)
lone-split text (c ∷ cs) only figures some =
    let a = alone text (c ∷ cs) only in
    let ascii : IsAscii (a.front ++ ((c ∷ cs) ++ a.back)) =
    IsAscii-append a.front ((c ∷ cs) ++ a.back) (ascii-blanks a.front a.before)
    (IsAscii-append (c ∷ cs) a.back (ascii-figures (c ∷ cs) figures) (ascii-blanks a.back a.behind)) in
    let characters : a.front ++ ((c ∷ cs) ++ a.back) ≡ chars text = sym (chars-IsAscii (a.front ++ ((c ∷ cs) ++ a.back)) ascii) ∙ ap chars (sym a.parts) in
    subst (λ (t : List ℕ). TextReading (unread true t) (Ok ((c ∷ cs) ∷ []))) characters (text-split c cs a.back figures a.behind a.front a.before)

-- The words of a text whose only word writes an address.
pub address-split : (text word : List ℕ) (address : Ipv4Addr) → words_of text ≡ word ∷ [] → IsIpv4Text word address → IsSplitInto text (word ∷ [])
address-split text written address only is =
    let figures : AreFigures written = subst AreFigures (sym is.spelled) (figures-dotted is.a is.b is.c is.d is.fit) in
    let some : 0 < length written = omega (arith, ap length is.spelled, length-append (decimal is.a ++ codes "." ++ decimal is.b ++ codes "." ++ decimal is.c ++ codes ".") (decimal is.d), decimal_nonempty is.d (omega (arith, is.fit.3))) in
    lone-split text written only figures some
