-- Which token stands where.
use Rattle.std.proofs.Common.{◌≡◌, ℕ, Bool, true, false, List, ◌∷◌, refl, sym, ap, subst, ◌⊎◌, inl, inr}
use Rattle.std.specs.Prelude.{Ok, Err, Option, Some, MatchBool, nat_eq}
use lib.Chars.{codes}
use Rattle.std.specs.List.{starts_with}
use Rattle.std.specs.Str.{bytes_eq, encode_utf8_all}
use Rattle.dnw_codes.specs.declared.error.LexerError.{LexerError}
use Rattle.dnw_lexer.specs.Lexer.{at_line_end, behind_line_end, begins_blank, without_blanks, StringText, Lexeme, blank, end_of_line, word, bare_lexeme, Given, Unread, unread, ListToken, WordToken, LineToken, IsToken}
use Rattle.dnw_lexer.proofs.Unique.{is_token-one}

pub bare-word : (o w : List ℕ) → o ≡ encode_utf8_all w → bytes_eq o (codes "@") ≡ false → bytes_eq o (codes "$INCLUDE") ≡ false → bytes_eq o (codes "$ORIGIN") ≡ false → bytes_eq o (codes "$TTL") ≡ false → starts_with nat_eq o (codes "$") ≡ false → bare_lexeme w ≡ Ok (word w)
bare-word o w e a b c d f = rw (← e, a, b, c, d, f) refl

pub string-token : (c : ℕ) (rest w behind : List ℕ) → c ≡ 34 → StringText rest (Ok (w, behind)) → WordToken c rest (Ok (Some (word w), unread false behind))
string-token c rest w behind e p =
    subst (λ (x : ℕ). WordToken x rest (Ok (Some (word w), unread false behind))) (sym e) (Ok (w, behind), p, refl)

pub list-token : (c : ℕ) (rest : List ℕ) (g : Given) → c ≡ 40 → ListToken rest g → WordToken c rest g
list-token c rest g e p = subst (λ (x : ℕ). WordToken x rest g) (sym e) p

pub line-ends : (front : Bool) (text : List ℕ) (c : ℕ) (rest behind : List ℕ) → text ≡ c ∷ rest → true ≡ at_line_end (c ∷ rest) → behind ≡ behind_line_end (c ∷ rest) → LineToken front text (Ok (Some end_of_line, unread true behind))
line-ends front text c rest behind e t b =
    let given : Given = Ok (Some end_of_line, unread true behind) in
    subst (λ (x : List ℕ). LineToken front x given) (sym e)
    (subst (λ (s : Bool). MatchBool s (given ≡ Ok (Some end_of_line, unread true (behind_line_end (c ∷ rest)))) (WordToken c rest given)) t
    (ap (λ (x : List ℕ). Ok (Some end_of_line, unread true x)) b))

pub line-goes : (front : Bool) (text : List ℕ) (c : ℕ) (rest : List ℕ) (g : Given) → text ≡ c ∷ rest → false ≡ at_line_end (c ∷ rest) → WordToken c rest g → LineToken front text g
line-goes front text c rest g e t p =
    subst (λ (x : List ℕ). LineToken front x g) (sym e)
    (subst (λ (s : Bool). MatchBool s (g ≡ Ok (Some end_of_line, unread true (behind_line_end (c ∷ rest)))) (WordToken c rest g)) t p)

pub blank-token : (front : Bool) (text behind : List ℕ) → front ≡ true → true ≡ begins_blank text → behind ≡ without_blanks text → IsToken (unread front text) (Ok (Some blank, unread false behind))
blank-token front text behind f t b = rw (f, ← t) (ap (λ (x : List ℕ). Ok (Some blank, unread false x)) b)

pub only-error : {M : Type 0} (left given-left : Unread) (given : Given) (e : LexerError) → left ≡ given-left → IsToken given-left given → M ⊎ IsToken left (Err e) → M ⊎ (given ≡ Err e)
only-error left given-left given e same p (inl m) = inl m
only-error left given-left given e same p (inr h) =
    inr (is_token-one given-left given (Err e) p (subst (λ (u : Unread). IsToken u (Err e)) same h))

pub only-token : (left given-left : Unread) (given : Given) (t : Option Lexeme) (behind : Unread) → left ≡ given-left → IsToken given-left given → IsToken left (Ok (t, behind)) → given ≡ Ok (t, behind)
only-token left given-left given t behind same p h =
    is_token-one given-left given (Ok (t, behind)) p (subst (λ (u : Unread). IsToken u (Ok (t, behind))) same h)
