-- The first character of a text.
use Rattle.std.proofs.Common.{◌≡◌, ◌∙◌, ℕ, List, [], ◌∷◌, ◌++◌, length, length-append, ap, sym, true, false, arith}
use Rattle.std.specs.Prelude.{◌&&◌, Bool, chars}
use Rattle.std.specs.Char.{encode_utf8}
use Rattle.std.specs.Str.{IsUtf8, encode_utf8_all, all_scalars}
use Rattle.std.proofs.lemmas.Str.{chars-encodes, encode_same, length-encode, len_utf8_bounds}

later : (a b : Bool) → (a && b) ≡ true → b ≡ true
later true b e = e
later false b e = absurd (cc)

chosen : (cs text behind : List ℕ) (c : ℕ) → all_scalars cs ≡ true → encode_utf8_all cs ≡ text → text ≡ encode_utf8 c ++ behind → chars text ≡ c ∷ chars behind
chosen [] text behind c scalars e is =
    let none : length (encode_utf8 c ++ behind) ≡ 0 = ap length (sym is ∙ sym e) in
    absurd (omega (arith, none, length-append (encode_utf8 c) behind, length-encode c, (len_utf8_bounds c).0))
chosen (d ∷ cs) text behind c scalars e is =
    let same = encode_same d c (encode_utf8_all cs) behind (e ∙ is) in
    ap chars (sym e) ∙ chars-encodes (d ∷ cs) scalars
    ∙ ap (λ x. x ∷ cs) same.0
    ∙ ap (λ xs. c ∷ xs) (sym (chars-encodes cs (later _ _ scalars)) ∙ ap chars same.1)

-- A text that begins with a character is that character, then the characters behind it.
pub first-char : (text behind : List ℕ) (c : ℕ) → IsUtf8 text → text ≡ encode_utf8 c ++ behind → chars text ≡ c ∷ chars behind
first-char text behind c utf8 is = chosen utf8.0 text behind c utf8.1.0 utf8.1.1 is
