-- Numbers and times of words.
use Rattle.std.proofs.Common.{◌≡◌, ◌≢◌, ◌∙◌, ℕ, ◌+◌, ◌*◌, ◌<◌, ◌≤◌, ◌^◌, zero, suc, List, [], ◌∷◌, length, length-append, get_or, true, refl, sym, ap, subst, rules, arith}
use Rattle.std.specs.Prelude.{Result, Ok, Err, Option, Some}
use Rattle.std.specs.Str.{all_ascii_digits}
use Rattle.std.specs.Str.Parse.{digits_value, ParsesUnsigned}
use Rattle.std.proofs.lemmas.Str.Parse.{IsNumeralModel, numerals_by_value, parse_plain}
use Rattle.dnw_lexer.specs.Ttl.{NumberAt, TtlText, unit_seconds}
use Rattle.dnw_lexer.proofs.Numbers.{After, alone, with_unit, with_more, ttl-front, ttl-after, empty-is}
use Rattle.drd_words.specs.Word.{IsNumberWord}

digits_model : IsNumeralModel (λ ds. all_ascii_digits ds ≡ true) (digits_value 10)
digits_model = numerals_by_value _ (search rules)

-- What `parse` reads from a text without a sign.
pub number-read : (bits n : ℕ) (word : List ℕ) → ParsesUnsigned {E = Unit {0}} bits 10 word (Ok n) → get_or word 0 0 ≢ 43 → IsNumberWord bits n word
number-read bits n word h plain =
    let r : Result ℕ (Unit {0}) = Ok n in
    let p = parse_plain digits_model bits word r h plain in
    (record { some = p.0.1; all = p.0.0 }, sym p.1, subst (λ (k : ℕ). k < 2 ^ bits) (sym p.1) p.0.2)

-- What it refuses is no number.
pub number-refused : {E : Type 0} → (bits : ℕ) (word : List ℕ) (e : E) → ParsesUnsigned bits 10 word (Err e) → get_or word 0 0 ≢ 43 → (n : ℕ) → IsNumberWord bits n word → ⊥
number-refused bits word e h plain n is =
    let p = parse_plain digits_model bits word (Err e) h plain in
    p (is.0.all, is.0.some, subst (λ (k : ℕ). k < 2 ^ bits) (sym is.1) is.2)

some-one : (a b : Option ℕ) (x y : ℕ) → a ≡ b → a ≡ Some x → b ≡ Some y → x ≡ y
some-one a b x y e f g = cc

shorter : (text : List ℕ) (v c : ℕ) (rest : List ℕ) → NumberAt text v (c ∷ rest) → length rest < length text
shorter text v c rest at = omega (arith, ap length at.parts, length-append at.digits (c ∷ rest))

-- The empty text writes none.
no_time : (text : List ℕ) (n : ℕ) → text ≡ [] → TtlText text n → ⊥
no_time text n e t =
    let front = ttl-front text n t in
    let at = front.2 in
    omega (arith, at.number.some, ap length (sym at.parts ∙ e), length-append at.digits front.1)

-- What stands behind a number makes one time, where what stands behind its unit does.
after-one : (v : ℕ) (b : List ℕ) (n m : ℕ) → ((c : ℕ) (rest : List ℕ) (k l : ℕ) → b ≡ c ∷ rest → TtlText rest k → TtlText rest l → l ≡ k) → After v b n → After v b m → m ≡ n
after-one v b n m one alone alone = refl
after-one v b n m one (with_unit c s e) (with_unit _ s' e') = ap (λ k. v * k) (some-one (unit_seconds c) (unit_seconds c) s' s refl e' e)
after-one v b n m one (with_unit c s e) (with_more _ s' _ k e' t) = absurd (no_time [] k refl t)
after-one v b n m one (with_more c s _ k e t) (with_unit _ s' e') = absurd (no_time [] k refl t)
after-one v b n m one (with_more c s rest k e t) (with_more _ s' _ l e' u) =
    ap (λ x. v * x + l) (some-one (unit_seconds c) (unit_seconds c) s' s refl e' e) ∙ ap (λ x. v * s + x) (one c rest k l refl t u)

-- A text writes one time.
ttl-within : (most : ℕ) (text : List ℕ) (n m : ℕ) → length text ≤ most → TtlText text n → TtlText text m → m ≡ n
ttl-within zero text n m small t u =
    let none : length text ≡ 0 = omega (arith, small) in
    absurd (no_time text n (empty-is text none) t)
ttl-within (suc most) text n m small t u =
    let front = ttl-front text n t in
    after-one front.0 front.1 n m
    (λ c rest k l e a b. ttl-within most rest k l (omega (arith, small, shorter text front.0 c rest (subst (NumberAt text front.0) e front.2))) a b)
    front.3 (ttl-after text front.0 front.1 m front.2 u)

pub ttl-one : (text : List ℕ) (n m : ℕ) → TtlText text n → TtlText text m → m ≡ n
ttl-one text n m t u = ttl-within (length text) text n m (omega arith) t u
