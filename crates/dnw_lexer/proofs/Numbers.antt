-- Digits at a text's front, and the groups of a time to live.
use Rattle.std.proofs.Common.{◌≡◌, ◌∙◌, ℕ, ◌+◌, ◌*◌, ◌<◌, ◌≤◌, zero, suc, ◌++◌, ◌&&◌, Bool, true, false, List, [], ◌∷◌, length, length-append, refl, sym, ap, subst, arith}
use Rattle.std.specs.Prelude.{Option, Some, None, MatchOption, ◌==◌}
use Rattle.std.specs.Option.{SomeIff}
use Rattle.std.specs.Char.{is_ascii_digit, digit_value}
use Rattle.std.specs.Str.{all_ascii_digits}
use Rattle.std.specs.Str.Parse.{digits_value, digits_value_after}
use Rattle.std.proofs.lemmas.Bool.Decides.{nat_tests}
use Rattle.std.proofs.lemmas.List.{append_assoc, append-nil}
use Rattle.dnw_lexer.specs.Ttl.{unit_seconds, NoDigit, DigitsAt, NumberAt, TtlText, last, unit, more}

and-parts : (a b : Bool) → (a && b) ≡ true → (a ≡ true) × (b ≡ true)
and-parts true b e = (refl, e)
and-parts false b e = absurd (cc)

value-append : (n : ℕ) (xs ys : List ℕ) → digits_value_after 10 n (xs ++ ys) ≡ digits_value_after 10 (digits_value_after 10 n xs) ys
value-append n [] ys = refl
value-append n (x ∷ xs) ys = value-append (n * 10 + digit_value x) xs ys

value-grows : (n : ℕ) (xs : List ℕ) → n ≤ digits_value_after 10 n xs
value-grows n [] = omega arith
value-grows n (x ∷ xs) = omega (arith, value-grows (n * 10 + digit_value x) xs)

digits-append : (xs ys : List ℕ) → all_ascii_digits xs ≡ true → all_ascii_digits ys ≡ true → all_ascii_digits (xs ++ ys) ≡ true
digits-append [] ys a b = b
digits-append (x ∷ xs) ys a b =
    let parts = and-parts (is_ascii_digit x) (all_ascii_digits xs) a in
    rw parts.0 (digits-append xs ys parts.1 b)

-- Digits that all stand at a text's front are the first of those up to the first other octet.
pub digits-first : (ds rest es behind : List ℕ) → ds ++ rest ≡ es ++ behind → all_ascii_digits ds ≡ true → NoDigit behind → (later : List ℕ) × (es ≡ ds ++ later) × (rest ≡ later ++ behind)
digits-first [] rest es behind e a none = (es, refl, e)
digits-first (d ∷ ds) rest [] [] e a none = absurd (cc)
digits-first (d ∷ ds) rest [] (c ∷ behind) e a none =
    let parts = and-parts (is_ascii_digit d) (all_ascii_digits ds) a in
    let same : d ≡ c = cc in
    absurd (cc)
digits-first (d ∷ ds) rest (f ∷ es) behind e a none =
    let parts = and-parts (is_ascii_digit d) (all_ascii_digits ds) a in
    let first : f ≡ d = cc in
    let tails : ds ++ rest ≡ es ++ behind = cc in
    let found = digits-first ds rest es behind tails parts.1 none in
    (found.0, ap (λ x. x ∷ es) first ∙ ap (λ xs. d ∷ xs) found.1, found.2)

-- Digits with no digit behind them are one list only.
pub digits-same : (ds rest es behind : List ℕ) → ds ++ rest ≡ es ++ behind → all_ascii_digits ds ≡ true → all_ascii_digits es ≡ true → NoDigit rest → NoDigit behind → (es ≡ ds) × (behind ≡ rest)
digits-same [] [] [] [] e a b n m = (refl, refl)
digits-same [] [] [] (c ∷ behind) e a b n m = absurd (cc)
digits-same [] (c ∷ rest) [] behind e a b n m = (refl, sym e)
digits-same [] [] (f ∷ es) behind e a b n m = absurd (cc)
digits-same [] (c ∷ rest) (f ∷ es) behind e a b n m =
    let parts = and-parts (is_ascii_digit f) (all_ascii_digits es) b in
    let same : c ≡ f = cc in
    absurd (cc)
digits-same (d ∷ ds) rest [] [] e a b n m = absurd (cc)
digits-same (d ∷ ds) rest [] (c ∷ behind) e a b n m =
    let parts = and-parts (is_ascii_digit d) (all_ascii_digits ds) a in
    let same : d ≡ c = cc in
    absurd (cc)
digits-same (d ∷ ds) rest (f ∷ es) behind e a b n m =
    let left = and-parts (is_ascii_digit d) (all_ascii_digits ds) a in
    let right = and-parts (is_ascii_digit f) (all_ascii_digits es) b in
    let first : f ≡ d = cc in
    let tails : ds ++ rest ≡ es ++ behind = cc in
    let found = digits-same ds rest es behind tails left.1 right.1 n m in
    (ap (λ x. x ∷ es) first ∙ ap (λ xs. d ∷ xs) found.0, found.1)

-- The digits that were read, and what is left of the text.
pub record DigitsSoFar (text : List ℕ) (value : ℕ) (rest : List ℕ) : Type 0 where
  pub digits : List ℕ
  pub all : all_ascii_digits digits ≡ true
  pub parts : text ≡ digits ++ rest
  pub is : digits_value 10 digits ≡ value

module _ (text : List ℕ) where
  pub digits-start : DigitsSoFar text 0 text
  digits-start = record { digits = []; all = refl; parts = refl; is = refl }

  pub digits-more : (value : ℕ) (rest : List ℕ) (d : ℕ) (behind : List ℕ) (n : ℕ) → DigitsSoFar text value rest → rest ≡ d ∷ behind → is_ascii_digit d ≡ true → value * 10 + digit_value d ≡ n → DigitsSoFar text n behind
  digits-more value rest d behind n h e digit is =
      record {
        digits = h.digits ++ d ∷ [];
        all = digits-append h.digits (d ∷ []) h.all (rw digit refl);
        parts = h.parts ∙ ap (λ xs. h.digits ++ xs) e ∙ sym (append_assoc h.digits (d ∷ []) behind);
        is = value-append 0 h.digits (d ∷ []) ∙ ap (λ v. v * 10 + digit_value d) h.is ∙ is;
      }

  pub digits-done : (value : ℕ) (rest : List ℕ) → DigitsSoFar text value rest → NoDigit rest → DigitsAt text value rest
  digits-done value rest h none =
      record { digits = h.digits; all = h.all; parts = h.parts; value = h.is; whole = none }

  pub number-done : (value : ℕ) (rest : List ℕ) → DigitsAt text value rest → length rest < length text → NumberAt text value rest
  number-done value rest h shorter =
      record {
        digits = h.digits;
        number = record { some = omega (arith, ap length h.parts, length-append h.digits rest, shorter); all = h.all };
        parts = h.parts;
        value = h.value;
        whole = h.whole;
      }

  pub number-none : (value : ℕ) (rest : List ℕ) → DigitsAt text value rest → length text ≤ length rest → (n : ℕ) (behind : List ℕ) → NumberAt text n behind → ⊥
  number-none value rest h long n behind other =
      let same = digits-same h.digits rest other.digits behind (sym h.parts ∙ other.parts) h.all other.number.all h.whole other.whole in
      omega (arith, ap length h.parts, length-append h.digits rest, ap length same.0, other.number.some, long)

  pub digits-over : (value : ℕ) (rest : List ℕ) (d : ℕ) (later : List ℕ) (most : ℕ) → DigitsSoFar text value rest → rest ≡ d ∷ later → is_ascii_digit d ≡ true → (value * 10 + digit_value d < most → ⊥) → (n : ℕ) (behind : List ℕ) → NumberAt text n behind → n < most → ⊥
  digits-over value rest d later most h e digit over n behind other small =
      let more = digits-more value rest d later (value * 10 + digit_value d) h e digit refl in
      let first = digits-first more.digits later other.digits behind (sym more.parts ∙ other.parts) more.all other.whole in
      let value-is : digits_value 10 other.digits ≡ digits_value_after 10 (value * 10 + digit_value d) first.0 =
      ap (digits_value_after 10 0) first.1 ∙ value-append 0 more.digits first.0 ∙ ap (λ v. digits_value_after 10 v first.0) more.is in
      over (omega (arith, value-is, value-grows (value * 10 + digit_value d) first.0, other.value, small))

pub no_digit-empty : (xs : List ℕ) → length xs ≡ 0 → NoDigit xs
no_digit-empty [] e = tt
no_digit-empty (x ∷ xs) e = absurd (omega arith)

pub empty-is : (xs : List ℕ) → length xs ≡ 0 → xs ≡ []
empty-is [] e = refl
empty-is (x ∷ xs) e = absurd (omega arith)

pub zero-test : (n : ℕ) → true ≡ (n == 0) → n ≡ 0
zero-test n e = grind (arith, nat_tests)

pub some-test : (n : ℕ) → false ≡ (n == 0) → 0 < n
some-test n e = grind (arith, nat_tests)

unit-no_digit : (c s : ℕ) → unit_seconds c ≡ Some s → is_ascii_digit c ≡ false
unit-no_digit c s e = grind (arith, nat_tests)

unit-some : (c s : ℕ) → unit_seconds c ≡ Some s → 1 ≤ s
unit-some c s e = grind (arith, nat_tests)

-- The seconds of a text that begins with a number, by what stands behind it.
pub data After (v : ℕ) : List ℕ → ℕ → Type 0 where
  alone : After v [] v
  with_unit : (c s : ℕ) → unit_seconds c ≡ Some s → After v (c ∷ []) (v * s)
  with_more : (c s : ℕ) (rest : List ℕ) (n : ℕ) → unit_seconds c ≡ Some s → TtlText rest n → After v (c ∷ rest) (v * s + n)

-- A time to live begins with a number.
pub ttl-front : (text : List ℕ) (m : ℕ) → TtlText text m → (n : ℕ) × (behind : List ℕ) × NumberAt text n behind × After n behind m
ttl-front text m (last ds is) =
    (digits_value 10 ds, [], record { digits = ds; number = is; parts = sym (append-nil ds); value = refl; whole = tt }, alone)
ttl-front text m (unit ds c s is e) =
    (digits_value 10 ds, c ∷ [], record { digits = ds; number = is; parts = refl; value = refl; whole = unit-no_digit c s e }, with_unit c s e)
ttl-front text m (more ds c s rest n is e t) =
    (digits_value 10 ds, c ∷ rest, record { digits = ds; number = is; parts = refl; value = refl; whole = unit-no_digit c s e }, with_more c s rest n e t)

-- It is one number only.
pub number-one : (text : List ℕ) (n m : ℕ) (behind later : List ℕ) → NumberAt text n behind → NumberAt text m later → (m ≡ n) × (later ≡ behind)
number-one text n m behind later a b =
    let same = digits-same a.digits behind b.digits later (sym a.parts ∙ b.parts) a.number.all b.number.all a.whole b.whole in
    (sym b.value ∙ ap (digits_value 10) same.0 ∙ a.value, same.1)

pub ttl-after : (text : List ℕ) (n : ℕ) (behind : List ℕ) (m : ℕ) → NumberAt text n behind → TtlText text m → After n behind m
ttl-after text n behind m at t =
    let found = ttl-front text m t in
    let same = number-one text n found.0 behind found.1 at found.2 in
    subst (λ (b : List ℕ). After n b m) same.1 (subst (λ (v : ℕ). After v found.1 m) same.0 found.3)

pub after-ttl : (text : List ℕ) (n : ℕ) (behind : List ℕ) (m : ℕ) → NumberAt text n behind → After n behind m → TtlText text m
after-ttl text n behind m at h = rw at.parts (by_after behind m h)
  where
    by_after : (b : List ℕ) (k : ℕ) → After n b k → TtlText (at.digits ++ b) k
    by_after b k alone = subst (λ (t : List ℕ). TtlText t k) (sym (append-nil at.digits)) (subst (TtlText at.digits) at.value (last at.digits at.number))
    by_after b k (with_unit c s e) = subst (λ (v : ℕ). TtlText (at.digits ++ c ∷ []) (v * s)) at.value (unit at.digits c s at.number e)
    by_after b k (with_more c s rest l e t) = subst (λ (v : ℕ). TtlText (at.digits ++ c ∷ rest) (v * s + l)) at.value (more at.digits c s rest l at.number e t)

grows : (v s : ℕ) → 1 ≤ s → v ≤ v * s
grows v zero h = absurd (omega arith)
grows v (suc s) h = omega (arith, times-suc v s)
  where
    times-suc : (a b : ℕ) → a * suc b ≡ a + a * b
    times-suc a b = omega arith

-- What was read of a time to live, and what is left of its text.
pub record TtlSoFar (text : List ℕ) (seconds : ℕ) (rest : List ℕ) : Type 0 where
  pub sound : (n : ℕ) → TtlText rest n → TtlText text (seconds + n)
  pub only : (n : ℕ) → TtlText text n → (m : ℕ) × (n ≡ seconds + m) × TtlText rest m

plus-assoc : (a b c : ℕ) → a + (b + c) ≡ a + b + c
plus-assoc a b c = omega arith

module _ (text : List ℕ) where
  pub ttl-start : TtlSoFar text 0 text
  ttl-start = record {
    sound = λ n t. subst (TtlText text) (zero-plus n) t;
    only = λ n t. (n, zero-plus n, t);
  }
    where
      zero-plus : (n : ℕ) → n ≡ 0 + n
      zero-plus n = omega arith

  -- The number is the last, without a unit.
  pub ttl-last : (seconds : ℕ) (rest : List ℕ) (n : ℕ) (behind : List ℕ) → TtlSoFar text seconds rest → NumberAt rest n behind → behind ≡ [] → TtlText text (seconds + n * 1)
  ttl-last seconds rest n behind h at none =
      subst (λ (k : ℕ). TtlText text (seconds + k)) (times-one n)
      (h.sound n (after-ttl rest n behind n at (subst (λ (b : List ℕ). After n b n) (sym none) alone)))
    where
      times-one : (k : ℕ) → k ≡ k * 1
      times-one k = omega arith

  -- A unit is the last.
  pub ttl-unit : (seconds : ℕ) (rest : List ℕ) (n : ℕ) (behind : List ℕ) (c s : ℕ) → TtlSoFar text seconds rest → NumberAt rest n behind → behind ≡ c ∷ [] → unit_seconds c ≡ Some s → TtlText text (seconds + n * s)
  ttl-unit seconds rest n behind c s h at parts e =
      h.sound (n * s) (after-ttl rest n behind (n * s) at (subst (λ (b : List ℕ). After n b (n * s)) (sym parts) (with_unit c s e)))

  -- Another group follows.
  pub ttl-more : (seconds : ℕ) (rest : List ℕ) (n : ℕ) (behind : List ℕ) (c s : ℕ) (later : List ℕ) (total : ℕ) → TtlSoFar text seconds rest → NumberAt rest n behind → behind ≡ c ∷ later → unit_seconds c ≡ Some s → total ≡ seconds + n * s → 0 < length later → TtlSoFar text total later
  ttl-more seconds rest n behind c s later total h at parts e is some =
      record {
        sound = λ m t. subst (TtlText text) (plus-assoc seconds (n * s) m ∙ ap (λ k. k + m) (sym is))
            (h.sound (n * s + m) (after-ttl rest n behind (n * s + m) at (subst (λ (b : List ℕ). After n b (n * s + m)) (sym parts) (with_more c s later m e t))));
        only = λ m t.
            let old = h.only m t in
            let found = by_after behind old.0 (ttl-after rest n behind old.0 at old.2) parts in
            (found.0, old.1 ∙ ap (λ k. seconds + k) found.1 ∙ plus-assoc seconds (n * s) found.0 ∙ ap (λ k. k + found.0) (sym is), found.2);
      }
    where
      some-one : (a b : Option ℕ) (x y : ℕ) → a ≡ b → a ≡ Some x → b ≡ Some y → x ≡ y
      some-one a b x y e f g = cc

      by_after : (b : List ℕ) (k : ℕ) → After n b k → b ≡ c ∷ later → (m : ℕ) × (k ≡ n * s + m) × TtlText later m
      by_after b k alone p = absurd (cc)
      by_after b k (with_unit d r f) p = let none : later ≡ [] = cc in absurd (omega (arith, some, ap length none))
      by_after b k (with_more d r tail l f t) p =
          let first : d ≡ c = cc in
          let same : tail ≡ later = cc in
          let units : r ≡ s = some-one (unit_seconds d) (unit_seconds c) r s (ap unit_seconds first) f e in
          (l, ap (λ x. n * x + l) units, subst (λ (x : List ℕ). TtlText x l) same t)

  -- No number stands next.
  pub ttl-none : (seconds : ℕ) (rest : List ℕ) (most : ℕ) → TtlSoFar text seconds rest → ((n : ℕ) (behind : List ℕ) → NumberAt rest n behind → n < most → ⊥) → (m : ℕ) → TtlText text m → m < most → ⊥
  ttl-none seconds rest most h none m t small =
      let old = h.only m t in
      let front = ttl-front rest old.0 old.2 in
      none front.0 front.1 front.2 (omega (arith, at_most front.0 front.1 old.0 front.3, old.1, small))
    where
      at_most : (v : ℕ) (b : List ℕ) (k : ℕ) → After v b k → v ≤ k
      at_most v b k alone = omega arith
      at_most v b k (with_unit c s e) = grows v s (unit-some c s e)
      at_most v b k (with_more c s rest l e u) = omega (arith, grows v s (unit-some c s e))

  -- The last number passes what 32 bits hold.
  pub ttl-over_last : (seconds : ℕ) (rest : List ℕ) (n : ℕ) (behind : List ℕ) (most : ℕ) → TtlSoFar text seconds rest → NumberAt rest n behind → behind ≡ [] → (seconds + n * 1 < most → ⊥) → (m : ℕ) → TtlText text m → m < most → ⊥
  ttl-over_last seconds rest n behind most h at none over m t small =
      let old = h.only m t in
      let v : old.0 ≡ n = by_after behind old.0 (ttl-after rest n behind old.0 at old.2) none in
      over (omega (arith, old.1, v, small))
    where
      by_after : (b : List ℕ) (k : ℕ) → After n b k → b ≡ [] → k ≡ n
      by_after b k alone p = refl
      by_after b k (with_unit c s e) p = absurd (cc)
      by_after b k (with_more c s tail l e u) p = absurd (cc)

  -- A group passes it.
  pub ttl-over : (seconds : ℕ) (rest : List ℕ) (n : ℕ) (behind : List ℕ) (c s : ℕ) (later : List ℕ) (most : ℕ) → TtlSoFar text seconds rest → NumberAt rest n behind → behind ≡ c ∷ later → unit_seconds c ≡ Some s → (seconds + n * s < most → ⊥) → (m : ℕ) → TtlText text m → m < most → ⊥
  ttl-over seconds rest n behind c s later most h at parts e over m t small =
      let old = h.only m t in
      over (omega (arith, old.1, by_after behind old.0 (ttl-after rest n behind old.0 at old.2) parts, small))
    where
      some-one : (a b : Option ℕ) (x y : ℕ) → a ≡ b → a ≡ Some x → b ≡ Some y → x ≡ y
      some-one a b x y e f g = cc

      by_after : (b : List ℕ) (k : ℕ) → After n b k → b ≡ c ∷ later → n * s ≤ k
      by_after b k alone p = absurd (cc)
      by_after b k (with_unit d r f) p =
          let first : d ≡ c = cc in
          let units : r ≡ s = some-one (unit_seconds d) (unit_seconds c) r s (ap unit_seconds first) f e in
          omega (arith, ap (λ x. n * x) units)
      by_after b k (with_more d r tail l f u) p =
          let first : d ≡ c = cc in
          let units : r ≡ s = some-one (unit_seconds d) (unit_seconds c) r s (ap unit_seconds first) f e in
          omega (arith, ap (λ x. n * x) units)

  -- What stands behind the number is no unit.
  pub ttl-no_unit : (seconds : ℕ) (rest : List ℕ) (n : ℕ) (behind : List ℕ) (c : ℕ) (later : List ℕ) → TtlSoFar text seconds rest → NumberAt rest n behind → behind ≡ c ∷ later → unit_seconds c ≡ None → (m : ℕ) → TtlText text m → ⊥
  ttl-no_unit seconds rest n behind c later h at parts none m t =
      let old = h.only m t in
      by_after behind old.0 (ttl-after rest n behind old.0 at old.2) parts
    where
      no-unit : (a b : Option ℕ) (x : ℕ) → a ≡ b → a ≡ Some x → b ≡ None → ⊥
      no-unit a b x e f g = absurd (cc)

      by_after : (b : List ℕ) (k : ℕ) → After n b k → b ≡ c ∷ later → ⊥
      by_after b k alone p = absurd (cc)
      by_after b k (with_unit d r f) p = let first : d ≡ c = cc in no-unit (unit_seconds d) (unit_seconds c) r (ap unit_seconds first) f none
      by_after b k (with_more d r tail l f u) p = let first : d ≡ c = cc in no-unit (unit_seconds d) (unit_seconds c) r (ap unit_seconds first) f none

  pub ttl-ended : (r : Option ℕ) (seconds : ℕ) (rest : List ℕ) (n : ℕ) (behind : List ℕ) (most : ℕ) → TtlSoFar text seconds rest → NumberAt rest n behind → behind ≡ [] → SomeIff r (seconds + n * 1 < most) (seconds + n * 1) → MatchOption r ((m : ℕ) → TtlText text m → m < most → ⊥) (λ m. TtlText text m)
  ttl-ended None seconds rest n behind most h at none is = ttl-over_last seconds rest n behind most h at none is
  ttl-ended (Some x) seconds rest n behind most h at none is = subst (TtlText text) (sym is.1) (ttl-last seconds rest n behind h at none)
