use Rattle.std.proofs.Common.{◌≡◌, ◌≢◌, ℕ, ◌<◌, ◌^◌, List, get_or, true, sym, subst, rules}
use Rattle.std.specs.Prelude.{Result, Ok, Err}
use Rattle.std.specs.Str.{all_ascii_digits}
use Rattle.std.specs.Str.Parse.{digits_value, ParsesUnsigned}
use Rattle.std.proofs.lemmas.Str.Parse.{IsNumeralModel, numerals_by_value, parse_plain}
use Rattle.authority_load.specs.ZoneText.{IsNumberText}
use Rattle.authority_load.proofs.number.parse_digits.Goals as goal

digits_model : IsNumeralModel (λ ds. all_ascii_digits ds ≡ true) (digits_value 10)
digits_model = numerals_by_value _ (search rules)

-- What `parse` reads from a text without a sign, and what it refuses.
number-read : (n : ℕ) (text : List ℕ) → ParsesUnsigned {E = Unit {0}} 64 10 text (Ok n) → get_or text 0 0 ≢ 43 → IsNumberText 64 text n
number-read n text h plain =
    let r : Result ℕ (Unit {0}) = Ok n in
    let p = parse_plain digits_model 64 text r h plain in
    (record { some = p.0.1; all = p.0.0 }, sym p.1, subst (λ (k : ℕ). k < 2 ^ 64) (sym p.1) p.0.2)

number-refused : {E : Type 0} → (text : List ℕ) (e : E) → ParsesUnsigned 64 10 text (Err e) → get_or text 0 0 ≢ 43 → (n : ℕ) → IsNumberText 64 text n → ⊥
number-refused text e h plain n is =
    let p = parse_plain digits_model 64 text (Err e) h plain in
    p (is.0.all, is.0.some, subst (λ (k : ℕ). k < 2 ^ 64) (sym is.1) is.2)

pub returns-in-Ok-clause-number : goal.returns-in-Ok-clause-number
returns-in-Ok-clause-number c = number-read c.in-Ok.number c.args.digits.now c.in-Ok.ensures.value.0 (search rules)

pub returns-in-Err-clause-number : goal.returns-in-Err-clause-number
returns-in-Err-clause-number c = number-refused c.args.digits.now c.in-Err.field-0 c.in-Err.ensures.value.0 (search rules)
