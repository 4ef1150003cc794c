-- Every number has a code that stands for it.
use Rattle.std.proofs.Common.{◌≡◌, ℕ, ◌==◌, Bool, true, false, List, [], ◌∷◌, Some, refl}
use Rattle.std.specs.Prelude.{cond, find, unwrap_or}
use Rattle.drd_fields.proofs.EqualityLaws.{from_test}
use Rattle.drd_opt.specs.Codes.{edns_code_number, edns_code_of, named_edns_codes}
use Rattle.drd_opt.specs.declared.code.EdnsCode.{EdnsCode}
use Rattle.drd_opt.specs.declared.code.EdnsCode.TheVariants.{Unknown}

-- A code that is found by a number has it, and so has the one that stands for the number where none is found.
found_number : (number : ℕ) (codes : List EdnsCode) → edns_code_number (unwrap_or (find (λ code. edns_code_number code == number) codes) (Unknown number)) ≡ number
found_number number [] = refl
found_number number (code ∷ codes) = by (edns_code_number code == number) refl (found_number number codes)
  where
    by : (same : Bool) → (edns_code_number code == number) ≡ same → edns_code_number (unwrap_or (find (λ c. edns_code_number c == number) codes) (Unknown number)) ≡ number → edns_code_number (unwrap_or (cond same (Some code) (find (λ c. edns_code_number c == number) codes)) (Unknown number)) ≡ number
    by true is later = from_test (edns_code_number code) number is
    by false is later = later

-- The code that stands for a number has it.
pub number_of_code : (number : ℕ) → edns_code_number (edns_code_of number) ≡ number
number_of_code number = found_number number named_edns_codes
