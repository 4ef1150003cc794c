-- The word of a parameter (RFC 9460 2.1), and the text of configurations in it.
use Rattle.std.specs.Prelude.{ℕ, ◌≡◌, ◌≢◌, ◌==◌, Bool, List, [], ◌∷◌, ◌++◌}
use Rattle.std.proofs.Common.{◌⊎◌}
use lib.Chars.{codes}
use Rattle.drd_words.specs.dnw_codes.Ascii.{double_quote, equals_sign}
use Rattle.drd_words.specs.dnw_codes.declared.error.ParseError.{ParseError}
use Rattle.drd_words.specs.Refusals.{IsMissing, RefusesBase64}

abbrev pub is_equals : ℕ → Bool
is_equals c = c == equals_sign

-- What stands between two quotes; a text that stands between none is itself.
abbrev pub IsUnquoted : List ℕ → List ℕ → Type 0
IsUnquoted text inner =
    (text ≡ double_quote ∷ (inner ++ double_quote ∷ []))
    ⊎ ((text ≡ inner) × ((between : List ℕ) → text ≢ double_quote ∷ (between ++ double_quote ∷ [])))

-- No text, and one that is no base64.
abbrev pub RefusesEch : List ℕ → ParseError → Type 0
RefusesEch [] e = IsMissing (codes "base64") e
RefusesEch text e = RefusesBase64 text e
