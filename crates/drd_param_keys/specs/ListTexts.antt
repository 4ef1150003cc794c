-- Lists in texts: entries with commas between them (RFC 9460 2.1, appendix A.1).
use Rattle.std.specs.Prelude.{ℕ, ◌==◌, Bool, List, [], ◌∷◌, ◌++◌}
use Rattle.std.specs.List.{flat_map, slice_split}
use Rattle.drd_words.specs.dnw_codes.Ascii.{comma}
use Rattle.drd_words.specs.dnw_codes.declared.error.ParseError.{ParseError}
use Rattle.drd_words.specs.Refusals.{RefusesEach}
use Rattle.drd_words.specs.Words.{EachWord}

abbrev pub is_comma : ℕ → Bool
is_comma c = c == comma

-- Entries with commas between them, at least one. None has a comma in it.
abbrev pub IsListText : {T : Type 0} → (T → List ℕ → Type 0) → List T → List ℕ → Type 0
IsListText Written entries text = EachWord Written entries (slice_split is_comma text)

-- The first entry between commas that stands for none is refused.
abbrev pub RefusesList : {T : Type 0} → (T → List ℕ → Type 0) → (List ℕ → ParseError → Type 0)
    → List ℕ → ParseError → Type 0
RefusesList Written Unwritten text e = RefusesEach Written Unwritten (slice_split is_comma text) e

-- Texts with commas between them.
abbrev pub later_listed : {T : Type 0} → (T → List ℕ) → List T → List ℕ
later_listed shown later = flat_map (λ x. comma ∷ shown x) later

abbrev pub listed : {T : Type 0} → (T → List ℕ) → List T → List ℕ
listed shown [] = []
listed shown (first ∷ later) = shown first ++ later_listed shown later
