-- The causes that flags are refused by.
use Rattle.std.specs.Prelude.{ℕ, List}
use Rattle.std.proofs.Common.{sym, ◌∙◌, ap}
use lib.Chars.{codes}
use Rattle.drd_words.specs.Refusals.{AreCauses, IsOneCause}
use Rattle.drd_words.specs.RefusalsLaws.{tested_causes, tested_one, string_causes, string_one}
use Rattle.drd_words.specs.Word.{are_alphanumeric}
use Rattle.drd_plain.specs.Words.{IsFlagsWord, RefusesFlags}

pub flags_causes : (word : List ℕ) → AreCauses (λ flags. IsFlagsWord flags word) (RefusesFlags word)
flags_causes word =
    tested_causes (are_alphanumeric word) (codes "flags are ASCII letters and digits")
    (λ flags written. (written.0, sym (ap are_alphanumeric written.0.0) ∙ written.1))
    (string_causes word)

pub flags_one : (word : List ℕ) → IsOneCause (RefusesFlags word)
flags_one word =
    tested_one (are_alphanumeric word) (codes "flags are ASCII letters and digits")
    (string_one word)
