-- The causes that words of CAA data are refused by.
use Rattle.std.specs.Prelude.{ℕ, ◌≡◌, List}
use lib.Chars.{codes}
use Rattle.drd_words.specs.Refusals.{AreCauses, IsOneCause}
use Rattle.drd_words.specs.RefusalsLaws.{no_causes, tested_causes, tested_one}
use Rattle.drd_caa.specs.Fields.{is_caa_tag}
use Rattle.drd_caa.specs.Words.{IsTagWord, RefusesTag}

pub tag_causes : (word : List ℕ) → AreCauses (λ tag. IsTagWord tag word) (RefusesTag word)
tag_causes word =
    tested_causes (is_caa_tag word) (codes "a CAA tag is 1 to 15 letters and digits")
    (λ tag written. written) (no_causes (λ tag. tag ≡ word))

pub tag_one : (word : List ℕ) → IsOneCause (RefusesTag word)
tag_one word =
    tested_one (is_caa_tag word) (codes "a CAA tag is 1 to 15 letters and digits")
    (record { one = λ e f h. absurd h })
