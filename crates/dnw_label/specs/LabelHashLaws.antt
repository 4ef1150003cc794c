-- Equal labels feed a hasher the same.
use Rattle.std.proofs.Common.{◌≡◌, ℕ, true, List, length, ap, sym, ◌∙◌}
use Rattle.std.specs.Str.{str_to_ascii_lowercase}
use Rattle.std.specs.Char.{to_ascii_lowercase}
use Rattle.std.specs.Cmp.Lexicographic.{same_text}
use Rattle.std.proofs.lemmas.List.{length-map}
use Rattle.dnw_label.specs.Label.{label_eq}
use Rattle.dnw_label.specs.LabelHash.{label_writes}

pub label_writes-alike : (x y : List ℕ) → label_eq x y ≡ true → label_writes x ≡ label_writes y
label_writes-alike x y same =
    let lower : str_to_ascii_lowercase x ≡ str_to_ascii_lowercase y =
    same_text (str_to_ascii_lowercase x) (str_to_ascii_lowercase y) (sym same) in
    let left : length (str_to_ascii_lowercase x) ≡ length x = length-map x to_ascii_lowercase in
    let right : length (str_to_ascii_lowercase y) ≡ length y = length-map y to_ascii_lowercase in
    let long : length x ≡ length y = sym left ∙ ap length lower ∙ right in
    cc
