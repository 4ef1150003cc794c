-- Keys of names: two are the same where the names are equal, and one begins another where its name lies above.
use Rattle.std.proofs.Common.{◌≡◌, ℕ, refl, sym, ◌∙◌, ap}
use Rattle.std.specs.Prelude.{nat_eq, Bool, false, true, ◌&&◌, List, [], ◌∷◌}
use Rattle.std.specs.Cmp.Lexicographic.{texts_ties}
use Rattle.std.specs.List.{starts_with}
use Rattle.std.specs.Ordering.{is_eq}
use Rattle.std.specs.Str.{bytes_eq}
use Rattle.zst_handler.specs.dnw_name.DomainName.{DomainName, name_eq, is_at_or_below}
use Rattle.zst_key.specs.NameKeys.{labels_key, name_key}
use Rattle.zst_handler.specs.dnw_name.NameOrderLaws.{name_eq-by_cmp}
use Rattle.zst_key.proofs.KeyFronts.{key-front}
use Rattle.zst_key.proofs.KeyOrder.{key-order}

-- Whether some octets begin others.
abbrev pub begins : List ℕ → List ℕ → Bool
begins [] ys = true
begins (x ∷ xs) [] = false
begins (x ∷ xs) (y ∷ ys) = nat_eq x y && begins xs ys

-- `begins`, as a slice's `starts_with` says it.
pub begins-starts_with : (xs ys : List ℕ) → begins xs ys ≡ starts_with nat_eq ys xs
begins-starts_with [] ys = refl
begins-starts_with (x ∷ xs) [] = refl
begins-starts_with (x ∷ xs) (y ∷ ys) = ap (λ (t : Bool). nat_eq x y && t) (begins-starts_with xs ys)

pub same_key : (a b : DomainName) → bytes_eq (name_key a) (name_key b) ≡ name_eq a b
same_key a b = texts_ties (name_key a) (name_key b) ∙ ap is_eq (key-order a b) ∙ sym (name_eq-by_cmp a b)

pub above_begins : (name other : DomainName) → name.fqdn ≡ true → other.fqdn ≡ true → begins (name_key other) (name_key name) ≡ is_at_or_below name other
above_begins name other f g =
    rw (f, g) (begins-starts_with (labels_key other.labels) (labels_key name.labels) ∙ key-front name other)
