-- Labels one behind another, in octets (RFC 1035 3.1).
use Rattle.std.specs.Prelude.{ℕ, ◌≡◌, List, [], ◌∷◌, ◌++◌, All, length, map, take, drop}
use Rattle.std.specs.List.{flat_map}
use Rattle.dnw_label.specs.Label.{IsLabel}

-- RFC 1035 3.1: each label behind the octet of its length.
abbrev pub label_octets : List (List ℕ) → List ℕ
label_octets labels = flat_map (λ label. length label ∷ label) labels

-- What octets hold, cut into labels of these lengths.
abbrev pub labels_of : List ℕ → List ℕ → List (List ℕ)
labels_of [] octets = []
labels_of (n ∷ lengths) octets = take n (drop 1 octets) ∷ labels_of lengths (drop n (drop 1 octets))

-- Octets hold labels, and these are their lengths.
pub record HoldLabels (octets lengths : List ℕ) (labels : List (List ℕ)) : Type 0 where
  pub each : All IsLabel labels
  pub spelled : octets ≡ label_octets labels
  pub measured : lengths ≡ map length labels

-- Of the labels that octets spell some were gone through, whose lengths stand behind others; the
-- rest spells those that are left.
pub record SpeltSoFar (before spelled rest lengths : List ℕ) : Type 0 where
  pub done : List (List ℕ)
  pub later : List (List ℕ)
  pub each : All IsLabel (done ++ later)
  pub whole : spelled ≡ label_octets (done ++ later)
  pub left : rest ≡ label_octets later
  pub counted : lengths ≡ before ++ map length done
