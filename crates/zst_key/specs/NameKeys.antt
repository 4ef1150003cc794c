-- The key of a name: octets whose plain order is the canonical order of names (RFC 4034 6.1).
use Rattle.std.specs.Prelude.{ℕ, ◌≡◌, ◌≢◌, ◌+◌, ◌-◌, ◌<◌, ◌≤◌, ◌++◌, nat_eq, nat_lt, if◌then◌else◌, false, true, List, [], ◌∷◌, get_or, length, map, reverse, take}
use Rattle.std.specs.Char.{to_ascii_lowercase}
use Rattle.std.specs.List.{flat_map}
use Rattle.dnw_name.specs.DomainName.{DomainName, domain_name}

-- The place of an octet among the octets without capitals, from 1 on, so that 0 is left for a
-- label's end.
unfoldable pub rank : ℕ → ℕ
rank octet =
    let low = to_ascii_lowercase octet in
    if nat_lt low 65 then low + 1 else low - 25

-- A label's octets by their ranks, then 0.
abbrev pub label_key : List ℕ → List ℕ
label_key label = map rank label ++ 0 ∷ []

-- The labels from the root down.
abbrev pub labels_key : List (List ℕ) → List ℕ
labels_key labels = flat_map label_key (reverse labels)

-- The flag, then the labels: a suffix's key is a front of the name's key.
abbrev pub name_key : DomainName → List ℕ
name_key name = (if name.fqdn then 1 else 0) ∷ labels_key name.labels

-- The octet of a rank, a small letter where it is a letter.
unfoldable pub octet_of : ℕ → ℕ
octet_of rank = if nat_lt rank 66 then rank - 1 else rank + 25

-- The labels that ranks spell from the root down, in front of the labels above them; of the label
-- that is read these octets stand before.
abbrev pub labels_of : List ℕ → List ℕ → List (List ℕ) → List (List ℕ)
labels_of [] label labels = labels
labels_of (x ∷ xs) label labels =
    if nat_eq x 0 then labels_of xs [] (label ∷ labels)
    else labels_of xs (label ++ octet_of x ∷ []) labels

-- The name that a key stands for, in lower case.
abbrev pub name_of_key : List ℕ → DomainName
name_of_key [] = domain_name false []
name_of_key (flag ∷ ranks) = domain_name (nat_eq flag 1) (labels_of ranks [] [])

-- These octets are the key of their name.
abbrev pub IsKey : List ℕ → Type 0
IsKey octets = name_key (name_of_key octets) ≡ octets

-- So many octets at the fronts of both are the same, and no more.
pub record ShareFront (xs ys : List ℕ) (same : ℕ) : Type 0 where
  pub alike : take same xs ≡ take same ys
  pub first : same ≤ length xs
  pub second : same ≤ length ys
  pub most : same < length xs → same < length ys → get_or xs same 0 ≢ get_or ys same 0

-- Behind this place, the last one up to another one, a label or the flag ends: at 0 only where the
-- other is 0.
pub record IsLastEnd (octets : List ℕ) (from end : ℕ) : Type 0 where
  pub within : end ≤ from
  pub some : 0 < from → 0 < end
  pub none : (i : ℕ) → end ≤ i → i < from → nat_eq (get_or octets i 0) 0 ≡ false
  pub stops : 1 < end → nat_eq (get_or octets (end - 1) 0) 0 ≡ true
