-- The names above a name, and the wildcard below it (RFC 4592, section 2.1.1).
use Rattle.std.specs.Prelude.{◌≡◌, ℕ, ◌<◌, Bool, false, true, not, List, [], ◌∷◌, drop, Option, Some, None, option_map, IsSome, MatchOption}
use Rattle.std.specs.Ordering.{is_gt, is_lt}
use Rattle.dnw_name.specs.dnw_label.Label.{wildcard_label}
use Rattle.dnw_name.specs.DomainName.{DomainName, domain_name, is_at_or_below, name_cmp}

-- The name so many labels up; from the root on, none is above.
abbrev pub up : DomainName → ℕ → DomainName
up name levels = domain_name name.fqdn (drop levels name.labels)

abbrev pub parent : DomainName → DomainName
parent name = up name 1

abbrev pub star : DomainName → DomainName
star name = domain_name name.fqdn (wildcard_label ∷ name.labels)

-- The same labels, ending at the root where the name doesn't.
abbrev pub other_flag : DomainName → DomainName
other_flag name = domain_name (not name.fqdn) name.labels

-- The first of two, if there is one, else the second.
abbrev pub or_else : {X : Type 0} → Option X → Option X → Option X
or_else (Some x) other = Some x
or_else None other = other

-- The new name is the nearest one, from the old one up, that the other equals or lies below.
pub record GoesToShared (old other new : DomainName) : Type 0 where
  pub levels : ℕ
  pub above : new ≡ up old levels
  pub shared : is_at_or_below other new ≡ true
  pub nearest : (n : ℕ) → n < levels → is_at_or_below other (up old n) ≡ false

module _ {X : Type 0} (at : DomainName → Option X) where
  -- What is found at a name of these labels, with the name.
  abbrev found_at : DomainName → Option (DomainName × X)
  found_at name = option_map (λ x. (name, x)) (at name)

  -- What is found at a name of these labels, or else at the nearest name above it.
  abbrev pub nearest_from : Bool → List (List ℕ) → Option (DomainName × X)
  nearest_from fqdn [] = found_at (domain_name fqdn [])
  nearest_from fqdn (label ∷ labels) =
      or_else (found_at (domain_name fqdn (label ∷ labels))) (nearest_from fqdn labels)

  -- What is found at a name, or else at the nearest name above it; with the name at which it is.
  abbrev pub nearest_in : DomainName → Option (DomainName × X)
  nearest_in name = nearest_from name.fqdn name.labels

  -- The entry of the last name that does not stand behind this one in canonical order.
  abbrev pub IsLastUpTo : DomainName → Option (DomainName × X) → Type 0
  IsLastUpTo name found =
      MatchOption found
      ((other : DomainName) → is_gt (name_cmp other name) ≡ false → at other ≡ None)
      (λ entry. (is_gt (name_cmp entry.0 name) ≡ false) × (at entry.0 ≡ Some entry.1)
      × ((other : DomainName) → is_gt (name_cmp other name) ≡ false → IsSome (at other)
      → is_lt (name_cmp entry.0 other) ≡ false))
