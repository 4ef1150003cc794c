-- Entries under names, in canonical order (RFC 4034, section 6.1).
use Rattle.std.specs.Prelude.{◌≡◌, ℕ, ◌<◌, ◌≤◌, Bool, true, false, List, length, Option, None, Result, Ok, Err, slice_index_or}
use Rattle.std.specs.List.{AllWithin}
use Rattle.std.specs.Map.{lookup}
use Rattle.std.specs.Ordering.{is_eq, is_le}
use Rattle.std.specs.declared.cmp.Ordering.TheVariants.{Equal}
use Rattle.dnw_name.specs.DomainName.{DomainName, name_cmp}

-- What is under a name, up to case.
abbrev pub entry_at : {X : Type 0} → List (DomainName × X) → DomainName → Option X
entry_at entries name = lookup (λ other. is_eq (name_cmp name other)) entries

-- Whether a name isn't after another.
abbrev pub is_up_to : DomainName → DomainName → Bool
is_up_to key name = is_le (name_cmp name key)

-- This many entries, the first ones, aren't after a name.
pub record CountsUpTo {X : Type 0} (key : DomainName) (entries : List (DomainName × X)) (count : ℕ) :
    Type 0 where
  pub within : count ≤ length entries
  pub before : AllWithin (λ (e : DomainName × X). is_up_to key e.0 ≡ true) entries 0 count
  pub after : AllWithin (λ (e : DomainName × X). is_up_to key e.0 ≡ false) entries count
      (length entries)

-- The entry of a name is at an index; or it has none, and would come at one.
abbrev pub IsFound : {X : Type 0} → DomainName → List (DomainName × X) → Result ℕ ℕ → Type 0
IsFound {X} key entries (Ok at) =
    (at < length entries)
    × ((d : DomainName × X) → name_cmp (slice_index_or entries at d).0 key ≡ Equal)
IsFound key entries (Err at) = CountsUpTo key entries at × (entry_at entries key ≡ None)
