-- Blocked names under their keys.
use Rattle.std.specs.Prelude.{◌≡◌, List}
use Rattle.std.specs.List.{All}
use Rattle.dnw_name.specs.DomainName.{DomainName, lowercase_name}

-- Each is in lower case.
abbrev pub AreLower : List (DomainName × DomainName) → Type 0
AreLower entries = All (λ entry. entry.1 ≡ lowercase_name entry.0) entries
