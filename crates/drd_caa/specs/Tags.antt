-- The tags of CAA properties, which match in any case (RFC 8659 4.1).
use Rattle.std.specs.Prelude.{ℕ, ◌≡◌, List, map}
use lib.Chars.{codes}
use Rattle.std.specs.Char.{to_ascii_lowercase}
use Rattle.std.proofs.Common.{◌⊎◌}

abbrev pub IsTagOf : List ℕ → List ℕ → Type 0
IsTagOf tag word = map to_ascii_lowercase tag ≡ word

-- RFC 8659 4.2 and 4.3.
abbrev pub IsIssueTag : List ℕ → Type 0
IsIssueTag tag = IsTagOf tag (codes "issue") ⊎ IsTagOf tag (codes "issuewild")

-- RFC 8659 4.4.
abbrev pub IsIodefTag : List ℕ → Type 0
IsIodefTag tag = IsTagOf tag (codes "iodef")
