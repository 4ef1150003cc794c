-- Names that are blocked: which names they block, and which ones the text of a list adds.
use Rattle.std.specs.Prelude.{ℕ, ◌≡◌, ◌+◌, ◌-◌, ◌⊎◌, Bool, true, false, List, [], ◌∷◌, drop, length, Option, Some, None}
use Rattle.std.specs.List.{list_any, range_with_len}
use Rattle.std.specs.List.Sorted.{IsPermutation}
use Rattle.std.specs.Str.Lines.{lines}
use Rattle.dnw_name.specs.DomainName.{DomainName, domain_name, lowercase_name, name_eq, wildcard_of}
use Rattle.dnw_name.specs.NameText.{NameText}
use Rattle.zsv_blocked.specs.ListText.{name_text_of_line}

-- ---- which names are blocked
abbrev pub is_listed : List DomainName → DomainName → Bool
is_listed names name = list_any (name_eq name) names

-- A wildcard over the last labels of a name, so many of them, which aren't all (RFC 4592, section
-- 2.1.1).
abbrev pub wildcard_over : ℕ → DomainName → DomainName
wildcard_over count name =
    wildcard_of (domain_name name.fqdn (drop (length name.labels - (count + 1)) name.labels))

-- A wildcard over at least so many labels of the name is listed.
abbrev pub has_wildcard : List DomainName → ℕ → DomainName → Bool
has_wildcard names depth name =
    list_any (λ count. is_listed names (wildcard_over count name))
    (range_with_len depth (length name.labels - depth))

-- ---- what the text of a list adds
-- The names and one more, fully qualified and in lower case, in whatever order; the same names
-- where it is there.
abbrev pub AddsName : List DomainName → DomainName → List DomainName → Type 0
AddsName names name new =
    let added = lowercase_name (domain_name true name.labels) in
    ((is_listed names added ≡ true) × (new ≡ names))
    ⊎ ((is_listed names added ≡ false) × IsPermutation (added ∷ names) new)

-- The text of a name adds it, and any other text none.
abbrev pub AddsText : List DomainName → List ℕ → List DomainName → Type 0
AddsText names text new =
    ((name : DomainName) × NameText text name × AddsName names name new)
    ⊎ (((name : DomainName) → NameText text name → ⊥) × (new ≡ names))

abbrev pub AddsIf : List DomainName → Option (List ℕ) → List DomainName → Type 0
AddsIf names None new = new ≡ names
AddsIf names (Some text) new = AddsText names text new

-- What lines add, one after the other.
abbrev pub AddsLines : List DomainName → List (List ℕ) → List DomainName → Type 0
AddsLines names [] end = end ≡ names
AddsLines names (line ∷ later) end =
    (next : List DomainName) × AddsIf names (name_text_of_line line) next × AddsLines next later end

-- What the text of a list adds, line by line.
abbrev pub AddsListed : List DomainName → List ℕ → List DomainName → Type 0
AddsListed names text new = AddsLines names (lines text) new
