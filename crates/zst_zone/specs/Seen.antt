-- The targets already listed, each once (RFC 1034, section 4.3.2, step 6), by their keys.
use Rattle.std.specs.Prelude.{◌≡◌, ◌++◌, ◌-◌, Bool, true, List, [], length, Option, Some, slice_get}
use Rattle.std.specs.List.{list_all, list_any}
use Rattle.std.specs.Ordering.{is_le, is_lt}
use Rattle.zst_zone.specs.declared.seen.Seen.{Seen}
use Rattle.zst_circle.specs.dnw_name.DomainName.{DomainName, name_cmp, name_eq}

-- The keys of both lists.
abbrev pub seen_keys : Seen → List DomainName
seen_keys seen = seen.rising.items ++ seen.hashed.keys

abbrev pub was_seen : Seen → DomainName → Bool
was_seen seen key = list_any (name_eq key) (seen_keys seen)

-- All keys are before this one in canonical order (RFC 4034, section 6.1).
abbrev pub are_before : DomainName → List DomainName → Bool
are_before key keys = list_all (λ other. is_lt (name_cmp other key)) keys

-- No key is after the last one in canonical order.
abbrev pub AreRising : List DomainName → Type 0
AreRising keys = (last : DomainName) → slice_get keys (length keys - 1) ≡ Some last
    → list_all (λ other. is_le (name_cmp other last)) keys ≡ true
