-- Marks of the names kept, by their first octets: a name without a mark isn't kept.
use Rattle.std.specs.Prelude.{if◌then◌else◌, ◌≡◌, ℕ, ◌+◌, ◌*◌, ◌-◌, ◌/◌, ◌^◌, bit_xor, ◌<◌, ◌≤◌, ◌%◌, ◌++◌, Bool, true, false, nat_lt, List, length, take, drop, get_or, slice_range}
use Rattle.std.specs.Int.{from_be_bytes, w64}
use Rattle.dnw_decoder.specs.dnw_label.Labels.{label_octets}
use Rattle.dnw_encoder.specs.Candidates.{NoneBefore}
use Rattle.dnw_encoder.specs.Members.{In}
use Rattle.dnw_encoder.specs.declared.candidates.Entry.{Entry}

-- The mark of labels: a hash of their first eight octets and, if there are sixteen, the next
-- eight; the high ten bits of a product.
unfoldable pub start_place : List ℕ → ℕ
start_place labels =
    let first = from_be_bytes w64 (take 8 (drop 0 labels)) in
    let mixed = if nat_lt (length labels) 16 then first
    else bit_xor first (from_be_bytes w64 (take 8 (drop 8 labels))) in
    mixed * 11400714819323198485 % 2 ^ 64 / 2 ^ 54

-- These labels have their mark.
abbrev pub IsMarked : List Bool → List ℕ → Type 0
IsMarked marks labels = get_or marks (start_place labels) false ≡ true

abbrev pub StaysMarked : List Bool → List Bool → Type 0
StaysMarked old new = (place : ℕ) → get_or old place false ≡ true → get_or new place false ≡ true

-- Each of these entries that is longer than eight octets has its mark, by all but its last octet.
abbrev pub AreMarked : List Bool → List ℕ → List Entry → Type 0
AreMarked marks octets entries =
    (e : Entry) → In e entries → e.from + 8 < e.to
    → IsMarked marks (slice_range octets e.from (e.to - 1))

-- No suffix of these labels that begins earlier is short or marked.
abbrev pub NoneMarkedBefore : List Bool → List (List ℕ) → ℕ → Type 0
NoneMarkedBefore marks labels front =
    (before rest : List (List ℕ)) → labels ≡ before ++ rest
    → (8 ≤ length (label_octets rest) → IsMarked marks (label_octets rest))
    → front ≤ length (label_octets before)

-- No entry is a suffix of these labels that begins earlier.
abbrev pub NoneEarlier : List ℕ → List Entry → List (List ℕ) → ℕ → Type 0
NoneEarlier octets entries labels front =
    (e : Entry) → In e entries → NoneBefore labels front (slice_range octets e.from e.to)
