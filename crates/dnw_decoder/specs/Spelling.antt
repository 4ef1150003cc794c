-- Names as they are spelled in a message (RFC 1035 4.1.4, with pointers strictly backward).
use Rattle.std.specs.Prelude.{◌≡◌, ℕ, ◌+◌, ◌/◌, ◌%◌, ◌<◌, ◌≤◌, true, List, [], ◌∷◌, length}
use Rattle.dnw_name.specs.DomainName.{DomainName, labels_len}
use Rattle.dnw_name.specs.dnw_label.Label.{IsLabel}
use Rattle.dnw_decoder.specs.Octets.{Stands}

-- The two octets that point to a place: two bits set, and fourteen bits of the place.
abbrev pub pointer_octets : ℕ → List ℕ
pointer_octets target = (192 + target / 256) ∷ (target % 256) ∷ []

-- The labels that are spelled from a place on, and where the octets of that end. A segment is what
-- is read from the name's start, or from a pointer's target, on; a pointer's target is before its
-- segment, and each element of that earlier segment begins before the bound, which is where the
-- later segment begins.
pub data Spelled (message : List ℕ) : ℕ → ℕ → ℕ → List (List ℕ) → ℕ → Type 0 where
  at_end : {segment bound place end : ℕ} → place < bound → Stands message place (0 ∷ []) end
      → Spelled message segment bound place [] end
  at_label : {segment bound place behind end : ℕ} {first : List ℕ} {rest : List (List ℕ)}
      → place < bound → IsLabel first → Stands message place (length first ∷ first) behind
      → Spelled message segment bound behind rest end
      → Spelled message segment bound place (first ∷ rest) end
  at_pointer : {segment bound place target behind end : ℕ} {rest : List (List ℕ)} → place < bound
      → target < segment → target < 16384 → Stands message place (pointer_octets target) behind
      → Spelled message target segment target rest end
      → Spelled message segment bound place rest behind

-- The labels that are spelled at a place, and where the octets of the name end: behind its end or
-- behind its first pointer. The first segment is bounded by the message alone.
abbrev pub Spells : List ℕ → ℕ → List (List ℕ) → ℕ → Type 0
Spells message place labels end = Spelled message place (length message) place labels end

-- How many pointers a spelling follows.
abbrev pub pointers : {message : List ℕ} {segment bound place end : ℕ} {found : List (List ℕ)}
    → Spelled message segment bound place found end → ℕ
pointers (at_end before there) = 0
pointers (at_label before is_label there rest) = pointers rest
pointers (at_pointer before backward small there rest) = pointers rest + 1

-- A name at a place: it is fully qualified, and takes at most 255 octets uncompressed.
pub record NameAt (message : List ℕ) (place : ℕ) (name : DomainName) (end : ℕ) : Type 0 where
  pub full : name.fqdn ≡ true
  pub spelled : Spells message place name.labels end
  pub size : labels_len name.labels + 1 ≤ 255
