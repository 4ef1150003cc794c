-- Why no name is read at a place.
use Rattle.std.specs.Prelude.{◌≡◌, ℕ, ◌+◌, ◌*◌, ◌-◌, ◌<◌, ◌≤◌, List, [], ◌∷◌, ◌++◌, ◌⊎◌, length, get_or, Option, Some, None, unwrap_or, cond, nat_lt}
use Rattle.dnw_name.specs.dnw_codes.declared.error.DecodeError.{DecodeError}
use Rattle.dnw_name.specs.dnw_codes.declared.error.DecodeError.TheVariants.{InsufficientBytes, LabelOverlapsWithOther, UnrecognizedLabelCode, PointerNotPriorToLabel, DomainNameTooLong, Memory}
use Rattle.dnw_name.specs.DomainName.{labels_len}
use Rattle.dnw_name.specs.dnw_label.Label.{IsLabel}
use Rattle.dnw_decoder.specs.Octets.{Stands}
use Rattle.dnw_decoder.specs.Spelling.{pointer_octets}

-- From a start these labels were read, in that order; the next element is to stand at a place, in a
-- segment with a bound; and where a pointer was followed, reading goes on behind the first one.
pub data Reaches (message : List ℕ) (start : ℕ) : List (List ℕ) → ℕ → ℕ → ℕ → Option ℕ
    → Type 0 where
  at_start : Reaches message start [] start (length message) start None
  behind_label : {found : List (List ℕ)} {segment bound place behind : ℕ} {resume : Option ℕ}
      {next : List ℕ} → Reaches message start found segment bound place resume → place < bound
      → IsLabel next → Stands message place (length next ∷ next) behind
      → Reaches message start (found ++ next ∷ []) segment bound behind resume
  at_target : {found : List (List ℕ)} {segment bound place target behind : ℕ} {resume : Option ℕ}
      → Reaches message start found segment bound place resume → place < bound → target < segment
      → target < 16384 → Stands message place (pointer_octets target) behind
      → Reaches message start found target segment target (Some (unwrap_or resume behind))

-- The octets of an element that begins with this one: a label with its length, a pointer, the end.
abbrev pub element_len : ℕ → ℕ
element_len first = cond (nat_lt first 64) (first + 1) 2

-- The place that the pointer at a place names, in its last fourteen bits.
abbrev pub pointer_target : List ℕ → ℕ → ℕ
pointer_target message place = 256 * (get_or message place 0 - 192) + get_or message (place + 1) 0

-- Why none of the elements of a name can be read at a place, behind these labels. A place behind
-- the segment's bound is tested first, then the kind of the element, then whether it is there
-- whole: only a label or a pointer can be cut. The place behind the message reads 0.
abbrev pub IsCause : List ℕ → List (List ℕ) → ℕ → ℕ → ℕ → DecodeError → Type 0
IsCause message found segment bound place (LabelOverlapsWithOther label other) =
    (bound ≤ place) × (bound < length message) × (label ≡ segment) × (other ≡ bound)
IsCause message found segment bound place InsufficientBytes =
    (bound < length message → place < bound)
    × ((get_or message place 0 < 64) ⊎ (192 ≤ get_or message place 0))
    × (length message < place + element_len (get_or message place 0))
IsCause message found segment bound place (UnrecognizedLabelCode first) =
    (place < bound) × (first ≡ get_or message place 0) × (64 ≤ first) × (first < 192)
IsCause message found segment bound place (PointerNotPriorToLabel index target) =
    (place < bound) × (192 ≤ get_or message place 0) × (place + 2 ≤ length message)
    × (index ≡ place)
    × (target ≡ pointer_target message place) × (segment ≤ target)
IsCause message found segment bound place (DomainNameTooLong octets) =
    (place < bound) × (0 < get_or message place 0) × (get_or message place 0 < 64)
    × (place + 1 + get_or message place 0 ≤ length message)
    × (octets ≡ labels_len found + get_or message place 0 + 2) × (255 < octets)
IsCause message found segment bound place Memory = Unit {0}
IsCause message found segment bound place other = ⊥

-- A name is refused at a start: reading reaches an element that can't be read.
pub record Refuses (message : List ℕ) (start : ℕ) (e : DecodeError) : Type 0 where
  pub found : List (List ℕ)
  pub segment : ℕ
  pub bound : ℕ
  pub place : ℕ
  pub resume : Option ℕ
  pub reached : Reaches message start found segment bound place resume
  pub cause : IsCause message found segment bound place e
