-- The elements of a name.
use Rattle.std.specs.Prelude.{ℕ, ◌+◌, ◌<◌, List, [], ◌∷◌, ◌++◌, length}
use Rattle.dnw_name.specs.dnw_label.Label.{IsLabel}
use Rattle.dnw_decoder.specs.Octets.{Stands}
use Rattle.dnw_decoder.specs.Spelling.{pointer_octets}
use Rattle.dnw_decoder.specs.declared.name.Element.{Element}
use Rattle.dnw_decoder.specs.declared.name.Element.TheVariants.{End, Label, Pointer}

-- What stands at a place of a segment, before its bound.
abbrev pub ElementAt : List ℕ → ℕ → ℕ → ℕ → Element → Type 0
ElementAt message segment bound place End =
    (place < bound) × Stands message place (0 ∷ []) (place + 1)
ElementAt message segment bound place (Label label) =
    (place < bound) × IsLabel label.now
    × Stands message place (length label.now ∷ label.now) (place + (1 + length label.now))
ElementAt message segment bound place (Pointer target) =
    (place < bound) × (target < segment) × (target < 16384)
    × Stands message place (pointer_octets target) (place + 2)

-- Labels stand one behind the other from a place on, each of which begins before the bound.
pub data Run (message : List ℕ) (bound place : ℕ) : List (List ℕ) → ℕ → Type 0 where
  begins : Run message bound place [] place
  goes_on : {labels : List (List ℕ)} {middle end : ℕ} {next : List ℕ}
      → Run message bound place labels middle → middle < bound → IsLabel next
      → Stands message middle (length next ∷ next) end
      → Run message bound place (labels ++ next ∷ []) end
