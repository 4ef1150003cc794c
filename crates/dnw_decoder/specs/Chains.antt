-- Chains of pointers (RFC 1035 4.1.4): at each target but the last the next pointer stands.
use Rattle.std.specs.Prelude.{◌≡◌, ℕ, ◌+◌, ◌<◌, List, get_or, Option, None, Some, ◌⊎◌}
use Rattle.std.proofs.Common.{Vec, Global}
use Rattle.dnw_decoder.specs.Octets.{Stands}
use Rattle.dnw_decoder.specs.Spelling.{pointer_octets}

-- A pointer stands at a place, and its target is before it.
pub record PointsBack (message : List ℕ) (place target : ℕ) : Type 0 where
  pub there : Stands message place (pointer_octets target) (place + 2)
  pub backward : target < place
  pub small : target < 16384

-- From the pointer at a place, pointers alone lead to the one at another.
pub data Chain (message : List ℕ) : ℕ → ℕ → Type 0 where
  ends : {place target : ℕ} → PointsBack message place target → Chain message place place
  goes_on : {place target last : ℕ} → PointsBack message place target → Chain message target last
      → Chain message place last

-- What is kept of a message's chains: by place where its chain ends, or 0.
abbrev pub AreEnds : List ℕ → List ℕ → Type 0
AreEnds message kept =
    (place : ℕ) → 0 < get_or kept place 0 → Chain message place (get_or kept place 0)

-- The same of what may not be kept yet.
abbrev pub AreChains : List ℕ → Option (Vec ℕ Global) → Type 0
AreChains message None = Unit {0}
AreChains message (Some kept) = AreEnds message kept.items

-- Reading that goes on at a target, in a segment with a bound, comes by pointers alone to another
-- segment with another bound, or stays.
abbrev pub Leads : List ℕ → ℕ → ℕ → ℕ → ℕ → Type 0
Leads message bound target later_bound later_target =
    ((later_bound ≡ bound) × (later_target ≡ target))
    ⊎ (Chain message target later_bound × PointsBack message later_bound later_target)
