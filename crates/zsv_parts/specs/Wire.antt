-- What stands where in a message, one thing behind the other: RFC 1035, section 4.1.
use Rattle.std.specs.Prelude.{◌≡◌, ℕ, ◌≤◌, List, [], ◌∷◌}
use Rattle.dnw_encoder.specs.dnw_decoder.Spelling.{Spelled, at_end, at_label, at_pointer}

-- Entries of a section, one behind the other.
abbrev pub Entries : {X : Type 0} → (ℕ → X → ℕ → Type 0) → ℕ → List X → ℕ → Type 0
Entries At place [] end = end ≡ place
Entries At place (x ∷ xs) end = (behind : ℕ) × At place x behind × Entries At behind xs end

-- Each pointer that is followed has its target at this place or behind it (RFC 1035, section
-- 4.1.4).
abbrev pub PointsFrom : {message : List ℕ} {segment bound place end : ℕ} {labels : List (List ℕ)}
    → ℕ → Spelled message segment bound place labels end → Type 0
PointsFrom first (at_end before there) = Unit {0}
PointsFrom first (at_label before is_label there rest) = PointsFrom first rest
PointsFrom first (at_pointer {target = target} before backward small there rest) =
    (first ≤ target) × PointsFrom first rest
