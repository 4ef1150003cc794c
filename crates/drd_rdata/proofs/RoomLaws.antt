-- The room left after octets are counted, piece by piece.
use Rattle.std.proofs.Common.{◌≡◌, ℕ, ◌+◌, ◌<◌, List, [], ◌∷◌, arith, length, refl}
use Rattle.std.specs.Prelude.{Option, Some, None, MatchOption}

abbrev pub Left : ℕ → ℕ → Option ℕ → Type 0
Left room octets result = MatchOption result (room < octets) (λ left. left + octets ≡ room)

-- The room left after the rest is the room left after all.
abbrev pub LeadsTo : ℕ → ℕ → ℕ → ℕ → Type 0
LeadsTo room octets left rest = (result : Option ℕ) → Left left rest result → Left room octets result

pub leads_more : (room octets left first later next : ℕ) → LeadsTo room octets left (first + later) → next + first ≡ left → LeadsTo room octets next later
leads_more room octets left first later next leads at None far = leads None (omega (arith, at, far))
leads_more room octets left first later next leads at (Some some) is = leads (Some some) (omega (arith, at, is))

pub leads_none : (room octets left first later : ℕ) → LeadsTo room octets left (first + later) → left < first → room < octets
leads_none room octets left first later leads far = leads None (omega (arith, far))

pub leads_end : (room octets left rest : ℕ) → LeadsTo room octets left rest → rest ≡ 0 → left + octets ≡ room
leads_end room octets left rest leads none = leads (Some left) (omega (arith, none))

pub no_items : {X : Type 0} (xs : List X) → length xs ≡ 0 → xs ≡ []
no_items [] none = refl
no_items (x ∷ xs) none = absurd (omega (arith, none))
