-- What fills a message from a place on is one list of octets.
use Rattle.std.proofs.Common.{◌≡◌, ℕ, ◌⊎◌, inl, inr, List, arith}
use Rattle.dnw_encoder.proofs.dnw_decoder_lemmas.Standing.{stands_same}
use Rattle.drd_param_keys.specs.Reading.{FillsMessage}

fills-same : (message : List ℕ) (place : ℕ) (xs ys : List ℕ) (end other : ℕ) → FillsMessage message place xs end → FillsMessage message place ys other → xs ≡ ys
fills-same message place xs ys end other p q =
    (stands_same message place xs ys end other (omega (arith, p.0.behind, q.0.behind, p.1, q.1)) p.0 q.0).0

pub no-filling : {M X V : Type 0} (items : V → X) (octets_of : X → List ℕ) (Valid : X → Type 0) (Refuses : Type 0) (message : List ℕ) (place : ℕ) (octets : List ℕ) (end : ℕ) → FillsMessage message place octets end → M ⊎ (Refuses × ((x : X) → Valid x → octets_of x ≡ octets → ⊥)) → M ⊎ ((v : V) (other : ℕ) → Valid (items v) × FillsMessage message place (octets_of (items v)) other → ⊥)
no-filling items octets_of Valid Refuses message place octets end fills (inl m) = inl m
no-filling items octets_of Valid Refuses message place octets end fills (inr why) =
    inr (λ v other at. why.1 (items v) at.0 (fills-same message place (octets_of (items v)) octets other end at.1 fills))
