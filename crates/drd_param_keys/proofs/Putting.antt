-- Octets that are written behind others.
use Rattle.std.proofs.Common.{◌≡◌, ℕ, ◌+◌, ◌≤◌, inl, inr, List, [], ◌++◌, length, take, drop, refl, sym, ap, ◌∙◌, arith, append_assoc, append-nil}
use Rattle.std.proofs.Math.Nat.{eq-or-lt_of_le}
use Rattle.std.proofs.lemmas.List.{length-take, length-append, drop-drop, take_at, drop_at, take-append-drop}
use Rattle.dnw_encoder.specs.Effects.{WritesOctets, written_at}
use Rattle.dnw_encoder.specs.State.{State}
use Rattle.dnw_encoder.proofs.Laws.{modes_then}
use Rattle.drd_param_keys.specs.Writing.{EndsWithin}

-- Octets written behind others that were written.
written_then : (o : List ℕ) (place : ℕ) (a b : List ℕ) → place ≤ length o → written_at (written_at o place a) (place + length a) b ≡ written_at o place (a ++ b)
written_then o place a b le =
    let front : length (take place o ++ a) ≡ place + length a = omega (arith, length-append (take place o) a, length-take place o) in
    let w = written_at o place a in
    let first : take (place + length a) w ≡ take place o ++ a = take_at (take place o ++ a) (drop (place + length a) o) (place + length a) front in
    let behind : drop (place + length a) w ≡ drop (place + length a) o = drop_at (take place o ++ a) (drop (place + length a) o) (place + length a) front in
    let last : drop ((place + length a) + length b) w ≡ drop (place + length (a ++ b)) o =
    sym (drop-drop (length b) (place + length a) w) ∙ ap (λ (t : List ℕ). drop (length b) t) behind ∙ drop-drop (length b) (place + length a) o ∙ ap (λ (n : ℕ). drop n o) (omega (arith, length-append a b)) in
    ap (λ (t : List ℕ). t ++ b ++ drop ((place + length a) + length b) w) first
    ∙ ap (λ (t : List ℕ). (take place o ++ a) ++ b ++ t) last
    ∙ ap (λ (t : List ℕ). t ++ drop (place + length (a ++ b)) o) (append_assoc (take place o) a b)

pub puts_then : (a b : List ℕ) (old mid new : State) → old.offset ≤ length old.octets → WritesOctets a old mid → WritesOctets b mid new → WritesOctets (a ++ b) old new
puts_then a b old mid new le p q = record {
  octets = q.octets ∙ ap (λ (o : List ℕ). written_at o mid.offset b) p.octets ∙ ap (λ (n : ℕ). written_at (written_at old.octets old.offset a) n b) p.offset ∙ written_then old.octets old.offset a b le;
  offset = omega (arith, p.offset, q.offset, length-append a b);
  candidates = q.candidates ∙ p.candidates;
  places = q.places ∙ p.places;
  modes = modes_then old mid new p.modes q.modes;
}

pub puts_none : (s : State) → s.offset ≤ length s.octets → WritesOctets [] s s
puts_none s le = record {
  octets = sym (ap (λ (t : List ℕ). t ++ drop (s.offset + 0) s.octets) (append-nil (take s.offset s.octets)) ∙ ap (λ (n : ℕ). take s.offset s.octets ++ drop n s.octets) (omega arith) ∙ take-append-drop s.offset s.octets);
  offset = omega arith;
  candidates = refl;
  places = refl;
  modes = record { maximum = refl; encoding = refl; canonical = refl; points = refl };
}

-- One write behind another: each ends within the maximum.
pub within_then : (old mid new : State) → mid.maximum ≡ old.maximum → mid.offset ≤ new.offset → EndsWithin old mid → EndsWithin mid new → EndsWithin old new
within_then old mid new same forward first later =
    λ written. elim (eq-or-lt_of_le forward) [
      | inl is ↦ omega (arith, first (omega (arith, written, is)), is)
      | inr lt ↦ omega (arith, later lt, same)
    ]
