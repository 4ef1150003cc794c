-- What stands at the same places of two messages.
use Rattle.std.proofs.Common.{◌≡◌, ℕ, ◌+◌, ◌-◌, ◌<◌, ◌≤◌, List, [], ◌∷◌, ◌++◌, length, drop, sym, ap, ◌∙◌, arith, append_assoc}
use Rattle.std.proofs.lemmas.List.{drop-drop, drop-append-le, append_cancel_right}
use Rattle.dnw_encoder.specs.dnw_decoder.Octets.{Stands}
use Rattle.dnw_encoder.specs.dnw_decoder.Spelling.{pointer_octets, Spelled, at_end, at_label, at_pointer}
use Rattle.dnw_encoder.proofs.dnw_decoder_lemmas.SpellingLaws.{spelled_within}
use Rattle.zsv_parts.specs.Wire.{PointsFrom}

-- Between two places, two messages have the same octets.
pub record SameThere (m n : List ℕ) (from to : ℕ) : Type 0 where
  pub octets : List ℕ
  pub in_m : Stands m from octets to
  pub in_n : Stands n from octets to

-- What is left of a message at a place in between.
rest_at : (m : List ℕ) (from to : ℕ) (octets : List ℕ) → Stands m from octets to → (place : ℕ) → from ≤ place → place ≤ to → drop place m ≡ drop (place - from) octets ++ drop to m
rest_at m from to octets s place low high =
    let at : from + (place - from) ≡ place = omega arith in
    ap (λ (p : ℕ). drop p m) (sym at) ∙ sym (drop-drop (place - from) from m)
    ∙ ap (λ (rest : List ℕ). drop (place - from) rest) s.there
    ∙ drop-append-le (place - from) octets (drop to m) (omega (arith, s.behind))

pub stands_over : (m n : List ℕ) (from to : ℕ) → SameThere m n from to → (place : ℕ) (octets : List ℕ) (end : ℕ) → from ≤ place → end ≤ to → Stands m place octets end → Stands n place octets end
stands_over m n from to same place octets end low high s =
    let after : place ≤ end = omega (arith, s.behind) in
    let m_here = rest_at m from to same.octets same.in_m place low (omega (arith, after)) in
    let m_end = rest_at m from to same.octets same.in_m end (omega (arith, after)) high in
    let n_here = rest_at n from to same.octets same.in_n place low (omega (arith, after)) in
    let n_end = rest_at n from to same.octets same.in_n end (omega (arith, after)) high in
    let both : drop (place - from) same.octets ++ drop to m ≡ (octets ++ drop (end - from) same.octets) ++ drop to m =
    sym m_here ∙ s.there ∙ ap (λ (rest : List ℕ). octets ++ rest) m_end ∙ sym (append_assoc octets (drop (end - from) same.octets) (drop to m)) in
    let front : drop (place - from) same.octets ≡ octets ++ drop (end - from) same.octets = append_cancel_right _ _ (drop to m) both in
    record {
      there = n_here ∙ ap (λ (rest : List ℕ). rest ++ drop to n) front ∙ append_assoc octets (drop (end - from) same.octets) (drop to n) ∙ ap (λ (rest : List ℕ). octets ++ rest) (sym n_end);
      behind = s.behind;
    }

-- What is spelled somewhere begins before its bound.
begins_inside : (m : List ℕ) (segment bound place : ℕ) (labels : List (List ℕ)) (end : ℕ) → Spelled m segment bound place labels end → place < bound
begins_inside m segment bound place labels end (at_end inside there) = inside
begins_inside m segment bound place labels end (at_label inside is there rest) = inside
begins_inside m segment bound place labels end (at_pointer inside backward small there rest) = inside

-- A segment that a pointer leads to is spelled alike where the octets are the same from its first pointer's target to
-- the place behind its bound.
segment_over : (m n : List ℕ) (from to : ℕ) → SameThere m n from to → (segment bound place : ℕ) (labels : List (List ℕ)) (end : ℕ) → from ≤ place → segment < to → bound < to → (s : Spelled m segment bound place labels end) → PointsFrom from s → Spelled n segment bound place labels end
segment_over m n from to same segment bound place labels end low inner outer (at_end inside there) far =
    at_end inside (stands_over m n from to same place (0 ∷ []) end low (omega (arith, inside, outer, there.behind)) there)
segment_over m n from to same segment bound place labels end low inner outer (at_label {behind = behind} {first = first} {rest = rest} inside is there later) far =
    let next = begins_inside m segment bound behind rest end later in
    at_label inside is (stands_over m n from to same place (length first ∷ first) behind low (omega (arith, next, outer)) there)
    (segment_over m n from to same segment bound behind rest end (omega (arith, low, there.behind)) inner outer later far)
segment_over m n from to same segment bound place labels end low inner outer (at_pointer {target = target} {behind = behind} {end = last} inside backward small there later) far =
    at_pointer inside backward small (stands_over m n from to same place (pointer_octets target) behind low (omega (arith, inside, outer, there.behind)) there)
    (segment_over m n from to same target segment target labels last far.0 (omega (arith, backward, inner)) inner later far.1)

-- So is a name, whose first segment is bounded by the message alone.
pub spelled_over : (m n : List ℕ) (from to : ℕ) → SameThere m n from to → to ≤ length n → (segment bound place : ℕ) (labels : List (List ℕ)) (end : ℕ) → from ≤ place → segment < to → end ≤ to → (s : Spelled m segment bound place labels end) → PointsFrom from s → Spelled n segment (length n) place labels end
spelled_over m n from to same long segment bound place labels end low inner high (at_end inside there) far =
    at_end (omega (arith, high, long, there.behind)) (stands_over m n from to same place (0 ∷ []) end low high there)
spelled_over m n from to same long segment bound place labels end low inner high (at_label {behind = behind} {first = first} {rest = rest} inside is there later) far =
    let next = spelled_within m segment bound behind rest end later in
    at_label (omega (arith, next.0, high, long, there.behind)) is (stands_over m n from to same place (length first ∷ first) behind low (omega (arith, next.0, high)) there)
    (spelled_over m n from to same long segment bound behind rest end (omega (arith, low, there.behind)) inner high later far)
spelled_over m n from to same long segment bound place labels end low inner high (at_pointer {target = target} {behind = behind} {end = last} inside backward small there later) far =
    at_pointer (omega (arith, high, long, there.behind)) backward small (stands_over m n from to same place (pointer_octets target) behind low high there)
    (segment_over m n from to same target segment target labels last far.0 (omega (arith, backward, inner)) inner later far.1)
