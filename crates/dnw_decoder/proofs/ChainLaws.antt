-- Chains of pointers, and reading along them.
use Rattle.std.proofs.Common.{◌≡◌, ℕ, ◌+◌, ◌<◌, ◌≤◌, inl, inr, List, length, get_or, Some, Bool, true, false, ◌==◌, refl, subst, arith, set}
use Rattle.std.proofs.lemmas.Bool.Decides.{Decides-eqb, not_from_Decides}
use Rattle.std.proofs.lemmas.Grind.{get_or-set_at}
use Rattle.std.proofs.lemmas.List.{get_or-set_other}
use Rattle.std.proofs.Common.{Decides}
use Rattle.dnw_name.specs.DomainName.{DomainName}
use Rattle.dnw_decoder.specs.Chains.{PointsBack, Chain, AreEnds, Leads, ends, goes_on}
use Rattle.dnw_decoder.specs.Refusals.{Reaches, at_target}
use Rattle.dnw_decoder.proofs.Progress.{IsReading}
use Rattle.dnw_decoder.specs.Spelling.{pointer_octets}
use Rattle.dnw_decoder.proofs.Standing.{pointer_once, stands_within}

-- A chain leads backward.
pub chain_back : (message : List ℕ) (place last : ℕ) → Chain message place last → last ≤ place
chain_back message place _ (ends p) = omega arith
chain_back message place last (goes_on {target = target} p rest) =
    omega (arith, p.backward, chain_back message target last rest)

-- It begins in the message.
pub chain_inside : (message : List ℕ) (place last : ℕ) → Chain message place last → place ≤ length message
chain_inside message place _ (ends {target = target} p) =
    omega (arith, stands_within message place (pointer_octets target) (place + 2) (omega arith) p.there)
chain_inside message place last (goes_on {target = target} p rest) =
    omega (arith, stands_within message place (pointer_octets target) (place + 2) (omega arith) p.there)

-- At its end a pointer stands.
pub chain_end : (message : List ℕ) (place last : ℕ) → Chain message place last → (target : ℕ) × PointsBack message last target
chain_end message place _ (ends {target = target} p) = (target, p)
chain_end message place last (goes_on {target = target} p rest) = chain_end message target last rest

-- A chain that doesn't end at its first pointer goes on at the pointer's target.
pub chain_next : (message : List ℕ) (place target last : ℕ) → PointsBack message place target → Chain message place last → (place ≡ last → ⊥) → Chain message target last
chain_next message place target _ p (ends q) other = absurd (other refl)
chain_next message place target last p (goes_on {target = next} q rest) other =
    subst (λ (t : ℕ). Chain message t last) (pointer_once message place next target (place + 2) (place + 2) q.there p.there).0 rest

-- Reading follows a chain to its end.
pub chain_reached : (message : List ℕ) (start : ℕ) (found : List (List ℕ)) (bound place last target resume : ℕ) → Reaches message start found place bound place (Some resume) → place < bound → Chain message place last → PointsBack message last target → Reaches message start found target last target (Some resume)
chain_reached message start found bound place _ target resume reached before (ends q) p =
    at_target reached before p.backward p.small p.there
chain_reached message start found bound place last target resume reached before (goes_on {target = next} q rest) p =
    chain_reached message start found place next last target resume (at_target reached before q.backward q.small q.there) q.backward rest p

pub reading_led : (message : List ℕ) (start : ℕ) (name : DomainName) (bound target resume later_bound later_target : ℕ) → IsReading message start name target bound target (Some resume) → target < bound → Leads message bound target later_bound later_target → IsReading message start name later_target later_bound later_target (Some resume)
reading_led message start name bound target resume later_bound later_target r before leads =
    elim leads [
      | inl stays ↦ rw (stays.0, stays.1) r
      | inr led ↦ record {
        reached = chain_reached message start name.labels bound target later_bound later_target resume r.reached before led.0 led.1;
        full = r.full;
        size = r.size;
        early = omega (arith, r.early, chain_back message target later_bound led.0, led.1.backward);
        within = omega (arith, r.early, chain_back message target later_bound led.0);
        ahead = r.ahead;
      }
    ]

-- Where a chain leads isn't behind its target.
pub led_back : (message : List ℕ) (bound target later_bound later_target : ℕ) → Leads message bound target later_bound later_target → later_target ≤ target
led_back message bound target later_bound later_target leads =
    elim leads [
      | inl stays ↦ omega (arith, stays.1)
      | inr led ↦ omega (arith, chain_back message target later_bound led.0, led.1.backward)
    ]

-- A chain was followed from its first pointer to one whose target is next.
pub record IsFollowed (message : List ℕ) (first last next : ℕ) : Type 0 where
  pub before : (end : ℕ) → Chain message last end → Chain message first end
  pub pointer : PointsBack message last next

pub followed_start : (message : List ℕ) (first next : ℕ) → PointsBack message first next → IsFollowed message first first next
followed_start message first next p = record { before = λ end chain. chain; pointer = p }

pub followed_more : (message : List ℕ) (first last next later : ℕ) → IsFollowed message first last next → PointsBack message next later → IsFollowed message first next later
followed_more message first last next later f p = record {
  before = λ end chain. f.before end (goes_on f.pointer chain);
  pointer = p;
}

ends_at : (message kept : List ℕ) (place last other : ℕ) (b : Bool) → Decides b (other ≡ place) → AreEnds message kept → place < length kept → Chain message place last → 0 < get_or (set kept place last) other 0 → Chain message other (get_or (set kept place last) other 0)
ends_at message kept place last other true d are inside chain some =
    let same : other ≡ place = d.0 refl in
    rw (same, get_or-set_at kept place place last 0 refl inside) chain
ends_at message kept place last other false d are inside chain some =
    let stays = get_or-set_other kept place other last 0 (not_from_Decides false d refl) in
    rw stays (are other (rw stays at some))

-- A chain more is kept.
pub ends_more : (message kept : List ℕ) (place last : ℕ) → AreEnds message kept → place < length kept → Chain message place last → AreEnds message (set kept place last)
ends_more message kept place last are inside chain = λ other some.
    ends_at message kept place last other (other == place) (Decides-eqb other place) are inside chain some
