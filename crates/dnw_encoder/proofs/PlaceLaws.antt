-- Laws of places that are reserved and filled, and of what is dropped.
use Rattle.std.proofs.Common.{◌≡◌, ℕ, ◌+◌, ◌-◌, ◌<◌, ◌≤◌, ◌⊎◌, inl, inr, Bool, true, false, not, ◌&&◌, ◌==◌, nat_le, List, [], ◌∷◌, ◌++◌, length, get_or, take, drop, replicate, filter, refl, sym, ap, subst, ◌∙◌, arith}
use Rattle.std.proofs.lemmas.Bool.Decides.{nat_tests}
use Rattle.std.proofs.lemmas.List.{length-take, length-drop, length-append, take-take, get_or-take, get_or-drop, get_or-append_right, length-replicate}
use Rattle.dnw_encoder.specs.Members.{In}
use Rattle.dnw_encoder.proofs.MemberLaws.{few_filters, in_push, in_front, in_last, in_filter, in_filter_back}
use Rattle.dnw_encoder.specs.State.{Candidate, State, is_other}
use Rattle.dnw_encoder.specs.Effects.{Fixed, Keeps, Same, SameModes, Writes, ends_by, written_at, place_of, Opens, Fills, Trims}
use Rattle.dnw_encoder.proofs.Laws.{standing_keeps, written_front, written_length, written_there, stands_each, holds_same}
use Rattle.dnw_encoder.specs.declared.open_places.OpenPlace.{OpenPlace}

pub le_from_test : (a b : ℕ) → nat_le a b ≡ true → a ≤ b
le_from_test a b e = grind (arith, nat_tests)

pub test_from_le : (a b : ℕ) → a ≤ b → nat_le a b ≡ true
test_from_le a b le = grind (arith, nat_tests)

-- A place that is opened is a writing call.
pub opens_writes : (p size : ℕ) (old new : State) → old.offset ≤ length old.octets → Opens p size old new → Writes old new
opens_writes p size old new within o =
    let zeros = replicate size 0 in
    let long : length zeros ≡ size = length-replicate size 0 in
    let sizes = written_length old.octets old.offset zeros within in
    let whole : length new.octets ≡ length (written_at old.octets old.offset zeros) = ap length o.octets in
    let member : (r : OpenPlace) → In r new.places → In r old.places ⊎ (place_of p size ≡ r) =
    λ r found. in_push r (place_of p size) old.places (subst (λ (rs : List OpenPlace). In r rs) o.places found) in
    let keeps : Keeps old.offset old new = record {
      octets = ap (λ (t : List ℕ). take old.offset t) o.octets ∙ written_front old.octets old.offset zeros within;
      no_more = λ r found lt. elim (member r found) [ inl before ↦ before | inr e ↦ absurd (omega (arith, lt, o.at, ap (λ (q : OpenPlace). q.from) e)) ];
      stay_open = λ r found le. subst (λ (rs : List OpenPlace). In r rs) (sym o.places) (in_front r old.places (place_of p size ∷ []) found);
      candidates = λ c found le. subst (λ (cs : List Candidate). In c cs) (sym o.candidates) found;
      no_others = λ c found le. subst (λ (cs : List Candidate). In c cs) o.candidates found;
      few = λ n le. omega (arith, ap (λ (cs : List Candidate). ends_by n cs) o.candidates);
    } in
    record {
      keeps = keeps;
      forward = omega (arith, o.offset);
      sound = λ s. record {
        at_end = omega (arith, o.offset, whole, s.at_end, long, sizes.2 (omega (arith, s.at_end)));
        stands = record {
          each = λ c found.
              let before = s.stands.each c (subst (λ (cs : List Candidate). In c cs) o.candidates found) in
              standing_keeps old.offset old new c keeps (omega (arith, whole, sizes.0)) (omega (arith, before.within, s.at_end)) before;
          places = λ r found. elim (member r found) [
            | inl before ↦ omega (arith, s.stands.places r before, whole, sizes.0)
            | inr e ↦ omega (arith, ap (λ (q : OpenPlace). q.to) e, o.at, whole, sizes.1, long)
          ];
          apart = λ r q one other i low high near far. elim (member r one) [
            | inl before ↦ elim (member q other) [
              | inl too ↦ s.stands.apart r q before too i low high near far
              | inr e ↦ absurd (omega (arith, s.stands.places r before, s.at_end, o.at, ap (λ (x : OpenPlace). x.from) e))
            ]
            | inr e ↦ elim (member q other) [
              | inl too ↦ absurd (omega (arith, s.stands.places q too, s.at_end, o.at, ap (λ (x : OpenPlace). x.from) e))
              | inr f ↦ sym e ∙ f
            ]
          ];
        };
      };
      modes = o.modes;
    }

-- It is open then.
pub opens_open : (p size : ℕ) (old new : State) → Opens p size old new → In (place_of p size) new.places
opens_open p size old new o = subst (λ (rs : List OpenPlace). In (place_of p size) rs) (sym o.places) (in_last (place_of p size) old.places)

-- Octets elsewhere are as before.
written_other : (octets : List ℕ) (p : ℕ) (more : List ℕ) (i : ℕ) → p + length more ≤ length octets → (i < p) ⊎ (p + length more ≤ i) → get_or (written_at octets p more) i 0 ≡ get_or octets i 0
written_other octets p more i fits (inl before) =
    sym (get_or-take p (written_at octets p more) i 0 before) ∙ ap (λ (t : List ℕ). get_or t i 0) (written_front octets p more (omega arith)) ∙ get_or-take p octets i 0 before
written_other octets p more i fits (inr behind) =
    let n = p + length more in
    let front : length (take p octets ++ more) ≡ n = omega (arith, length-append (take p octets) more, length-take p octets) in
    get_or-append_right (take p octets ++ more) (drop n octets) n i 0 front behind
    ∙ get_or-drop n octets (i - n) 0
    ∙ ap (λ (k : ℕ). get_or octets k 0) (omega arith)

apart_or : (i p n : ℕ) → ((p ≤ i) × (i < p + n) → ⊥) → (i < p) ⊎ (p + n ≤ i)
apart_or i p n h = grind (arith, h)

same_place : (r : OpenPlace) (p n : ℕ) → r.from ≡ p → r.to ≡ p + n → r ≡ place_of p n
same_place r p n e f =
    ap (λ (a : ℕ). let q : OpenPlace = record { from = a; to = r.to } in q) e ∙ ap (λ (b : ℕ). let q : OpenPlace = record { from = p; to = b } in q) f

not_from : (b : Bool) → (b ≡ true → ⊥) → not b ≡ true
not_from true h = absurd (h refl)
not_from false h = refl

both_from : (a b c d : ℕ) → ((a == b) && (c == d)) ≡ true → (a ≡ b) × (c ≡ d)
both_from a b c d e = (grind (arith, nat_tests), grind (arith, nat_tests))

other_from : (p n : ℕ) (r : OpenPlace) → (r ≡ place_of p n → ⊥) → is_other p (p + n) r ≡ true
other_from p n r h = not_from ((r.from == p) && (r.to == (p + n))) (λ e. let both = both_from r.from p r.to (p + n) e in h (same_place r p n both.0 both.1))

not_itself : (p n : ℕ) → is_other p (p + n) (place_of p n) ≡ true → ⊥
not_itself p n e = grind (arith, nat_tests)

written_inside : (octets : List ℕ) (p : ℕ) (more : List ℕ) → p + length more ≤ length octets → length (written_at octets p more) ≡ length octets
written_inside octets p more fits =
    omega (arith, length-append (take p octets ++ more) (drop (p + length more) octets), length-append (take p octets) more, length-take p octets, length-drop (p + length more) octets)

-- What filling an open place does, from what its octets and its list of places are.
pub fills : (p : ℕ) (more : List ℕ) (old new : State) → 0 < length more → In (place_of p (length more)) old.places → p + length more ≤ length old.octets → new.octets ≡ written_at old.octets p more → new.offset ≡ old.offset → new.candidates ≡ old.candidates → new.places ≡ filter (is_other p (p + length more)) old.places → SameModes old new → Fills p more old new
fills p more old new some is_open fits octets offset candidates places modes =
    let n = length more in
    let long : length new.octets ≡ length old.octets = ap length octets ∙ written_inside old.octets p more fits in
    let member : (r : OpenPlace) → In r new.places → In r old.places × (is_other p (p + n) r ≡ true) =
    λ r found. in_filter (is_other p (p + n)) r old.places (subst (λ (rs : List OpenPlace). In r rs) places found) in
    let shut : In (place_of p n) new.places → ⊥ = λ found. not_itself p n (member (place_of p n) found).1 in
    let stay : (r : OpenPlace) → In r old.places → (r ≡ place_of p n → ⊥) → In r new.places =
    λ r found differs. subst (λ (rs : List OpenPlace). In r rs) (sym places) (in_filter_back (is_other p (p + n)) r old.places (other_from p n r differs) found) in
    let same : (cut : ℕ) → Same cut old new = λ cut. record {
      fixed = λ i lt f. record {
        there = omega (arith, f.there, long);
        shut = λ r found low high. f.shut r (member r found).0 low high;
      };
      octets = λ i lt f.
          ap (λ (t : List ℕ). get_or t i 0) octets ∙ written_other old.octets p more i fits (apart_or i p n (λ h. f.shut (place_of p n) is_open h.0 h.1));
    } in
    record {
      octets = octets;
      offset = offset;
      candidates = candidates;
      shut = shut;
      no_more = λ r found. (member r found).0;
      stay_open = stay;
      modes = modes;
      same = same;
      keeps = record {
        octets = ap (λ (t : List ℕ). take p t) octets ∙ written_front old.octets p more (omega (arith, fits));
        no_more = λ r found lt. (member r found).0;
        stay_open = λ r found le. stay r found (λ e. let f : r.to ≡ p + n = ap (λ (q : OpenPlace). q.to) e in omega (arith, some));
        candidates = λ c found le. subst (λ (cs : List Candidate). In c cs) (sym candidates) found;
        no_others = λ c found le. subst (λ (cs : List Candidate). In c cs) candidates found;
        few = λ n le. omega (arith, ap (λ (cs : List Candidate). ends_by n cs) candidates);
      };
      sound = λ s. record {
        at_end = omega (arith, offset, s.at_end, long);
        stands = record {
          each = λ c found.
              let before = s.stands.each c (subst (λ (cs : List Candidate). In c cs) candidates found) in
              record {
                within = omega (arith, before.within, long);
                small = before.small;
                spelled = λ labels are e. holds_same c.end c.end old new _ (same c.end) (omega arith) (before.spelled labels are e);
              };
          places = λ r found. omega (arith, s.stands.places r (member r found).0, long);
          apart = λ r q one other. s.stands.apart r q (member r one).0 (member q other).0;
        };
      };
      stays = λ s. record {
        of = λ later a.
            let fixed : (k : ℕ) → k < n → Fixed new (p + k) = λ k lt. record {
              there = omega (arith, fits, long);
              shut = λ r found low high.
                  let itself : r ≡ place_of p n = s.stands.apart r (place_of p n) (member r found).0 is_open (p + k) low high (omega arith) (omega arith) in
                  shut (subst (λ (q : OpenPlace). In q new.places) itself found);
            } in
            stands_each later p more
            (λ k lt. a.there (p + k) (omega arith) (fixed k lt))
            (λ k lt. a.same (p + k) (omega arith) (fixed k lt) ∙ ap (λ (t : List ℕ). get_or t (p + k) 0) octets ∙ written_there old.octets p more k (omega (arith, fits)) lt);
      };
    }

-- What trimming does, from what is left.
pub trims : (old new : State) → old.offset ≤ length old.octets → new.octets ≡ take old.offset old.octets → new.offset ≡ old.offset → new.candidates ≡ filter (λ c. nat_le c.end old.offset) old.candidates → new.places ≡ filter (λ r. nat_le r.to old.offset) old.places → SameModes old new → Trims old new
trims old new within octets offset candidates places modes =
    let long : length new.octets ≡ old.offset = omega (arith, ap length octets, length-take old.offset old.octets) in
    let member : (r : OpenPlace) → In r new.places → In r old.places × (nat_le r.to old.offset ≡ true) =
    λ r found. in_filter (λ q. nat_le q.to old.offset) r old.places (subst (λ (rs : List OpenPlace). In r rs) places found) in
    let kept : (c : Candidate) → In c new.candidates → In c old.candidates × (nat_le c.end old.offset ≡ true) =
    λ c found. in_filter (λ q. nat_le q.end old.offset) c old.candidates (subst (λ (cs : List Candidate). In c cs) candidates found) in
    let keeps : Keeps old.offset old new = record {
      octets = ap (λ (t : List ℕ). take old.offset t) octets ∙ take-take old.offset old.offset old.octets (omega arith);
      no_more = λ r found lt. (member r found).0;
      stay_open = λ r found le. subst (λ (rs : List OpenPlace). In r rs) (sym places) (in_filter_back (λ q. nat_le q.to old.offset) r old.places (test_from_le r.to old.offset le) found);
      candidates = λ c found le. subst (λ (cs : List Candidate). In c cs) (sym candidates) (in_filter_back (λ q. nat_le q.end old.offset) c old.candidates (test_from_le c.end old.offset le) found);
      no_others = λ c found le. (kept c found).0;
      few = λ n le. omega (arith, ap (λ (cs : List Candidate). ends_by n cs) candidates, few_filters (λ (c : Candidate). nat_le c.end n) (λ (c : Candidate). nat_le c.end old.offset) old.candidates);
    } in
    record {
      octets = octets;
      offset = offset;
      keeps = keeps;
      only = λ c found. ((kept c found).0, le_from_test c.end old.offset (kept c found).1);
      places = λ r found. le_from_test r.to old.offset (member r found).1;
      sound = λ stand. record {
        at_end = omega (arith, offset, long);
        stands = record {
          each = λ c found.
              standing_keeps old.offset old new c keeps (omega (arith, long)) (le_from_test c.end old.offset (kept c found).1) (stand.each c (kept c found).0);
          places = λ r found. omega (arith, le_from_test r.to old.offset (member r found).1, long);
          apart = λ r q one other. stand.apart r q (member r one).0 (member q other).0;
        };
      };
      modes = modes;
    }
