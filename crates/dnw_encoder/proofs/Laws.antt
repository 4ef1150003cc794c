-- Laws of what the calls of an encoder do: how they join, and that what stands goes on standing.
use Rattle.std.proofs.Common.{◌≡◌, ℕ, ◌+◌, ◌<◌, ◌≤◌, List, [], ◌∷◌, ◌++◌, length, get_or, take, drop, refl, sym, ap, subst, ◌∙◌, arith, append_assoc}
use Rattle.std.proofs.lemmas.List.{length-take, length-drop, length-append, take-take, take_at, get_or-take, get_or-drop, get_or-append_right, ext_get_or}
use Rattle.dnw_decoder.specs.Octets.{Stands}
use Rattle.dnw_decoder.proofs.Standing.{stands_front}
use Rattle.dnw_encoder.specs.Members.{In}
use Rattle.dnw_encoder.specs.State.{Candidate, State}
use Rattle.dnw_encoder.specs.Effects.{Fixed, Agrees, StaysTrue, Keeps, Same, IsStanding, Sound, SameModes, Writes, ends_by, written_at, WritesOctets}
use Rattle.dnw_encoder.specs.declared.open_places.OpenPlace.{OpenPlace}

-- Fronts of the same octets are as long and have the same octets.
pub front_there : (cut i : ℕ) (xs ys : List ℕ) → take cut xs ≡ take cut ys → i < cut → i < length ys → i < length xs
front_there cut i xs ys e lt there =
    let long : length (take cut xs) ≡ length (take cut ys) = ap length e in
    omega (arith, long, length-take cut xs, length-take cut ys)

pub front_same : (cut i : ℕ) (xs ys : List ℕ) → take cut xs ≡ take cut ys → i < cut → get_or xs i 0 ≡ get_or ys i 0
front_same cut i xs ys e lt =
    sym (get_or-take cut xs i 0 lt) ∙ ap (λ (t : List ℕ). get_or t i 0) e ∙ get_or-take cut ys i 0 lt

pub same_from_keeps : (cut : ℕ) (old new : State) → Keeps cut old new → Same cut old new
same_from_keeps cut old new k = record {
  fixed = λ i lt f. record {
    there = front_there cut i new.octets old.octets k.octets lt f.there;
    shut = λ r member low high. f.shut r (k.no_more r member (omega arith)) low high;
  };
  octets = λ i lt f. front_same cut i new.octets old.octets k.octets lt;
}

pub agrees_same : (cut bound : ℕ) (old new : State) (later : List ℕ) → Same cut old new → bound ≤ cut → Agrees new bound later → Agrees old bound later
agrees_same cut bound old new later s le a = record {
  there = λ i lt f. a.there i lt (s.fixed i (omega arith) f);
  same = λ i lt f. a.same i lt (s.fixed i (omega arith) f) ∙ s.octets i (omega arith) f;
}

-- What stands below a cut goes on standing.
pub holds_same : (cut bound : ℕ) (old new : State) (P : List ℕ → Type 0) → Same cut old new → bound ≤ cut → StaysTrue old bound P → StaysTrue new bound P
holds_same cut bound old new P s le h = record { of = λ later a. h.of later (agrees_same cut bound old new later s le a) }

pub holds_keeps : (cut bound : ℕ) (old new : State) (P : List ℕ → Type 0) → Keeps cut old new → bound ≤ cut → StaysTrue old bound P → StaysTrue new bound P
holds_keeps cut bound old new P k le h = holds_same cut bound old new P (same_from_keeps cut old new k) le h

-- It stands below a later bound as well.
pub holds_more : (bound more : ℕ) (s : State) (P : List ℕ → Type 0) → bound ≤ more → StaysTrue s bound P → StaysTrue s more P
holds_more bound more s P le h = record {
  of = λ later a. h.of later (record { there = λ i lt f. a.there i (omega arith) f; same = λ i lt f. a.same i (omega arith) f });
}

pub holds_map : (bound : ℕ) (s : State) (P Q : List ℕ → Type 0) → ((octets : List ℕ) → P octets → Q octets) → StaysTrue s bound P → StaysTrue s bound Q
holds_map bound s P Q f h = record { of = λ later a. f later (h.of later a) }

-- It stands in the octets as they are.
pub holds_now : (bound : ℕ) (s : State) (P : List ℕ → Type 0) → StaysTrue s bound P → P s.octets
holds_now bound s P h = h.of s.octets (record { there = λ i lt f. f.there; same = λ i lt f. refl })

pub standing_keeps : (cut : ℕ) (old new : State) (c : Candidate) → Keeps cut old new → cut ≤ length new.octets → c.end ≤ cut → IsStanding old c → IsStanding new c
standing_keeps cut old new c k long le s = record {
  within = omega arith;
  small = s.small;
  spelled = λ labels are e. holds_keeps cut c.end old new _ k le (s.spelled labels are e);
}

pub modes_then : (a b c : State) → SameModes a b → SameModes b c → SameModes a c
modes_then a b c s t = record {
  maximum = t.maximum ∙ s.maximum;
  encoding = t.encoding ∙ s.encoding;
  canonical = t.canonical ∙ s.canonical;
  points = t.points ∙ s.points;
}

pub modes_same : (a : State) → SameModes a a
modes_same a = record { maximum = refl; encoding = refl; canonical = refl; points = refl }

pub keeps_same : (cut : ℕ) (a : State) → Keeps cut a a
keeps_same cut a = record {
  octets = refl;
  no_more = λ r member lt. member;
  stay_open = λ r member le. member;
  candidates = λ c member le. member;
  no_others = λ c member le. member;
  few = λ n le. omega arith;
}

pub keeps_then : (cut later : ℕ) (a b c : State) → cut ≤ later → Keeps cut a b → Keeps later b c → Keeps cut a c
keeps_then cut later a b c le k l = record {
  octets = sym (take-take cut later c.octets le) ∙ ap (λ (t : List ℕ). take cut t) l.octets ∙ take-take cut later b.octets le ∙ k.octets;
  no_more = λ r member lt. k.no_more r (l.no_more r member (omega arith)) lt;
  stay_open = λ r member high. l.stay_open r (k.stay_open r member high) (omega arith);
  candidates = λ x member high. l.candidates x (k.candidates x member high) (omega arith);
  no_others = λ x member high. k.no_others x (l.no_others x member (omega arith)) high;
  few = λ n low. omega (arith, k.few n low, l.few n (omega arith));
}

-- A call that does nothing.
pub writes_same : (a : State) → Writes a a
writes_same a = record { keeps = keeps_same a.offset a; forward = omega arith; sound = λ s. s; modes = modes_same a }

-- One call after another.
pub writes_then : (a b c : State) → Writes a b → Writes b c → Writes a c
writes_then a b c v w = record {
  keeps = keeps_then a.offset b.offset a b c v.forward v.keeps w.keeps;
  forward = omega (arith, v.forward, w.forward);
  sound = λ s. w.sound (v.sound s);
  modes = modes_then a b c v.modes w.modes;
}

-- What was written stands after later calls too.
pub holds_written : (bound : ℕ) (a b : State) (P : List ℕ → Type 0) → Writes a b → bound ≤ a.offset → StaysTrue a bound P → StaysTrue b bound P
holds_written bound a b P w le h = holds_keeps a.offset bound a b P w.keeps le h

pub written_front : (octets : List ℕ) (place : ℕ) (more : List ℕ) → place ≤ length octets → take place (written_at octets place more) ≡ take place octets
written_front octets place more le =
    ap (λ (t : List ℕ). take place t) (append_assoc (take place octets) more (drop (place + length more) octets))
    ∙ take_at (take place octets) (more ++ drop (place + length more) octets) place (omega (arith, length-take place octets))

pub written_length : (octets : List ℕ) (place : ℕ) (more : List ℕ) → place ≤ length octets → length octets ≤ length (written_at octets place more) × (place + length more ≤ length (written_at octets place more)) × (length octets ≤ place + length more → length (written_at octets place more) ≡ place + length more)
written_length octets place more le =
    let a = length-append (take place octets ++ more) (drop (place + length more) octets) in
    let b = length-append (take place octets) more in
    let c = length-take place octets in
    let d = length-drop (place + length more) octets in
    (omega (arith, a, b, c, d), omega (arith, a, b, c, d), λ far. omega (arith, a, b, c, d))

-- The octets that were written stand at their place.
pub written_there : (octets : List ℕ) (place : ℕ) (more : List ℕ) (k : ℕ) → place ≤ length octets → k < length more → get_or (written_at octets place more) (place + k) 0 ≡ get_or more k 0
written_there octets place more k le lt =
    let front : length (take place octets) ≡ place = omega (arith, length-take place octets) in
    let rest = drop (place + length more) octets in
    ap (λ (t : List ℕ). get_or t (place + k) 0) (append_assoc (take place octets) more rest)
    ∙ get_or-append_right (take place octets) (more ++ rest) place (place + k) 0 front (omega arith)
    ∙ ap (λ (i : ℕ). get_or (more ++ rest) i 0) (omega arith)
    ∙ sym (get_or-take (length more) (more ++ rest) k 0 lt)
    ∙ ap (λ (t : List ℕ). get_or t k 0) (take_at more rest (length more) refl)

-- Octets that agree one by one stand there.
pub stands_each : (message : List ℕ) (place : ℕ) (more : List ℕ) → ((k : ℕ) → k < length more → place + k < length message) → ((k : ℕ) → k < length more → get_or message (place + k) 0 ≡ get_or more k 0) → Stands message place more (place + length more)
stands_each message place [] within same = record { there = ap (λ (n : ℕ). drop n message) (omega arith); behind = refl }
stands_each message place (x ∷ xs) within same =
    let n = length (x ∷ xs) in
    let fits : place + n ≤ length message = omega (arith, within (length xs) (omega arith)) in
    let front = stands_front message place n fits in
    let long : length (take n (drop place message)) ≡ n = omega (arith, length-take n (drop place message), length-drop place message) in
    let each : take n (drop place message) ≡ x ∷ xs =
    ext_get_or 0 (take n (drop place message)) (x ∷ xs) long (λ i lt.
    let less : i < n = omega (arith, lt, long) in
    get_or-take n (drop place message) i 0 less ∙ get_or-drop place message i 0 ∙ same i less) in
    subst (λ (o : List ℕ). Stands message place o (place + n)) each front

puts_keeps : (more : List ℕ) (old new : State) → old.offset ≤ length old.octets → WritesOctets more old new → Keeps old.offset old new
puts_keeps more old new within p = record {
  octets = ap (λ (t : List ℕ). take old.offset t) p.octets ∙ written_front old.octets old.offset more within;
  no_more = λ r member lt. subst (λ (rs : List OpenPlace). In r rs) p.places member;
  stay_open = λ r member le. subst (λ (rs : List OpenPlace). In r rs) (sym p.places) member;
  candidates = λ c member le. subst (λ (cs : List Candidate). In c cs) (sym p.candidates) member;
  no_others = λ c member le. subst (λ (cs : List Candidate). In c cs) p.candidates member;
  few = λ n le. omega (arith, ap (λ (cs : List Candidate). ends_by n cs) p.candidates);
}

-- Octets that are put are a writing call.
pub puts_writes : (more : List ℕ) (old new : State) → old.offset ≤ length old.octets → WritesOctets more old new → Writes old new
puts_writes more old new within p =
    let keeps = puts_keeps more old new within p in
    let sizes = written_length old.octets old.offset more within in
    let long : length new.octets ≡ length (written_at old.octets old.offset more) = ap length p.octets in
    record {
      keeps = keeps;
      forward = omega (arith, p.offset);
      sound = λ s. record {
        at_end = omega (arith, p.offset, long, s.at_end, sizes.2 (omega (arith, s.at_end)));
        stands = record {
          each = λ c member.
              let before = s.stands.each c (subst (λ (cs : List Candidate). In c cs) p.candidates member) in
              standing_keeps old.offset old new c keeps (omega (arith, long, sizes.0)) (omega (arith, before.within, s.at_end)) before;
          places = λ r member. omega (arith, s.stands.places r (subst (λ (rs : List OpenPlace). In r rs) p.places member), long, sizes.0);
          apart = λ r q one other. s.stands.apart r q (subst (λ (rs : List OpenPlace). In r rs) p.places one) (subst (λ (rs : List OpenPlace). In q rs) p.places other);
        };
      };
      modes = p.modes;
    }

-- Octets that are put at the end of a sound encoder stand there, outside the open places.
pub puts_stands : (more : List ℕ) (old new : State) → Sound old → WritesOctets more old new → StaysTrue new new.offset (λ octets. Stands octets old.offset more new.offset)
puts_stands more old new s p = record {
  of = λ later a.
      let within : old.offset ≤ length old.octets = omega (arith, s.at_end) in
      let sizes = written_length old.octets old.offset more within in
      let long : length new.octets ≡ length (written_at old.octets old.offset more) = ap length p.octets in
      let fixed : (k : ℕ) → k < length more → Fixed new (old.offset + k) = λ k lt. record {
        there = omega (arith, long, sizes.1);
        shut = λ r member low high. omega (arith, s.stands.places r (subst (λ (rs : List OpenPlace). In r rs) p.places member), s.at_end, low, high);
      } in
      let there = stands_each later old.offset more
      (λ k lt. a.there (old.offset + k) (omega (arith, p.offset)) (fixed k lt))
      (λ k lt. a.same (old.offset + k) (omega (arith, p.offset)) (fixed k lt) ∙ ap (λ (t : List ℕ). get_or t (old.offset + k) 0) p.octets ∙ written_there old.octets old.offset more k within lt) in
      subst (λ (end : ℕ). Stands later old.offset more end) (sym p.offset) there;
}
