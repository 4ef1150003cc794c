-- Laws of rollbacks and of values written one behind the other.
use Rattle.std.proofs.Common.{◌≡◌, ℕ, ◌+◌, filter, nat_le, length, ap, List, [], ◌∷◌, ◌++◌, Option, Some, length-append, refl, sym, subst, ◌∙◌, arith}
use Rattle.std.proofs.lemmas.List.{take_all}
use Rattle.std.specs.Iterator.{Yields}
use Rattle.dnw_encoder.specs.Members.{In}
use Rattle.dnw_encoder.specs.State.{Candidate, State}
use Rattle.dnw_encoder.specs.Effects.{StaysTrue, Keeps, AllStand, Writes, Trims, RolledBack, Emitted, Wrote}
use Rattle.dnw_encoder.proofs.Laws.{keeps_then, modes_then}
use Rattle.dnw_encoder.proofs.MemberLaws.{all_filter, few_filter}
use Rattle.dnw_encoder.proofs.PlaceLaws.{test_from_le}

holds_offset : (s : State) (n bound : ℕ) (P : List ℕ → Type 0) → StaysTrue s bound P → StaysTrue (record s { offset = n }) bound P
holds_offset s n bound P h = record {
  of = λ later a. h.of later (record {
    there = λ i lt f. a.there i lt (record { there = f.there; shut = f.shut });
    same = λ i lt f. a.same i lt (record { there = f.there; shut = f.shut });
  });
}

stand_offset : (s : State) (n : ℕ) → AllStand s → AllStand (record s { offset = n })
stand_offset s n a = record {
  each = λ c found.
      let before = a.each c found in
      record { within = before.within; small = before.small; spelled = λ labels are e. holds_offset s n c.end _ (before.spelled labels are e) };
  places = a.places;
  apart = a.apart;
}

-- Going back to where a call began, and trimming there, takes the call back.
pub rolled_back : (old mid new : State) → Writes old mid → Trims (record mid { offset = old.offset }) new → RolledBack old new
rolled_back old mid new w t =
    let trimmed : Keeps old.offset mid new = record {
      octets = t.keeps.octets;
      no_more = t.keeps.no_more;
      stay_open = t.keeps.stay_open;
      candidates = t.keeps.candidates;
      no_others = t.keeps.no_others;
      few = t.keeps.few;
    } in
    let keeps : Keeps old.offset old new = keeps_then old.offset old.offset old mid new (omega arith) w.keeps trimmed in
    let only : (c : Candidate) → In c new.candidates → In c old.candidates =
    λ c found. let kept = t.only c found in w.keeps.no_others c kept.0 kept.1 in
    let whole : filter (λ (c : Candidate). nat_le c.end old.offset) new.candidates ≡ new.candidates =
    all_filter (λ (c : Candidate). nat_le c.end old.offset) new.candidates (λ c found. test_from_le c.end old.offset (t.only c found).1) in
    record {
      keeps = keeps;
      offset = t.offset;
      octets = λ s. t.octets ∙ w.keeps.octets ∙ take_all old.offset old.octets (omega (arith, s.at_end));
      writes = record {
        keeps = keeps;
        forward = omega (arith, t.offset);
        sound = λ s. t.sound (stand_offset mid old.offset (w.sound s).stands);
        modes = modes_then old mid new w.modes (record { maximum = t.modes.maximum; encoding = t.modes.encoding; canonical = t.modes.canonical; points = t.modes.points });
      };
      only = only;
      few = omega (arith, ap length whole, keeps.few old.offset (omega arith), few_filter (λ (c : Candidate). nat_le c.end old.offset) old.candidates);
    }

-- One value more.
pub emitted_more : {X : Type 0} (emits : X → State → State → Type 0) (old mid new : State) (xs : List X) (x : X) → Emitted emits old xs mid → emits x mid new → Writes mid new → Emitted emits old (xs ++ x ∷ []) new
emitted_more emits old mid new [] x before e w = (new, subst (λ (s : State). emits x s new) before e, subst (λ (s : State). Writes s new) before w, refl)
emitted_more emits old mid new (y ∷ ys) x before e w = (before.0, before.1, before.2, emitted_more emits before.0 mid new ys x before.3 e w)

yields_more : {S X : Type 0} (steps : S → Option X → S → Type 0) (from mid to : S) (xs : List X) (x : X) → Yields steps from xs mid → steps mid (Some x) to → Yields steps from (xs ++ x ∷ []) to
yields_more steps from mid to [] x before step = (to, subst (λ s. steps s (Some x) to) (sym before) step, refl)
yields_more steps from mid to (y ∷ ys) x before step = (before.0, before.1, yields_more steps before.0 mid to ys x before.2 step)

-- One item more.
pub wrote_more : {S X : Type 0} (steps : S → Option X → S → Type 0) (emits : X → State → State → Type 0) (from mid to : S) (count : ℕ) (old now new : State) (x : X) → Wrote steps emits from mid count old now → steps mid (Some x) to → emits x now new → Writes now new → Wrote steps emits from to (count + 1) old new
wrote_more steps emits from mid to count old now new x w step e v = record {
  items = w.items ++ x ∷ [];
  yielded = yields_more steps from mid to w.items x w.yielded step;
  counted = omega (arith, w.counted, length-append w.items (x ∷ []));
  emitted = emitted_more emits old now new w.items x w.emitted e v;
}
