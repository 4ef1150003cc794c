-- Laws of names that are written with a pointer, and of what is kept for later ones.
use Rattle.std.proofs.Common.{◌≡◌, ℕ, zero, suc, ◌+◌, ◌-◌, ◌/◌, ◌%◌, ◌<◌, ◌≤◌, ◌⊎◌, inl, inr, true, false, List, [], ◌∷◌, ◌++◌, length, nat_le, take, drop, get_or, refl, sym, ap, subst, ◌∙◌, arith, append_assoc, append-nil, length-append}
use Rattle.std.specs.List.{All, slice_range}
use Rattle.std.proofs.lemmas.Bool.Decides.{nat_tests}
use Rattle.std.proofs.lemmas.List.{length-take, length-drop, take_at, get_or-take, get_or-drop}
use Rattle.std.proofs.lemmas.List.Folds.{drop_split}
use Rattle.std.proofs.lemmas.List.Elements.{All-head, All-tail, All-cons}
use Rattle.dnw_decoder.specs.dnw_label.Label.{IsLabel}
use Rattle.dnw_decoder.specs.dnw_label.Labels.{label_octets}
use Rattle.dnw_decoder.specs.dnw_name.DomainName.{DomainName, domain_name, IsDomainName, name_octets}
use Rattle.dnw_decoder.specs.Octets.{Stands, octets_16}
use Rattle.dnw_decoder.specs.Spelling.{Spelled, Spells, at_end, at_label, at_pointer, NameAt, pointer_octets}
use Rattle.dnw_decoder.proofs.Standing.{stands_within, stands_split, stands_taken}
use Rattle.dnw_decoder.proofs.SpellingLaws.{spelled_within}
use Rattle.dnw_encoder.specs.declared.modes.NameEncoding.TheVariants.{Compressed}
use Rattle.dnw_encoder.specs.declared.candidates.Suffix.{Suffix}
use Rattle.dnw_encoder.specs.declared.open_places.OpenPlace.{OpenPlace}
use Rattle.dnw_encoder.specs.Candidates.{IsKeptSuffix, KeepsOctets, KeepsSuffixes, IsLongest, HasNoSuffix, octets_at}
use Rattle.dnw_encoder.specs.Effects.{Fixed, Agrees, StaysTrue, Keeps, IsStanding, Sound, SameModes, Writes, WritesOctets, Stores, StoresName, Has, ends_by, written_at}
use Rattle.dnw_encoder.specs.Members.{In}
use Rattle.dnw_encoder.specs.Names.{EmitsName, WritesFront, encoded_name}
use Rattle.dnw_encoder.specs.State.{Candidate, State}
use Rattle.dnw_encoder.proofs.CandidateLaws.{in_append, in_back}
use Rattle.dnw_encoder.proofs.Laws.{puts_writes, puts_stands, holds_keeps, holds_more, stands_each}
use Rattle.dnw_encoder.proofs.MemberLaws.{in_push, in_front, in_last, none_filter}
use Rattle.dnw_encoder.proofs.NameLaws.{length-octets, spelled_octets}
use Rattle.dnw_encoder.proofs.SuffixLaws.{longer_front, octets_one, octets_once, octets_split}

-- What stands in an encoder of the same octets and open places.
pub stays_alike : (s t : State) (bound : ℕ) (P : List ℕ → Type 0) → t.octets ≡ s.octets → t.places ≡ s.places → StaysTrue s bound P → StaysTrue t bound P
stays_alike s t bound P octets places h = record {
  of = λ later a. h.of later (record {
    there = λ i lt f. a.there i lt (fixed i f);
    same = λ i lt f. a.same i lt (fixed i f) ∙ ap (λ (o : List ℕ). get_or o i 0) octets;
  });
}
  where
    fixed : (i : ℕ) → Fixed s i → Fixed t i
    fixed i f = record {
      there = omega (arith, f.there, ap length octets);
      shut = λ r member low high. f.shut r (subst (λ (rs : List OpenPlace). In r rs) places member) low high;
    }

pub standing_alike : (s t : State) (c : Candidate) → t.octets ≡ s.octets → t.places ≡ s.places → IsStanding s c → IsStanding t c
standing_alike s t c octets places is = record {
  within = omega (arith, is.within, ap length octets);
  small = is.small;
  spelled = λ labels are e. stays_alike s t c.end _ octets places (is.spelled labels are e);
}

-- A range of the octets is kept.
pub stores : (start end : ℕ) (old new : State) → start ≤ end → end ≤ length old.octets → ((r : OpenPlace) → In r old.places → start < r.to → r.from < end → ⊥) → new.octets ≡ old.octets → new.offset ≡ old.offset → new.places ≡ old.places → SameModes old new → KeepsOctets (slice_range old.octets start end) start old.candidates new.candidates → Stores start end old new
stores start end old new order within shut octets offset places modes k =
    let part = slice_range old.octets start end in
    let long : start + length part ≡ end = omega (arith, length-take (end - start) (drop start old.octets), length-drop start old.octets) in
    let itself : octets_at part start ≡ record { place = start; octets = part; end = end } =
    ap (λ (n : ℕ). let c : Candidate = record { place = start; octets = part; end = n } in c) long in
    record {
      octets = octets;
      offset = offset;
      places = places;
      keeps = λ c found. elim k.only [
        | inl same ↦ subst (λ (cs : List Candidate). In c cs) (sym same) found
        | inr more ↦ subst (λ (cs : List Candidate). In c cs) (sym more.0) (in_front c old.candidates (octets_at part start ∷ []) found)
      ];
      only = λ c found. elim k.only [
        | inl same ↦ inl (subst (λ (cs : List Candidate). In c cs) same found)
        | inr more ↦ elim (in_push c (octets_at part start) old.candidates (subst (λ (cs : List Candidate). In c cs) more.0 found)) [
          | inl before ↦ inl before
          | inr e ↦ inr (sym e ∙ itself)
        ]
      ];
      becomes = λ points room early.
          (octets_at part start, subst (λ (cs : List Candidate). In (octets_at part start) cs) (sym (k.becomes room early)) (in_last (octets_at part start) old.candidates), refl);
      sound = λ s. record {
        at_end = offset ∙ s.at_end ∙ sym (ap length octets);
        stands = record {
          each = λ c found. elim k.only [
            | inl same ↦ standing_alike old new c octets places (s.stands.each c (subst (λ (cs : List Candidate). In c cs) same found))
            | inr more ↦ elim (in_push c (octets_at part start) old.candidates (subst (λ (cs : List Candidate). In c cs) more.0 found)) [
              | inl before ↦ standing_alike old new c octets places (s.stands.each c before)
              | inr e ↦ subst (λ (x : Candidate). IsStanding new x) e (standing_alike old new (octets_at part start) octets places (record {
                within = omega (arith, long, within);
                small = more.1;
                spelled = λ labels are is. record {
                  of = λ later a.
                      let fixed : (i : ℕ) → i < length part → Fixed old (start + i) = λ i lt. record {
                        there = omega (arith, lt, long, within);
                        shut = λ r member low high. shut r member (omega (arith, low, high, lt, long)) (omega (arith, low, high, lt, long));
                      } in
                      let there = stands_each later start part
                      (λ i lt. a.there (start + i) (omega (arith, lt)) (fixed i lt))
                      (λ i lt. a.same (start + i) (omega (arith, lt)) (fixed i lt) ∙ sym (part_at start end old.octets i lt)) in
                      spelled_octets later start start labels (start + length part) are (subst (λ (o : List ℕ). Stands later start o (start + length part)) is there);
                };
              }))
            ]
          ];
          places = λ r found. omega (arith, s.stands.places r (subst (λ (rs : List OpenPlace). In r rs) places found), ap length octets);
          apart = λ r q one other. s.stands.apart r q (subst (λ (rs : List OpenPlace). In r rs) places one) (subst (λ (rs : List OpenPlace). In q rs) places other);
        };
      };
      modes = modes;
    }
  where
    part_at : (from to : ℕ) (xs : List ℕ) (i : ℕ) → i < length (slice_range xs from to) → get_or (slice_range xs from to) i 0 ≡ get_or xs (from + i) 0
    part_at from to xs i lt =
        get_or-take (to - from) (drop from xs) i 0 (omega (arith, lt, length-take (to - from) (drop from xs))) ∙ get_or-drop from xs i 0

-- Nothing is kept.
pub stores_none : (start end : ℕ) (s : State) → s.points ≡ false → Stores start end s s
stores_none start end s plain = record {
  octets = refl;
  offset = refl;
  places = refl;
  keeps = λ c found. found;
  only = λ c found. inl found;
  becomes = λ points. absurd (cc (points, plain));
  sound = λ sound. sound;
  modes = record { maximum = refl; encoding = refl; canonical = refl; points = refl };
}

-- The octets of a front of labels, with what is behind them, spell the labels with what that spells.
pub spelled_front : (message : List ℕ) (segment place : ℕ) (front rest : List (List ℕ)) (more : List ℕ) (end : ℕ) → All IsLabel front → Stands message place (label_octets front ++ more) end → ((at : ℕ) → place ≤ at → Stands message at more end → Spelled message segment (length message) at rest end) → Spelled message segment (length message) place (front ++ rest) end
spelled_front message segment place [] rest more end are s tail = tail place (omega arith) s
spelled_front message segment place (l ∷ ls) rest more end are s tail =
    let is : IsLabel l = All-head IsLabel l ls are in
    let both = stands_split message place (length l ∷ l) (label_octets ls ++ more) end (subst (λ (o : List ℕ). Stands message place o end) (append_assoc (length l ∷ l) (label_octets ls) more) s) in
    let within = stands_within message place (length l ∷ l) (place + length (length l ∷ l)) (omega arith) both.0 in
    at_label (omega (arith, within)) is both.0
    (spelled_front message segment (place + length (length l ∷ l)) ls rest more end (All-tail IsLabel l ls are) both.1 (λ at le there. tail at (omega (arith, le)) there))

-- What is spelled by octets that end by a place is spelled before it.
pub spelled_before : (message : List ℕ) (segment bound place : ℕ) (found : List (List ℕ)) (end other : ℕ) → Spelled message segment bound place found end → end ≤ other → Spelled message segment other place found end
spelled_before message segment bound place _ end other (at_end inside s) le = at_end (omega (arith, s.behind, le)) s
spelled_before message segment bound place _ end other (at_label {behind = behind} {rest = rest} inside is_label s later) le =
    at_label (omega (arith, le, (spelled_within message segment bound behind rest end later).0, s.behind)) is_label s (spelled_before message segment bound behind rest end other later le)
spelled_before message segment bound place found end other (at_pointer {target = target} inside backward small s later) le =
    at_pointer (omega (arith, s.behind, le)) backward small s later

-- Octets that spell labels wherever they stand behind an offset.
pub record IsTail (new : State) (offset : ℕ) (more : List ℕ) (rest : List (List ℕ)) : Type 0 where
  pub some : 0 < length more
  pub spelled : (later : List ℕ) → Agrees new new.offset later → (segment at end : ℕ) → offset ≤ segment → Stands later at more end
      → Spelled later segment (length later) at rest end

-- The end is such octets, and so is a pointer to a name that is kept.
pub end_tail : (new : State) (offset : ℕ) → IsTail new offset (0 ∷ []) []
end_tail new offset = record {
  some = omega arith;
  spelled = λ later a segment at end le s. at_end (omega (arith, stands_within later at (0 ∷ []) end (omega arith) s, s.behind)) s;
}

pub pointer_tail : (old new : State) (c : Candidate) (rest : List (List ℕ)) → Sound old → In c old.candidates → c.octets ≡ name_octets (domain_name true rest) → All IsLabel rest → Keeps old.offset old new → old.offset ≤ new.offset → IsTail new old.offset (pointer_octets c.place) rest
pointer_tail old new c rest sound found spelled are keeps forward =
    let is = sound.stands.each c found in
    let early : c.end ≤ old.offset = omega (arith, is.within, sound.at_end) in
    let stays = holds_more c.end new.offset new _ (omega (arith, early, forward)) (holds_keeps old.offset c.end old new _ keeps early (is.spelled rest are spelled)) in
    record {
      some = omega arith;
      spelled = λ later a segment at end le s.
          let target = stays.of later a in
          let within = spelled_within later c.place (length later) c.place rest c.end target in
          let there = stands_within later at (pointer_octets c.place) end (omega arith) s in
          at_pointer (omega (arith, there, s.behind)) (omega (arith, within.0, early, le)) (omega (arith, is.small)) s
          (spelled_before later c.place (length later) c.place rest c.end segment target (omega (arith, early, le)));
    }

-- Labels behind others.
all_behind : (front rest : List (List ℕ)) → All IsLabel (front ++ rest) → All IsLabel rest
all_behind [] rest are = are
all_behind (l ∷ ls) rest are = all_behind ls rest (All-tail IsLabel l (ls ++ rest) are)

all_before : (front rest : List (List ℕ)) → All IsLabel (front ++ rest) → All IsLabel front
all_before [] rest are = λ k d lt. absurd (omega (arith, lt))
all_before (l ∷ ls) rest are = All-cons IsLabel l ls (All-head IsLabel l (ls ++ rest) are) (all_before ls rest (All-tail IsLabel l (ls ++ rest) are))

-- A front of labels that was written with a tail: the labels stand there, and so does each name that
-- begins in it.
pub record Fronted (labels front rest : List (List ℕ)) (more : List ℕ) (old new : State) : Type 0 where
  pub split : labels ≡ front ++ rest
  pub labelled : All IsLabel labels
  pub writes : WritesFront labels (length (label_octets front)) more old new
  pub within : old.offset ≤ length old.octets

-- The state with the names of before.
abbrev pub without : State → State → State
without old new = record new { candidates = old.candidates }

puts_front : (labels front rest : List (List ℕ)) (more : List ℕ) (old new : State) → (f : Fronted labels front rest more old new) → WritesOctets (label_octets front ++ more) old (without old new)
puts_front labels front rest more old new f =
    let front_is : take (length (label_octets front)) (label_octets labels) ≡ label_octets front =
    ap (λ (ls : List (List ℕ)). take (length (label_octets front)) (label_octets ls)) f.split
    ∙ ap (λ (t : List ℕ). take (length (label_octets front)) t) (octets_split front rest)
    ∙ take_at (label_octets front) (label_octets rest) (length (label_octets front)) refl in
    record {
      octets = f.writes.octets ∙ ap (λ (t : List ℕ). written_at old.octets old.offset (t ++ more)) front_is;
      offset = f.writes.offset ∙ ap (λ (n : ℕ). old.offset + n) (sym (length-append (label_octets front) more));
      candidates = refl;
      places = f.writes.places;
      modes = record { maximum = f.writes.modes.maximum; encoding = f.writes.modes.encoding; canonical = f.writes.modes.canonical; points = f.writes.modes.points };
    }

test_false : (a b : ℕ) → b < a → nat_le a b ≡ false
test_false a b lt = grind (arith, nat_tests)

pub front_keeps : (labels front rest : List (List ℕ)) (more : List ℕ) (old new : State) → 0 < length more → (f : Fronted labels front rest more old new) → Keeps old.offset old new
front_keeps labels front rest more old new some f =
    let w = puts_writes (label_octets front ++ more) old (without old new) f.within (puts_front labels front rest more old new f) in
    record {
      octets = w.keeps.octets;
      no_more = w.keeps.no_more;
      stay_open = w.keeps.stay_open;
      candidates = λ c found le. subst (λ (cs : List Candidate). In c cs) (sym f.writes.candidates.appended) (in_front c old.candidates f.writes.candidates.added found);
      no_others = λ c found le. elim (in_append c old.candidates f.writes.candidates.added (subst (λ (cs : List Candidate). In c cs) f.writes.candidates.appended found)) [
        | inl before ↦ before
        | inr later ↦ absurd (omega (arith, (f.writes.candidates.each c later).end, le, f.writes.offset, some))
      ];
      few = λ n le. omega (arith, ap (λ (cs : List Candidate). ends_by n cs) f.writes.candidates.appended, ap length (none_filter (λ (c : Candidate). nat_le c.end n) old.candidates f.writes.candidates.added (λ c found. test_false c.end n (omega (arith, (f.writes.candidates.each c found).end, le, f.writes.offset, some)))));
    }

pub front_stands : (labels front rest : List (List ℕ)) (more : List ℕ) (old new : State) → Sound old → (f : Fronted labels front rest more old new) → StaysTrue new new.offset (λ message. Stands message old.offset (label_octets front ++ more) new.offset)
front_stands labels front rest more old new sound f =
    stays_alike (without old new) new new.offset _ refl refl (puts_stands (label_octets front ++ more) old (without old new) sound (puts_front labels front rest more old new f))

-- The labels are spelled there.
pub front_spelled : (labels front rest : List (List ℕ)) (more : List ℕ) (old new : State) → Sound old → (f : Fronted labels front rest more old new) → IsTail new old.offset more rest → StaysTrue new new.offset (λ message. Spells message old.offset labels new.offset)
front_spelled labels front rest more old new sound f tail = record {
  of = λ later a.
      subst (λ (ls : List (List ℕ)). Spells later old.offset ls new.offset) (sym f.split)
      (spelled_front later old.offset old.offset front rest more new.offset (all_before front rest (subst (λ (ls : List (List ℕ)). All IsLabel ls) f.split f.labelled))
      ((front_stands labels front rest more old new sound f).of later a)
      (λ at le s. tail.spelled later a old.offset at new.offset (omega arith) s));
}

-- Each name that is kept stands.
pub suffix_stands : (labels front rest : List (List ℕ)) (more : List ℕ) (old new : State) → Sound old → (f : Fronted labels front rest more old new) → IsTail new old.offset more rest → new.offset ≤ length new.octets → (c : Candidate) → IsKeptSuffix labels (length (label_octets front)) old.offset new.offset c → IsStanding new c
suffix_stands labels front rest more old new sound f tail inside c k = record {
  within = omega (arith, k.end, inside);
  small = k.small;
  spelled = λ others are e.
      let mine : All IsLabel k.rest = all_behind k.before k.rest (subst (λ (ls : List (List ℕ)). All IsLabel ls) k.split f.labelled) in
      let same : k.rest ≡ others = octets_once k.rest others mine are (sym k.spelled ∙ e) in
      let long = longer_front k.before k.rest front rest (sym k.split ∙ f.split) k.early in
      let part : List (List ℕ) = long.0 ∷ long.1 in
      let each : All IsLabel part = all_behind k.before part (subst (λ (ls : List (List ℕ)). All IsLabel ls) long.2 (all_before front rest (subst (λ (ls : List (List ℕ)). All IsLabel ls) f.split f.labelled))) in
      record {
        of = λ later a.
            let now : Agrees new new.offset later = record { there = λ i lt g. a.there i (omega (arith, lt, k.end)) g; same = λ i lt g. a.same i (omega (arith, lt, k.end)) g } in
            let all : Stands later old.offset (label_octets k.before ++ (label_octets part ++ more)) new.offset =
            subst (λ (o : List ℕ). Stands later old.offset o new.offset)
            (ap (λ (ls : List (List ℕ)). label_octets ls ++ more) long.2 ∙ ap (λ (o : List ℕ). o ++ more) (octets_split k.before part) ∙ append_assoc (label_octets k.before) (label_octets part) more)
            ((front_stands labels front rest more old new sound f).of later now) in
            let start = old.offset + length (label_octets k.before) in
            let behind = (stands_split later old.offset (label_octets k.before) (label_octets part ++ more) new.offset all).1 in
            let spelled : Spelled later start (length later) start (part ++ rest) new.offset =
            spelled_front later start start part rest more new.offset each behind (λ at le s. tail.spelled later now start at new.offset (omega arith) s) in
            let there : Spells later start others new.offset = subst (λ (ls : List (List ℕ)). Spells later start ls new.offset) (sym long.3 ∙ same) spelled in
            let placed : Spells later c.place others new.offset = subst (λ (p : ℕ). Spells later p others new.offset) (sym k.place) there in
            subst (λ (p : ℕ). Spells later c.place others p) (sym k.end) placed;
      };
}

-- A front with its tail is a writing call.
pub front_writes : (labels front rest : List (List ℕ)) (more : List ℕ) (old new : State) → 0 < length more → (f : Fronted labels front rest more old new) → (Sound old → IsTail new old.offset more rest) → Writes old new
front_writes labels front rest more old new some f tail =
    let w = puts_writes (label_octets front ++ more) old (without old new) f.within (puts_front labels front rest more old new f) in
    record {
      keeps = front_keeps labels front rest more old new some f;
      forward = w.forward;
      sound = λ s.
          let m = w.sound s in
          record {
            at_end = m.at_end;
            stands = record {
              each = λ c found. elim (in_append c old.candidates f.writes.candidates.added (subst (λ (cs : List Candidate). In c cs) f.writes.candidates.appended found)) [
                | inl before ↦ standing_alike (without old new) new c refl refl (m.stands.each c before)
                | inr later ↦ suffix_stands labels front rest more old new s f (tail s) (omega (arith, m.at_end)) c (f.writes.candidates.each c later)
              ];
              places = m.stands.places;
              apart = m.stands.apart;
            };
          };
      modes = f.writes.modes;
    }

-- A name's labels were written so: the name is.
pub front_emits : (name : DomainName) (front rest : List (List ℕ)) (more : List ℕ) (old new : State) → IsDomainName name → old.encoding ≡ Compressed → old.points ≡ true → (f : Fronted name.labels front rest more old new) → (Sound old → IsTail new old.offset more rest) → new.offset ≤ old.offset + length (name_octets name) → ((before left : List (List ℕ)) → name.labels ≡ before ++ left → 0 < length left → Has old.candidates (name_octets (domain_name true left)) → new.offset ≤ old.offset + length (label_octets before) + 2) → (length (label_octets front) ≡ 0 → 0 < length name.labels → Has old.candidates (name_octets name) × (new.offset ≡ old.offset + 2)) → (Has old.candidates (name_octets name) → 0 < length name.labels → length (label_octets front) ≡ 0) → EmitsName name old new
front_emits name front rest more old new is mode points f tail size longest none whole = record {
  stays = λ s. record {
    of = λ later a.
        subst (λ (n : DomainName). NameAt later old.offset n new.offset) (sym (ap (λ m. encoded_name m name) mode))
        (record {
          full = refl;
          spelled = (front_spelled name.labels front rest more old new s f (tail s)).of later a;
          size = is.short;
        });
  };
  size = size;
  exact = λ plain. absurd (cc (plain, points));
  used = λ p some has. (none (whole has some) some).1;
  longest = λ p. longest;
  becomes = λ p some room early. elim (zero_or_more (length (label_octets front))) [
    | inl empty ↦
        let has = (none empty some).0 in
        (has.0, subst (λ (cs : List Candidate). In has.0 cs) (sym f.writes.candidates.appended) (in_front has.0 old.candidates f.writes.candidates.added has.1), has.2)
    | inr full ↦
        let kept = f.writes.candidates.whole full room early in
        (kept.0, subst (λ (cs : List Candidate). In kept.0 cs) (sym f.writes.candidates.appended) (in_back kept.0 old.candidates f.writes.candidates.added kept.1), kept.2)
  ];
  at_most = omega (arith, ap length f.writes.candidates.appended, length-append old.candidates f.writes.candidates.added, f.writes.candidates.few);
}
  where
    zero_or_more : (n : ℕ) → (n ≡ 0) ⊎ (0 < n)
    zero_or_more zero = inl refl
    zero_or_more (suc n) = inr (omega arith)

-- What a name takes that is written with a pointer.
length-front : (labels front rest : List (List ℕ)) → labels ≡ front ++ rest → length (label_octets labels) ≡ length (label_octets front) + length (label_octets rest)
length-front labels front rest split = ap (λ (ls : List (List ℕ)). length (label_octets ls)) split ∙ ap length (octets_split front rest) ∙ length-append (label_octets front) (label_octets rest)

octets_of_some : (labels : List (List ℕ)) → All IsLabel labels → 0 < length labels → 2 ≤ length (label_octets labels)
octets_of_some [] are some = absurd (omega (arith, some))
octets_of_some (l ∷ ls) are some = omega (arith, octets_one l ls, (All-head IsLabel l ls are).some)

some_of_octets : (labels : List (List ℕ)) → 0 < length (label_octets labels) → 0 < length labels
some_of_octets [] lt = absurd (omega (arith, lt))
some_of_octets (l ∷ ls) lt = omega arith

nothing_before : (front rest : List (List ℕ)) → length (label_octets front) ≡ 0 → front ++ rest ≡ rest
nothing_before [] rest e = refl
nothing_before (l ∷ ls) rest e = absurd (omega (arith, e, octets_one l ls))

-- A name was written with a pointer to the longest one that ends it.
pub record PointsTo (name : DomainName) (s : Suffix) (old new : State) : Type 0 where
  pub writes : Writes old new
  pub emits : EmitsName name old new

pub points_to : (name : DomainName) (s : Suffix) (old new : State) → IsDomainName name → old.encoding ≡ Compressed → old.points ≡ true → old.offset ≤ length old.octets → IsLongest old.candidates name.labels s → WritesFront name.labels s.front (pointer_octets s.place) old new → PointsTo name s old new
points_to name s old new is mode points within l w =
    let front = l.behind.before in
    let rest = l.behind.rest in
    let f : Fronted name.labels front rest (pointer_octets s.place) old new = record {
      split = l.behind.split;
      labelled = is.each;
      writes = subst (λ (n : ℕ). WritesFront name.labels n (pointer_octets s.place) old new) l.behind.behind w;
      within = within;
    } in
    let mine : All IsLabel rest = all_behind front rest (subst (λ (ls : List (List ℕ)). All IsLabel ls) l.behind.split is.each) in
    let keeps = front_keeps name.labels front rest (pointer_octets s.place) old new (omega arith) f in
    let long = length-front name.labels front rest l.behind.split in
    let some : 2 ≤ length (label_octets rest) = octets_of_some rest mine (some_of_octets rest (omega (arith, long, l.labelled, l.behind.behind))) in
    let tail : Sound old → IsTail new old.offset (pointer_octets s.place) rest =
    λ sound. subst (λ (p : ℕ). IsTail new old.offset (pointer_octets p) rest) l.place (pointer_tail old new l.kept rest sound l.among l.behind.spelled mine keeps (omega (arith, w.offset))) in
    record {
      writes = front_writes name.labels front rest (pointer_octets s.place) old new (omega arith) f tail;
      emits = front_emits name front rest (pointer_octets s.place) old new is mode points f tail
          (omega (arith, w.offset, l.behind.behind, long, some, length-octets name))
          (λ before left split filled has. omega (arith, w.offset, l.longest has.0 has.1 before left split has.2))
          (λ empty labelled.
          ((l.kept, l.among, l.behind.spelled ∙ ap (λ (ls : List (List ℕ)). label_octets ls ++ 0 ∷ []) (sym (l.behind.split ∙ nothing_before front rest empty))), omega (arith, w.offset, l.behind.behind, empty)))
          (λ has labelled. omega (arith, l.behind.behind, l.longest has.0 has.1 [] name.labels refl has.2));
    }

-- A name was written in full, since none that ends it is kept.
pub record PointsNowhere (name : DomainName) (old new : State) : Type 0 where
  pub writes : Writes old new
  pub emits : EmitsName name old new

pub points_nowhere : (name : DomainName) (old new : State) → IsDomainName name → old.encoding ≡ Compressed → old.points ≡ true → old.offset ≤ length old.octets → HasNoSuffix old.candidates name.labels → WritesFront name.labels (length (label_octets name.labels)) (0 ∷ []) old new → PointsNowhere name old new
points_nowhere name old new is mode points within none w =
    let f : Fronted name.labels name.labels [] (0 ∷ []) old new = record { split = sym (append-nil name.labels); labelled = is.each; writes = w; within = within } in
    let tail : Sound old → IsTail new old.offset (0 ∷ []) [] = λ sound. end_tail new old.offset in
    let missing : (before left : List (List ℕ)) → name.labels ≡ before ++ left → 0 < length left → Has old.candidates (name_octets (domain_name true left)) → ⊥ =
    λ before left split filled has.
    omega (
      arith,
      none has.0 has.1 before left split has.2,
      length-front name.labels before left split,
      octets_of_some left (all_behind before left (subst (λ (ls : List (List ℕ)). All IsLabel ls) split is.each)) filled,
    ) in
    record {
      writes = front_writes name.labels name.labels [] (0 ∷ []) old new (omega arith) f tail;
      emits = front_emits name name.labels [] (0 ∷ []) old new is mode points f tail
          (omega (arith, w.offset, length-octets name))
          (λ before left split filled has. absurd (missing before left split filled has))
          (λ empty labelled. absurd (omega (arith, empty, octets_of_some name.labels is.each labelled)))
          (λ has labelled. absurd (missing [] name.labels refl labelled has));
    }

-- The two octets of a pointer.
pub pointer_bytes : (place : ℕ) → place < 16383 → octets_16 (49152 + place) ≡ pointer_octets place
pointer_bytes place lt =
    ap (λ (n : ℕ). n ∷ ((49152 + place) % 256) ∷ []) (omega (arith, lt)) ∙ ap (λ (n : ℕ). (192 + place / 256) ∷ n ∷ []) (omega (arith, lt))

-- A name stands in full exactly where a part of the octets is its own.
pub stands_part : (octets more : List ℕ) (place n : ℕ) → n ≡ place + length more → n ≤ length octets → (slice_range octets place n ≡ more → Stands octets place more (place + length more)) × (Stands octets place more (place + length more) → slice_range octets place n ≡ more)
stands_part octets more place n end within = (
  λ same. record {
    there = drop_split octets place (place + length more) (omega arith) ∙ ap (λ (t : List ℕ). t ++ drop (place + length more) octets) (ap (λ (k : ℕ). slice_range octets place k) (sym end) ∙ same);
    behind = refl;
  },
  λ s. sym (stands_taken octets place more (place + length more) (n - place) (omega (arith, end)) s),
)

-- A name that stands in full is kept, and so are those that end it.
pub stores_name : (name : DomainName) (start stop : ℕ) (old new : State) → IsDomainName name → stop ≡ start + length (name_octets name) → Stands old.octets start (name_octets name) (start + length (name_octets name)) → ((r : OpenPlace) → In r old.places → start < r.to → r.from < start + length (name_octets name) → ⊥) → new.octets ≡ old.octets → new.offset ≡ old.offset → new.places ≡ old.places → SameModes old new → KeepsSuffixes name.labels (length (label_octets name.labels)) start stop old.candidates new.candidates → StoresName name start old new
stores_name name start stop old new is end stands shut octets offset places modes k =
    let more = name_octets name in
    let inside : start + length more ≤ length old.octets = stands_within old.octets start more (start + length more) (omega (arith, length-octets name)) stands in
    let itself : (i : ℕ) → i < length more → get_or old.octets (start + i) 0 ≡ get_or more i 0 =
    λ i lt.
    sym (get_or-drop start old.octets i 0) ∙ sym (get_or-take (length more) (drop start old.octets) i 0 lt)
    ∙ ap (λ (t : List ℕ). get_or t i 0) (sym (stands_taken old.octets start more (start + length more) (length more) refl stands)) in
    let kept : (c : Candidate) → IsKeptSuffix name.labels (length (label_octets name.labels)) start stop c → IsStanding new c =
    λ c s. standing_alike old new c octets places (record {
      within = omega (arith, s.end, end, inside);
      small = s.small;
      spelled = λ others are e.
          let mine : All IsLabel s.rest = all_behind s.before s.rest (subst (λ (ls : List (List ℕ)). All IsLabel ls) s.split is.each) in
          let same : s.rest ≡ others = octets_once s.rest others mine are (sym s.spelled ∙ e) in
          record {
            of = λ later a.
                let fixed : (i : ℕ) → i < length more → Fixed old (start + i) = λ i lt. record {
                  there = omega (arith, lt, inside);
                  shut = λ r member low high. shut r member (omega (arith, low, high)) (omega (arith, low, lt));
                } in
                let whole : Stands later start more (start + length more) =
                stands_each later start more
                (λ i lt. a.there (start + i) (omega (arith, lt, s.end, end)) (fixed i lt))
                (λ i lt. a.same (start + i) (omega (arith, lt, s.end, end)) (fixed i lt) ∙ itself i lt) in
                let parts : Stands later start (label_octets s.before ++ name_octets (domain_name true s.rest)) (start + length more) =
                subst (λ (o : List ℕ). Stands later start o (start + length more))
                (ap (λ (ls : List (List ℕ)). label_octets ls ++ 0 ∷ []) s.split ∙ ap (λ (o : List ℕ). o ++ 0 ∷ []) (octets_split s.before s.rest) ∙ append_assoc (label_octets s.before) (label_octets s.rest) (0 ∷ []))
                whole in
                let at = start + length (label_octets s.before) in
                let behind = (stands_split later start (label_octets s.before) (name_octets (domain_name true s.rest)) (start + length more) parts).1 in
                let spelled : Spells later at s.rest (start + length more) = spelled_octets later at at s.rest (start + length more) mine behind in
                let there : Spells later c.place s.rest (start + length more) = subst (λ (p : ℕ). Spells later p s.rest (start + length more)) (sym s.place) spelled in
                let ended : Spells later c.place s.rest c.end = subst (λ (p : ℕ). Spells later c.place s.rest p) (sym (s.end ∙ end)) there in
                subst (λ (ls : List (List ℕ)). Spells later c.place ls c.end) same ended;
          };
    }) in
    record {
      octets = octets;
      offset = offset;
      places = places;
      keeps = λ c found. subst (λ (cs : List Candidate). In c cs) (sym k.appended) (in_front c old.candidates k.added found);
      only = λ c found. elim (in_append c old.candidates k.added (subst (λ (cs : List Candidate). In c cs) k.appended found)) [
        | inl before ↦ inl before
        | inr later ↦ inr (omega (arith, (k.each c later).end, end, length-octets name))
      ];
      early = λ n le. omega (arith, ap (λ (cs : List Candidate). ends_by n cs) k.appended, ap length (none_filter (λ (c : Candidate). nat_le c.end n) old.candidates k.added (λ c found. test_false c.end n (omega (arith, (k.each c found).end, end, le, length-octets name)))));
      few = omega (arith, ap length k.appended, length-append old.candidates k.added, k.few);
      becomes = λ points labelled room early s.
          let found = k.whole (omega (arith, octets_of_some name.labels is.each labelled)) room early in
          (found.0, subst (λ (cs : List Candidate). In found.0 cs) (sym k.appended) (in_back found.0 old.candidates k.added found.1), found.2);
      sound = λ s. record {
        at_end = offset ∙ s.at_end ∙ sym (ap length octets);
        stands = record {
          each = λ c found. elim (in_append c old.candidates k.added (subst (λ (cs : List Candidate). In c cs) k.appended found)) [
            | inl before ↦ standing_alike old new c octets places (s.stands.each c before)
            | inr later ↦ kept c (k.each c later)
          ];
          places = λ r found. omega (arith, s.stands.places r (subst (λ (rs : List OpenPlace). In r rs) places found), ap length octets);
          apart = λ r q one other. s.stands.apart r q (subst (λ (rs : List OpenPlace). In r rs) places one) (subst (λ (rs : List OpenPlace). In q rs) places other);
        };
      };
      modes = modes;
    }

pub stores_no_name : (name : DomainName) (start : ℕ) (s : State) → (s.points ≡ true → Stands s.octets start (name_octets name) (start + length (name_octets name)) → ⊥) → StoresName name start s s
stores_no_name name start s none = record {
  octets = refl;
  offset = refl;
  places = refl;
  keeps = λ c found. found;
  only = λ c found. inl found;
  early = λ n le. omega arith;
  few = omega arith;
  becomes = λ points labelled room early stands. absurd (none points stands);
  sound = λ sound. sound;
  modes = record { maximum = refl; encoding = refl; canonical = refl; points = refl };
}
