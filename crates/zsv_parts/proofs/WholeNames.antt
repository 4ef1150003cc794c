-- Names of questions that stand in full.
use Rattle.std.proofs.Common.{◌≡◌, true, ◌+◌, ◌-◌, ◌≤◌, ℕ, List, [], ◌∷◌, ◌++◌, length, take, drop, refl, sym, ap, subst, ◌∙◌, arith, append_assoc, length-append}
use Rattle.std.specs.Prelude.{Option, Some, option_to_list, slice_get, slice_range}
use Rattle.std.proofs.lemmas.List.{take-append-drop, take-take}
use Rattle.dnw_encoder.specs.dnw_decoder.Octets.{Stands}
use Rattle.dnw_encoder.specs.dnw_decoder.Spelling.{NameAt, Spelled, at_end, at_label, at_pointer}
use Rattle.dnw_encoder.proofs.dnw_decoder_lemmas.SpellingLaws.{name_once}
use Rattle.dnw_encoder.proofs.dnw_decoder_lemmas.Standing.{stands_front, stands_joined, stands_split, stands_taken}
use Rattle.dnw_encoder.specs.dnw_label.Label.{IsLabel}
use Rattle.dnw_encoder.specs.dnw_label.Labels.{label_octets}
use Rattle.dnw_encoder.proofs.NameLaws.{len-cons, length-name_octets, name_stands}
use Rattle.dnw_encoder.specs.dnw_name.DomainName.{DomainName, IsDomainName, domain_name, labels_len, name_octets}
use Rattle.zsv_parts.specs.Questions.{Asked, AskedAt, HasWholeName, IsSection, QuestionAt, QuestionsAt}
use Rattle.zsv_parts.specs.Wire.{Entries}
use Rattle.zsv_parts.specs.declared.question.Query.{Query}

first_label : (message : List ℕ) (segment bound place : ℕ) (l : List ℕ) (ls : List (List ℕ)) (end : ℕ) → Spelled message segment bound place (l ∷ ls) end → IsLabel l
first_label message segment bound place l ls end (at_label before is there rest) = is
first_label message segment bound place l ls end (at_pointer {target = target} {end = last} before backward small there rest) = first_label message target segment target l ls last rest

-- A pointer takes fewer octets than the labels to which it leads, or more than none.
no_pointer : (message : List ℕ) (segment bound place : ℕ) (found : List (List ℕ)) (end : ℕ) → Spelled message segment bound place found end → 2 ≡ labels_len found + 1 → ⊥
no_pointer message segment bound place [] end spelled long = absurd (omega (arith, long))
no_pointer message segment bound place (l ∷ ls) end spelled long =
    absurd (omega (arith, long, len-cons l ls, (first_label message segment bound place l ls end spelled).some))

-- Labels that take as many octets as in full stand in full.
stand_in_full : (message : List ℕ) (segment bound place : ℕ) (found : List (List ℕ)) (end : ℕ) → Spelled message segment bound place found end → end ≡ place + labels_len found + 1 → Stands message place (name_octets (domain_name true found)) end
stand_in_full message segment bound place _ end (at_end before there) long = there
stand_in_full message segment bound place _ end (at_label {behind = behind} {first = first} {rest = others} before is there rest) long =
    let later = stand_in_full message segment bound behind others end rest (omega (arith, long, there.behind, len-cons first others)) in
    subst (λ (o : List ℕ). Stands message place o end) (sym (append_assoc (length first ∷ first) (label_octets others) (0 ∷ [])))
    (stands_joined message place (length first ∷ first) behind (name_octets (domain_name true others)) end there later)
stand_in_full message segment bound place found end (at_pointer {target = target} {end = last} before backward small there rest) long =
    absurd (no_pointer message target segment target found last rest (omega (arith, long, there.behind)))

-- Behind its name a question has four octets.
pub question_end : (message : List ℕ) (place : ℕ) (q : Query) (end : ℕ) → (a : QuestionAt message place q end) → end ≡ a.middle + 4
question_end message place q end a = omega (arith, a.query_type.there.behind, a.query_class.there.behind)

-- The first of a list of one is all.
pub first_alone : (qs : List Query) (q : Query) → Some q ≡ slice_get qs 0 → length qs ≡ 1 → qs ≡ q ∷ []
first_alone [] q is one = absurd (omega (arith, one))
first_alone (x ∷ []) q is one = ap (λ (o : Option Query). option_to_list o) (sym is)
first_alone (x ∷ y ∷ ys) q is one = absurd (omega (arith, one))

-- The one question of a section, at the section's place.
pub only_at : (asked : Asked) (q : Query) → (s : IsSection asked) → asked.questions ≡ q ∷ [] → QuestionAt s.message s.place q s.end
only_at asked q s only =
    let there = subst (λ (qs : List Query). Entries (QuestionAt s.message) s.place qs s.end) only s.there.questions.0 in
    subst (λ (e : ℕ). QuestionAt s.message s.place q e) (sym there.2) there.1

pub whole_name : (asked : Asked) (q : Query) → IsSection asked → asked.questions ≡ q ∷ [] → length asked.octets ≡ length (label_octets q.name.labels) + 5 → HasWholeName asked q.name
whole_name asked q s only long =
    let at = only_at asked q s only in
    let k = length (name_octets q.name) in
    let octets_end = s.there.octets.behind in
    let size : at.middle ≡ s.place + labels_len q.name.labels + 1 = omega (arith, long, octets_end, question_end s.message s.place q s.end at, length-name_octets q.name, length-append (label_octets q.name.labels) (0 ∷ [])) in
    let stands = stand_in_full s.message s.place (length s.message) s.place q.name.labels at.middle at.name.spelled size in
    let own = stands_taken s.message s.place (name_octets q.name) at.middle k refl stands in
    let all = stands_taken s.message s.place asked.octets s.end (length asked.octets) refl s.there.octets in
    let front : take k asked.octets ≡ name_octets q.name =
    ap (λ (o : List ℕ). take k o) all ∙ take-take k (length asked.octets) (drop s.place s.message) (omega (arith, long, length-append (label_octets q.name.labels) (0 ∷ []))) ∙ sym own in
    record {
      question = q;
      only = only;
      is = refl;
      rest = drop k asked.octets;
      whole = sym (take-append-drop k asked.octets) ∙ ap (λ (o : List ℕ). o ++ drop k asked.octets) front;
    }

-- Where the question's octets begin with its name, they are as many.
pub whole_long : (asked : Asked) (name : DomainName) → IsSection asked → IsDomainName name → (h : HasWholeName asked name) → length asked.octets ≡ length (label_octets name.labels) + 5
whole_long asked name s is h =
    let at = only_at asked h.question s h.only in
    let named = subst (λ (n : DomainName). NameAt s.message s.place n at.middle) h.is at.name in
    let there = stands_split s.message s.place (name_octets name) h.rest s.end (subst (λ (o : List ℕ). Stands s.message s.place o s.end) h.whole s.there.octets) in
    let full = name_stands s.message s.place name (s.place + length (name_octets name)) named.full is there.0 in
    let same = name_once s.message s.place name name at.middle (s.place + length (name_octets name)) named full in
    omega (arith, same.1, question_end s.message s.place h.question s.end at, s.there.octets.behind, length-append (label_octets name.labels) (0 ∷ []))

-- What was read of a message from a place to an index are its questions, and the octets in which they stand.
pub sectioned : (octets new : List ℕ) (place start end count : ℕ) (questions : List Query) (original : List ℕ) → new ≡ octets → start ≡ place → end ≤ length new → QuestionsAt octets place count questions end → (start ≤ end) × (original ≡ slice_range new start end) → AskedAt octets place count (record { questions = questions; octets = original }) end
sectioned octets new place start end count questions original same at within there (le, is) = record {
  questions = there;
  octets = subst (λ (o : List ℕ). Stands octets place o end) (sym (is ∙ ap (λ (m : List ℕ). slice_range m start end) same ∙ ap (λ (n : ℕ). slice_range octets n end) at))
      (subst (λ (e : ℕ). Stands octets place (slice_range octets place end) e) (omega (arith, le, at)) (stands_front octets place (end - place) (omega (arith, within, le, at, ap length same))));
}
