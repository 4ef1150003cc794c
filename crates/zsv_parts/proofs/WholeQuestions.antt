-- Questions whose names stand in full.
use Rattle.std.proofs.Common.{◌≡◌, true, ◌+◌, ◌-◌, ◌*◌, ◌<◌, ◌≤◌, ◌^◌, ℕ, List, [], ◌∷◌, ◌++◌, length, get_or, take, drop, refl, sym, ap, subst, ◌∙◌, arith}
use Rattle.std.specs.List.{All}
use Rattle.std.proofs.lemmas.List.{drop_more}
use Rattle.std.proofs.lemmas.List.Elements.{All-cons, All-nil}
use Rattle.dnw_codes.specs.DNSClass.{class_of}
use Rattle.dnw_codes.specs.RecordType.{record_type_of}
use Rattle.dnw_encoder.specs.dnw_decoder.Octets.{Stands, octets_16}
use Rattle.dnw_encoder.specs.dnw_decoder.Spelling.{NameAt, Spelled, at_end, at_label, at_pointer}
use Rattle.dnw_encoder.proofs.dnw_decoder_lemmas.SpellingLaws.{name_once, spelled_within}
use Rattle.dnw_encoder.proofs.dnw_decoder_lemmas.Standing.{stands_front, stands_split, stands_within}
use Rattle.dnw_encoder.proofs.NameLaws.{length-octets, name_stands}
use Rattle.dnw_encoder.specs.dnw_label.Label.{IsLabel}
use Rattle.dnw_encoder.specs.dnw_name.DomainName.{DomainName, IsDomainName, name_octets}
use Rattle.zsv_parts.specs.Questions.{Asked, AskedAt, HasWholeName, IsSection, QuestionAt}
use Rattle.zsv_parts.specs.declared.question.Query.{Query}
use Rattle.zsv_parts.proofs.WholeNames.{only_at, question_end, whole_name}

-- Two octets at a place are a number.
record Number (octets : List ℕ) (place : ℕ) : Type 0 where
  number : ℕ
  small : number < 2 ^ 16
  there : Stands octets place (octets_16 number) (place + 2)

number_at : (octets : List ℕ) → ((i : ℕ) → get_or octets i 0 < 256) → (place : ℕ) → place + 2 ≤ length octets → Number octets place
number_at octets small place fits =
    let a = get_or octets place 0 in
    let b = get_or octets (place + 1) 0 in
    let n = 256 * a + b in
    let same : octets_16 n ≡ a ∷ b ∷ [] = pair _ _ a b (omega (arith, small place, small (place + 1))) (omega (arith, small place, small (place + 1))) in
    let last : drop (place + 1) octets ≡ b ∷ drop (place + 2) octets = drop_more octets (place + 1) 0 (omega (arith, fits)) ∙ ap (λ (k : ℕ). b ∷ drop k octets) (omega arith) in
    record {
      number = n;
      small = omega (arith, small place, small (place + 1));
      there = record {
        there = drop_more octets place 0 (omega (arith, fits)) ∙ ap (λ (o : List ℕ). a ∷ o) last ∙ ap (λ (o : List ℕ). o ++ drop (place + 2) octets) (sym same);
        behind = refl;
      };
    }
  where
    pair : (x y a b : ℕ) → x ≡ a → y ≡ b → x ∷ y ∷ [] ≡ a ∷ b ∷ []
    pair x y a b first second = ap (λ (k : ℕ). k ∷ y ∷ []) first ∙ ap (λ (k : ℕ). a ∷ k ∷ []) second

-- Behind a name that stands in full stand type and class.
query_at : (octets : List ℕ) → ((i : ℕ) → get_or octets i 0 < 256) → (name : DomainName) (start end : ℕ) → name.fqdn ≡ true → IsDomainName name → Stands octets start (name_octets name) end → end + 4 ≤ length octets → (q : Query) × (q.name ≡ name) × QuestionAt octets start q (end + 4)
query_at octets small name start end full is there fits =
    let t = number_at octets small end (omega (arith, fits)) in
    let c = number_at octets small (end + 2) (omega (arith, fits)) in
    let behind : end + 2 + 2 ≡ end + 4 = omega arith in (
      record { name = name; query_type = record_type_of t.number; query_class = class_of c.number },
      refl,
      record {
        middle = end;
        last = end + 2;
        name = name_stands octets start name end full is there;
        query_type = record { number = t.number; small = t.small; there = t.there; means = refl };
        query_class = record { number = c.number; small = c.small; there = subst (λ (e : ℕ). Stands octets (end + 2) (octets_16 c.number) e) behind c.there; means = refl };
      },
    )

abbrev section : (octets : List ℕ) (start : ℕ) (asked : Asked) (end : ℕ) → AskedAt octets start 1 asked end → IsSection asked
section octets start asked end there = record {
  few = omega (arith, there.questions.1);
  message = octets;
  place = start;
  end = end;
  there = record { questions = (there.questions.0, refl); octets = there.octets };
}

-- The question of a name that stands in full.
pub asks_whole : (octets : List ℕ) → ((i : ℕ) → get_or octets i 0 < 256) → (start end : ℕ) → (name : DomainName) × (name.fqdn ≡ true) × IsDomainName name × Stands octets start (name_octets name) end → end + 4 ≤ length octets
    → (asked : Asked) × (e : ℕ) × (name : DomainName) × AskedAt octets start 1 asked e × HasWholeName asked name × (asked.octets ≡ take (end + 4 - start) (drop start octets))
asks_whole octets small start end (name, full, is, there) fits =
    let found = query_at octets small name start end full is there fits in
    let question = take (end + 4 - start) (drop start octets) in
    let asked : Asked = record { questions = found.0 ∷ []; octets = question } in
    let ahead : start + (end + 4 - start) ≡ end + 4 = omega (arith, there.behind) in
    let at : AskedAt octets start 1 asked (end + 4) = record {
      questions = ((end + 4, found.2, refl), refl);
      octets = subst (λ (e : ℕ). Stands octets start question e) ahead (stands_front octets start (end + 4 - start) (omega (arith, ahead, fits)));
    } in
    let long : length question ≡ length (name_octets name) + 4 = omega (arith, at.octets.behind, there.behind) in
    let whole = whole_name asked found.0 (section octets start asked (end + 4) at) refl (omega (arith, long, length-octets name, ap (λ (n : DomainName). length (name_octets n)) found.1, length-octets found.0.name)) in
    (asked, end + 4, found.0.name, at, whole, refl)

-- What is spelled are labels.
each_label : (message : List ℕ) (segment bound place : ℕ) (found : List (List ℕ)) (end : ℕ) → Spelled message segment bound place found end → All IsLabel found
each_label message segment bound place _ end (at_end before there) = All-nil IsLabel
each_label message segment bound place _ end (at_label {behind = behind} {first = first} {rest = others} before is there rest) = All-cons IsLabel first others is (each_label message segment bound behind others end rest)
each_label message segment bound place found end (at_pointer {target = target} {end = last} before backward small there rest) = each_label message target segment target found last rest

-- The name of the one question.
named : (octets : List ℕ) (start : ℕ) (asked : Asked) (end : ℕ) (name : DomainName) → AskedAt octets start 1 asked end → HasWholeName asked name → (middle : ℕ) × NameAt octets start name middle × (end ≡ middle + 4)
named octets start asked end name there h =
    let at = only_at asked h.question (section octets start asked end there) h.only in
    (at.middle, subst (λ (n : DomainName). NameAt octets start n at.middle) h.is at.name, question_end octets start h.question end at)

pub none_whole : (octets : List ℕ) (start : ℕ) → ((name : DomainName) (end : ℕ) → IsDomainName name → Stands octets start (name_octets name) end → ⊥) → (asked : Asked) (end : ℕ) (name : DomainName) → AskedAt octets start 1 asked end → HasWholeName asked name → ⊥
none_whole octets start none asked end name there h =
    let n = named octets start asked end name there h in
    let is : IsDomainName name = record { each = each_label octets start (length octets) start name.labels n.0 n.1.spelled; short = n.1.size } in
    let both = stands_split octets start (name_octets name) h.rest end (subst (λ (o : List ℕ). Stands octets start o end) h.whole there.octets) in
    none name (start + length (name_octets name)) is both.0

-- Type and class are cut.
pub cut_whole : (octets : List ℕ) (start behind : ℕ) → (name : DomainName) × (name.fqdn ≡ true) × IsDomainName name × Stands octets start (name_octets name) behind → length octets < behind + 4 → (asked : Asked) (end : ℕ) (name : DomainName) → AskedAt octets start 1 asked end → HasWholeName asked name → ⊥
cut_whole octets start behind (other, full, is, stands) cut asked end name there h =
    let n = named octets start asked end name there h in
    let same = name_once octets start name other n.0 behind n.1 (name_stands octets start other behind full is stands) in
    let later = spelled_within octets start (length octets) start name.labels n.0 n.1.spelled in
    omega (arith, same.1, n.2, cut, stands_within octets start asked.octets end (omega (arith, there.octets.behind, n.2, later.0)) there.octets)
