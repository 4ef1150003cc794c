-- Laws of the search for the longest name that ends another one.
use Rattle.std.proofs.Common.{◌≡◌, ℕ, ◌+◌, ◌-◌, ◌<◌, ◌≤◌, ◌⊎◌, inl, inr, ◌==◌, true, false, List, [], ◌∷◌, ◌++◌, length, take, drop, get_or, Option, Some, None, refl, sym, ap, subst, ◌∙◌, arith}
use Rattle.std.specs.List.{slice_range}
use Rattle.std.proofs.lemmas.Bool.{true≢false}
use Rattle.std.proofs.lemmas.List.{get_or-drop, get_or-take, length-append, length-drop, length-take, drop-append-le}
use Rattle.dnw_decoder.specs.dnw_name.DomainName.{domain_name, name_octets}
use Rattle.dnw_decoder.specs.dnw_label.Labels.{label_octets}
use Rattle.dnw_encoder.specs.Candidates.{AreWithin, CannotEnd, ClashesAt, IsWithin, candidate_of, candidates_of, FindsLongest, IsLongest, IsNameBehind, NoneBefore}
use Rattle.dnw_encoder.specs.Members.{In}
use Rattle.dnw_encoder.specs.Starts.{NoneEarlier}
use Rattle.dnw_encoder.specs.State.{Candidate}
use Rattle.dnw_encoder.specs.declared.candidates.Entry.{Entry}
use Rattle.dnw_encoder.specs.declared.candidates.Suffix.{Suffix}
use Rattle.dnw_encoder.proofs.CandidateLaws.{blank, in_all, in_get, in_map, in_map_back, in_more}
use Rattle.dnw_encoder.proofs.SuffixLaws.{behind_length, drop_front}

-- What was found among all entries, if something was.
abbrev pub Found : List ℕ → List Entry → List (List ℕ) → ℕ → Option Suffix → Type 0
Found octets es labels front None = front ≡ length (label_octets labels)
Found octets es labels front (Some s) =
    (e : Entry) × In e es × IsNameBehind labels s.front (slice_range octets e.from e.to) × (s.front < length (label_octets labels)) × (e.place ≡ s.place) × (s.front ≡ front)

-- The first so many entries were searched.
pub record Searched (octets : List ℕ) (es : List Entry) (i : ℕ) (labels : List (List ℕ)) (front : ℕ) (found : Option Suffix) : Type 0 where
  pub within : front ≤ length (label_octets labels)
  pub among : Found octets es labels front found
  pub none : (e : Entry) → In e (take i es) → NoneBefore labels front (slice_range octets e.from e.to)

pub search_start : (octets : List ℕ) (es : List Entry) (labels : List (List ℕ)) (all : List ℕ) → all ≡ label_octets labels → Searched octets es 0 labels (length all) None
search_start octets es labels all e = record { within = omega (arith, ap length e); among = ap length e; none = λ x member. absurd member }

pub search_other : (octets : List ℕ) (es : List Entry) (i : ℕ) (labels : List (List ℕ)) (front : ℕ) (found : Option Suffix) → i < length es → Searched octets es i labels front found → NoneBefore labels front (slice_range octets (get_or es i blank).from (get_or es i blank).to) → Searched octets es (i + 1) labels front found
search_other octets es i labels front found lt s other = record {
  within = s.within;
  among = s.among;
  none = λ e member. elim (in_more es i blank e lt member) [
    | inl before ↦ s.none e before
    | inr same ↦ subst (λ (x : Entry). NoneBefore labels front (slice_range octets x.from x.to)) same other
  ];
}

pub search_longer : (octets : List ℕ) (es : List Entry) (i : ℕ) (labels : List (List ℕ)) (front longer : ℕ) (found : Option Suffix) → i < length es → Searched octets es i labels front found → longer < front → IsNameBehind labels longer (slice_range octets (get_or es i blank).from (get_or es i blank).to) → Searched octets es (i + 1) labels longer (Some (record { front = longer; place = (get_or es i blank).place }))
search_longer octets es i labels front longer found lt s less is = record {
  within = omega (arith, s.within, less);
  among = (get_or es i blank, in_get es i blank lt, is, omega (arith, s.within, less), refl, refl);
  none = λ e member before rest split spelled. elim (in_more es i blank e lt member) [
    | inl first ↦ omega (arith, less, s.none e first before rest split spelled)
    | inr same ↦ itself e same before rest split spelled
  ];
}
  where
    itself : (e : Entry) → get_or es i blank ≡ e → NoneBefore labels longer (slice_range octets e.from e.to)
    itself e same before rest split spelled =
        let length_of = behind_length labels before rest (slice_range octets e.from e.to) split spelled in
        let other = behind_length labels is.before is.rest (slice_range octets (get_or es i blank).from (get_or es i blank).to) is.split is.spelled in
        omega (arith, length_of, other, is.behind, ap (λ (x : Entry). length (slice_range octets x.from x.to)) same)

pub search_end : (octets : List ℕ) (es : List Entry) (i : ℕ) (labels : List (List ℕ)) (front : ℕ) (found : Option Suffix) → length es ≤ i → AreWithin octets es → Searched octets es i labels front found → FindsLongest (candidates_of octets es) labels found
search_end octets es i labels front None le within s = λ c member.
    let from = in_map (candidate_of octets) c es member in
    λ before rest split spelled.
    omega (arith, s.among, s.none from.0 (in_all es i from.0 le from.1) before rest split (ap (λ (x : Candidate). x.octets) from.2 ∙ spelled))
search_end octets es i labels front (Some found) le within s = record {
  kept = candidate_of octets s.among.0;
  among = in_map_back (candidate_of octets) s.among.0 es s.among.1;
  behind = s.among.2;
  labelled = s.among.3;
  place = s.among.4;
  small = omega (arith, (within s.among.0 s.among.1).small, s.among.4);
  longest = λ c member.
      let from = in_map (candidate_of octets) c es member in
      λ before rest split spelled.
      omega (arith, s.among.5, s.none from.0 (in_all es i from.0 le from.1) before rest split (ap (λ (x : Candidate). x.octets) from.2 ∙ spelled));
}

-- One that begins where the longest may is the longest.
pub search_least : (octets : List ℕ) (es : List Entry) (i : ℕ) (labels : List (List ℕ)) (front least at : ℕ) (found : Option Suffix) → i < length es → AreWithin octets es → NoneEarlier octets es labels least → Searched octets es i labels front found → at < front → IsNameBehind labels at (slice_range octets (get_or es i blank).from (get_or es i blank).to) → at ≡ least → FindsLongest (candidates_of octets es) labels (Some (record { front = at; place = (get_or es i blank).place }))
search_least octets es i labels front least at found lt within none s less is same = record {
  kept = candidate_of octets (get_or es i blank);
  among = in_map_back (candidate_of octets) (get_or es i blank) es (in_get es i blank lt);
  behind = is;
  labelled = omega (arith, s.within, less);
  place = refl;
  small = (within (get_or es i blank) (in_get es i blank lt)).small;
  longest = λ c member.
      let from = in_map (candidate_of octets) c es member in
      λ before rest split spelled.
      omega (arith, same, none from.0 from.1 before rest split (ap (λ (x : Candidate). x.octets) from.2 ∙ spelled));
}

pub some_octets : (all octets : List ℕ) → false ≡ (length all == 0) → all ≡ octets → 0 < length octets
some_octets [] octets empty same = absurd (true≢false (sym empty))
some_octets (x ∷ all) octets empty same = omega (arith, ap length same)

-- So is one that is the whole name wherever it stands.
pub whole_longest : (octets : List ℕ) (es : List Entry) (e : Entry) (labels : List (List ℕ)) → AreWithin octets es → In e es → 0 < length (label_octets labels) → slice_range octets e.from e.to ≡ label_octets labels ++ 0 ∷ [] → IsLongest (candidates_of octets es) labels (record { front = 0; place = e.place })
whole_longest octets es e labels within member some spelled = record {
  kept = candidate_of octets e;
  among = in_map_back (candidate_of octets) e es member;
  behind = record { before = []; rest = labels; split = refl; behind = refl; spelled = spelled };
  labelled = some;
  place = refl;
  small = (within e member).small;
  longest = λ c kept before rest split other. omega arith;
}

-- ---- octets that clash with a name's end
-- No octets that go to an end, and hold the one before or at a place, are a name that ends these labels.
abbrev pub Barred : List ℕ → List (List ℕ) → ℕ → ℕ → Type 0
Barred octets labels to clash =
    (from : ℕ) → from ≤ clash → (before rest : List (List ℕ)) → labels ≡ before ++ rest → slice_range octets from to ≡ name_octets (domain_name true rest) → ⊥

pub bar_start : (octets : List ℕ) (labels : List (List ℕ)) → Barred octets labels 0 0
bar_start octets labels from le before rest split spelled =
    absurd (omega (arith, ap length spelled, length-append (label_octets rest) (0 ∷ []), length-take (0 - from) (drop from octets)))

-- An octet of a part is one of the whole.
part_get : (octets : List ℕ) (from to i : ℕ) → from + i < to → get_or (slice_range octets from to) i 0 ≡ get_or octets (from + i) 0
part_get octets from to i lt =
    get_or-take (to - from) (drop from octets) i 0 (omega (arith, lt)) ∙ get_or-drop from octets i 0

part_length : (octets : List ℕ) (from to : ℕ) → from ≤ to → to ≤ length octets → length (slice_range octets from to) ≡ to - from
part_length octets from to order within = omega (arith, length-take (to - from) (drop from octets), length-drop from octets, order, within)

-- What ends labels is there in the octets of all.
end_get : (labels before rest : List (List ℕ)) (i : ℕ) → labels ≡ before ++ rest → get_or (name_octets (domain_name true rest)) i 0 ≡ get_or (label_octets labels ++ 0 ∷ []) (length (label_octets before) + i) 0
end_get labels before rest i split =
    let all = label_octets labels in
    let front = length (label_octets before) in
    let within : front ≤ length all = omega (arith, behind_length labels before rest (name_octets (domain_name true rest)) split refl, length-append (label_octets rest) (0 ∷ [])) in
    ap (λ (t : List ℕ). get_or (t ++ 0 ∷ []) i 0) (sym (drop_front labels before rest front split refl))
    ∙ ap (λ (t : List ℕ). get_or t i 0) (sym (drop-append-le front all (0 ∷ []) within))
    ∙ get_or-drop front (all ++ 0 ∷ []) i 0

pub bar_clash : (octets : List ℕ) (labels : List (List ℕ)) (e : Entry) (place : ℕ) → IsWithin octets e → ClashesAt labels (slice_range octets e.from e.to) place → Barred octets labels e.to (e.from + place)
bar_clash octets labels e place w clash from le before rest split spelled =
    let own = part_length octets e.from e.to w.order w.within in
    let lt : e.from + place < e.to = omega (arith, clash.own, own) in
    let long = part_length octets from e.to (omega (arith, le, lt)) w.within in
    let k = e.from + place - from in
    let at = behind_length labels before rest (slice_range octets from e.to) split spelled in
    let index : length (label_octets before) + k ≡ length (label_octets labels) + 1 - length (slice_range octets e.from e.to) + place =
    omega (arith, own, lt, long, at, le, clash.short) in
    let same : get_or octets (e.from + place) 0 ≡ get_or (slice_range octets from e.to) k 0 =
    ap (λ (n : ℕ). get_or octets n 0) (omega (arith, le)) ∙ sym (part_get octets from e.to k (omega (arith, le, lt))) in
    clash.other (
    part_get octets e.from e.to place lt
    ∙ same
    ∙ ap (λ (t : List ℕ). get_or t k 0) spelled
    ∙ end_get labels before rest k split
    ∙ ap (λ (n : ℕ). get_or (label_octets labels ++ 0 ∷ []) n 0) index
    )

-- So an entry that holds it is none.
pub barred_none : (octets : List ℕ) (labels : List (List ℕ)) (e : Entry) (to clash front : ℕ) → Barred octets labels to clash → e.to ≡ to → e.from ≤ clash → NoneBefore labels front (slice_range octets e.from e.to)
barred_none octets labels e to clash front barred at le before rest split spelled =
    absurd (barred e.from le before rest split (ap (λ (n : ℕ). slice_range octets e.from n) (sym at) ∙ spelled))

-- Nor is one that is too long, or as long as the rest and other octets, or no longer than what was found.
pub cannot_end : (octets : List ℕ) (labels : List (List ℕ)) (e : Entry) (rest : List ℕ) (whole least front to clash : ℕ) → IsWithin octets e → whole ≡ length (label_octets labels) + 1 → least ≤ length (label_octets labels) → rest ≡ drop least (label_octets labels) → NoneBefore labels least (slice_range octets e.from e.to) → Barred octets labels to clash → CannotEnd octets rest whole front to clash e → NoneBefore labels front (slice_range octets e.from e.to)
cannot_end octets labels e rest whole least front to clash w all within is none barred why before behind split spelled =
    let long = part_length octets e.from e.to w.order w.within in
    let at = behind_length labels before behind (slice_range octets e.from e.to) split spelled in
    let from = none before behind split spelled in
    let size : length rest ≡ length (label_octets labels) - least = omega (arith, ap length is, length-drop least (label_octets labels)) in
    elim why [
      | inl other ↦
          let there : length (label_octets before) ≡ least = omega (arith, other.0, long, at, size, within) in
          absurd (other.1 (spelled ∙ ap (λ (t : List ℕ). t ++ 0 ∷ []) (sym (is ∙ drop_front labels before behind least split (sym there)))))
      | inr more ↦ elim more [
        | inl longer ↦ absurd (omega (arith, longer, long, at, size, within, from))
        | inr rest_of ↦ elim rest_of [
          | inl later ↦ omega (arith, later, long, at, all)
          | inr held ↦ barred_none octets labels e to clash front barred held.0 held.1 before behind split spelled
        ]
      ]
    ]
