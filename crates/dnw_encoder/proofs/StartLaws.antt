-- Laws of names that are marked by their first octets.
use Rattle.std.proofs.Common.{◌≡◌, ℕ, ◌+◌, ◌-◌, ◌*◌, ◌/◌, ◌%◌, ◌^◌, bit_xor, if◌then◌else◌, ◌<◌, ◌≤◌, ◌⊎◌, inl, inr, Bool, true, false, zero, suc, List, [], ◌∷◌, ◌++◌, length, take, drop, get_or, Result, Ok, Err, refl, sym, ap, subst, ◌∙◌, arith, append_assoc, length-append}
use lib.Dec.{ltb}
use Rattle.std.specs.Result.{OnErr}
use Rattle.std.specs.Int.{from_be_bytes, w64}
use Rattle.std.specs.List.{All, slice_range}
use Rattle.std.proofs.lemmas.Bool.{cases_lt, le-ltb, lt-ltb}
use Rattle.std.proofs.lemmas.List.{drop_at, length-take, length-drop, take-append-le, take-take, take_all}
use Rattle.std.proofs.lemmas.List.Elements.{All-tail}
use Rattle.dnw_decoder.specs.dnw_label.Label.{IsLabel}
use Rattle.dnw_decoder.specs.dnw_label.Labels.{label_octets}
use Rattle.dnw_decoder.specs.dnw_name.DomainName.{domain_name, name_octets}
use Rattle.dnw_encoder.specs.Candidates.{AreWithin, IsWithin, NoneBefore}
use Rattle.dnw_encoder.specs.Members.{In}
use Rattle.dnw_encoder.specs.Starts.{AreMarked, IsMarked, NoneEarlier, NoneMarkedBefore, StaysMarked, start_place}
use Rattle.dnw_encoder.specs.declared.candidates.Entry.{Entry}
use Rattle.dnw_encoder.proofs.CandidateLaws.{in_append, slice_cut, slice_grown}
use Rattle.dnw_encoder.proofs.SuffixLaws.{behind_length, drop_front, longer_front, octets_one, octets_split}

-- How far the labels of a name were gone through, of which none is marked.
pub record Gone (marks : List Bool) (labels : List (List ℕ)) (rest : List ℕ) : Type 0 where
  pub done : List (List ℕ)
  pub left : List (List ℕ)
  pub split : labels ≡ done ++ left
  pub octets : rest ≡ label_octets left
  pub each : All IsLabel left
  pub none : NoneMarkedBefore marks labels (length (label_octets done))

pub gone_start : (marks : List Bool) (labels : List (List ℕ)) (octets : List ℕ) → All IsLabel labels → octets ≡ label_octets labels → Gone marks labels octets
gone_start marks labels octets are e = record { done = []; left = labels; split = refl; octets = e; each = are; none = λ before rest split marked. omega arith }

-- How many octets are behind.
pub gone_octets : (marks : List Bool) (labels : List (List ℕ)) (octets rest : List ℕ) → octets ≡ label_octets labels → (g : Gone marks labels rest) → length octets ≡ length (label_octets g.done) + length rest
gone_octets marks labels octets rest e g =
    omega (arith, ap length e, ap (λ (ls : List (List ℕ)). length (label_octets ls)) g.split, ap length (octets_split g.done g.left), length-append (label_octets g.done) (label_octets g.left), ap length g.octets)

-- What is left at an end of a front is what was left there.
left_there : (marks : List Bool) (labels : List (List ℕ)) (octets : List ℕ) → (g : Gone marks labels octets) → (before rest : List (List ℕ)) → labels ≡ before ++ rest → length (label_octets before) ≡ length (label_octets g.done) → label_octets rest ≡ octets
left_there marks labels octets g before rest split at =
    sym (drop_front labels before rest (length (label_octets g.done)) split (sym at))
    ∙ drop_front labels g.done g.left (length (label_octets g.done)) g.split refl
    ∙ sym g.octets

pub record GoesOn (marks : List Bool) (labels : List (List ℕ)) (n : ℕ) (behind : List ℕ) : Type 0 where
  pub fits : n ≤ length behind
  pub more : Gone marks labels (drop n behind)

-- One label further, behind octets that are not marked.
pub gone_more : (marks : List Bool) (labels : List (List ℕ)) (octets : List ℕ) (n : ℕ) (behind : List ℕ) → (g : Gone marks labels octets) → octets ≡ n ∷ behind → (8 ≤ length octets) × (IsMarked marks octets → ⊥) → GoesOn marks labels n behind
gone_more marks labels octets n behind g cut unmarked = by g.left g.split (sym g.octets ∙ cut) g.each
  where
    by : (left : List (List ℕ)) → labels ≡ g.done ++ left → label_octets left ≡ n ∷ behind → All IsLabel left → GoesOn marks labels n behind
    by [] split spelled each = absurd (omega (arith, ap length spelled))
    by (l ∷ ls) split spelled each =
        let long : length l ≡ n = ap (λ (t : List ℕ). get_or t 0 0) spelled in
        let later : l ++ label_octets ls ≡ behind = ap (λ (t : List ℕ). drop 1 t) spelled in
        let rest_of : drop n behind ≡ label_octets ls = ap (λ (t : List ℕ). drop n t) (sym later) ∙ drop_at l (label_octets ls) n long in
        record {
          fits = omega (arith, ap length later, length-append l (label_octets ls), long);
          more = record {
            done = g.done ++ l ∷ [];
            left = ls;
            split = split ∙ sym (append_assoc g.done (l ∷ []) ls);
            octets = rest_of;
            each = All-tail IsLabel l ls each;
            none = λ before rest cut_there marked.
                let from = g.none before rest cut_there marked in
                elim (cases_lt (length (label_octets g.done)) (length (label_octets before))) [
                  | inl further ↦
                      let found = longer_front g.done (l ∷ ls) before rest (sym split ∙ cut_there) further in
                      let same : l ≡ found.0 = ap (λ (t : List (List ℕ)). get_or t 0 []) found.3 in
                      omega (
                        arith,
                        ap (λ (t : List (List ℕ)). length (label_octets t)) found.2,
                        ap length (octets_split g.done (found.0 ∷ found.1)),
                        length-append (label_octets g.done) (label_octets (found.0 ∷ found.1)),
                        octets_one found.0 found.1,
                        ap (λ (t : List ℕ). length t) same,
                        ap length (octets_split g.done (l ∷ [])),
                        length-append (label_octets g.done) (label_octets (l ∷ [])),
                        octets_one l [],
                      )
                  | inr not_further ↦
                      let here : label_octets rest ≡ octets = left_there marks labels octets g before rest cut_there (omega (arith, from, not_further)) in
                      absurd (unmarked.1 (subst (λ (t : List ℕ). IsMarked marks t) here (marked (omega (arith, unmarked.0, ap length here)))))
                ];
          };
        }

-- Where the walk stops, no name that is marked begins earlier.
pub gone_at : (marks : List Bool) (labels : List (List ℕ)) (octets rest : List ℕ) → octets ≡ label_octets labels → (g : Gone marks labels rest) → (at : ℕ) → at ≡ length octets - length rest → NoneMarkedBefore marks labels at
gone_at marks labels octets rest e g at is before behind split marked =
    omega (arith, is, gone_octets marks labels octets rest e g, g.none before behind split marked)

-- An entry's octets but for the last.
part_cut : (octets : List ℕ) (e : Entry) (labels : List ℕ) → slice_range octets e.from e.to ≡ labels ++ 0 ∷ [] → e.to - e.from ≡ length labels + 1 → slice_range octets e.from (e.to - 1) ≡ labels
part_cut octets e labels is long =
    ap (λ (n : ℕ). take n (drop e.from octets)) (omega (arith, long))
    ∙ sym (take-take (length labels) (e.to - e.from) (drop e.from octets) (omega (arith, long)))
    ∙ ap (λ (t : List ℕ). take (length labels) t) is
    ∙ take-append-le (length labels) labels (0 ∷ []) (omega arith)
    ∙ take_whole labels
  where
    take_whole : (xs : List ℕ) → take (length xs) xs ≡ xs
    take_whole [] = refl
    take_whole (x ∷ xs) = ap (λ (t : List ℕ). x ∷ t) (take_whole xs)

-- So no entry is a name that ends it earlier.
pub none_earlier : (marks : List Bool) (octets : List ℕ) (entries : List Entry) (labels : List (List ℕ)) (least : ℕ) → AreWithin octets entries → AreMarked marks octets entries → NoneMarkedBefore marks labels least → NoneEarlier octets entries labels least
none_earlier marks octets entries labels least within marked none e member before rest split spelled =
    let w = within e member in
    let long : e.to - e.from ≡ length (label_octets rest) + 1 =
    omega (arith, ap length spelled, length-append (label_octets rest) (0 ∷ []), length-take (e.to - e.from) (drop e.from octets), length-drop e.from octets, w.order, w.within) in
    none before rest split (λ some.
    subst (λ (t : List ℕ). IsMarked marks t) (part_cut octets e (label_octets rest) spelled long) (marked e member (omega (arith, long, some))))

last_part : {X : Type 0} (xs : List X) (n : ℕ) → take (length xs - n) (drop n xs) ≡ drop n xs
last_part xs n = take_all (length xs - n) (drop n xs) (omega (arith, length-drop n xs))

-- Marks stay behind more octets, with more marks, and for fewer entries.
pub marks_grown : (marks later : List Bool) (octets more grown : List ℕ) (entries : List Entry) → AreWithin octets entries → AreMarked marks octets entries → grown ≡ octets ++ more → StaysMarked marks later → AreMarked later grown entries
marks_grown marks later octets more grown entries within marked is stays e member some =
    let w = within e member in
    subst (λ (t : List ℕ). IsMarked later t)
    (sym (ap (λ (t : List ℕ). slice_range t e.from (e.to - 1)) is ∙ slice_grown octets more e.from (e.to - 1) (omega (arith, some)) (omega (arith, w.within))))
    (stays _ (marked e member some))

pub marks_cut : (marks : List Bool) (octets : List ℕ) (n : ℕ) (entries : List Entry) → AreWithin octets entries → AreMarked marks octets entries → ((e : Entry) → In e entries → e.to ≤ n) → AreMarked marks (take n octets) entries
marks_cut marks octets n entries within marked cut e member some =
    let w = within e member in
    subst (λ (t : List ℕ). IsMarked marks t)
    (sym (slice_cut octets n e.from (e.to - 1) (omega (arith, some)) (omega (arith, w.within)) (omega (arith, cut e member))))
    (marked e member some)

in_drop : {X : Type 0} (x : X) (n : ℕ) (xs : List X) → In x (drop n xs) → In x xs
in_drop x zero xs found = found
in_drop x (suc n) [] found = found
in_drop x (suc n) (y ∷ ys) found = inr (in_drop x n ys found)

-- One of the last is one of all.
pub in_part : {X : Type 0} (x : X) (n : ℕ) (xs : List X) → In x (take (length xs - n) (drop n xs)) → In x xs
in_part {X} x n xs found = in_drop x n xs (subst (λ (ys : List X). In x ys) (last_part xs n) found)

-- The entries that were there and those behind them.
pub marks_added : (marks later : List Bool) (octets more grown : List ℕ) (entries added new : List Entry) (n : ℕ) → AreWithin octets entries → AreMarked marks octets entries → grown ≡ octets ++ more → StaysMarked marks later → new ≡ entries ++ added → n ≡ length entries → AreMarked later grown (take (length new - n) (drop n new)) → AreMarked later grown new
marks_added marks later octets more grown entries added new n within marked is stays put count all e member some =
    elim (in_append e entries added (subst (λ (es : List Entry). In e es) put member)) [
      | inl old ↦ marks_grown marks later octets more grown entries within marked is stays e old some
      | inr later_on ↦ all e (subst (λ (es : List Entry). In e es) (sym (last_part new n ∙ ap (λ (es : List Entry). drop n es) put ∙ drop_at entries added n (sym count))) later_on) some
    ]

-- The place of few octets and of more.
place_by : ℕ → ℕ → Bool → ℕ
place_by first second few = (if few then first else bit_xor first second) * 11400714819323198485 % 2 ^ 64 / 2 ^ 54

start_place_is : (labels : List ℕ) → start_place labels ≡ place_by (from_be_bytes w64 (take 8 (drop 0 labels))) (from_be_bytes w64 (take 8 (drop 8 labels))) (ltb (length labels) 16)
unfolding start_place place_by
start_place_is labels = refl

pub place_few : (labels : List ℕ) (first mixed : ℕ) → length labels < 16 → mixed ≡ first → first ≡ from_be_bytes w64 (take 8 (drop 0 labels)) → mixed * 11400714819323198485 % 2 ^ 64 / 2 ^ 54 ≡ start_place labels
unfolding place_by
place_few labels first mixed few same is =
    ap (λ (n : ℕ). n * 11400714819323198485 % 2 ^ 64 / 2 ^ 54) (same ∙ is)
    ∙ ap (λ (b : Bool). place_by (from_be_bytes w64 (take 8 (drop 0 labels))) (from_be_bytes w64 (take 8 (drop 8 labels))) b) (sym (lt-ltb (length labels) 16 few))
    ∙ sym (start_place_is labels)

pub place_more : (labels : List ℕ) (first second mixed : ℕ) → 16 ≤ length labels → mixed ≡ bit_xor first second → first ≡ from_be_bytes w64 (take 8 (drop 0 labels)) → second ≡ from_be_bytes w64 (take 8 (drop 8 labels)) → mixed * 11400714819323198485 % 2 ^ 64 / 2 ^ 54 ≡ start_place labels
unfolding place_by
place_more labels first second mixed more same is is_next =
    ap (λ (n : ℕ). n * 11400714819323198485 % 2 ^ 64 / 2 ^ 54) (same ∙ ap (λ (n : ℕ). bit_xor n second) is ∙ ap (λ (n : ℕ). bit_xor (from_be_bytes w64 (take 8 (drop 0 labels))) n) is_next)
    ∙ ap (λ (b : Bool). place_by (from_be_bytes w64 (take 8 (drop 0 labels))) (from_be_bytes w64 (take 8 (drop 8 labels))) b) (sym (le-ltb (length labels) 16 more))
    ∙ sym (start_place_is labels)

pub subst2 : {X Y : Type 0} (P : X → Y → Type 0) {x z : X} {y w : Y} → x ≡ z → y ≡ w → P x y → P z w
subst2 {X} {Y} P {x} {z} {y} {w} e f p = subst (λ (b : Y). P z b) f (subst (λ (a : X). P a y) e p)

pub refused_same : {T E P : Type 0} (r : Result T E) → P → OnErr r P
refused_same (Ok x) p = tt
refused_same (Err x) p = p
