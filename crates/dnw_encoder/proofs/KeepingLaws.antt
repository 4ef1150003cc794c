-- Laws of names that are kept beside others.
use Rattle.std.proofs.Common.{◌≡◌, ℕ, ◌+◌, ◌-◌, ◌<◌, ◌≤◌, inl, inr, true, List, [], ◌∷◌, ◌++◌, length, take, drop, get_or, refl, sym, ap, subst, ◌∙◌, arith, append_assoc, length-append, append-nil}
use Rattle.std.specs.List.{All, slice_range}
use Rattle.std.proofs.lemmas.List.{drop_at, take_all}
use Rattle.std.proofs.lemmas.List.Elements.{All-tail}
use Rattle.dnw_decoder.specs.dnw_label.Label.{IsLabel}
use Rattle.dnw_decoder.specs.dnw_label.Labels.{label_octets}
use Rattle.dnw_decoder.specs.dnw_name.DomainName.{domain_name, name_octets}
use Rattle.dnw_encoder.specs.Candidates.{AreWithin, IsWithin, candidate_of, candidates_of, KeepsSuffixes, IsSuffixEntry, PushesOthers, PushesSuffixes, SplitsAt}
use Rattle.dnw_encoder.specs.Members.{In}
use Rattle.dnw_encoder.specs.State.{Candidate}
use Rattle.dnw_encoder.specs.declared.candidates.Entry.{Entry}
use Rattle.dnw_encoder.proofs.CandidateLaws.{candidates_grown, unchanged, in_append, in_map, in_map_back}
use Rattle.dnw_encoder.proofs.MemberLaws.{in_push}
use Rattle.dnw_encoder.proofs.SuffixLaws.{drop_front, octets_split}

-- How far names of a name's labels were put among the entries.
pub record Pushed (labels : List (List ℕ)) (front last start stop : ℕ) (rest : List ℕ) (old new : List Entry) : Type 0 where
  pub done : List (List ℕ)
  pub left : List (List ℕ)
  pub split : labels ≡ done ++ left
  pub octets : rest ≡ label_octets left
  pub labelled : All IsLabel left
  pub added : List Entry
  pub appended : new ≡ old ++ added
  pub each : (e : Entry) → In e added → IsSuffixEntry labels front last start stop e
  pub counted : length added < length done

some_done : (ls : List (List ℕ)) → 0 < length (label_octets ls) → 0 < length ls
some_done [] lt = absurd (omega (arith, lt))
some_done (l ∷ ls) lt = omega arith

labels_behind : (xs ys : List (List ℕ)) → All IsLabel (xs ++ ys) → All IsLabel ys
labels_behind [] ys are = are
labels_behind (x ∷ xs) ys are = labels_behind xs ys (All-tail IsLabel x (xs ++ ys) are)

pub push_start : (labels : List (List ℕ)) (front last start stop begin : ℕ) (octets : List ℕ) (entries : List Entry) → All IsLabel labels → octets ≡ label_octets labels → 0 < begin → SplitsAt labels begin → Pushed labels front last start stop (drop begin octets) entries entries
push_start labels front last start stop begin octets entries are e some s = record {
  done = s.0;
  left = s.1;
  split = s.2;
  octets = ap (λ (t : List ℕ). drop begin t) e ∙ drop_front labels s.0 s.1 begin s.2 s.3;
  labelled = labels_behind s.0 s.1 (subst (λ (ls : List (List ℕ)). All IsLabel ls) s.2 are);
  added = [];
  appended = sym (append-nil entries);
  each = λ x member. absurd member;
  counted = omega (arith, some_done s.0 (omega (arith, some, s.3)));
}

pub pushed_octets : (labels : List (List ℕ)) (front last start stop : ℕ) (octets rest : List ℕ) (old new : List Entry) → octets ≡ label_octets labels → (w : Pushed labels front last start stop rest old new) → length octets ≡ length (label_octets w.done) + length rest
pushed_octets labels front last start stop octets rest old new e w =
    omega (arith, ap length e, ap (λ (ls : List (List ℕ)). length (label_octets ls)) w.split, ap length (octets_split w.done w.left), length-append (label_octets w.done) (label_octets w.left), ap length w.octets)

-- The entry of what is left.
entry_next : (labels : List (List ℕ)) (front last start stop : ℕ) (rest : List ℕ) (old new : List Entry) (at : ℕ) (e : Entry) → (w : Pushed labels front last start stop rest old new) → at ≡ length (label_octets w.done) → at < front → start + at < 16383 → length rest + 1 ≤ last → e.from ≡ last - 1 - length rest → e.to ≡ last → e.place ≡ start + at → e.end ≡ stop → IsSuffixEntry labels front last start stop e
entry_next labels front last start stop rest old new at e w behind early small fits from to place end = record {
  before = w.done;
  rest = w.left;
  split = w.split;
  early = omega (arith, early, behind);
  from = omega (arith, from, fits, ap length w.octets, length-append (label_octets w.left) (0 ∷ []));
  to = to;
  place = omega (arith, place, behind);
  small = omega (arith, place, small);
  end = end;
}

pub record OneMore (labels : List (List ℕ)) (front last start stop : ℕ) (n : ℕ) (behind : List ℕ) (old new : List Entry) : Type 0 where
  pub fits : n ≤ length behind
  pub more : Pushed labels front last start stop (drop n behind) old new

-- One more.
push_more : (labels : List (List ℕ)) (front last start stop : ℕ) (rest : List ℕ) (old new later : List Entry) (at : ℕ) (e : Entry) (n : ℕ) (behind : List ℕ) → (w : Pushed labels front last start stop rest old new) → rest ≡ n ∷ behind → later ≡ new ++ e ∷ [] → IsSuffixEntry labels front last start stop e → OneMore labels front last start stop n behind old later
push_more labels front last start stop rest old new later at e n behind w cut grown is = by w.left w.split (sym w.octets ∙ cut) w.labelled
  where
    appended : later ≡ old ++ (w.added ++ e ∷ [])
    appended = grown ∙ ap (λ (es : List Entry). es ++ e ∷ []) w.appended ∙ append_assoc old w.added (e ∷ [])

    each : (x : Entry) → In x (w.added ++ e ∷ []) → IsSuffixEntry labels front last start stop x
    each x member = elim (in_push x e w.added member) [ inl before ↦ w.each x before | inr same ↦ subst (λ (y : Entry). IsSuffixEntry labels front last start stop y) same is ]

    by : (left : List (List ℕ)) → labels ≡ w.done ++ left → label_octets left ≡ n ∷ behind → All IsLabel left → OneMore labels front last start stop n behind old later
    by [] split octets labelled = absurd (omega (arith, ap length octets))
    by (l ∷ ls) split octets labelled =
        let long : length l ≡ n = ap (λ (t : List ℕ). get_or t 0 0) octets in
        let rest_of : l ++ label_octets ls ≡ behind = ap (λ (t : List ℕ). drop 1 t) octets in
        let left_of : drop n behind ≡ label_octets ls = ap (λ (t : List ℕ). drop n t) (sym rest_of) ∙ drop_at l (label_octets ls) n long in
        record {
          fits = omega (arith, ap length rest_of, length-append l (label_octets ls), long);
          more = record {
            done = w.done ++ l ∷ [];
            left = ls;
            split = split ∙ sym (append_assoc w.done (l ∷ []) ls);
            octets = left_of;
            labelled = All-tail IsLabel l ls labelled;
            added = w.added ++ e ∷ [];
            appended = appended;
            each = each;
            counted = omega (arith, w.counted, length-append w.added (e ∷ []), length-append w.done (l ∷ []));
          };
        }

-- The next name is put.
pub push_next : (labels : List (List ℕ)) (front last start stop : ℕ) (octets rest : List ℕ) (old new later : List Entry) (n : ℕ) (behind : List ℕ) (place : ℕ) → octets ≡ label_octets labels → (w : Pushed labels front last start stop rest old new) → rest ≡ n ∷ behind → length octets - length rest < front → start + (length octets - length rest) < 16383 → length (label_octets labels) + 1 ≤ last → place ≡ start + (length octets - length rest) → later ≡ new ++ record { from = last - 1 - length rest; to = last; place = place; end = stop } ∷ [] → OneMore labels front last start stop n behind old later
push_next labels front last start stop octets rest old new later n behind place all w cut early small fits here grown =
    let e : Entry = record { from = last - 1 - length rest; to = last; place = place; end = stop } in
    let at = pushed_octets labels front last start stop octets rest old new all w in
    let long : length octets ≡ length (label_octets labels) = ap length all in
    let room : length rest + 1 ≤ last = omega (arith, at, fits, long) in
    let is : IsSuffixEntry labels front last start stop e =
    entry_next labels front last start stop rest old new (length octets - length rest) e w (omega (arith, at)) early small room refl refl here refl in
    push_more labels front last start stop rest old new later (length octets - length rest) e n behind w cut grown is

-- The end, or where no more are kept.
pub push_end : (labels : List (List ℕ)) (front last start stop : ℕ) (rest : List ℕ) (old new : List Entry) → Pushed labels front last start stop rest old new → PushesOthers labels front last start stop old new
push_end labels front last start stop rest old new w = record {
  added = w.added;
  appended = w.appended;
  each = w.each;
  few = omega (arith, w.counted, ap length w.split, length-append w.done w.left);
}

-- The name itself is put, and then the others.
pub push_both : (labels : List (List ℕ)) (front last start stop : ℕ) (octets : List ℕ) (old with_name new : List Entry) (place : ℕ) → octets ≡ label_octets labels → with_name ≡ old ++ record { from = last - 1 - length octets; to = last; place = place; end = stop } ∷ [] → 0 < front → start < 16383 → length (label_octets labels) + 1 ≤ last → place ≡ start → PushesOthers labels front last start stop with_name new → PushesSuffixes labels front last start stop old new
push_both labels front last start stop octets old with_name new place all put early small fits here p =
    let e : Entry = record { from = last - 1 - length octets; to = last; place = place; end = stop } in
    let from : e.from + length (name_octets (domain_name true labels)) ≡ last = omega (arith, ap length all, fits, length-append (label_octets labels) (0 ∷ [])) in
    let is : IsSuffixEntry labels front last start stop e = record { before = []; rest = labels; split = refl; early = omega (arith, early); from = from; to = refl; place = omega (arith, here); small = omega (arith, here, small); end = refl } in
    record {
      added = e ∷ p.added;
      appended = p.appended ∙ ap (λ (es : List Entry). es ++ p.added) put ∙ append_assoc old (e ∷ []) p.added;
      each = λ x member. elim member [
        | inl same ↦ subst (λ (y : Entry). IsSuffixEntry labels front last start stop y) same is
        | inr later ↦ p.each x later
      ];
      few = omega (arith, p.few);
      whole = λ some room low labelled. (e, inl refl, from);
    }

-- The last of some octets.
slice_last : (xs ys : List ℕ) (from to : ℕ) → to ≡ length (xs ++ ys) → from + length ys ≡ to → slice_range (xs ++ ys) from to ≡ ys
slice_last xs ys from to whole part =
    let start : length xs ≡ from = omega (arith, whole, part, length-append xs ys) in
    ap (λ (t : List ℕ). take (to - from) t) (drop_at xs ys from start) ∙ take_all (to - from) ys (omega (arith, part))

-- The octets of a name that begins in the labels of one whose octets stand behind others.
suffix_octets : (octets : List ℕ) (labels before rest : List (List ℕ)) (from to : ℕ) → labels ≡ before ++ rest → to ≡ length (octets ++ (label_octets labels ++ 0 ∷ [])) → from + length (name_octets (domain_name true rest)) ≡ to → slice_range (octets ++ (label_octets labels ++ 0 ∷ [])) from to ≡ name_octets (domain_name true rest)
suffix_octets octets labels before rest from to split whole part =
    let parts : octets ++ (label_octets labels ++ 0 ∷ []) ≡ (octets ++ label_octets before) ++ (label_octets rest ++ 0 ∷ []) =
    ap (λ (ls : List (List ℕ)). octets ++ (label_octets ls ++ 0 ∷ [])) split
    ∙ ap (λ (t : List ℕ). octets ++ (t ++ 0 ∷ [])) (octets_split before rest)
    ∙ ap (λ (t : List ℕ). octets ++ t) (append_assoc (label_octets before) (label_octets rest) (0 ∷ []))
    ∙ sym (append_assoc octets (label_octets before) (label_octets rest ++ 0 ∷ [])) in
    ap (λ (t : List ℕ). slice_range t from to) parts
    ∙ slice_last (octets ++ label_octets before) (label_octets rest ++ 0 ∷ []) from to (whole ∙ ap length parts) part

candidates_both : (octets : List ℕ) (es fs : List Entry) → candidates_of octets (es ++ fs) ≡ candidates_of octets es ++ candidates_of octets fs
candidates_both octets [] fs = refl
candidates_both octets (e ∷ es) fs = ap (λ (cs : List Candidate). candidate_of octets e ∷ cs) (candidates_both octets es fs)

length-candidates : (octets : List ℕ) (es : List Entry) → length (candidates_of octets es) ≡ length es
length-candidates octets [] = refl
length-candidates octets (e ∷ es) = omega (arith, length-candidates octets es)

-- What is kept once the entries of a name's suffixes are put, and its octets.
pub record Keeping (labels : List (List ℕ)) (front start stop : ℕ) (octets more : List ℕ) (old new : List Entry) : Type 0 where
  pub within : AreWithin more new
  pub keeps : KeepsSuffixes labels front start stop (candidates_of octets old) (candidates_of more new)

pub keeping : (labels : List (List ℕ)) (front last start stop : ℕ) (octets more : List ℕ) (old new : List Entry) → AreWithin octets old → more ≡ octets ++ (label_octets labels ++ 0 ∷ []) → last ≡ length more → front ≤ length (label_octets labels) → PushesSuffixes labels front last start stop old new → Keeping labels front start stop octets more old new
keeping labels front last start stop octets more old new within grown end small p =
    let whole_end : last ≡ length (octets ++ (label_octets labels ++ 0 ∷ [])) = end ∙ ap length grown in
    let spelled : (e : Entry) (is : IsSuffixEntry labels front last start stop e) → slice_range more e.from e.to ≡ name_octets (domain_name true is.rest) =
    λ e is.
    ap (λ (t : List ℕ). slice_range t e.from e.to) grown
    ∙ suffix_octets octets labels is.before is.rest e.from e.to is.split (is.to ∙ whole_end) (is.from ∙ sym is.to) in
    record {
      within = λ e member. elim (in_append e old p.added (subst (λ (es : List Entry). In e es) p.appended member)) [
        | inl before ↦
            let w = within e before in
            record { order = w.order; within = omega (arith, w.within, ap length grown, length-append octets (label_octets labels ++ 0 ∷ [])); small = w.small }
        | inr later ↦
            let is = p.each e later in
            record { order = omega (arith, is.from, is.to); within = omega (arith, is.to, end); small = is.small }
      ];
      keeps = record {
        added = candidates_of more p.added;
        appended =
            ap (λ (es : List Entry). candidates_of more es) p.appended
            ∙ candidates_both more old p.added
            ∙ ap (λ (t : List ℕ). candidates_of t old ++ candidates_of more p.added) grown
            ∙ ap (λ (cs : List Candidate). cs ++ candidates_of more p.added) (candidates_grown octets (label_octets labels ++ 0 ∷ []) old within);
        each = λ c member.
            let from = in_map (candidate_of more) c p.added member in
            let is = p.each from.0 from.1 in
            record {
              before = is.before;
              rest = is.rest;
              split = is.split;
              early = is.early;
              spelled = ap (λ (x : Candidate). x.octets) (sym from.2) ∙ spelled from.0 is;
              place = ap (λ (x : Candidate). x.place) (sym from.2) ∙ is.place;
              small = omega (arith, ap (λ (x : Candidate). x.place) (sym from.2), is.small);
              end = ap (λ (x : Candidate). x.end) (sym from.2) ∙ is.end;
            };
        few = omega (arith, length-candidates more p.added, p.few);
        whole = λ some room early.
            let labelled : 0 < length labels = some_labels labels (omega (arith, some, small)) in
            let found = p.whole some (omega (arith, room, length-candidates octets old)) early labelled in
            let is = p.each found.0 found.1 in (
              candidate_of more found.0,
              in_map_back (candidate_of more) found.0 p.added found.1,
              ap (λ (t : List ℕ). slice_range t found.0.from found.0.to) grown
                  ∙ suffix_octets octets labels [] labels found.0.from found.0.to refl (is.to ∙ whole_end) (found.2 ∙ sym is.to),
            );
      };
    }
  where
    some_labels : (ls : List (List ℕ)) → 0 < length (label_octets ls) → 0 < length ls
    some_labels [] lt = absurd (omega (arith, lt))
    some_labels (l ∷ ls) lt = omega arith

-- Nothing is kept where nothing can be.
pub keeps_none : (labels : List (List ℕ)) (front start stop : ℕ) (kept : List Candidate) → (0 < front → length kept < 64 → start < 16383 → ⊥) → KeepsSuffixes labels front start stop kept kept
keeps_none labels front start stop kept full = record {
  added = [];
  appended = sym (append-nil kept);
  each = λ c member. absurd member;
  few = omega arith;
  whole = λ some room early. absurd (full some room early);
}

-- Octets that stand at a place are kept.
pub record OctetsKept (octets more new : List ℕ) (es : List Entry) (e : Entry) : Type 0 where
  pub within : AreWithin new (es ++ e ∷ [])
  pub keeps : candidates_of new (es ++ e ∷ []) ≡ candidates_of octets es ++ record { place = e.place; octets = more; end = e.end } ∷ []

pub octets_kept : (octets more new : List ℕ) (es : List Entry) (e : Entry) → AreWithin octets es → new ≡ octets ++ more → e.from ≡ length octets → e.to ≡ length new → e.place < 16383 → OctetsKept octets more new es e
octets_kept octets more new es e within grown from to small =
    let before = unchanged octets more new es within grown in
    let long : length new ≡ length octets + length more = ap length grown ∙ length-append octets more in
    let part : slice_range new e.from e.to ≡ more =
    ap (λ (t : List ℕ). slice_range t e.from e.to) grown ∙ slice_last octets more e.from e.to (to ∙ ap length grown) (omega (arith, from, to, long)) in
    record {
      within = λ x member. elim (in_push x e es member) [
        | inl found ↦ before.within x found
        | inr same ↦ subst (λ (y : Entry). IsWithin new y) same (record { order = omega (arith, from, to, long); within = omega (arith, to); small = small })
      ];
      keeps =
          candidates_both new es (e ∷ [])
          ∙ ap (λ (cs : List Candidate). cs ++ candidate_of new e ∷ []) before.same
          ∙ ap (λ (o : List ℕ). candidates_of octets es ++ record { place = e.place; octets = o; end = e.end } ∷ []) part;
    }
