-- Laws of the names that end a name.
use Rattle.std.proofs.Common.{◌≡◌, ℕ, ◌+◌, ◌-◌, ◌<◌, ◌≤◌, ◌⊎◌, inl, inr, Bool, true, List, [], ◌∷◌, ◌++◌, length, take, drop, get_or, refl, sym, ap, ◌∙◌, arith, append_assoc, length-append}
use Rattle.std.specs.List.{All}
use Rattle.std.proofs.lemmas.List.{append_cancel_left, drop_at, take_at, take_all, length-drop}
use Rattle.std.proofs.lemmas.List.Elements.{All-head, All-tail}
use Rattle.dnw_decoder.specs.dnw_label.Label.{IsLabel}
use Rattle.dnw_decoder.specs.dnw_label.Labels.{label_octets}
use Rattle.dnw_decoder.specs.dnw_name.DomainName.{domain_name, name_octets}
use Rattle.dnw_encoder.specs.Candidates.{SplitsAt, IsNameBehind, NoneBefore}

-- The octets of labels are those of the first and those of the rest.
pub octets_split : (front rest : List (List ℕ)) → label_octets (front ++ rest) ≡ label_octets front ++ label_octets rest
octets_split [] rest = refl
octets_split (l ∷ ls) rest =
    ap (λ (t : List ℕ). length l ∷ (l ++ t)) (octets_split ls rest) ∙ sym (append_assoc (length l ∷ l) (label_octets ls) (label_octets rest))

pub octets_one : (l : List ℕ) (ls : List (List ℕ)) → length (label_octets (l ∷ ls)) ≡ length l + 1 + length (label_octets ls)
octets_one l ls = omega (arith, length-append (length l ∷ l) (label_octets ls))

-- Octets that are labels are these labels alone.
pub octets_once : (xs ys : List (List ℕ)) → All IsLabel xs → All IsLabel ys → label_octets xs ++ 0 ∷ [] ≡ label_octets ys ++ 0 ∷ [] → xs ≡ ys
octets_once [] [] p q e = refl
octets_once [] (y ∷ ys) p q e =
    let is = All-head IsLabel y ys q in
    absurd (omega (arith, ap (λ (t : List ℕ). get_or t 0 0) e, is.some))
octets_once (x ∷ xs) [] p q e =
    let is = All-head IsLabel x xs p in
    absurd (omega (arith, ap (λ (t : List ℕ). get_or t 0 0) e, is.some))
octets_once (x ∷ xs) (y ∷ ys) p q e =
    let long : length x ≡ length y = ap (λ (t : List ℕ). get_or t 0 0) e in
    let behind : x ++ (label_octets xs ++ 0 ∷ []) ≡ y ++ (label_octets ys ++ 0 ∷ []) =
    sym (append_assoc x (label_octets xs) (0 ∷ [])) ∙ ap (λ (t : List ℕ). drop 1 t) e ∙ append_assoc y (label_octets ys) (0 ∷ []) in
    let same : x ≡ y =
    sym (take_at x (label_octets xs ++ 0 ∷ []) (length y) long) ∙ ap (λ (t : List ℕ). take (length y) t) behind ∙ take_at y (label_octets ys ++ 0 ∷ []) (length y) refl in
    let rest : label_octets xs ++ 0 ∷ [] ≡ label_octets ys ++ 0 ∷ [] =
    append_cancel_left y (label_octets xs ++ 0 ∷ []) (label_octets ys ++ 0 ∷ []) (ap (λ (t : List ℕ). t ++ (label_octets xs ++ 0 ∷ [])) (sym same) ∙ behind) in
    ap (λ (l : List ℕ). l ∷ xs) same ∙ ap (λ (ls : List (List ℕ)). y ∷ ls) (octets_once xs ys (All-tail IsLabel x xs p) (All-tail IsLabel y ys q) rest)

-- Of two fronts of the same labels the one with more octets goes on where the other ends.
pub longer_front : (f r g s : List (List ℕ)) → f ++ r ≡ g ++ s → length (label_octets f) < length (label_octets g) → (l : List ℕ) × (h : List (List ℕ)) × (g ≡ f ++ l ∷ h) × (r ≡ l ∷ (h ++ s))
longer_front [] r [] s e lt = absurd (omega (arith, lt))
longer_front [] r (y ∷ ys) s e lt = (y, ys, refl, e)
longer_front (x ∷ xs) r [] s e lt = absurd (omega (arith, lt, octets_one x xs))
longer_front (x ∷ xs) r (y ∷ ys) s e lt =
    let same : x ≡ y = ap (λ (t : List (List ℕ)). get_or t 0 []) e in
    let rest : xs ++ r ≡ ys ++ s = ap (λ (t : List (List ℕ)). drop 1 t) e in
    let found = longer_front xs r ys s rest (omega (arith, lt, octets_one x xs, octets_one y ys, ap (λ (t : List ℕ). length t) same)) in
    (found.0, found.1, ap (λ (t : List (List ℕ)). y ∷ t) found.2 ∙ ap (λ (z : List ℕ). z ∷ (xs ++ found.0 ∷ found.1)) (sym same), found.3)

-- How far the labels of a name were gone through: those before are done, and a front that ends at a
-- place isn't passed.
pub record Walked (labels : List (List ℕ)) (front : ℕ) (rest : List ℕ) : Type 0 where
  pub done : List (List ℕ)
  pub left : List (List ℕ)
  pub split : labels ≡ done ++ left
  pub octets : rest ≡ label_octets left
  pub each : All IsLabel left
  pub not_passed : SplitsAt labels front → length (label_octets done) ≤ front

pub walk_start : (labels : List (List ℕ)) (front : ℕ) (octets : List ℕ) → All IsLabel labels → octets ≡ label_octets labels → Walked labels front octets
walk_start labels front octets are e = record { done = []; left = labels; split = refl; octets = e; each = are; not_passed = λ s. omega arith }

-- How many octets are behind.
pub walked_octets : (labels : List (List ℕ)) (front : ℕ) (octets rest : List ℕ) → octets ≡ label_octets labels → (w : Walked labels front rest) → length octets ≡ length (label_octets w.done) + length rest
walked_octets labels front octets rest e w =
    omega (arith, ap length e, ap (λ (ls : List (List ℕ)). length (label_octets ls)) w.split, ap length (octets_split w.done w.left), length-append (label_octets w.done) (label_octets w.left), ap length w.octets)

-- One label further.
pub record OneFurther (labels : List (List ℕ)) (front : ℕ) (n : ℕ) (behind : List ℕ) : Type 0 where
  pub fits : n ≤ length behind
  pub more : Walked labels front (drop n behind)

pub walk_more : (labels : List (List ℕ)) (front : ℕ) (rest : List ℕ) (n : ℕ) (behind : List ℕ) → (w : Walked labels front rest) → rest ≡ n ∷ behind → length (label_octets w.done) < front → OneFurther labels front n behind
walk_more labels front rest n behind w cut before = by w.left w.split (sym w.octets ∙ cut) w.each
  where
    by : (left : List (List ℕ)) → labels ≡ w.done ++ left → label_octets left ≡ n ∷ behind → All IsLabel left → OneFurther labels front n behind
    by [] split octets each = absurd (omega (arith, ap length octets))
    by (l ∷ ls) split octets each =
        let long : length l ≡ n = ap (λ (t : List ℕ). get_or t 0 0) octets in
        let later : l ++ label_octets ls ≡ behind = ap (λ (t : List ℕ). drop 1 t) octets in
        let rest_of : drop n behind ≡ label_octets ls = ap (λ (t : List ℕ). drop n t) (sym later) ∙ drop_at l (label_octets ls) n long in
        record {
          fits = omega (arith, ap length later, length-append l (label_octets ls), long);
          more = record {
            done = w.done ++ l ∷ [];
            left = ls;
            split = split ∙ sym (append_assoc w.done (l ∷ []) ls);
            octets = rest_of;
            each = All-tail IsLabel l ls each;
            not_passed = λ s.
                let found = longer_front w.done (l ∷ ls) s.0 s.1 (sym split ∙ s.2) (omega (arith, before, s.3)) in
                let same : l ≡ found.0 = ap (λ (t : List (List ℕ)). get_or t 0 []) found.3 in
                omega (
                  arith,
                  s.3,
                  ap (λ (t : List (List ℕ)). length (label_octets t)) found.2,
                  ap length (octets_split w.done (found.0 ∷ found.1)),
                  length-append (label_octets w.done) (label_octets (found.0 ∷ found.1)),
                  octets_one found.0 found.1,
                  ap (λ (t : List ℕ). length t) same,
                  ap length (octets_split w.done (l ∷ [])),
                  length-append (label_octets w.done) (label_octets (l ∷ [])),
                  octets_one l [],
                );
          };
        }

-- At a front's end.
pub walk_end : (labels : List (List ℕ)) (front : ℕ) (rest : List ℕ) → (w : Walked labels front rest) → front ≡ length (label_octets w.done) → SplitsAt labels front
walk_end labels front rest w e = (w.done, w.left, w.split, e)

pub walked_at : (labels : List (List ℕ)) (front : ℕ) (octets rest : List ℕ) → octets ≡ label_octets labels → Walked labels front rest → SplitsAt labels (length octets - length rest)
walked_at labels front octets rest e w = (w.done, w.left, w.split, omega (arith, walked_octets labels front octets rest e w))

-- The first label ends behind its octets and that of its length.
pub splits_one : (labels : List (List ℕ)) (octets : List ℕ) (n : ℕ) → octets ≡ label_octets labels → 0 < length (label_octets labels) → n ≡ 1 + get_or octets 0 0 → SplitsAt labels n
splits_one [] octets n e some first = absurd (omega (arith, some))
splits_one (l ∷ ls) octets n e some first =
    (l ∷ [], ls, refl, omega (arith, first, ap (λ (t : List ℕ). get_or t 0 0) e, octets_one l []))

-- Where the walk comes to a place, or to the end, a front ends there or none does.
pub walk_decides : (labels : List (List ℕ)) (front : ℕ) (octets rest : List ℕ) (test : Bool) → octets ≡ label_octets labels → (w : Walked labels front rest) → (front ≤ length (label_octets w.done)) ⊎ (length rest ≡ 0) → (test ≡ true → length octets - length rest ≡ front) × (length octets - length rest ≡ front → test ≡ true) → (test ≡ true → SplitsAt labels front) × (SplitsAt labels front → test ≡ true)
walk_decides labels front octets rest test e w stops decides =
    let at = walked_octets labels front octets rest e w in (
      λ holds. walk_end labels front rest w (omega (arith, decides.0 holds, at)),
      λ s. decides.1 (
          let within : front ≤ length octets = omega (arith, s.3, ap length e, ap (λ (ls : List (List ℕ)). length (label_octets ls)) s.2, ap length (octets_split s.0 s.1), length-append (label_octets s.0) (label_octets s.1)) in
          elim stops [ inl far ↦ omega (arith, far, at, w.not_passed s) | inr none ↦ omega (arith, none, at, w.not_passed s, within) ]),
    )

-- How long the octets of a name are that ends labels.
pub behind_length : (labels before rest : List (List ℕ)) (octets : List ℕ) → labels ≡ before ++ rest → octets ≡ name_octets (domain_name true rest) → length octets + length (label_octets before) ≡ length (label_octets labels) + 1
behind_length labels before rest octets split spelled =
    omega (arith, ap length spelled, length-append (label_octets rest) (0 ∷ []), ap (λ (ls : List (List ℕ)). length (label_octets ls)) split, ap length (octets_split before rest), length-append (label_octets before) (label_octets rest))

-- What is behind a front of labels.
pub drop_front : (labels before rest : List (List ℕ)) (front : ℕ) → labels ≡ before ++ rest → front ≡ length (label_octets before) → drop front (label_octets labels) ≡ label_octets rest
drop_front labels before rest front split behind =
    ap (λ (ls : List (List ℕ)). drop front (label_octets ls)) split ∙ ap (λ (t : List ℕ). drop front t) (octets_split before rest) ∙ drop_at (label_octets before) (label_octets rest) front (sym behind)

-- The octets are those of the name that begins at a front's end.
pub name_behind : (labels : List (List ℕ)) (front : ℕ) (octets all : List ℕ) → all ≡ label_octets labels → octets ≡ drop front all ++ 0 ∷ [] → SplitsAt labels front → IsNameBehind labels front octets
name_behind labels front octets all e is s = record {
  before = s.0;
  rest = s.1;
  split = s.2;
  behind = s.3;
  spelled = is ∙ ap (λ (t : List ℕ). drop front t ++ 0 ∷ []) e ∙ ap (λ (t : List ℕ). t ++ 0 ∷ []) (drop_front labels s.0 s.1 front s.2 s.3);
}

-- They are none unless they are as long, the labels end there and the octets agree.
pub none_longer : (labels : List (List ℕ)) (before : ℕ) (octets all : List ℕ) → all ≡ label_octets labels → length all + 1 < length octets → NoneBefore labels before octets
none_longer labels before octets all e long front rest split spelled =
    absurd (omega (arith, long, ap length e, behind_length labels front rest octets split spelled))

pub none_later : (labels : List (List ℕ)) (before : ℕ) (octets all : List ℕ) → all ≡ label_octets labels → before ≤ length all + 1 - length octets → NoneBefore labels before octets
none_later labels before octets all e late front rest split spelled =
    omega (arith, late, ap length e, behind_length labels front rest octets split spelled)

pub none_other : (labels : List (List ℕ)) (before n : ℕ) (octets all : List ℕ) → all ≡ label_octets labels → n ≡ length all + 1 - length octets → ((octets ≡ drop n all ++ 0 ∷ []) × SplitsAt labels n → ⊥) → NoneBefore labels before octets
none_other labels before n octets all e at other front rest split spelled =
    let same : n ≡ length (label_octets front) = omega (arith, at, ap length e, behind_length labels front rest octets split spelled) in
    absurd (other (spelled ∙ ap (λ (t : List ℕ). t ++ 0 ∷ []) (sym (ap (λ (t : List ℕ). drop n t) e ∙ drop_front labels front rest n split same)), (front, rest, split, same)))

-- A part that goes to the end.
pub part_behind : (xs : List ℕ) (n : ℕ) → take (length xs - n) (drop n xs) ≡ drop n xs
part_behind xs n = take_all (length xs - n) (drop n xs) (omega (arith, length-drop n xs))
