-- The closest encloser of a name, found by the levels above it.
use Rattle.std.proofs.Common.{◌≡◌, ℕ, ◌+◌, ◌-◌, ◌<◌, ◌≤◌, Bool, true, false, ◌&&◌, ◌||◌, ◌==◌, List, [], ◌∷◌, drop, length, zero, suc, refl, ap, sym, subst, ◌∙◌, arith, inl, inr, cond}
use Rattle.std.specs.Prelude.{Option, Some, None, option_map}
use Rattle.std.specs.Cmp.Lexicographic.{pointwise}
use Rattle.std.proofs.lemmas.Bool.Decides.{nat_tests}
use Rattle.std.proofs.lemmas.Bool.{cases_lt, true≢false, and_parts}
use Rattle.std.proofs.lemmas.List.{length-drop, nil_from_length}
use Rattle.zst_map.specs.dnw_name.DomainName.{DomainName, domain_name, is_at_or_below, lowercase_name, wildcard_of}
use Rattle.zst_map.specs.dnw_name.NameOrderLaws.{and-false}
use Rattle.zst_map.specs.zst_handler.Found.{nearest_above}
use Rattle.zst_map.specs.zst_handler.Zones.{Zone, exists_in}
use Rattle.zst_map.specs.zst_key.Ancestors.{star, up}
use Rattle.zst_map.specs.zst_record.RecordSets.{RRset}
use Rattle.zst_denial.specs.dnw_label.Label.{label_eq, wildcard_label}
use Rattle.zst_denial.specs.Denials.{encloser, is_existing}
use Rattle.zst_denial.specs.HashDenials.{next_closer}
use Rattle.zst_denial.proofs.zst_key_lemmas.Climbing.{up-up}
use Rattle.zst_denial.proofs.zst_key_lemmas.KeyLemmas.{above-lower}
use Rattle.zst_denial.proofs.zst_key_lemmas.NamesAbove.{above-shorter, nearest-at, nearest-none}
use Rattle.zst_absence.specs.Absences.{FindsCloser, FindsClosest, IsClosest, IsLowest, IsZoneOf, depth, exists_below}

-- ---- names above one that exists exist
kept : (n : ℕ) (xs ys : List (List ℕ)) → pointwise label_eq xs ys ≡ true → pointwise label_eq (drop n xs) (drop n ys) ≡ true
kept zero xs ys e = e
kept (suc n) [] [] e = refl
kept (suc n) [] (y ∷ ys) e = absurd (true≢false (sym e))
kept (suc n) (x ∷ xs) [] e = absurd (true≢false (sym e))
kept (suc n) (x ∷ xs) (y ∷ ys) e = kept n xs ys (and_parts (label_eq x y) (pointwise label_eq xs ys) e).1

below_above : (s x : DomainName) (n : ℕ) → n ≤ length x.labels → is_at_or_below s x ≡ true → is_at_or_below s (up x n) ≡ true
below_above s x n within e =
    let k = length s.labels - length x.labels in
    let level : k + n ≡ length s.labels - length (drop n x.labels) = omega (arith, above-shorter s x e, within, length-drop n x.labels) in
    ap (λ (m : ℕ). pointwise label_eq (drop n x.labels) (drop m s.labels)) (sym level)
    ∙ ap (λ (m : DomainName). pointwise label_eq (drop n x.labels) m.labels) (sym (up-up s k n)) ∙ kept n x.labels (drop k s.labels) e

or_true : (b c : Bool) → c ≡ true → (b || c) ≡ true
or_true true c e = refl
or_true false c e = e

exists_up : (sets : List RRset) (x : DomainName) (n : ℕ) → n ≤ length x.labels → exists_in sets x ≡ true → exists_in sets (up x n) ≡ true
exists_up [] x n within e = e
exists_up (set ∷ sets) x n within e = by (is_at_or_below set.name x) refl e (exists_up sets x n within)
  where
    by : (b : Bool) → is_at_or_below set.name x ≡ b → (b || exists_in sets x) ≡ true → (exists_in sets x ≡ true → exists_in sets (up x n) ≡ true)
        → (is_at_or_below set.name (up x n) || exists_in sets (up x n)) ≡ true
    by true here e later = ap (λ (c : Bool). c || exists_in sets (up x n)) (below_above set.name x n within here)
    by false none e later = or_true (is_at_or_below set.name (up x n)) (exists_in sets (up x n)) (later e)

-- Names below one that doesn't exist don't.
pub absent_below : (sets : List RRset) (name : DomainName) (n m : ℕ) → n ≤ m → m ≤ length name.labels → exists_in sets (up name m) ≡ false → exists_in sets (up name n) ≡ false
absent_below sets name n m less within none = by (exists_in sets (up name n)) refl
  where
    by : (b : Bool) → exists_in sets (up name n) ≡ b → exists_in sets (up name n) ≡ false
    by false e = e
    by true e =
        let level : n + (m - n) ≡ m = omega (arith, less) in
        absurd
        (true≢false
        (sym (exists_up sets (up name n) (m - n) (omega (arith, less, within, length-drop n name.labels)) e) ∙ ap (exists_in sets) (up-up name n (m - n) ∙ ap (up name) level) ∙ none))

-- ---- names above one that are at or below an origin
inside : (origin name : DomainName) (n : ℕ) → is_at_or_below name origin ≡ true → n ≤ length name.labels - length origin.labels → is_at_or_below (up name n) origin ≡ true
inside origin name n below within =
    let j = length (drop n name.labels) - length origin.labels in
    let level : n + j ≡ length name.labels - length origin.labels = omega (arith, within, above-shorter name origin below, length-drop n name.labels) in
    ap (λ (m : DomainName). pointwise label_eq origin.labels m.labels) (up-up name n j ∙ ap (up name) level) ∙ below

outside : (origin name : DomainName) (n : ℕ) → n ≤ length name.labels → is_at_or_below (up name n) origin ≡ true → is_at_or_below name origin ≡ true
outside origin name n within below =
    let j = length (drop n name.labels) - length origin.labels in
    let level : n + j ≡ length name.labels - length origin.labels = omega (arith, within, above-shorter (up name n) origin below, length-drop n name.labels) in
    ap (λ (m : DomainName). pointwise label_eq origin.labels m.labels) (sym (ap (up name) level) ∙ sym (up-up name n j)) ∙ below

deep_enough : (origin name : DomainName) (n : ℕ) → 0 < depth origin name → n ≤ depth origin name → is_at_or_below (up name n) origin ≡ true
deep_enough origin name n deep within = by (is_at_or_below name origin) refl deep within
  where
    by : (b : Bool) → is_at_or_below name origin ≡ b → 0 < cond b (length name.labels - length origin.labels) 0 → n ≤ cond b (length name.labels - length origin.labels) 0
        → is_at_or_below (up name n) origin ≡ true
    by true below deep within = inside origin name n below within
    by false off deep within = absurd (omega (arith, deep))

past : (origin name : DomainName) (n : ℕ) → depth origin name < n → n ≤ length name.labels → is_at_or_below (up name n) origin ≡ false
past origin name n deep within = by (is_at_or_below (up name n) origin) refl
  where
    by : (b : Bool) → is_at_or_below (up name n) origin ≡ b → is_at_or_below (up name n) origin ≡ false
    by false e = e
    by true e =
        let less : length name.labels - length origin.labels < n
        = subst (λ (b : Bool). cond b (length name.labels - length origin.labels) 0 < n) (outside origin name n within e) deep in
        absurd (omega (arith, less, within, above-shorter (up name n) origin e, length-drop n name.labels))

pub depth_within : (origin name : DomainName) → depth origin name ≤ length name.labels
depth_within origin name = by (is_at_or_below name origin)
  where
    by : (b : Bool) → cond b (length name.labels - length origin.labels) 0 ≤ length name.labels
    by true = omega arith
    by false = omega arith

-- ---- between a level that doesn't exist and one that does
pub lowest_found : (sets : List RRset) (name : DomainName) (low absent present high : ℕ) → low ≤ absent → absent < present → present ≤ high → high ≤ length name.labels
    → exists_in sets (up name absent) ≡ false → exists_in sets (up name present) ≡ true → present ≤ absent + 1 → IsLowest sets name low present high
lowest_found sets name low absent present high from order to within none there close =
    record {
      above = omega (arith, from, order);
      within = to;
      there = there;
      none = λ n less. absent_below sets name n absent (omega (arith, less, close)) (omega (arith, order, to, within)) none;
    }

pub exists_lower : (sets : List RRset) (name : DomainName) → exists_in sets (lowercase_name name) ≡ exists_in sets name
exists_lower [] name = refl
exists_lower (set ∷ sets) name =
    ap (λ (b : Bool). b || exists_in sets (lowercase_name name)) (above-lower set.name name) ∙ ap (λ (b : Bool). is_at_or_below set.name name || b) (exists_lower sets name)

-- ---- where it is
past_none : (sets : List RRset) (origin name : DomainName) (n : ℕ) → depth origin name < n → n ≤ length name.labels → exists_below sets origin (up name n) ≡ false
past_none sets origin name n deep within =
    ap (λ (b : Bool). exists_in sets (up name n) && b) (past origin name n deep within) ∙ and-false (exists_in sets (up name n))

pub closest_of_none : (sets : List RRset) (origin name : DomainName) → depth origin name ≡ 0 → FindsClosest sets origin name None
closest_of_none sets origin name e n proper within = past_none sets origin name n (omega (arith, e, proper)) within

there_at : (sets : List RRset) (origin name : DomainName) (n : ℕ) → 0 < depth origin name → n ≤ depth origin name → exists_in sets (up name n) ≡ true → exists_below sets origin (up name n) ≡ true
there_at sets origin name n deep within e = ap (λ (b : Bool). b && is_at_or_below (up name n) origin) e ∙ deep_enough origin name n deep within

pub closest_at_once : (sets : List RRset) (origin name : DomainName) → 0 < depth origin name → exists_in sets (up name 1) ≡ true → IsClosest sets origin name 1
closest_at_once sets origin name deep e =
    record {
      proper = omega arith;
      within = omega (arith, deep, depth_within origin name);
      there = there_at sets origin name 1 deep (omega (arith, deep)) e;
      nearest = λ n proper less. absurd (omega (arith, proper, less));
    }

pub closest_absent : (sets : List RRset) (origin name : DomainName) → exists_in sets (up name (depth origin name)) ≡ false → FindsClosest sets origin name None
closest_absent sets origin name none n proper within = elim (cases_lt (depth origin name) n) [
  | inl deep ↦ past_none sets origin name n deep within
  | inr less ↦ ap (λ (b : Bool). b && is_at_or_below (up name n) origin) (absent_below sets name n (depth origin name) less (depth_within origin name) none)
]

pub closest_lowest : (sets : List RRset) (origin name : DomainName) (levels : ℕ) → 0 < depth origin name → IsLowest sets name 1 levels (depth origin name) → IsClosest sets origin name levels
closest_lowest sets origin name levels deep l =
    record {
      proper = omega (arith, l.above);
      within = omega (arith, l.within, depth_within origin name);
      there = there_at sets origin name levels deep l.within l.there;
      nearest = λ n proper less. ap (λ (b : Bool). b && is_at_or_below (up name n) origin) (l.none n less);
    }

-- One level doesn't exist and another does: they differ.
pub apart : (sets : List RRset) (name : DomainName) (n m : ℕ) → n ≤ m → exists_in sets (up name n) ≡ false → exists_in sets (up name m) ≡ true → n < m
apart sets name n m order none there = elim (cases_lt n m) [
  | inl less ↦ less
  | inr more ↦ let same : n ≡ m = omega (arith, order, more) in absurd (true≢false (sym there ∙ ap (λ (k : ℕ). exists_in sets (up name k)) (sym same) ∙ none))
]

-- ---- as the zone's definition says it
module _ (zone : Zone) where
  abbrev at : DomainName → Option DomainName
  at n = cond (is_existing zone n) (Some n) None

  abbrev owner : Option (DomainName × DomainName) → Option DomainName
  owner = option_map (λ (a : DomainName × DomainName). a.0)

  some_from : (fqdn : Bool) (labels : List (List ℕ)) (levels : ℕ) → 0 < levels → levels ≤ length labels
      → exists_below zone.sets zone.origin (domain_name fqdn (drop levels labels)) ≡ true
      → ((n : ℕ) → 0 < n → n < levels → exists_below zone.sets zone.origin (domain_name fqdn (drop n labels)) ≡ false)
      → owner (nearest_above at fqdn labels) ≡ Some (domain_name fqdn (drop levels labels))
  some_from fqdn [] levels proper within there nearest = absurd (omega (arith, proper, within))
  some_from fqdn (l ∷ ls) zero proper within there nearest = absurd (omega (arith, proper))
  some_from fqdn (l ∷ ls) (suc levels) proper within there nearest =
      ap owner
      (nearest-at at fqdn ls levels (domain_name fqdn (drop levels ls)) (ap (λ (b : Bool). cond b (Some (domain_name fqdn (drop levels ls))) None) there)
      (λ n less. ap (λ (b : Bool). cond b (Some (domain_name fqdn (drop n ls))) None) (nearest (suc n) (omega arith) (omega (arith, less)))))

  ends_alike : (ls : List (List ℕ)) (n : ℕ) → length ls ≤ n → drop n ls ≡ drop (length ls) ls
  ends_alike ls n long =
      nil_from_length (drop n ls) (omega (arith, long, length-drop n ls)) ∙ sym (nil_from_length (drop (length ls) ls) (omega (arith, length-drop (length ls) ls)))

  none_from : (fqdn : Bool) (labels : List (List ℕ)) → ((n : ℕ) → 0 < n → n ≤ length labels → exists_below zone.sets zone.origin (domain_name fqdn (drop n labels)) ≡ false)
      → owner (nearest_above at fqdn labels) ≡ None
  none_from fqdn [] none = refl
  none_from fqdn (l ∷ ls) none =
      ap owner
      (nearest-none at fqdn ls
      (λ n. elim (cases_lt n (length ls)) [
        | inl less ↦ ap (λ (b : Bool). cond b (Some (domain_name fqdn (drop n ls))) None) (none (suc n) (omega arith) (omega (arith, less)))
        | inr long ↦ ap (λ (rest : List (List ℕ)). at (domain_name fqdn rest)) (ends_alike ls n long)
            ∙ ap (λ (b : Bool). cond b (Some (domain_name fqdn (drop (length ls) ls))) None) (none (suc (length ls)) (omega arith) (omega arith))
      ]))

-- What is said of a zone's sets and origin.
pub moved : (P : List RRset → DomainName → Type 0) (sets : List RRset) (origin : DomainName) (zone : Zone) → IsZoneOf sets origin zone → P sets origin → P zone.sets zone.origin
moved P sets origin zone z p = subst (λ (o : DomainName). P zone.sets o) (sym z.has_origin) (subst (λ (ss : List RRset). P ss origin) (sym z.has_sets) p)

pub encloser_some : (sets : List RRset) (origin name : DomainName) (levels : ℕ) (zone : Zone) → IsZoneOf sets origin zone → IsClosest sets origin name levels → encloser zone name ≡ Some (up name levels)
encloser_some sets origin name levels zone z c =
    let d : IsClosest zone.sets zone.origin name levels = moved (λ ss o. IsClosest ss o name levels) sets origin zone z c in
    some_from zone name.fqdn name.labels levels d.proper d.within d.there d.nearest

pub encloser_none : (sets : List RRset) (origin name : DomainName) (zone : Zone) → IsZoneOf sets origin zone → FindsClosest sets origin name None → encloser zone name ≡ None
encloser_none sets origin name zone z c =
    none_from zone name.fqdn name.labels (moved (λ ss o. FindsClosest ss o name None) sets origin zone z c)

-- ---- the names beside it
not_zero : (n : ℕ) → 0 < n → (n == 0) ≡ false
not_zero n e = grind (arith, nat_tests)

-- The wildcard in place of the next closer name's first label is the encloser's.
pub star_of : (name : DomainName) (levels : ℕ) → 0 < levels → levels ≤ length name.labels → wildcard_of (up name (levels - 1)) ≡ star (up name levels)
star_of name levels proper within =
    let k = levels - 1 in
    let level : k + 1 ≡ levels = omega (arith, proper) in
    let long : 0 < length (drop k name.labels) = omega (arith, proper, within, length-drop k name.labels) in
    ap (λ (b : Bool). cond b (domain_name true []) (domain_name name.fqdn (wildcard_label ∷ drop 1 (drop k name.labels)))) (not_zero (length (drop k name.labels)) long)
    ∙ ap star (up-up name k 1 ∙ ap (up name) level)

pub parent_of : (name : DomainName) (levels : ℕ) → 0 < levels → up (up name (levels - 1)) 1 ≡ up name levels
parent_of name levels proper =
    let level : levels - 1 + 1 ≡ levels = omega (arith, proper) in
    up-up name (levels - 1) 1 ∙ ap (up name) level

pub closer_of : (name : DomainName) (levels : ℕ) → 0 < levels → levels ≤ length name.labels → next_closer name (up name levels) ≡ up name (levels - 1)
closer_of name levels proper within =
    let level : length name.labels - length (drop levels name.labels) - 1 ≡ levels - 1 = omega (arith, proper, within, length-drop levels name.labels) in
    ap (up name) level
