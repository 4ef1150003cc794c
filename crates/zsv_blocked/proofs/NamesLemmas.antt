-- Names among others.
use Rattle.std.proofs.Common.{ℕ, ◌≡◌, ◌≤◌, ◌<◌, ◌+◌, ◌-◌, Bool, true, false, List, [], ◌∷◌, length, drop, map, zero, suc, arith, refl, ap, sym, ◌∙◌}
use Rattle.std.specs.List.{list_any, range_with_len}
use Rattle.dnw_name.specs.DomainName.{DomainName, domain_name, lowercase_name}
use Rattle.dnw_name.specs.dnw_label.Label.{wildcard_label}
use Rattle.std.specs.Str.{str_to_ascii_lowercase}
use Rattle.zst_key.specs.Ancestors.{parent, star, up}
use Rattle.std.proofs.lemmas.List.{drop-drop, drop-map, length-drop}
use Rattle.std.proofs.lemmas.List.Folds.{list_any_at}
use Rattle.std.proofs.lemmas.List.FromFn.{get_or-range_with_len, length-range_with_len}
use Rattle.std.proofs.Common.{get_or, ◌==◌}
use Rattle.std.proofs.Common.{◌⊎◌, inl, inr}
use Rattle.std.proofs.lemmas.Bool.{cases_lt}
use Rattle.std.proofs.lemmas.Grind.{common_steps}
use Rattle.zst_key.proofs.KeyLemmas.{eq-lower-first}
use Rattle.zsv_blocked.specs.BlockedNames.{has_wildcard, is_listed, wildcard_over}

-- A name in lower case is listed where the name is.
pub listed-lower : (name : DomainName) (names : List DomainName) → is_listed names (lowercase_name name) ≡ is_listed names name
listed-lower name [] = refl
listed-lower name (n ∷ names) =
    let one = eq-lower-first name n in
    let more = listed-lower name names in
    cc

-- The wildcard over the last labels of a name, in lower case.
pub star-over : (name : DomainName) (count : ℕ) → count < length name.labels
    → star (up (lowercase_name name) (length name.labels - count)) ≡ lowercase_name (wildcard_over count name)
star-over name count small =
    let size : length (drop (length name.labels - (count + 1)) name.labels) ≡ count + 1 = simp length-drop (omega (arith, small)) in
    let some : (length (drop (length name.labels - (count + 1)) name.labels) == 0) ≡ false = grind (arith, common_steps, size) in
    let same : length name.labels - count ≡ length name.labels - (count + 1) + 1 = omega (arith, small) in
    let labels : drop (length name.labels - count) (map str_to_ascii_lowercase name.labels) ≡ map str_to_ascii_lowercase (drop 1 (drop (length name.labels - (count + 1)) name.labels)) =
    ap (λ n. drop n (map str_to_ascii_lowercase name.labels)) same
    ∙ drop-map str_to_ascii_lowercase (length name.labels - (count + 1) + 1) name.labels
    ∙ ap (map str_to_ascii_lowercase) (sym (drop-drop 1 (length name.labels - (count + 1)) name.labels)) in
    rw some (ap (λ ls. domain_name name.fqdn (wildcard_label ∷ ls)) labels)

pub up-more : (name : DomainName) (k : ℕ) → parent (up name k) ≡ up name (k + 1)
up-more name k = ap (domain_name name.fqdn) (drop-drop 1 k name.labels)

-- One of the counts finds a wildcard.
pub has-one : (names : List DomainName) (depth count : ℕ) (name : DomainName) → depth ≤ count → count < length name.labels
    → is_listed names (wildcard_over count name) ≡ true → has_wildcard names depth name ≡ true
has-one names depth count name above below found =
    let at : get_or (range_with_len depth (length name.labels - depth)) (count - depth) 0 ≡ count =
    get_or-range_with_len depth (length name.labels - depth) (count - depth) 0 (omega (arith, above, below)) ∙ omega (arith, above) in
    list_any_at (λ n. is_listed names (wildcard_over n name)) (range_with_len depth (length name.labels - depth)) (count - depth) 0
    (rw length-range_with_len (omega (arith, above, below))) (ap (λ n. is_listed names (wildcard_over n name)) at ∙ found)

none-in-range : (f : ℕ → Bool) (depth n : ℕ) → ((k : ℕ) → depth ≤ k → k < depth + n → f k ≡ false) → list_any f (range_with_len depth n) ≡ false
none-in-range f depth zero none = refl
none-in-range f depth (suc n) none =
    let first : f depth ≡ false = none depth (omega arith) (omega arith) in
    let rest : list_any f (range_with_len (depth + 1) n) ≡ false =
    none-in-range f (depth + 1) n (λ k low high. none k (omega (arith, low)) (omega (arith, high))) in
    rw (first, rest) refl

-- None of the counts finds a wildcard.
pub has-none : (names : List DomainName) (depth : ℕ) (name : DomainName)
    → ((k : ℕ) → depth ≤ k → k < length name.labels → is_listed names (wildcard_over k name) ≡ false) → has_wildcard names depth name ≡ false
has-none names depth name none =
    none-in-range (λ n. is_listed names (wildcard_over n name)) depth (length name.labels - depth)
    (λ k low high. none k low (omega (arith, low, high)))

-- One label further up.
pub next-level : (name above : DomainName) (count : ℕ) → above ≡ up (lowercase_name name) (length name.labels - count) → count ≤ length name.labels
    → 0 < count → parent above ≡ up (lowercase_name name) (length name.labels - (count - 1))
next-level name above count is few some =
    let one : length name.labels - count + 1 ≡ length name.labels - (count - 1) = omega (arith, few, some) in
    ap parent is ∙ up-more (lowercase_name name) (length name.labels - count) ∙ ap (up (lowercase_name name)) one

-- The wildcard below it is listed where that over the last labels is.
pub next-listed : (names : List DomainName) (name above : DomainName) (count : ℕ) → above ≡ up (lowercase_name name) (length name.labels - count)
    → count < length name.labels → is_listed names (star above) ≡ is_listed names (wildcard_over count name)
next-listed names name above count is small =
    ap (λ n. is_listed names (star n)) is ∙ ap (is_listed names) (star-over name count small) ∙ listed-lower (wildcard_over count name) names

-- One count more that finds none.
pub passed-more : (names : List DomainName) (name : DomainName) (count : ℕ) → 0 < count → is_listed names (wildcard_over (count - 1) name) ≡ false
    → ((k : ℕ) → count ≤ k → k < length name.labels → is_listed names (wildcard_over k name) ≡ false)
    → (k : ℕ) → count - 1 ≤ k → k < length name.labels → is_listed names (wildcard_over k name) ≡ false
passed-more names name count some gone before k low high = by_place (cases_lt k count)
  where
    by_place : (k < count) ⊎ (count ≤ k) → is_listed names (wildcard_over k name) ≡ false
    by_place (inl here) =
        let same : count - 1 ≡ k = omega (arith, here, low, some) in
        ap (λ n. is_listed names (wildcard_over n name)) (sym same) ∙ gone
    by_place (inr above) = before k above high
