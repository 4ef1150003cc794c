-- Where the octets of the name above end in those of a key.
use Rattle.std.proofs.Common.{◌≡◌, ℕ, ◌+◌, ◌-◌, ◌<◌, ◌≤◌, ◌++◌, Bool, true, false, List, [], ◌∷◌, length, take, map, get_or, nat_eq, ap, sym, ◌∙◌, arith, length-append, inl, inr}
use Rattle.std.proofs.lemmas.Bool.{true≢false, cases_lt}
use Rattle.std.proofs.lemmas.List.{length-map, get_or_push, get_or_append_left, get_or-append-add, get_or-map}
use Rattle.std.proofs.Math.Seq.{take-append_seam}
use Rattle.dnw_name.specs.DomainName.{DomainName, domain_name}
use Rattle.zst_key.specs.Ancestors.{parent}
use Rattle.zst_key.specs.NameKeys.{rank, label_key, name_key}
use Rattle.zst_key.proofs.KeyFronts.{rank_is_no_end}
use Rattle.zst_key.proofs.KeyOrder.{key-cons, length-label_key}

-- From an end on, octets are no ends of labels, but for the last of all.
abbrev pub NoEndsFrom : List ℕ → ℕ → Type 0
NoEndsFrom octets end = (i : ℕ) → end ≤ i → i + 1 < length octets → nat_eq (get_or octets i 0) 0 ≡ false

last_of : (octets : List ℕ) (x : ℕ) (n : ℕ) → n ≡ length octets → get_or (octets ++ x ∷ []) n 0 ≡ x
last_of octets x n e = get_or_push octets x 0 n (sym e)

-- The last octet of the key of a name with labels ends a label.
pub key-ends : (fqdn : Bool) (labels : List (List ℕ)) (n : ℕ) → n + 1 ≡ length (name_key (domain_name fqdn labels)) → 0 < n → get_or (name_key (domain_name fqdn labels)) n 0 ≡ 0
key-ends fqdn [] n e some = absurd (omega (arith, e, some))
key-ends fqdn (l ∷ ls) n e some =
    let base = name_key (domain_name fqdn ls) in
    let parts = key-cons fqdn l ls in
    let long : length (name_key (domain_name fqdn (l ∷ ls))) ≡ length base + (length l + 1) = ap length parts ∙ length-append base (label_key l) ∙ ap (λ (m : ℕ). length base + m) (length-label_key l) in
    let at : n ≡ length base + length l = omega (arith, e, long) in
    ap (λ (k : List ℕ). get_or k n 0) parts ∙ ap (λ (m : ℕ). get_or (base ++ label_key l) m 0) at
    ∙ get_or-append-add base (label_key l) (length l) 0
    ∙ last_of (map rank l) 0 (length l) (sym (length-map l rank))

pub label-inside : (label : List ℕ) (j : ℕ) → j < length label → nat_eq (get_or (label_key label) j 0) 0 ≡ false
label-inside label j inside =
    ap (λ (o : ℕ). nat_eq o 0) (get_or_append_left (map rank label) (0 ∷ []) 0 j (omega (arith, inside, length-map label rank)) ∙ get_or-map rank label j 0 0 inside)
    ∙ rank_is_no_end (get_or label j 0)

pub parent-at : (octets : List ℕ) (end : ℕ) (name : DomainName) → octets ≡ name_key name → 0 < end → end ≤ length octets → (1 < length octets → end < length octets)
    → NoEndsFrom octets end → (1 < end → nat_eq (get_or octets (end - 1) 0) 0 ≡ true) → take end octets ≡ name_key (parent name)
parent-at octets end name is low high inner none stops = by name.labels is
  where
    by : (labels : List (List ℕ)) → octets ≡ name_key (domain_name name.fqdn labels) → take end octets ≡ name_key (parent (domain_name name.fqdn labels))
    by [] e =
        let one : length octets ≡ 1 = ap length e in
        let at : end ≡ 1 = omega (arith, low, high, one) in
        ap (λ (n : ℕ). take n octets) at ∙ ap (take 1) e
    by (l ∷ ls) e =
        let base = name_key (domain_name name.fqdn ls) in
        let parts : octets ≡ base ++ label_key l = e ∙ key-cons name.fqdn l ls in
        let long : length octets ≡ length base + (length l + 1) = ap length parts ∙ length-append base (label_key l) ∙ ap (λ (m : ℕ). length base + m) (length-label_key l) in
        let some : 0 < length base = omega arith in
        let within : end < length octets = inner (omega (arith, long, some)) in
        let below : (end < length base) → ⊥ = λ less.
        let last : nat_eq (get_or octets (length base - 1) 0) 0 ≡ false = none (length base - 1) (omega (arith, less)) (omega (arith, long, some)) in
        let zero : get_or octets (length base - 1) 0 ≡ 0 = ap (λ (k : List ℕ). get_or k (length base - 1) 0) parts
        ∙ get_or_append_left base (label_key l) 0 (length base - 1) (omega (arith, some)) ∙ key-ends name.fqdn ls (length base - 1) (omega (arith, some)) (omega (arith, less, low)) in
        true≢false (sym (ap (λ (o : ℕ). nat_eq o 0) zero) ∙ last) in
        let above : (length base < end) → ⊥ = λ more.
        let at : nat_eq (get_or octets (end - 1) 0) 0 ≡ true = stops (omega (arith, more, some)) in
        let j = end - 1 - length base in
        let place : end - 1 ≡ length base + j = omega (arith, more) in
        let inside : get_or octets (end - 1) 0 ≡ get_or (label_key l) j 0 = ap (λ (k : List ℕ). get_or k (end - 1) 0) parts
        ∙ ap (λ (m : ℕ). get_or (base ++ label_key l) m 0) place ∙ get_or-append-add base (label_key l) j 0 in
        true≢false (sym at ∙ ap (λ (o : ℕ). nat_eq o 0) inside ∙ label-inside l j (omega (arith, within, long, more))) in
        let at : end ≡ length base = elim (cases_lt end (length base)) [ inl less ↦ absurd (below less) | inr fits ↦ elim (cases_lt (length base) end) [ inl more ↦ absurd (above more) | inr other ↦ omega (arith, fits, other) ] ] in
        ap (λ (n : ℕ). take n octets) at ∙ ap (take (length base)) parts ∙ take-append_seam base (label_key l)
