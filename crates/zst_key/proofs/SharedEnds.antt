-- Where the octets end of the nearest name above that of a key at or below which another key's lies.
use Rattle.std.proofs.Common.{◌≡◌, ℕ, ◌+◌, ◌-◌, ◌<◌, ◌≤◌, ◌++◌, Bool, true, false, List, [], ◌∷◌, length, take, get_or, nat_eq, refl, ap, sym, subst, ◌∙◌, arith, length-append, inl, inr}
use Rattle.std.specs.Prelude.{◌&&◌, not}
use Rattle.std.specs.Bool.{beq}
use Rattle.std.specs.List.{starts_with}
use Rattle.std.proofs.lemmas.Bool.{true≢false, cases_lt}
use Rattle.std.proofs.lemmas.List.{get_or-append-add, get_or-take, length-take, take-take, take_all}
use Rattle.std.proofs.lemmas.Slice.Eq.{bytes_eq-Decides}
use Rattle.std.proofs.Math.Seq.{take-append_seam}
use Rattle.dnw_name.specs.DomainName.{DomainName, domain_name, is_at_or_below, lowercase_name}
use Rattle.zst_key.specs.Ancestors.{GoesToShared}
use Rattle.zst_key.specs.NameKeys.{IsKey, IsLastEnd, ShareFront, label_key, name_key, name_of_key}
use Rattle.zst_key.proofs.Climbing.{Climbs, at-start, one-more, on-below, shared}
use Rattle.zst_key.proofs.KeyLemmas.{is-key, key-below, name-of-octets}
use Rattle.zst_key.proofs.KeyOrder.{key-cons, length-label_key}
use Rattle.zst_key.proofs.NamesAbove.{beq-same, up-lower}
use Rattle.zst_key.proofs.ParentEnds.{key-ends, label-inside}

-- None of the octets from a place up to another one ends a label.
abbrev pub NoEndsWithin : List ℕ → ℕ → ℕ → Type 0
NoEndsWithin octets from to = (i : ℕ) → from ≤ i → i < to → nat_eq (get_or octets i 0) 0 ≡ false

pub none_more : (octets : List ℕ) (end to : ℕ) → NoEndsWithin octets end to → nat_eq (get_or octets (end - 1) 0) 0 ≡ false → NoEndsWithin octets (end - 1) to
none_more octets end to more here i from before = elim (cases_lt i end) [
  | inl less ↦ let at : i ≡ end - 1 = omega (arith, less, from) in ap (λ (n : ℕ). nat_eq (get_or octets n 0) 0) at ∙ here
  | inr behind ↦ more i behind before
]

-- A front of octets is among the octets.
front-length : (n : ℕ) (xs front : List ℕ) → take n xs ≡ front → n ≡ length front → n ≤ length xs
front-length n xs front e at = omega (arith, sym (ap length e) ∙ length-take n xs, at)

front-at : (n i : ℕ) (xs front : List ℕ) → take n xs ≡ front → i < n → get_or xs i 0 ≡ get_or front i 0
front-at n i xs front e inside = sym (get_or-take n xs i 0 inside) ∙ ap (λ (l : List ℕ). get_or l i 0) e

pub not-off : (b : Bool) → not b ≡ false → b ≡ true
not-off true e = refl
not-off false e = absurd (true≢false e)

both-true : (f g x : Bool) → beq f g ≡ true → x ≡ true → (beq g f && x) ≡ true
both-true true true x same e = e
both-true false false x same e = e
both-true true false x same e = absurd (true≢false (sym same))
both-true false true x same e = absurd (true≢false (sym same))

module _ (octets others : List ℕ) (same end : ℕ) (old other : DomainName)
    (key : octets ≡ name_key old) (others_key : others ≡ name_key other) (flags : beq old.fqdn other.fqdn ≡ true)
    (share : ShareFront octets others same) (some : 0 < end) (last : IsLastEnd octets same end) where
  abbrev at : List (List ℕ) → DomainName
  at labels = domain_name old.fqdn labels

  -- Whether the other name lies below one is told by the octets at its key's front.
  begins : (labels : List (List ℕ)) → starts_with nat_eq (name_key other) (name_key (at labels)) ≡ true → is_at_or_below other (at labels) ≡ true
  begins labels e = on-below old.fqdn other.fqdn (is_at_or_below other (at labels)) (starts_with nat_eq (name_key other) (name_key (at labels))) (key-below other (at labels)) e

  -- The name whose key ends there is one at or below which the other lies.
  on : (labels : List (List ℕ)) → take (length (name_key (at labels))) octets ≡ name_key (at labels) → length (name_key (at labels)) ≡ end → is_at_or_below other (at labels) ≡ true
  on labels front long =
      let n = length (name_key (at labels)) in
      let low : n ≤ same = omega (arith, long, last.within) in
      let theirs : take n others ≡ name_key (at labels) = sym (take-take n same others low) ∙ ap (take n) (sym share.alike) ∙ take-take n same octets low ∙ front in
      begins labels ((bytes_eq-Decides (name_key (at labels)) (take n (name_key other))).1 (sym theirs ∙ ap (take n) others_key))

  -- A name whose key is longer is none.
  off : (label : List ℕ) (labels : List (List ℕ)) → take (length (name_key (at (label ∷ labels)))) octets ≡ name_key (at (label ∷ labels)) → end < length (name_key (at (label ∷ labels))) → is_at_or_below other (at (label ∷ labels)) ≡ false
  off label labels front more = by_case (is_at_or_below other (at (label ∷ labels))) refl
    where
      by_case : (b : Bool) → is_at_or_below other (at (label ∷ labels)) ≡ b → b ≡ false
      by_case false e = refl
      by_case true e =
          let k = name_key (at (label ∷ labels)) in
          let n = length k in
          let begun : starts_with nat_eq (name_key other) k ≡ true = key-below other (at (label ∷ labels)) ∙ both-true old.fqdn other.fqdn (is_at_or_below other (at (label ∷ labels))) flags e in
          let theirs : take n others ≡ k = ap (take n) others_key ∙ sym ((bytes_eq-Decides k (take n (name_key other))).0 begun) in
          let reaches : n ≤ same = elim (cases_lt same n) [
            | inl less ↦ absurd (share.most (omega (arith, less, front-length n octets k front refl)) (omega (arith, less, front-length n others k theirs refl))
                (front-at n same octets k front less ∙ sym (front-at n same others k theirs less)))
            | inr fits ↦ fits
          ] in
          let final : nat_eq (get_or octets (n - 1) 0) 0 ≡ false = last.none (n - 1) (omega (arith, more)) (omega (arith, reaches, more)) in
          let zero : get_or octets (n - 1) 0 ≡ 0 = front-at n (n - 1) octets k front (omega (arith, more)) ∙ key-ends old.fqdn (label ∷ labels) (n - 1) (omega (arith, more)) (omega (arith, more, some)) in
          absurd (true≢false (sym (ap (λ (o : ℕ). nat_eq o 0) zero) ∙ final))

  -- Above a name with a longer key, the octets end at or in front of where the next name's do.
  before-label : (label : List ℕ) (labels : List (List ℕ)) → take (length (name_key (at (label ∷ labels)))) octets ≡ name_key (at (label ∷ labels)) → end < length (name_key (at (label ∷ labels))) → end ≤ length (name_key (at labels))
  before-label label labels front more =
      let base = name_key (at labels) in
      let k = name_key (at (label ∷ labels)) in
      let parts = key-cons old.fqdn label labels in
      let long : length k ≡ length base + (length label + 1) = ap length parts ∙ length-append base (label_key label) ∙ ap (λ (m : ℕ). length base + m) (length-label_key label) in
      let root : 0 < length base = omega arith in
      elim (cases_lt (length base) end) [
        | inl inside ↦
            let zero : nat_eq (get_or octets (end - 1) 0) 0 ≡ true = last.stops (omega (arith, inside, root)) in
            let j = end - 1 - length base in
            let place : end - 1 ≡ length base + j = omega (arith, inside) in
            let there : get_or octets (end - 1) 0 ≡ get_or (label_key label) j 0 = front-at (length k) (end - 1) octets k front (omega (arith, more, some)) ∙ ap (λ (o : List ℕ). get_or o (end - 1) 0) parts
            ∙ ap (λ (m : ℕ). get_or (base ++ label_key label) m 0) place ∙ get_or-append-add base (label_key label) j 0 in
            absurd (true≢false (sym zero ∙ ap (λ (o : ℕ). nat_eq o 0) there ∙ label-inside label j (omega (arith, more, long, inside))))
        | inr fits ↦ fits
      ]

  next-front : (label : List ℕ) (labels : List (List ℕ)) → take (length (name_key (at (label ∷ labels)))) octets ≡ name_key (at (label ∷ labels)) → take (length (name_key (at labels))) octets ≡ name_key (at labels)
  next-front label labels front =
      let base = name_key (at labels) in
      let k = name_key (at (label ∷ labels)) in
      let parts = key-cons old.fqdn label labels in
      let long : length k ≡ length base + (length label + 1) = ap length parts ∙ length-append base (label_key label) ∙ ap (λ (m : ℕ). length base + m) (length-label_key label) in
      sym (take-take (length base) (length k) octets (omega (arith, long))) ∙ ap (take (length base)) front ∙ ap (take (length base)) parts ∙ take-append_seam base (label_key label)

  found : (labels : List (List ℕ)) → Climbs old other (at labels) → take (length (name_key (at labels))) octets ≡ name_key (at labels) → end ≤ length (name_key (at labels)) → length (name_key (at labels)) ≤ end
      → (new : DomainName) × (take end octets ≡ name_key new) × GoesToShared old other new
  found labels climbs front fits less =
      let long : length (name_key (at labels)) ≡ end = omega (arith, less, fits) in
      (at labels, ap (λ (n : ℕ). take n octets) (sym long) ∙ front, shared old other (at labels) climbs (on labels front long))

  climb : (labels : List (List ℕ)) → Climbs old other (at labels) → take (length (name_key (at labels))) octets ≡ name_key (at labels) → end ≤ length (name_key (at labels))
      → (new : DomainName) × (take end octets ≡ name_key new) × GoesToShared old other new
  climb [] climbs front fits = found [] climbs front fits (omega (arith, some))
  climb (l ∷ ls) climbs front fits = elim (cases_lt end (length (name_key (at (l ∷ ls))))) [
    | inl more ↦ climb ls (one-more old other (at (l ∷ ls)) climbs (off l ls front more)) (next-front l ls front) (before-label l ls front more)
    | inr less ↦ found (l ∷ ls) climbs front fits less
  ]

  -- The octets up to there are the key of the nearest name, from the old one up, at or below which the other lies.
  pub ends-shared : (new : DomainName) × (take end octets ≡ name_key new) × GoesToShared old other new
  ends-shared =
      let all : take (length (name_key old)) octets ≡ name_key old = ap (take (length (name_key old))) key ∙ take_all (length (name_key old)) (name_key old) (omega arith) in
      climb old.labels (at-start old other) all (omega (arith, last.within, share.first, ap length key))

-- Keys of names that end at the root alike share the first octet.
pub share-flag : (octets others : List ℕ) (same : ℕ) (old other : DomainName) → octets ≡ name_key old → others ≡ name_key other → beq old.fqdn other.fqdn ≡ true → ShareFront octets others same → 0 < same
share-flag octets others same old other key others_key flags share = elim (cases_lt 0 same) [
  | inl some ↦ some
  | inr none ↦
      let zero : same ≡ 0 = omega (arith, none) in
      let first : get_or octets 0 0 ≡ get_or others 0 0 = ap (λ (o : List ℕ). get_or o 0 0) key ∙ ap (λ (f : Bool). get_or (name_key (domain_name f old.labels)) 0 0) (beq-same old.fqdn other.fqdn flags)
      ∙ sym (ap (λ (o : List ℕ). get_or o 0 0) others_key) in
      absurd (share.most (omega (arith, zero, ap length key)) (omega (arith, zero, ap length others_key))
      (ap (λ (n : ℕ). get_or octets n 0) zero ∙ first ∙ ap (λ (n : ℕ). get_or others n 0) (sym zero)))
]

-- The front of a key that ends where that of the shared name does is the shared name's key.
pub shared-key : (octets others front : List ℕ) (end : ℕ) (name other : DomainName) (f g : Bool) → octets ≡ name_key name → others ≡ name_key other → lowercase_name name ≡ name
    → f ≡ name.fqdn → g ≡ other.fqdn → not (beq f g) ≡ false
    → ((a b : DomainName) → octets ≡ name_key a → others ≡ name_key b → beq a.fqdn b.fqdn ≡ true → (new : DomainName) × (take end octets ≡ name_key new) × GoesToShared a b new)
    → front ≡ take end octets → IsKey front × GoesToShared name other (name_of_key front)
shared-key octets others front end name other f g own theirs lower own_flag other_flag alike shares e =
    let flags : beq name.fqdn other.fqdn ≡ true = (λ i. beq (sym own_flag i) (sym other_flag i)) ∙ not-off (beq f g) alike in
    let found = shares name other own theirs flags in
    let key : front ≡ name_key found.0 = e ∙ found.1 in
    let low = ap lowercase_name found.2.above ∙ up-lower name found.2.levels lower ∙ sym found.2.above in
    (is-key front found.0 key, subst (GoesToShared name other) (sym (name-of-octets front found.0 key low)) found.2)
