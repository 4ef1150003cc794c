-- Labels that end two names.
use Rattle.std.proofs.Common.{◌≡◌, ◌+◌, ◌<◌, ℕ, List, [], ◌∷◌, ◌++◌, length, refl, sym, ap, ◌∙◌, arith, append_assoc, length-append}
use Rattle.std.proofs.lemmas.List.{append_cancel_right, same_from_push}
use Rattle.drd_fields.specs.dnw_label.Labels.{label_octets}
use Rattle.zst_record.specs.dnw_name.DomainName.{DomainName}
use Rattle.drd_fields.proofs.dnw_encoder_lemmas.SuffixLaws.{longer_front, octets_one, octets_split}
use Rattle.zst_pointing.specs.Names.{IsOwn}

-- Some labels end in one.
ends_in_one : (x : List ℕ) (h : List (List ℕ)) → (f : List (List ℕ)) × (y : List ℕ) × (x ∷ h ≡ f ++ y ∷ [])
ends_in_one x [] = ([], x, refl)
ends_in_one x (y ∷ ys) = let more = ends_in_one y ys in (x ∷ more.0, more.1, ap (λ (ls : List (List ℕ)). x ∷ ls) more.2)

-- How far two names were compared from their ends on.
pub record Compared (name other : DomainName) (left others : List (List ℕ)) : Type 0 where
  pub shared : List (List ℕ)
  pub ends : name.labels ≡ left ++ shared
  pub other_ends : other.labels ≡ others ++ shared

-- One label further.
pub compared_more : (name other : DomainName) (left others old other_old : List (List ℕ)) (l : List ℕ) → Compared name other old other_old → old ≡ left ++ l ∷ [] → other_old ≡ others ++ l ∷ [] → Compared name other left others
compared_more name other left others old other_old l c is other_is = record {
  shared = l ∷ c.shared;
  ends = c.ends ∙ ap (λ (ls : List (List ℕ)). ls ++ c.shared) is ∙ append_assoc left (l ∷ []) c.shared;
  other_ends = c.other_ends ∙ ap (λ (ls : List (List ℕ)). ls ++ c.shared) other_is ∙ append_assoc others (l ∷ []) c.shared;
}

-- A label takes its octets and that of its length.
pub label_taken : (left old : List (List ℕ)) (l : List ℕ) → old ≡ left ++ l ∷ [] → length (label_octets old) ≡ length (label_octets left) + (1 + length l)
label_taken left old l is =
    omega (arith, ap (λ (ls : List (List ℕ)). length (label_octets ls)) is, ap length (octets_split left (l ∷ [])), length-append (label_octets left) (label_octets (l ∷ [])), octets_one l [])

-- Where nothing is left, all is shared.
pub own_none : (name other : DomainName) (others : List (List ℕ)) (n : ℕ) → Compared name other [] others → n ≡ 0 → IsOwn name other n
own_none name other others n c is = record {
  before = [];
  shared = c.shared;
  above = others;
  ends = c.ends;
  other_ends = c.other_ends;
  long = is;
  fewest = λ b s a ends other_ends. omega arith;
}

-- Where the last labels that are left aren't one, no more is shared.
pub own_some : (name other : DomainName) (left others old : List (List ℕ)) (l : List ℕ) (n : ℕ) → Compared name other old others → old ≡ left ++ l ∷ [] → n ≡ length (label_octets old) → ((front : List (List ℕ)) → others ≡ front ++ l ∷ [] → ⊥) → IsOwn name other n
own_some name other left others old l n c is long differ = record {
  before = old;
  shared = c.shared;
  above = others;
  ends = c.ends;
  other_ends = c.other_ends;
  long = long;
  fewest = λ b s a ends other_ends. omega (arith, no_fewer b s a ends other_ends);
}
  where
    last_of : (a b h m : List (List ℕ)) (x : List ℕ) → others ≡ a ++ x ∷ h → b ++ x ∷ h ≡ m ++ l ∷ [] → ⊥
    last_of a b h m x rest same =
        let one = ends_in_one x h in
        let last = same_from_push (b ++ one.0) m one.1 l (append_assoc b one.0 (one.1 ∷ []) ∙ ap (λ (ls : List (List ℕ)). b ++ ls) (sym one.2) ∙ same) in
        differ (a ++ one.0)
        (rest ∙ ap (λ (ls : List (List ℕ)). a ++ ls) one.2 ∙ sym (append_assoc a one.0 (one.1 ∷ [])) ∙ ap (λ (y : List ℕ). (a ++ one.0) ++ y ∷ []) last.1)

    no_fewer : (b s a : List (List ℕ)) → name.labels ≡ b ++ s → other.labels ≡ a ++ s → length (label_octets b) < length (label_octets old) → ⊥
    no_fewer b s a ends other_ends lt =
        let more = longer_front b s old c.shared (sym ends ∙ c.ends) lt in
        let rest : others ≡ a ++ more.0 ∷ more.1 =
        append_cancel_right others (a ++ more.0 ∷ more.1) c.shared
        (sym c.other_ends ∙ other_ends ∙ ap (λ (ls : List (List ℕ)). a ++ ls) more.3 ∙ sym (append_assoc a (more.0 ∷ more.1) c.shared)) in
        last_of a b more.1 left more.0 rest (sym more.2 ∙ is)

-- There is one such number of octets.
pub own_once : (name other : DomainName) (n m : ℕ) → IsOwn name other n → IsOwn name other m → n ≡ m
own_once name other n m a b =
    omega (arith, a.long, b.long, a.fewest b.before b.shared b.above b.ends b.other_ends, b.fewest a.before a.shared a.above a.ends a.other_ends)
