-- What texts of labels begin with.
use Rattle.std.proofs.Common.{◌≡◌, ◌≢◌, ◌≤◌, ◌++◌, ℕ, false, List, [], ◌∷◌, refl, ap, sym, ◌∙◌, subst, arith, length, take, drop, All, ◌⊎◌, inl, inr}
use Rattle.std.proofs.lemmas.Bool.Decides.{nat_tests}
use Rattle.std.proofs.lemmas.List.{append_assoc, append-nil, take-append-drop}
use Rattle.std.proofs.lemmas.List.Elements.{All-head, All-tail}
use Rattle.dnw_label.proofs.EscapeLaws.{octet-same, octet-shorter, no_octet_in_nothing}
use Rattle.dnw_label.specs.LabelText.{OctetText, plain, at_dot, LabelText, ends, dot, octet, IsTextLabel}

pub no_dot : (c : ℕ) (rest : List ℕ) → at_dot (c ∷ rest) ≡ false → c ≡ 46 → ⊥
no_dot c rest none e = absurd (grind (arith, nat_tests))

pub dot_free : (text : List ℕ) → (c : ℕ) × (rest : List ℕ) × (text ≡ c ∷ rest) × (c ≢ 46) → at_dot text ≡ false
dot_free text (c, rest, e, other) = rw e (grind (arith, nat_tests))

-- Behind its first octet, a label's text is one.
pub label-step : (text : List ℕ) (o : ℕ) (rest label behind : List ℕ) → at_dot text ≡ false → OctetText text o rest → LabelText text label behind → (later : List ℕ) × (label ≡ o ∷ later) × LabelText rest later behind
label-step text o rest label behind here h ends = absurd (no_octet_in_nothing o rest h)
label-step text o rest label behind here h (dot c r e) = absurd (no_dot c r here e)
label-step text o rest label behind here h (octet _ c r l b _ first later) =
    let same = octet-same text o c rest r h first in
    (l, ap (λ x. x ∷ l) (sym same.0), subst (λ (t : List ℕ). LabelText t l b) (sym same.1) later)

-- What was read of a label, and what is left of its text.
pub record LabelSoFar (text octets rest : List ℕ) : Type 0 where
  pub sound : (label behind : List ℕ) → LabelText rest label behind → LabelText text (octets ++ label) behind
  pub only : (label behind : List ℕ) → LabelText text label behind → (later : List ℕ) × (label ≡ octets ++ later) × LabelText rest later behind

pub so_far-start : (text : List ℕ) → LabelSoFar text [] text
so_far-start text = record { sound = λ l b h. h; only = λ l b h. (l, refl, h) }

pub so_far-more : (text octets rest : List ℕ) (o : ℕ) (behind : List ℕ) → LabelSoFar text octets rest → at_dot rest ≡ false → OctetText rest o behind → LabelSoFar text (octets ++ o ∷ []) behind
so_far-more text octets rest o behind h here first =
    record {
      sound = λ l b t. subst (λ (all : List ℕ). LabelText text all b) (sym (append_assoc octets (o ∷ []) l)) (h.sound (o ∷ l) b (octet rest o behind l b here first t));
      only = λ l b t.
          let old = h.only l b t in
          let new = label-step rest o behind old.0 b here first old.2 in
          (new.0, old.1 ∙ ap (λ m. octets ++ m) new.1 ∙ sym (append_assoc octets (o ∷ []) new.0), new.2);
    }

-- Characters that stand for themselves.
pub so_far-plain : (text octets plain more : List ℕ) → All (λ c. (c ≢ 46) × (c ≢ 92)) plain → LabelSoFar text octets (plain ++ more) → LabelSoFar text (octets ++ plain) more
so_far-plain text octets [] more all h = subst (λ os. LabelSoFar text os more) (sym (append-nil octets)) h
so_far-plain text octets (c ∷ cs) more all h =
    let first = All-head (λ o. (o ≢ 46) × (o ≢ 92)) c cs all in
    subst (λ os. LabelSoFar text os more) (append_assoc octets (c ∷ []) cs)
    (so_far-plain text (octets ++ c ∷ []) cs more (All-tail (λ o. (o ≢ 46) × (o ≢ 92)) c cs all)
    (so_far-more text octets (c ∷ cs ++ more) c (cs ++ more) h (dot_free (c ∷ cs ++ more) (c, cs ++ more, refl, first.0)) (plain c (cs ++ more) first.1)))

pub so_far-run : (text : List ℕ) (n : ℕ) → All (λ c. (c ≢ 46) × (c ≢ 92)) (take n text) → LabelSoFar text (take n text) (drop n text)
so_far-run text n all = so_far-plain text [] (take n text) (drop n text) all (subst (LabelSoFar text []) (sym (take-append-drop n text)) (so_far-start text))

pub so_far-ends : (text octets : List ℕ) → LabelSoFar text octets [] → LabelText text octets []
so_far-ends text octets h = subst (λ (all : List ℕ). LabelText text all []) (append-nil octets) (h.sound [] [] ends)

pub so_far-dot : (text octets : List ℕ) (c : ℕ) (rest : List ℕ) → LabelSoFar text octets (c ∷ rest) → c ≡ 46 → LabelText text octets (c ∷ rest)
so_far-dot text octets c rest h e = subst (λ (all : List ℕ). LabelText text all (c ∷ rest)) (append-nil octets) (h.sound [] (c ∷ rest) (dot c rest e))

pub so_far-refused : (text octets : List ℕ) (c : ℕ) (rest : List ℕ) → LabelSoFar text octets (c ∷ rest) → c ≢ 46 → ((o : ℕ) (behind : List ℕ) → OctetText (c ∷ rest) o behind → ⊥) → (label behind : List ℕ) → LabelText text label behind → ⊥
so_far-refused text octets c rest h no_dot no_octet label behind t = none (h.only label behind t)
  where
    inner : (l b : List ℕ) → LabelText (c ∷ rest) l b → ⊥
    inner l b (dot _ _ e) = no_dot e
    inner l b (octet _ o r _ _ _ first _) = no_octet o r first

    none : (later : List ℕ) × (label ≡ octets ++ later) × LabelText (c ∷ rest) later behind → ⊥
    none found = inner found.0 behind found.2

pub so_far-whole : (text octets rest : List ℕ) → LabelSoFar text octets rest → (rest ≡ []) ⊎ ((r : List ℕ) × (rest ≡ 46 ∷ r)) → LabelText text octets rest
so_far-whole text octets rest h (inl e) =
    subst (λ (r : List ℕ). LabelText text octets r) (sym e) (so_far-ends text octets (subst (λ (r : List ℕ). LabelSoFar text octets r) e h))
so_far-whole text octets rest h (inr (r, e)) =
    subst (λ (r : List ℕ). LabelText text octets r) (sym e) (so_far-dot text octets 46 r (subst (λ (r : List ℕ). LabelSoFar text octets r) e h) refl)

-- A text begins with one label only.
pub label-same : (text l l' b b' : List ℕ) → LabelText text l b → LabelText text l' b' → (l ≡ l') × (b ≡ b')
label-same text l l' b b' ends ends = (refl, refl)
label-same text l l' b b' ends (octet _ c r m _ _ first later) = absurd (no_octet_in_nothing c r first)
label-same text l l' b b' (dot c r e) (dot _ _ _) = (refl, refl)
label-same text l l' b b' (dot c r e) (octet _ c' r' m _ here first later) = absurd (no_dot c r here e)
label-same text l l' b b' (octet _ c r m _ here first later) t =
    let other = label-step text c r l' b' here first t in
    let same = label-same r m other.0 b b' later other.2 in
    (ap (λ x. c ∷ x) same.0 ∙ sym other.1, same.1)

-- Where the label at the text's front is none of a text, the text begins with none.
pub no_other_label : {E : Type 0} (M : E → Type 0) (e : E) (text octets rest : List ℕ) → LabelText text octets rest → M e ⊎ (IsTextLabel octets → ⊥) → M e ⊎ ((label behind : List ℕ) → LabelText text label behind → IsTextLabel label → ⊥)
no_other_label M e text octets rest h (inl m) = inl m
no_other_label M e text octets rest h (inr none) =
    inr (λ label behind t is. none (subst IsTextLabel (label-same text label octets behind rest t h).0 is))

pub label-shorter : (text label behind : List ℕ) → LabelText text label behind → length behind ≤ length text
label-shorter text label behind ends = omega arith
label-shorter text label behind (dot c r e) = omega arith
label-shorter text label behind (octet _ c r l b _ first later) = omega (arith, octet-shorter text c r first, label-shorter r l b later)
