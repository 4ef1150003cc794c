-- What texts with escapes begin with.
use Rattle.std.proofs.Common.{◌≡◌, ◌<◌, ◌++◌, ℕ, List, [], ◌∷◌, refl, ap, sym, ◌∙◌, subst, arith, length}
use Rattle.std.proofs.lemmas.List.{append_assoc, append-nil}
use Rattle.dnw_name.proofs.dnw_label_lemmas.EscapeLaws.{octet-same, no_octet_in_nothing}
use Rattle.dnw_name.specs.dnw_label.LabelText.{OctetText}
use Rattle.drd_words.specs.Escapes.{EscapedText, ends, more}

-- Behind its first octet, a text is one too.
escaped-step : (text : List ℕ) (o : ℕ) (rest octets : List ℕ) → OctetText text o rest → EscapedText text octets → (later : List ℕ) × (octets ≡ o ∷ later) × EscapedText rest later
escaped-step text o rest octets h ends = absurd (no_octet_in_nothing o rest h)
escaped-step text o rest octets h (more _ c r l first later) =
    let same = octet-same text o c rest r h first in
    (l, ap (λ x. x ∷ l) (sym same.0), subst (λ (t : List ℕ). EscapedText t l) (sym same.1) later)

-- The octets that were read of a text, and what is left of it.
pub record SoFar (text octets rest : List ℕ) : Type 0 where
  pub sound : (later : List ℕ) → EscapedText rest later → EscapedText text (octets ++ later)
  pub only : (whole : List ℕ) → EscapedText text whole → (later : List ℕ) × (whole ≡ octets ++ later) × EscapedText rest later

pub so_far-start : (text : List ℕ) → SoFar text [] text
so_far-start text = record { sound = λ l h. h; only = λ w h. (w, refl, h) }

pub so_far-more : (text octets rest : List ℕ) (o : ℕ) (behind : List ℕ) → SoFar text octets rest → OctetText rest o behind → SoFar text (octets ++ o ∷ []) behind
so_far-more text octets rest o behind h first =
    record {
      sound = λ l t. subst (λ (all : List ℕ). EscapedText text all) (sym (append_assoc octets (o ∷ []) l)) (h.sound (o ∷ l) (more rest o behind l first t));
      only = λ w t.
          let old = h.only w t in
          let new = escaped-step rest o behind old.0 first old.2 in
          (new.0, old.1 ∙ ap (λ m. octets ++ m) new.1 ∙ sym (append_assoc octets (o ∷ []) new.0), new.2);
    }

pub so_far-ends : (text octets rest : List ℕ) → SoFar text octets rest → length rest ≡ 0 → EscapedText text octets
so_far-ends text octets [] h none = subst (λ (all : List ℕ). EscapedText text all) (append-nil octets) (h.sound [] ends)
so_far-ends text octets (c ∷ rest) h none = absurd (omega (arith, none))

no_text : (rest : List ℕ) → 0 < length rest → ((o : ℕ) (behind : List ℕ) → OctetText rest o behind → ⊥) → (later : List ℕ) → EscapedText rest later → ⊥
no_text rest some none later ends = omega (arith, some)
no_text rest some none later (more _ o behind l first h) = none o behind first

pub so_far-refused : (text octets rest : List ℕ) → SoFar text octets rest → 0 < length rest → ((o : ℕ) (behind : List ℕ) → OctetText rest o behind → ⊥) → (whole : List ℕ) → EscapedText text whole → ⊥
so_far-refused text octets rest h some none whole t =
    let found = h.only whole t in
    no_text rest some none found.0 found.2

-- A text stands for the octets of one list.
pub escaped-once : (text a b : List ℕ) → EscapedText text a → EscapedText text b → a ≡ b
escaped-once text a b ends ends = refl
escaped-once text a b ends (more _ o r l first later) = absurd (no_octet_in_nothing o r first)
escaped-once text a b (more _ o r l first later) h =
    let other = escaped-step text o r b first h in
    ap (λ t. o ∷ t) (escaped-once r l other.0 later other.2) ∙ sym other.1
