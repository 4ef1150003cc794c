-- A text that begins with no label is refused by one cause.
use Rattle.std.proofs.Common.{inl, inr, ℕ, List, subst}
use Rattle.dnw_codes.specs.ProtoError.{IsMemory}
use Rattle.dnw_codes.specs.declared.error.ProtoError.{ProtoError}
use Rattle.dnw_label.specs.LabelText.{LabelText, IsTextLabel}
use Rattle.dnw_label.specs.LabelRefusals.{RefusesTextLabel, RefusesLabelText, AreAlike, AreCauses}
use Rattle.dnw_label.specs.LabelRefusalsLaws.{message-memory, messages-alike, text-none, text-one, text-memory}
use Rattle.dnw_label.proofs.LabelTextLemmas.{label-same}

-- Each label that a text begins with is refused by the same cause.
front-none : (text : List ℕ) (e : ProtoError) → RefusesLabelText text e → ((label : List ℕ) × (behind : List ℕ) × LabelText text label behind × IsTextLabel label) → ⊥
front-none text e (inl h) (label, behind, t, is) = h.0 label behind t
front-none text e (inr (l, b, u, r)) (label, behind, t, is) =
    text-none l e r (subst IsTextLabel (label-same text label l behind b t u).0 is)

front-one : (text : List ℕ) (e f : ProtoError) → RefusesLabelText text e → RefusesLabelText text f → AreAlike e f
front-one text e f (inl h) (inl k) = messages-alike e f h.1 k.1
front-one text e f (inl h) (inr (l, b, u, r)) = absurd (h.0 l b u)
front-one text e f (inr (l, b, u, r)) (inl k) = absurd (k.0 l b u)
front-one text e f (inr (l, b, u, r)) (inr (l', b', u', r')) =
    text-one l e f r (subst (λ (x : List ℕ). RefusesTextLabel x f) (label-same text l' l b' b u' u).0 r')

front-memory : (text : List ℕ) (e : ProtoError) → RefusesLabelText text e → IsMemory e → ⊥
front-memory text e (inl h) = message-memory e h.1
front-memory text e (inr (l, b, u, r)) = text-memory l e r

pub label_text_causes : (text : List ℕ) → AreCauses ((label : List ℕ) × (behind : List ℕ) × LabelText text label behind × IsTextLabel label) (RefusesLabelText text)
label_text_causes text = record {
  none = front-none text;
  one = front-one text;
  memory = front-memory text;
}
