-- The causes that labels are refused by stand only where there is no label, and are one.
use Rattle.std.proofs.Common.{◌≡◌, inl, inr, ℕ, List, length, true, false, sym, ◌∙◌, subst, arith}
use Rattle.dnw_codes.specs.ProtoError.{IsMemory, IsMessage}
use Rattle.dnw_codes.specs.declared.error.DecodeError.TheVariants.{LabelBytesTooLong}
use Rattle.dnw_codes.specs.declared.error.ProtoError.{ProtoError}
use Rattle.dnw_codes.specs.declared.error.ProtoError.TheVariants.{Decode, Message}
use Rattle.dnw_label.specs.Label.{IsLabel}
use Rattle.dnw_label.specs.LabelText.{IsTextLabel}
use Rattle.dnw_label.specs.LabelRefusals.{RefusesLabel, RefusesTextLabel, AreAlike, AreCauses}

-- A message is no want of memory, and messages are alike.
pub message-memory : (e : ProtoError) → IsMessage e → IsMemory e → ⊥
message-memory (Message words) h m = m
message-memory e h m = h

pub messages-alike : (e f : ProtoError) → IsMessage e → IsMessage f → AreAlike e f
messages-alike (Message words) f h k = k
messages-alike e f h k = absurd h

decode-alike : (n : ℕ) (e f : ProtoError) → e ≡ Decode (LabelBytesTooLong n)
    → f ≡ Decode (LabelBytesTooLong n) → AreAlike e f
decode-alike n e f h k =
    subst (λ (x : ProtoError). AreAlike x f) (sym h) (sym k)

decode-memory : (n : ℕ) (e : ProtoError) → e ≡ Decode (LabelBytesTooLong n) → IsMemory e → ⊥
decode-memory n e h = subst (λ (x : ProtoError). IsMemory x → ⊥) (sym h) (λ m. m)

label-none : (octets : List ℕ) (e : ProtoError) → RefusesLabel octets e → IsLabel octets → ⊥
label-none octets e (inl h) is = absurd (omega (arith, is.some, h.0))
label-none octets e (inr h) is = absurd (omega (arith, is.few, h.0))

label-one : (octets : List ℕ) (e f : ProtoError) → RefusesLabel octets e
    → RefusesLabel octets f → AreAlike e f
label-one octets e f (inl h) (inl k) = messages-alike e f h.1 k.1
label-one octets e f (inl h) (inr k) = absurd (omega (arith, h.0, k.0))
label-one octets e f (inr h) (inl k) = absurd (omega (arith, h.0, k.0))
label-one octets e f (inr h) (inr k) = decode-alike (length octets) e f h.1 k.1

label-memory : (octets : List ℕ) (e : ProtoError) → RefusesLabel octets e → IsMemory e → ⊥
label-memory octets e (inl h) = message-memory e h.1
label-memory octets e (inr h) = decode-memory (length octets) e h.1

pub label_causes : (octets : List ℕ) → AreCauses (IsLabel octets) (RefusesLabel octets)
label_causes octets = record {
  none = label-none octets;
  one = label-one octets;
  memory = label-memory octets;
}

pub text-none : (octets : List ℕ) (e : ProtoError) → RefusesTextLabel octets e
    → IsTextLabel octets → ⊥
text-none octets e (inl h) is = label-none octets e h is.few
text-none octets e (inr h) is = let no : false ≡ true = sym h.1 ∙ is.octets in absurd (cc)

pub text-one : (octets : List ℕ) (e f : ProtoError) → RefusesTextLabel octets e
    → RefusesTextLabel octets f → AreAlike e f
text-one octets e f (inl h) (inl k) = label-one octets e f h k
text-one octets e f (inl h) (inr k) = absurd (label-none octets e h k.0)
text-one octets e f (inr h) (inl k) = absurd (label-none octets f k h.0)
text-one octets e f (inr h) (inr k) = messages-alike e f h.2 k.2

pub text-memory : (octets : List ℕ) (e : ProtoError) → RefusesTextLabel octets e → IsMemory e → ⊥
text-memory octets e (inl h) = label-memory octets e h
text-memory octets e (inr h) = message-memory e h.2

pub text_label_causes : (octets : List ℕ) → AreCauses (IsTextLabel octets) (RefusesTextLabel octets)
text_label_causes octets = record {
  none = text-none octets;
  one = text-one octets;
  memory = text-memory octets;
}

-- What is always accepted is never refused.
pub no_causes : (accepted : Type 0) → AreCauses accepted (λ e. ⊥)
no_causes accepted = record {
  none = λ e h. absurd h;
  one = λ e f h. absurd h;
  memory = λ e h. absurd h;
}
