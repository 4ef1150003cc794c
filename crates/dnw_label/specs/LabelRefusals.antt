-- Why octets are no label (RFC 1035 2.3.4), and why a text begins with none (RFC 1035 5.1). Want of
-- memory is no cause.
use Rattle.std.specs.Prelude.{ℕ, ◌≡◌, ◌<◌, ◌⊎◌, false, List, length}
use Rattle.dnw_codes.specs.ProtoError.{IsMemory, IsMessage}
use Rattle.dnw_codes.specs.declared.error.DecodeError.TheVariants.{LabelBytesTooLong}
use Rattle.dnw_codes.specs.declared.error.ProtoError.{ProtoError}
use Rattle.dnw_codes.specs.declared.error.ProtoError.TheVariants.{Decode, Message}
use Rattle.dnw_label.specs.Label.{IsLabel}
use Rattle.dnw_label.specs.LabelText.{LabelText, is_label_text}

-- There is no octet, which a message says, or there are more than 63, and the error says how many.
abbrev pub RefusesLabel : List ℕ → ProtoError → Type 0
RefusesLabel octets e =
    ((length octets ≡ 0) × IsMessage e)
    ⊎ ((63 < length octets) × (e ≡ Decode (LabelBytesTooLong (length octets))))

-- Octets that are no label, or a label with a character that has no place in a text's, which a
-- message says.
abbrev pub RefusesTextLabel : List ℕ → ProtoError → Type 0
RefusesTextLabel octets e =
    RefusesLabel octets e ⊎ (IsLabel octets × (is_label_text octets ≡ false) × IsMessage e)

-- The text begins with no octets of a label, for a backslash in it begins no octet, which a message
-- says, or the octets that it begins with are refused.
abbrev pub RefusesLabelText : List ℕ → ProtoError → Type 0
RefusesLabelText text e =
    (((label behind : List ℕ) → LabelText text label behind → ⊥) × IsMessage e)
    ⊎ ((label : List ℕ) × (behind : List ℕ) × LabelText text label behind
    × RefusesTextLabel label e)

-- The same error, in whatever words.
abbrev pub AreAlike : ProtoError → ProtoError → Type 0
AreAlike (Message words) f = IsMessage f
AreAlike e f = e ≡ f

-- Errors whose causes stand only where nothing is accepted, are alike, and aren't want of memory.
pub record AreCauses (accepted : Type 0) (Refuses : ProtoError → Type 0) : Type 0 where
  pub none : (e : ProtoError) → Refuses e → accepted → ⊥
  pub one : (e f : ProtoError) → Refuses e → Refuses f → AreAlike e f
  pub memory : (e : ProtoError) → Refuses e → IsMemory e → ⊥
