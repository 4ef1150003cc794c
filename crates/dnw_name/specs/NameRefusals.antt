-- Why labels and texts are refused as names (RFC 1035 2.3.4 and 5.1). Want of memory is no cause.
use Rattle.std.specs.Prelude.{ℕ, ◌≡◌, ◌≢◌, ◌+◌, ◌<◌, ◌≤◌, ◌⊎◌, List, [], ◌∷◌, length, Option}
use Rattle.dnw_net.specs.dnw_codes.Ascii.{full_stop}
use Rattle.dnw_net.specs.dnw_codes.declared.error.ProtoError.{ProtoError}
use Rattle.dnw_net.specs.dnw_label.LabelRefusals.{RefusesLabelText}
use Rattle.dnw_net.specs.dnw_label.LabelText.{LabelText, IsTextLabel}
use Rattle.dnw_name.specs.DomainName.{DomainName, labels_len, too_long}
use Rattle.dnw_name.specs.NameText.{NameText, complete_name}

-- A name of so many octets, which are more than 255, and the error says how many.
abbrev pub RefusesOctets : ℕ → ProtoError → Type 0
RefusesOctets octets e = (255 < octets) × (e ≡ too_long octets)

-- The text begins with these labels, a dot behind each, and goes on behind the last dot.
pub data LabelsFront : List ℕ → List (List ℕ) → List ℕ → Type 0 where
  none : (text : List ℕ) → LabelsFront text [] text
  more : (text label : List ℕ) (c d : ℕ) (later : List ℕ) (labels : List (List ℕ))
      (rest : List ℕ) → LabelText text label (c ∷ d ∷ later) → IsTextLabel label
      → LabelsFront (d ∷ later) labels rest → LabelsFront text (label ∷ labels) rest

-- Behind labels of so many octets the text goes on with no label, or with one that makes the name
-- too long.
abbrev pub RefusesNextLabel : ℕ → List ℕ → ProtoError → Type 0
RefusesNextLabel octets text e =
    RefusesLabelText text e
    ⊎ ((label : List ℕ) × (behind : List ℕ) × LabelText text label behind × IsTextLabel label
    × RefusesOctets (octets + length label + 2) e)

-- The first labels of the text are those of a name, and the next one is refused.
pub record RefusesLabels (text : List ℕ) (e : ProtoError) : Type 0 where
  pub front : List (List ℕ)
  pub rest : List ℕ
  pub begins : LabelsFront text front rest
  pub short : labels_len front + 1 ≤ 255
  pub next : RefusesNextLabel (labels_len front) rest e

-- The empty text and a dot are names without labels; in other texts a label is refused.
abbrev pub RefusesNameText : List ℕ → ProtoError → Type 0
RefusesNameText text e = (text ≢ []) × (text ≢ full_stop ∷ []) × RefusesLabels text e

-- No name is read of the text, or that name is too long once it is completed.
abbrev pub RefusesCompleted : Option DomainName → List ℕ → ProtoError → Type 0
RefusesCompleted origin text e =
    RefusesNameText text e
    ⊎ ((read : DomainName) × NameText text read
    × RefusesOctets (labels_len (complete_name read origin).labels + 1) e)
