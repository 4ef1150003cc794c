-- Why words of record data are refused (RFC 1035 5.1): by the first word that is missing, one too
-- many, or stands for no value. Want of memory is no cause.
use Rattle.std.specs.Prelude.{ℕ, ℤ, Bool, MatchBool, ◌≡◌, ◌<◌, ◌⊎◌, List, [], ◌∷◌, length, Option}
use Rattle.std.specs.Net.Grammar.{IsIpv4Text, IsIpv6Text}
use Rattle.std.specs.declared.net.ipv4_addr.Ipv4Addr.{Ipv4Addr}
use Rattle.std.specs.declared.net.ipv6_addr.Ipv6Addr.{Ipv6Addr}
use lib.Chars.{codes}
use Rattle.dnw_lexer.specs.dnw_codes.declared.error.ParseError.{ParseError}
use Rattle.dnw_lexer.specs.dnw_codes.declared.error.ParseError.TheVariants.{MissingToken, Message, Proto, ParseInt, ParseTime, AddrParse, DataEncoding, UnexpectedToken}
use Rattle.dnw_lexer.specs.dnw_codes.declared.error.ProtoError.{ProtoError}
use Rattle.dnw_name.specs.dnw_label.LabelRefusals as label
use Rattle.dnw_name.specs.DomainName.{DomainName}
use Rattle.dnw_name.specs.NameRefusals.{RefusesCompleted}
use Rattle.drd_words.specs.Data.{IsBase64Text, IsHexText}
use Rattle.drd_words.specs.Text.{IsSplitInto, TextRefused}
use Rattle.drd_words.specs.Word.{IsOutOfMemory, IsNumberWord, IsTtlWord, IsIntervalWord}
use Rattle.drd_words.specs.Words.{Joined}

-- A word is missing, and this is said of it.
abbrev pub IsMissing : List ℕ → ParseError → Type 0
IsMissing what (MissingToken said) = said.now ≡ what
IsMissing what other = ⊥

-- A message in these words.
abbrev pub IsMessage : List ℕ → ParseError → Type 0
IsMessage words (Message said) = said.now ≡ words
IsMessage words other = ⊥

-- The same error of a name, in whatever words.
abbrev pub IsOfName : ProtoError → ParseError → Type 0
IsOfName cause (Proto other) = label.AreAlike cause other
IsOfName cause other = ⊥

-- A word that is no number of so many bits.
abbrev pub RefusesNumber : ℕ → List ℕ → ParseError → Type 0
RefusesNumber bits word e = (e ≡ ParseInt) × ((n : ℕ) → IsNumberWord bits n word → ⊥)

-- A word that is no time to live.
abbrev pub RefusesTtl : List ℕ → ParseError → Type 0
RefusesTtl word e = (e ≡ ParseTime) × ((seconds : ℕ) → IsTtlWord seconds word → ⊥)

-- A word that is no time interval.
abbrev pub RefusesInterval : List ℕ → ParseError → Type 0
RefusesInterval word e = (e ≡ ParseTime) × ((interval : ℤ) → IsIntervalWord interval word → ⊥)

-- A word is refused as a name by the cause that refuses its text (RFC 1035 2.3.4 and 5.1).
abbrev pub RefusesNameWord : Option DomainName → List ℕ → ParseError → Type 0
RefusesNameWord origin word (Proto cause) = RefusesCompleted origin word cause
RefusesNameWord origin word other = ⊥

-- A word that is too long for a character string (RFC 1035 3.3).
abbrev pub RefusesString : List ℕ → ParseError → Type 0
RefusesString word e =
    IsMessage (codes "a character string has at most 255 octets") e × (255 < length word)

-- A word that is no address of version 4, and none of version 6.
abbrev pub RefusesIpv4 : List ℕ → ParseError → Type 0
RefusesIpv4 word e = (e ≡ AddrParse) × ((address : Ipv4Addr) → IsIpv4Text word address → ⊥)

abbrev pub RefusesIpv6 : List ℕ → ParseError → Type 0
RefusesIpv6 word e = (e ≡ AddrParse) × ((address : Ipv6Addr) → IsIpv6Text word address → ⊥)

-- A test fails, and the error is a message in these words, or it holds and there is another cause.
abbrev pub RefusesUnless : Bool → List ℕ → (ParseError → Type 0) → ParseError → Type 0
RefusesUnless test says Refuses e = MatchBool test (Refuses e) (IsMessage says e)

-- A word is left where none has a place.
abbrev pub RefusesMore : List (List ℕ) → ParseError → Type 0
RefusesMore [] e = ⊥
RefusesMore (word ∷ words) e = e ≡ UnexpectedToken

-- No word is left, or the first is refused, or it stands for a value and the rest is refused.
abbrev pub RefusesOneThen : {A : Type 0} → (A → List ℕ → Type 0) → (List ℕ → ParseError → Type 0)
    → (List (List ℕ) → ParseError → Type 0) → List (List ℕ) → ParseError → Type 0
RefusesOneThen One RefusesOne RefusesRest [] e = IsMissing (codes "a word") e
RefusesOneThen {A} One RefusesOne RefusesRest (word ∷ words) e =
    RefusesOne word e ⊎ ((x : A) × One x word × RefusesRest words e)

-- The words up to some word stand for a value each, and that word is refused.
abbrev pub RefusesEach : {A : Type 0} → (A → List ℕ → Type 0) → (List ℕ → ParseError → Type 0)
    → List (List ℕ) → ParseError → Type 0
RefusesEach One RefusesOne [] e = ⊥
RefusesEach {A} One RefusesOne (word ∷ words) e =
    RefusesOne word e ⊎ ((x : A) × One x word × RefusesEach One RefusesOne words e)

-- A text that is no base64 (RFC 4648 4), and one that is no hex (RFC 4648 8).
abbrev pub RefusesBase64 : List ℕ → ParseError → Type 0
RefusesBase64 text e = (e ≡ DataEncoding) × ((octets : List ℕ) → IsBase64Text octets text → ⊥)

abbrev pub RefusesHex : List ℕ → ParseError → Type 0
RefusesHex text e = (e ≡ DataEncoding) × ((octets : List ℕ) → IsHexText octets text → ⊥)

-- No word is left, or all that are left make up no data (RFC 4648).
abbrev pub RefusesJoined : List ℕ → (List ℕ → List ℕ → Type 0) → List (List ℕ) → ParseError
    → Type 0
RefusesJoined what Whole [] e = IsMissing what e
RefusesJoined what Whole (word ∷ words) e =
    (e ≡ DataEncoding) × ((octets : List ℕ) → Joined (Whole octets) (word ∷ words) → ⊥)

-- A text without words, or one whose words are refused.
abbrev pub RefusesText : (List (List ℕ) → ParseError → Type 0) → List ℕ → ParseError → Type 0
RefusesText Refuses text e =
    TextRefused text e ⊎ ((words : List (List ℕ)) × IsSplitInto text words × Refuses words e)

-- The same error, in whatever words a name is refused.
abbrev pub AreAlike : ParseError → ParseError → Type 0
AreAlike (MissingToken said) e = IsMissing said.now e
AreAlike (Message said) e = IsMessage said.now e
AreAlike (Proto cause) e = IsOfName cause e
AreAlike other e = e ≡ other

-- Two refusals of the same words are alike.
pub record IsOneCause (Refuses : ParseError → Type 0) : Type 0 where
  pub one : (e f : ParseError) → Refuses e → Refuses f → AreAlike e f

-- Words are refused only where no value is written, and never for want of memory.
pub record AreCauses {A : Type 0} (Written : A → Type 0) (Refuses : ParseError → Type 0)
    : Type 0 where
  pub none : (e : ParseError) → Refuses e → (value : A) → Written value → ⊥
  pub memory : (e : ParseError) → Refuses e → IsOutOfMemory e → ⊥
