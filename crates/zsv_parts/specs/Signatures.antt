-- The data of a message's signature, TSIG: RFC 8945, section 4.2.
use Rattle.std.specs.Prelude.{◌≡◌, true, ℕ, ◌+◌, ◌-◌, ◌/◌, ◌%◌, ◌^◌, ◌<◌, ◌≤◌, List, [], ◌∷◌, ◌++◌, ◌⊎◌, length}
use Rattle.dnw_codes.specs.declared.error.DecodeError.{DecodeError}
use Rattle.dnw_codes.specs.declared.error.ProtoError.{ProtoError}
use Rattle.dnw_codes.specs.declared.error.ProtoError.TheVariants.{CharacterDataTooLong}
use Rattle.dnw_codes.specs.declared.error.DecodeError.TheVariants.{IncorrectRDataLengthRead}
use Rattle.dnw_encoder.specs.dnw_name.DomainName.{DomainName, name_octets}
use Rattle.dnw_encoder.specs.dnw_decoder.Octets.{octets_16, octets_32, number_16, Stands}
use Rattle.dnw_encoder.specs.dnw_decoder.Reading.{IsCut, IsWantOfMemory}
use Rattle.dnw_encoder.specs.dnw_decoder.Refusals.{Refuses}
use Rattle.dnw_encoder.specs.dnw_decoder.Spelling.{NameAt}
use Rattle.dnw_encoder.specs.Effects.{Sound, StaysTrue, WritesOctets, IsRefusal}
use Rattle.dnw_encoder.specs.State.{State}
use Rattle.zsv_parts.specs.declared.tsig.Tsig.{Tsig}

-- A number of 48 bits in six octets, the greatest first.
abbrev pub octets_48 : ℕ → List ℕ
octets_48 n = octets_16 (n / 2 ^ 32) ++ octets_32 (n % 2 ^ 32)

-- Octets behind their number, which takes two octets.
abbrev pub counted : List ℕ → List ℕ
counted octets = octets_16 (length octets) ++ octets

-- What stands behind the algorithm's name.
pub record Signed : Type 0 where
  pub time : ℕ
  pub fudge : ℕ
  pub mac : List ℕ
  pub oid : ℕ
  pub error : ℕ
  pub other : List ℕ

abbrev pub signed_of : Tsig → Signed
signed_of tsig = record {
  time = tsig.time;
  fudge = tsig.fudge;
  mac = tsig.mac.items;
  oid = tsig.oid;
  error = tsig.error;
  other = tsig.other.items;
}

-- Its octets: the time signed, the fudge, the MAC behind its size, the original id, the error, and
-- the other data behind their length.
abbrev pub time_octets : ℕ → ℕ → List ℕ → List ℕ
time_octets time fudge mac = octets_48 time ++ (octets_16 fudge ++ counted mac)

abbrev pub code_octets : ℕ → ℕ → List ℕ → List ℕ
code_octets oid error other = octets_16 oid ++ (octets_16 error ++ counted other)

abbrev pub signed_octets : Signed → List ℕ
signed_octets s = time_octets s.time s.fudge s.mac ++ code_octets s.oid s.error s.other

-- Numbers and lengths that their octets can hold.
abbrev pub FitsTime : ℕ → ℕ → List ℕ → Type 0
FitsTime time fudge mac = (time < 2 ^ 48) × (fudge < 2 ^ 16) × (length mac < 2 ^ 16)

abbrev pub FitsCodes : ℕ → ℕ → List ℕ → Type 0
FitsCodes oid error other = (oid < 2 ^ 16) × (error < 2 ^ 16) × (length other < 2 ^ 16)

pub record SignedAt (message : List ℕ) (place : ℕ) (s : Signed) (end : ℕ) : Type 0 where
  pub there : Stands message place (signed_octets s) end
  pub time : FitsTime s.time s.fudge s.mac
  pub codes : FitsCodes s.oid s.error s.other

-- The data of a signature at a place: the algorithm's name, then the fields behind it, which end
-- exactly behind so many octets.
pub record TsigAt (message : List ℕ) (place len : ℕ) (tsig : Tsig) : Type 0 where
  pub behind : ℕ
  pub algorithm : NameAt message place tsig.algorithm behind
  pub signed : SignedAt message behind (signed_of tsig) (place + len)

-- The sizes of the fields behind the name, from this place on: time, fudge, MAC size, MAC, original
-- id, error, other length, other data.
abbrev pub mac_size : List ℕ → ℕ → ℕ
mac_size message at = number_16 message (at + 8)

abbrev pub time_sizes : List ℕ → ℕ → List ℕ → List ℕ
time_sizes message at later = 6 ∷ 2 ∷ 2 ∷ mac_size message at ∷ later

abbrev pub code_sizes : List ℕ → ℕ → List ℕ
code_sizes message at = 2 ∷ 2 ∷ 2 ∷ number_16 message (at + 4) ∷ []

abbrev pub field_sizes : List ℕ → ℕ → List ℕ
field_sizes message at =
    time_sizes message at (code_sizes message (at + (10 + mac_size message at)))

-- Fields of these sizes, from a place on, don't fill data of so many octets from a start on: the
-- first one that isn't whole is cut by the end of the message, or goes past the end of the data; or
-- all are whole, and end before it. The error counts the octets up to that field's end.
abbrev pub RefusesFields : List ℕ → ℕ → ℕ → ℕ → List ℕ → DecodeError → Type 0
RefusesFields message start len at [] e =
    (at < start + len) × (e ≡ IncorrectRDataLengthRead (at - start) len)
RefusesFields message start len at (size ∷ sizes) e =
    IsCut size message at e
    ⊎ ((at + size ≤ length message)
    × (((start + len < at + size) × (e ≡ IncorrectRDataLengthRead (at + size - start) len))
    ⊎ ((at + size ≤ start + len) × RefusesFields message start len (at + size) sizes e)))

-- Why the fields behind the name aren't read: they don't fill the data, or they do, and memory was
-- wanted for the MAC or the other data.
abbrev pub RefusesSigned : List ℕ → ℕ → ℕ → ℕ → DecodeError → Type 0
RefusesSigned message place len behind e =
    RefusesFields message place len behind (field_sizes message behind) e
    ⊎ (IsWantOfMemory e × (s : Signed) × SignedAt message behind s (place + len))

-- Why no data of a signature are read at a place: the algorithm's name can't be read, or the fields
-- behind it.
abbrev pub RefusesTsig : List ℕ → ℕ → ℕ → DecodeError → Type 0
RefusesTsig message place len e =
    Refuses message place e
    ⊎ ((name : DomainName) × (behind : ℕ) × NameAt message place name behind
    × RefusesSigned message place len behind e)

-- The octets of the data: the algorithm's name in full, and the fields behind it.
abbrev pub tsig_octets : Tsig → List ℕ
tsig_octets tsig = name_octets tsig.algorithm ++ signed_octets (signed_of tsig)

-- A signature was written, within the maximum. Its octets are exactly these; one whose algorithm's
-- name is fully qualified, and whose time has 48 bits, stands there, in the finished message too.
pub record EmitsTsig (tsig : Tsig) (old new : State) : Type 0 where
  pub exact : WritesOctets (tsig_octets tsig) old new
  pub fits : new.offset ≤ old.maximum
  pub short_mac : length tsig.mac.items < 2 ^ 16
  pub short_other : length tsig.other.items < 2 ^ 16
  pub stays : Sound old → tsig.algorithm.fqdn ≡ true → tsig.time < 2 ^ 48
      → StaysTrue new new.offset
      (λ message. TsigAt message old.offset (length (tsig_octets tsig)) tsig)

-- Octets are more than two octets can count.
abbrev pub IsTooLong : List ℕ → ProtoError → Type 0
IsTooLong octets e = (e ≡ CharacterDataTooLong 65535 (length octets)) × (65535 < length octets)

-- The MAC is too long, or else the other data.
abbrev pub HasLongPart : Tsig → ProtoError → Type 0
HasLongPart tsig e =
    IsTooLong tsig.mac.items e
    ⊎ ((length tsig.mac.items ≤ 65535) × IsTooLong tsig.other.items e)

-- A signature is refused for the length of its MAC, or else of its other data, and nothing is
-- written; or for want of room or memory.
abbrev pub RefusesEmission : Tsig → State → ProtoError → State → Type 0
RefusesEmission tsig old e new =
    (HasLongPart tsig e × (new ≡ old))
    ⊎ ((length tsig.mac.items ≤ 65535) × (length tsig.other.items ≤ 65535)
    × IsRefusal old (length (tsig_octets tsig)) e)
