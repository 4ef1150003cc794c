-- Fields of record data (RFC 1035 3.3): what the octets of a record's data hold, one behind the
-- other.
use Rattle.std.specs.Prelude.{◌≡◌, ℕ, ◌≤◌, ◌<◌, ◌^◌, ◌||◌, Bool, true, false, List, [], ◌∷◌, length}
use Rattle.dnw_encoder.specs.dnw_name.DomainName.{DomainName}
use Rattle.dnw_encoder.specs.dnw_decoder.Octets.{octets_16, octets_32, Stands}
use Rattle.dnw_encoder.specs.dnw_decoder.Spelling.{NameAt}

-- A number of one, two or four octets, a name, a string of at most 255 octets, strings up to the
-- end of the data, and the octets up to the end.
pub data Field : Type 0 where
  octet : ℕ → Field
  short : ℕ → Field
  long : ℕ → Field
  name : DomainName → Field
  string : List ℕ → Field
  strings : List (List ℕ) → Field
  rest : List ℕ → Field

-- Which field stands next is told by the type of the record alone.
pub data Kind : Type 0 where
  an_octet : Kind
  a_short : Kind
  a_long : Kind
  a_name : Kind
  a_string : Kind
  all_strings : Kind
  the_rest : Kind

abbrev pub kind_of : Field → Kind
kind_of (octet n) = an_octet
kind_of (short n) = a_short
kind_of (long n) = a_long
kind_of (name n) = a_name
kind_of (string s) = a_string
kind_of (strings ss) = all_strings
kind_of (rest octets) = the_rest

abbrev pub kinds_of : List Field → List Kind
kinds_of [] = []
kinds_of (f ∷ fs) = kind_of f ∷ kinds_of fs

-- Such a field goes to the end of the data.
abbrev pub is_open : Kind → Bool
is_open all_strings = true
is_open the_rest = true
is_open other = false

abbrev pub are_open : List Kind → Bool
are_open [] = false
are_open (k ∷ ks) = is_open k || are_open ks

-- A field of such a kind takes memory where it is read: names, strings and octets do, numbers
-- don't.
abbrev pub takes_memory : Kind → Bool
takes_memory an_octet = false
takes_memory a_short = false
takes_memory a_long = false
takes_memory other = true

-- A string stands behind an octet that holds its length (RFC 1035 3.3).
pub record StringAt (message : List ℕ) (place : ℕ) (string : List ℕ) (end : ℕ) : Type 0 where
  pub few : length string ≤ 255
  pub there : Stands message place (length string ∷ string) end

abbrev pub StringsAt : List ℕ → ℕ → List (List ℕ) → ℕ → Type 0
StringsAt message place [] end = end ≡ place
StringsAt message place (s ∷ ss) end =
    (behind : ℕ) × StringAt message place s behind × StringsAt message behind ss end

-- A field stands at a place of a message, and ends at another.
abbrev pub FieldAt : List ℕ → ℕ → Field → ℕ → Type 0
FieldAt message place (octet n) end = Stands message place (n ∷ []) end
FieldAt message place (short n) end = Stands message place (octets_16 n) end
FieldAt message place (long n) end = Stands message place (octets_32 n) end
FieldAt message place (name n) end = NameAt message place n end
FieldAt message place (string s) end = StringAt message place s end
FieldAt message place (strings ss) end = StringsAt message place ss end
FieldAt message place (rest octets) end = Stands message place octets end

-- Fields stand one behind the other.
abbrev pub FieldsAt : List ℕ → ℕ → List Field → ℕ → Type 0
FieldsAt message place [] end = end ≡ place
FieldsAt message place (f ∷ fs) end =
    (behind : ℕ) × FieldAt message place f behind × FieldsAt message behind fs end

-- A field that goes to the end of the data is the last one.
abbrev pub AreOrdered : List Kind → Type 0
AreOrdered [] = Unit {0}
AreOrdered (k ∷ ks) = (is_open k ≡ true → ks ≡ []) × AreOrdered ks

-- The number fits the octets that are kept for it.
abbrev pub Fits : Field → Type 0
Fits (short n) = n < 2 ^ 16
Fits (long n) = n < 2 ^ 32
Fits other = Unit {0}

abbrev pub AllFit : List Field → Type 0
AllFit [] = Unit {0}
AllFit (f ∷ fs) = Fits f × AllFit fs

-- Two fields are one, but for what their octets can't hold of a number.
abbrev pub IsSameField : Field → Field → Type 0
IsSameField (short n) (short m) = octets_16 n ≡ octets_16 m
IsSameField (long n) (long m) = octets_32 n ≡ octets_32 m
IsSameField f g = f ≡ g

abbrev pub AreSameFields : List Field → List Field → Type 0
AreSameFields [] [] = Unit {0}
AreSameFields (f ∷ fs) (g ∷ gs) = IsSameField f g × AreSameFields fs gs
AreSameFields fs gs = ⊥
