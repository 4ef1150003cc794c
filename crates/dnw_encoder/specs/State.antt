-- An encoder: the octets of a message that is being written, and what its writer keeps beside them.
use Rattle.std.specs.Prelude.{ℕ, ◌==◌, ◌&&◌, Bool, not, true, false, List, []}
use Rattle.dnw_codes.specs.declared.error.ProtoError.{ProtoError}
use Rattle.dnw_codes.specs.declared.error.ProtoError.TheVariants.{CharacterDataTooLong}
use Rattle.dnw_encoder.specs.declared.modes.NameEncoding.{NameEncoding}
use Rattle.dnw_encoder.specs.declared.modes.NameEncoding.TheVariants.{Compressed, Uncompressed, UncompressedLowercase}
use Rattle.dnw_encoder.specs.declared.modes.RDataEncoding.{RDataEncoding}
use Rattle.dnw_encoder.specs.declared.modes.RDataEncoding.TheVariants.{StandardRecord, Canonical, Other}
use Rattle.dnw_encoder.specs.declared.open_places.OpenPlace.{OpenPlace}

-- A name that later names may point to: its place, its octets uncompressed with the final 0, and
-- where the octets that were written for it end.
pub record Candidate : Type 0 where
  pub place : ℕ
  pub octets : List ℕ
  pub end : ℕ

pub record State : Type 0 where
  pub octets : List ℕ
  pub offset : ℕ
  pub maximum : ℕ
  pub encoding : NameEncoding
  pub canonical : Bool
  pub points : Bool
  pub candidates : List Candidate
  pub places : List OpenPlace

-- Whether names are written with pointers.
unfoldable pub writes_pointers : NameEncoding → Bool
writes_pointers Compressed = true
writes_pointers other = false

-- Whether names are written in lower case.
abbrev pub is_lower : NameEncoding → Bool
is_lower UncompressedLowercase = true
is_lower other = false

-- An encoder that begins at an offset.
abbrev pub new_state : List ℕ → ℕ → NameEncoding → State
new_state octets offset encoding = record {
  octets = octets;
  offset = offset;
  maximum = 65535;
  encoding = encoding;
  canonical = false;
  points = writes_pointers encoding;
  candidates = [];
  places = [];
}

-- The same encoder in another mode.
abbrev pub with_encoding : State → NameEncoding → State
with_encoding s encoding = record s { encoding = encoding; points = writes_pointers encoding }

-- The error for a string of so many octets, which are more than 255.
abbrev pub string_too_long : ℕ → ProtoError
string_too_long octets = CharacterDataTooLong 255 octets

-- How the names of record data of a kind are written, in canonical form or not: names of the types
-- of RFC 3597 4 as the encoder is set, those of RFC 4034 6.2 in full, both in lower case in
-- canonical form; others in full.
abbrev pub rdata_encoding : RDataEncoding → Bool → NameEncoding → NameEncoding
rdata_encoding StandardRecord false encoding = encoding
rdata_encoding StandardRecord true encoding = UncompressedLowercase
rdata_encoding Canonical false encoding = Uncompressed
rdata_encoding Canonical true encoding = UncompressedLowercase
rdata_encoding Other canonical encoding = Uncompressed

-- The same encoder at another offset.
abbrev pub at_offset : State → ℕ → State
at_offset s offset = record s { offset = offset }

-- Whether an open place is another than the one that is filled.
abbrev pub is_other : ℕ → ℕ → OpenPlace → Bool
is_other p to r = not ((r.from == p) && (r.to == to))
