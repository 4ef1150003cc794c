-- Names as an encoder writes them.
use Rattle.std.specs.Prelude.{◌≡◌, ◌+◌, ◌<◌, ◌≤◌, true, false, ℕ, List, ◌++◌, length, map, take, cond}
use Rattle.std.specs.Str.{str_to_ascii_lowercase}
use Rattle.dnw_decoder.specs.dnw_name.DomainName.{DomainName, domain_name, name_octets}
use Rattle.dnw_decoder.specs.Spelling.{NameAt}
use Rattle.dnw_encoder.specs.declared.modes.NameEncoding.{NameEncoding}
use Rattle.dnw_encoder.specs.State.{State, is_lower}
use Rattle.dnw_encoder.specs.Effects.{Sound, StaysTrue, SameModes, WritesOctets, Has, written_at}
use Rattle.dnw_encoder.specs.Candidates.{KeepsSuffixes}
use Rattle.dnw_decoder.specs.dnw_label.Labels.{label_octets}

-- A name as it is written: fully qualified, and in lower case where names are.
abbrev pub encoded_name : NameEncoding → DomainName → DomainName
encoded_name encoding name =
    domain_name true (cond (is_lower encoding) (map str_to_ascii_lowercase name.labels) name.labels)

abbrev pub written_name : State → DomainName → DomainName
written_name s name = encoded_name s.encoding name

-- The first so many octets of labels were written, and others behind them: the end or a pointer.
-- The names that end these labels and begin there are kept.
pub record WritesFront (labels : List (List ℕ)) (front : ℕ) (rest : List ℕ) (old new : State) :
    Type 0 where
  pub octets : new.octets
      ≡ written_at old.octets old.offset (take front (label_octets labels) ++ rest)
  pub offset : new.offset ≡ old.offset + (front + length rest)
  pub candidates : KeepsSuffixes labels front old.offset new.offset old.candidates new.candidates
  pub places : new.places ≡ old.places
  pub modes : SameModes old new

-- A name was written: it reads back at its place, in the finished message too, and takes at most
-- its plain size; where no pointers are written it stands in full; where they are, one of labels
-- takes two octets if a candidate has its octets, and two behind its front if one has the octets of
-- the rest; and it has become a candidate if there was room.
pub record EmitsName (name : DomainName) (old new : State) : Type 0 where
  pub stays : Sound old
      → StaysTrue new new.offset
      (λ octets. NameAt octets old.offset (written_name old name) new.offset)
  pub size : new.offset ≤ old.offset + length (name_octets name)
  pub exact : old.points ≡ false → WritesOctets (name_octets (written_name old name)) old new
  pub used : old.points ≡ true → 0 < length name.labels → Has old.candidates (name_octets name)
      → new.offset ≡ old.offset + 2
  pub longest : old.points ≡ true → (front rest : List (List ℕ)) → name.labels ≡ front ++ rest
      → 0 < length rest → Has old.candidates (name_octets (domain_name true rest))
      → new.offset ≤ old.offset + length (label_octets front) + 2
  pub becomes : old.points ≡ true → 0 < length name.labels → length old.candidates < 64
      → old.offset < 16383 → Has new.candidates (name_octets name)
  pub at_most : length new.candidates ≤ length old.candidates + length name.labels
