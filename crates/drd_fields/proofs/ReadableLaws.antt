-- Fields that stand alone stand in their own octets, and those that stand in some message stand alone.
use Rattle.std.proofs.Common.{◌≡◌, ◌<◌, ℕ, ◌+◌, List, [], ◌∷◌, ◌++◌, length, sym, ap, ◌∙◌, arith, append-nil, refl, zero, suc, map, Vec, Global}
use Rattle.std.proofs.Math.Seq.{drop-length}
use Rattle.std.proofs.lemmas.List.{length-append}
use Rattle.std.proofs.lemmas.List.Elements.{All-nil, All-cons, All-head, All-tail}
use Rattle.std.specs.List.{All, flat_map}
use Rattle.dnw_encoder.specs.dnw_label.Label.{IsLabel}
use Rattle.dnw_encoder.specs.dnw_name.DomainName.{DomainName, name_octets}
use Rattle.dnw_encoder.specs.dnw_decoder.Octets.{Stands, octets_32}
use Rattle.dnw_encoder.specs.dnw_decoder.Spelling.{Spelled, at_end, at_label, at_pointer}
use Rattle.dnw_encoder.proofs.dnw_decoder_lemmas.Standing.{stands_split, length-octets_32}
use Rattle.dnw_encoder.proofs.NameLaws.{name_stands, length-name_octets}
use Rattle.drd_fields.specs.Fields.{Field, octet, short, long, name, string, strings, rest, StringsAt, FieldAt, FieldsAt}
use Rattle.drd_fields.specs.Writing.{string_octets, field_octets, fields_octets}
use Rattle.drd_fields.specs.Readable.{AreReadable, IsShort, StandsAlone, StandAlone}

own_strings : (message : List ℕ) (place : ℕ) (ss : List (List ℕ)) (end : ℕ) → All IsShort ss → Stands message place (flat_map string_octets ss) end → StringsAt message place ss end
own_strings message place [] end each there = omega (arith, there.behind)
own_strings message place (s ∷ ss) end each there =
    let both = stands_split message place (string_octets s) (flat_map string_octets ss) end there in
    let first : IsShort s = All-head IsShort s ss each in (
      place + length (string_octets s),
      record { few = first; there = both.0 },
      own_strings message (place + length (string_octets s)) ss end (All-tail IsShort s ss each) both.1,
    )

own_field : (message : List ℕ) (place : ℕ) (f : Field) (end : ℕ) → StandsAlone f → Stands message place (field_octets f) end → FieldAt message place f end
own_field message place (octet n) end alone there = there
own_field message place (short n) end alone there = there
own_field message place (long n) end alone there = there
own_field message place (name n) end alone there = name_stands message place n end alone.0 alone.1 there
own_field message place (string s) end alone there = record { few = alone; there = there }
own_field message place (strings ss) end alone there = own_strings message place ss end alone there
own_field message place (rest octets) end alone there = there

-- Where the octets of fields stand, the fields do.
pub own_fields : (message : List ℕ) (place : ℕ) (fs : List Field) (end : ℕ) → StandAlone fs → Stands message place (fields_octets fs) end → FieldsAt message place fs end
own_fields message place [] end alone there = omega (arith, there.behind)
own_fields message place (f ∷ fs) end alone there =
    let both = stands_split message place (field_octets f) (fields_octets fs) end there in (
      place + length (field_octets f),
      own_field message place f (place + length (field_octets f)) alone.0 both.0,
      own_fields message (place + length (field_octets f)) fs end alone.1 both.1,
    )

-- Octets are a message in which they stand.
pub whole : (octets : List ℕ) → Stands octets 0 octets (length octets)
whole octets = record {
  there = sym (ap (λ (t : List ℕ). octets ++ t) (drop-length octets) ∙ append-nil octets);
  behind = omega arith;
}

-- Fields stand in the message of their octets.
pub in_own_octets : (fs : List Field) → StandAlone fs → FieldsAt (fields_octets fs) 0 fs (length (fields_octets fs))
in_own_octets fs alone = own_fields (fields_octets fs) 0 fs (length (fields_octets fs)) alone (whole (fields_octets fs))

spelled_labels : (message : List ℕ) (segment bound place : ℕ) (found : List (List ℕ)) (end : ℕ) → Spelled message segment bound place found end → All IsLabel found
spelled_labels message segment bound place _ end (at_end inside s) = All-nil IsLabel
spelled_labels message segment bound place _ end (at_label {behind = behind} {first = first} {rest = others} inside is_label s later) =
    All-cons IsLabel first others is_label (spelled_labels message segment bound behind others end later)
spelled_labels message segment bound place found end (at_pointer {target = target} {end = last} inside backward small s later) =
    spelled_labels message target segment target found last later

strings_short : (message : List ℕ) (place : ℕ) (ss : List (List ℕ)) (end : ℕ) → StringsAt message place ss end → All IsShort ss
strings_short message place [] end there = All-nil IsShort
strings_short message place (s ∷ ss) end there = All-cons IsShort s ss there.1.few (strings_short message there.0 ss end there.2)

field_alone : (message : List ℕ) (place : ℕ) (f : Field) (end : ℕ) → FieldAt message place f end → StandsAlone f
field_alone message place (name n) end there =
    (there.full, record { each = spelled_labels message place (length message) place n.labels end there.spelled; short = there.size })
field_alone message place (string s) end there = there.few
field_alone message place (strings ss) end there = strings_short message place ss end there
field_alone message place other end there = tt

-- Fields that stand somewhere stand alone.
pub fields_alone : (message : List ℕ) (place : ℕ) (fs : List Field) (end : ℕ) → FieldsAt message place fs end → StandAlone fs
fields_alone message place [] end there = tt
fields_alone message place (f ∷ fs) end there = (field_alone message place f there.0 there.1, fields_alone message there.0 fs end there.2)

pub long_takes : (n : ℕ) → 0 < length (octets_32 n)
long_takes n = omega (arith, length-octets_32 n)

pub name_takes : (n : DomainName) → 0 < length (name_octets n)
name_takes n = omega (arith, length-name_octets n)

-- Vectors are short where their strings are.
pub each_short : (ss : List (Vec ℕ Global)) → All IsShort (map (λ s. s.items) ss) → All (λ s. IsShort s.items) ss
each_short [] each = All-nil (λ s. IsShort s.items)
each_short (s ∷ ss) each =
    All-cons (λ t. IsShort t.items) s ss (All-head IsShort s.items (map (λ t. t.items) ss) each) (each_short ss (All-tail IsShort s.items (map (λ t. t.items) ss) each))

-- A field without octets of its own ends where it begins.
field_empty : (message : List ℕ) (place : ℕ) (f : Field) (end : ℕ) → FieldAt message place f end → length (field_octets f) ≡ 0 → end ≡ place
field_empty message place (octet n) end there e = absurd (omega (arith, e))
field_empty message place (short n) end there e = absurd (omega (arith, e))
field_empty message place (long n) end there e = absurd (omega (arith, e, length-octets_32 n))
field_empty message place (name n) end there e = absurd (omega (arith, e, length-name_octets n))
field_empty message place (string s) end there e = absurd (omega (arith, e))
field_empty message place (strings []) end there e = there
field_empty message place (strings (s ∷ ss)) end there e = absurd (omega (arith, e))
field_empty message place (rest octets) end there e = omega (arith, e, there.behind)

fields_empty : (message : List ℕ) (place : ℕ) (fs : List Field) (end : ℕ) → FieldsAt message place fs end → length (fields_octets fs) ≡ 0 → end ≡ place
fields_empty message place [] end there e = there
fields_empty message place (f ∷ fs) end there e =
    let both = length-append (field_octets f) (fields_octets fs) in
    fields_empty message there.0 fs end there.2 (omega (arith, e, both)) ∙ field_empty message place f there.0 there.1 (omega (arith, e, both))

-- Fields that take octets somewhere have some of their own.
pub some_octets : (message : List ℕ) (place : ℕ) (fs : List Field) (end : ℕ) → FieldsAt message place fs end → place < end → 0 < length (fields_octets fs)
some_octets message place fs end there some = by_length (length (fields_octets fs)) refl
  where
    by_length : (n : ℕ) → length (fields_octets fs) ≡ n → 0 < n
    by_length zero e = absurd (omega (arith, some, fields_empty message place fs end there e))
    by_length (suc n) e = omega arith

-- Fields are read from their own octets.
pub to_readable : (fs : List Field) → StandAlone fs → 0 < length (fields_octets fs) → AreReadable fs
to_readable fs alone some = record {
  message = fields_octets fs;
  place = 0;
  end = length (fields_octets fs);
  some = some;
  there = in_own_octets fs alone;
}

pub from_readable : (fs : List Field) → AreReadable fs → StandAlone fs × (0 < length (fields_octets fs))
from_readable fs readable =
    (fields_alone readable.message readable.place fs readable.end readable.there, some_octets readable.message readable.place fs readable.end readable.there readable.some)
