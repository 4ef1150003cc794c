-- The field that a lent one shows.
use Rattle.std.specs.Prelude.{map}
use Rattle.drd_fields.specs.Fields.{Field, octet, short, long, name, string, strings, rest}
use Rattle.drd_fields.specs.declared.field_ref.FieldRef.{FieldRef}
use Rattle.drd_fields.specs.declared.field_ref.FieldRef.TheVariants.{U8, U16, U32, Name, String, Strings, Octets}

abbrev pub seen : FieldRef → Field
seen (U8 n) = octet n
seen (U16 n) = short n
seen (U32 n) = long n
seen (Name n) = name n.now
seen (String octets) = string octets.now
seen (Strings texts) = strings (map (λ s. s.items) texts.now)
seen (Octets octets) = rest octets.now
