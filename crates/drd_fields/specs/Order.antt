-- The order of record data (RFC 4034 6.3): by their canonical octets from the left.
use Rattle.std.specs.Prelude.{◌≡◌, ℕ, ◌++◌, Bool, true, false, List, [], ◌∷◌, length, map}
use Rattle.std.specs.Hash as fed
use Rattle.std.specs.Hash.{HashWrites}
use Rattle.std.specs.List.{flat_map}
use Rattle.std.specs.Str.{str_to_ascii_lowercase}
use Rattle.std.specs.Cmp.Lexicographic.{slice_cmp}
use Rattle.std.specs.Ordering.{on, then_cmp, nat_cmp, ordering_then}
use Rattle.std.specs.declared.cmp.Ordering.{Ordering}
use Rattle.dnw_encoder.specs.dnw_name.NameHash.{name_writes}
use Rattle.drd_fields.specs.Fields.{Field, octet, short, long, name, string, strings, rest, kind_of, is_open}
use Rattle.drd_fields.specs.Writing.{string_octets}
use Rattle.drd_fields.specs.Equality.{canonical_field}

-- Fields of different kinds, which the data of one type never have at the same place, stand by
-- their kinds.
abbrev pub kind_rank : Field → ℕ
kind_rank (octet n) = 0
kind_rank (short n) = 1
kind_rank (long n) = 2
kind_rank (name n) = 3
kind_rank (string s) = 4
kind_rank (strings ss) = 5
kind_rank (rest octets) = 6

abbrev pub flag_rank : Bool → ℕ
flag_rank false = 0
flag_rank true = 1

-- A field as numbers whose order is that of its canonical octets: a number as it is, a relative
-- name before all that are fully qualified.
abbrev pub field_key : Field → List ℕ
field_key (octet n) = n ∷ []
field_key (short n) = n ∷ []
field_key (long n) = n ∷ []
field_key (name n) = flag_rank n.fqdn ∷ canonical_field (name n)
field_key (string s) = string_octets s
field_key (strings ss) = flat_map string_octets ss
field_key (rest octets) = octets

abbrev pub field_cmp : Field → Field → Ordering
field_cmp = then_cmp (on kind_rank nat_cmp) (on field_key (slice_cmp nat_cmp))

-- Field by field, the first that differ decide.
abbrev pub fields_cmp : List Field → List Field → Ordering
fields_cmp = slice_cmp field_cmp

-- The order of octets, as numbers from the left.
abbrev pub octets_cmp : List ℕ → List ℕ → Ordering
octets_cmp = slice_cmp nat_cmp

-- An answer is the order of octets.
abbrev pub Orders : Ordering → List ℕ → List ℕ → Type 0
Orders o xs ys = o ≡ octets_cmp xs ys

-- An answer is the order of octets, and decides whatever is behind them.
pub record OrdersFronts (o : Ordering) (xs ys : List ℕ) : Type 0 where
  pub decides : (behind_xs behind_ys : List ℕ)
      → octets_cmp (xs ++ behind_xs) (ys ++ behind_ys)
      ≡ ordering_then o (octets_cmp behind_xs behind_ys)

-- An answer is the order of the canonical octets of two fields; where the fields don't go to the
-- end of the data, it decides whatever is behind them.
pub record OrdersField (o : Ordering) (f g : Field) : Type 0 where
  pub whole : Orders o (canonical_field f) (canonical_field g)
  pub front : is_open (kind_of f) ≡ false
      → OrdersFronts o (canonical_field f) (canonical_field g)

-- What of a field is fed to a hasher: the same where fields are equal.
abbrev pub string_input : List ℕ → HashWrites
string_input s = fed.usize (length s) ++ s ∷ []

abbrev pub field_input : Field → HashWrites
field_input (octet n) = fed.u8 n
field_input (short n) = fed.u16 n
field_input (long n) = fed.u32 n
field_input (name n) = name_writes n
field_input (string s) = string_input s
field_input (strings ss) = fed.usize (length ss) ++ flat_map string_input ss
field_input (rest octets) = string_input octets

abbrev pub fields_input : List Field → HashWrites
fields_input = flat_map field_input

-- The labels of a name in lower case, each behind its length, up to the end (RFC 4034 6.2).
abbrev pub labels_octets : List (List ℕ) → List ℕ
labels_octets labels = flat_map string_octets (map str_to_ascii_lowercase labels) ++ 0 ∷ []
