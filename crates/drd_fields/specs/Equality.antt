-- When record data are equal, and that this is so exactly where their canonical octets are the same
-- (RFC 4034 6.3).
use Rattle.std.specs.Prelude.{◌≡◌, ℕ, ◌==◌, nat_eq, Bool, true, false, List, [], ◌∷◌, ◌++◌}
use Rattle.std.specs.Cmp.Lexicographic.{pointwise}
use Rattle.dnw_encoder.specs.dnw_name.DomainName.{name_eq}
use Rattle.dnw_encoder.specs.declared.modes.NameEncoding.TheVariants.{UncompressedLowercase}
use Rattle.drd_fields.specs.Fields.{Field, octet, short, long, name, string, strings, rest, kind_of, is_open}
use Rattle.drd_fields.specs.Writing.{field_octets, encoded_field}

-- Names are equal up to the case of ASCII letters (RFC 4343), numbers and octets as they are.
abbrev pub field_eq : Field → Field → Bool
field_eq (octet n) (octet m) = n == m
field_eq (short n) (short m) = n == m
field_eq (long n) (long m) = n == m
field_eq (name n) (name m) = name_eq n m
field_eq (string s) (string t) = pointwise nat_eq s t
field_eq (strings ss) (strings ts) = pointwise (pointwise nat_eq) ss ts
field_eq (rest s) (rest t) = pointwise nat_eq s t
field_eq f g = false

abbrev pub fields_eq : List Field → List Field → Bool
fields_eq = pointwise field_eq

-- A name that is read is fully qualified; a relative one has the octets of another.
abbrev pub IsFull : Field → Type 0
IsFull (name n) = n.fqdn ≡ true
IsFull other = Unit {0}

abbrev pub AreFull : List Field → Type 0
AreFull [] = Unit {0}
AreFull (f ∷ fs) = IsFull f × AreFull fs

-- Octets are the same exactly where an answer says so.
pub record Tells (same : Bool) (xs ys : List ℕ) : Type 0 where
  pub equal : same ≡ true → xs ≡ ys
  pub other : same ≡ false → xs ≡ ys → ⊥

-- Octets that differ in their front do so whatever is behind them.
pub record TellsApart (same : Bool) (xs ys : List ℕ) : Type 0 where
  pub equal : same ≡ true → xs ≡ ys
  pub other : same ≡ false → (behind_xs behind_ys : List ℕ) → xs ++ behind_xs ≡ ys ++ behind_ys → ⊥

abbrev pub canonical_field : Field → List ℕ
canonical_field f = field_octets (encoded_field UncompressedLowercase f)

-- An answer tells whether the canonical octets of two fields are the same; where the fields don't
-- go to the end of the data, whatever is behind them.
pub record TellsField (same : Bool) (f g : Field) : Type 0 where
  pub whole : Tells same (canonical_field f) (canonical_field g)
  pub front : is_open (kind_of f) ≡ false
      → TellsApart same (canonical_field f) (canonical_field g)
