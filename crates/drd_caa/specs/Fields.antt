-- The fields of CAA data (RFC 8659 4.1).
use Rattle.std.specs.Prelude.{ℕ, ◌≡◌, ◌<◌, ◌+◌, ◌%◌, ◌&&◌, Bool, true, nat_le, List, [], ◌∷◌, length, cond}
use Rattle.drd_fields.specs.Fields.{Field, octet, string, rest, Kind, an_octet, a_string, the_rest}
use Rattle.drd_words.specs.Word.{are_alphanumeric}
use Rattle.drd_caa.specs.declared.caa.CAA.{CAA}

-- RFC 8659 4.1: the critical flag is the top bit of the flags, the others are reserved.
abbrev pub caa_flags : CAA → ℕ
caa_flags caa = cond caa.issuer_critical 128 0 + caa.reserved_flags % 128

-- RFC 8659 4.1: a tag has 1 to 15 ASCII letters and digits.
abbrev pub is_caa_tag : List ℕ → Bool
is_caa_tag tag = nat_le 1 (length tag) && nat_le (length tag) 15 && are_alphanumeric tag

-- RFC 8659 4.1: what a message can hold: such a tag, and reserved flags of seven bits.
abbrev pub IsCaa : CAA → Type 0
IsCaa caa = (is_caa_tag caa.tag.items ≡ true) × (caa.reserved_flags < 128)

-- RFC 8659 4.1: the flags, the tag behind its length, and the value up to the end of the data.
abbrev pub caa_fields : CAA → List Field
caa_fields caa = octet (caa_flags caa) ∷ string caa.tag.items ∷ rest caa.value.items ∷ []

abbrev pub caa_kinds : List Kind
caa_kinds = an_octet ∷ a_string ∷ the_rest ∷ []
