-- The fields of addresses.
use Rattle.std.specs.Prelude.{ℕ, List, [], ◌∷◌, get_or}
use Rattle.std.specs.Net.Addr.{ipv4_bits, ipv6_segments}
use Rattle.drd_fields.specs.Fields.{Field, short, long, Kind, a_short, a_long}
use Rattle.drd_params.specs.declared.a.A.{A}
use Rattle.drd_params.specs.declared.aaaa.AAAA.{AAAA}

-- RFC 1035 3.4.1: an address of 32 bits, its greatest octet first.
abbrev pub a_fields : A → List Field
a_fields a = long (ipv4_bits a.0) ∷ []

abbrev pub a_kinds : List Kind
a_kinds = a_long ∷ []

-- One of the eight groups of 16 bits of an address, the greatest first.
abbrev pub group : AAAA → ℕ → Field
group aaaa i = short (get_or (ipv6_segments aaaa.0) i 0)

-- RFC 3596 2.2: an address of 128 bits, its greatest octet first.
abbrev pub aaaa_fields : AAAA → List Field
aaaa_fields x =
    group x 0 ∷ group x 1 ∷ group x 2 ∷ group x 3 ∷ group x 4 ∷ group x 5 ∷ group x 6 ∷ group x 7
    ∷ []

abbrev pub aaaa_kinds : List Kind
aaaa_kinds = a_short ∷ a_short ∷ a_short ∷ a_short ∷ a_short ∷ a_short ∷ a_short ∷ a_short ∷ []
