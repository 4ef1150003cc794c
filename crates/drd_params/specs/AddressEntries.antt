-- Addresses in lists: their octets, and the text of each.
use Rattle.std.specs.Prelude.{ℕ, List}
use Rattle.std.specs.Net.Grammar.{IsIpv4Text, IsIpv6Text}
use Rattle.drd_fields.specs.Writing.{fields_octets}
use Rattle.drd_params.specs.AddressFields.{a_fields, aaaa_fields}
use Rattle.drd_params.specs.declared.a.A.{A}
use Rattle.drd_params.specs.declared.aaaa.AAAA.{AAAA}

-- The octets of an address, as in the data of its own type.
abbrev pub a_octets : A → List ℕ
a_octets a = fields_octets (a_fields a)

abbrev pub aaaa_octets : AAAA → List ℕ
aaaa_octets aaaa = fields_octets (aaaa_fields aaaa)

abbrev pub IsAEntry : A → List ℕ → Type 0
IsAEntry a text = IsIpv4Text text a.0

abbrev pub IsAaaaEntry : AAAA → List ℕ → Type 0
IsAaaaEntry aaaa text = IsIpv6Text text aaaa.0
