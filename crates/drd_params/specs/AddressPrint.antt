-- Printed addresses.
use Rattle.std.specs.Prelude.{ℕ, List}
use Rattle.std.specs.Net.Addr.{ipv4_octets, ipv6_segments}
use Rattle.std.specs.Net.Text.{ipv4_text, ipv6_text}
use Rattle.drd_params.specs.declared.a.A.{A}
use Rattle.drd_params.specs.declared.aaaa.AAAA.{AAAA}

-- Four decimal numbers between dots.
abbrev pub a_print : A → List ℕ
a_print a = ipv4_text (ipv4_octets a.0)

-- The text of RFC 5952.
abbrev pub aaaa_print : AAAA → List ℕ
aaaa_print aaaa = ipv6_text (ipv6_segments aaaa.0)
