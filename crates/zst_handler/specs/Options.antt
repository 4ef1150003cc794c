-- What a message asks of a lookup beside name and type.
use Rattle.std.specs.Prelude.{Bool, false, Option, Some, None}
use Rattle.zst_edns.specs.declared.edns.Edns.{Edns}

-- Signatures are asked for by the flag DO of an OPT record (RFC 3225, section 3); without the
-- record they aren't.
abbrev pub asks_for_dnssec : Option Edns → Bool
asks_for_dnssec (Some edns) = edns.flags.dnssec_ok
asks_for_dnssec None = false
