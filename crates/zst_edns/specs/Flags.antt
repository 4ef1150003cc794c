-- The flags of an OPT record (RFC 6891 6.1.4).
use Rattle.std.specs.Prelude.{ℕ, Bool, ◌+◌, ◌%◌, ◌^◌, nat_le, if◌then◌else◌}
use Rattle.zst_edns.specs.declared.edns_flags.EdnsFlags.{EdnsFlags}

-- RFC 6891 6.1.3: sixteen bits, DO and fifteen others.
abbrev pub flags_of : ℕ → EdnsFlags
flags_of number = record { dnssec_ok = nat_le (2 ^ 15) number; z = number % 2 ^ 15 }

-- The number of these sixteen bits.
abbrev pub flags_number : EdnsFlags → ℕ
flags_number flags = (if flags.dnssec_ok then 2 ^ 15 else 0) + flags.z % 2 ^ 15

-- The flags with another DO.
abbrev pub with_dnssec_ok : EdnsFlags → Bool → EdnsFlags
with_dnssec_ok flags dnssec_ok = record flags { dnssec_ok = dnssec_ok }
