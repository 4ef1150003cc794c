-- What the class and the TTL of an OPT record say (RFC 6891 6.1.2, 6.1.3).
use Rattle.std.specs.Prelude.{ℕ, ◌≡◌, ◌+◌, ◌*◌, ◌/◌, ◌%◌, ◌^◌, max}
use Rattle.zst_edns.specs.declared.edns.Edns.{Edns}
use Rattle.zst_edns.specs.Flags.{flags_of, flags_number}

-- The class is a payload, of at least 512 octets (RFC 6891 6.2.3). The TTL is eight bits of the
-- response code, eight of the version, and the flags.
pub record IsEdnsOf (class ttl : ℕ) (edns : Edns) : Type 0 where
  pub rcode_high : edns.rcode_high ≡ ttl / 2 ^ 24
  pub version : edns.version ≡ ttl / 2 ^ 16 % 2 ^ 8
  pub flags : edns.flags ≡ flags_of (ttl % 2 ^ 16)
  pub max_payload : edns.max_payload ≡ max class 512

-- The TTL of the record.
abbrev pub edns_ttl : Edns → ℕ
edns_ttl edns = 2 ^ 24 * edns.rcode_high + 2 ^ 16 * edns.version + flags_number edns.flags

-- All but the payload stays.
pub record KeepsAllButPayload (old new : Edns) : Type 0 where
  pub rcode_high : new.rcode_high ≡ old.rcode_high
  pub version : new.version ≡ old.version
  pub flags : new.flags ≡ old.flags
  pub options : new.options ≡ old.options

-- All but the options stays.
pub record KeepsAllButOptions (old new : Edns) : Type 0 where
  pub rcode_high : new.rcode_high ≡ old.rcode_high
  pub version : new.version ≡ old.version
  pub flags : new.flags ≡ old.flags
  pub max_payload : new.max_payload ≡ old.max_payload
