-- Lists of blocked names, by their settings.
use Rattle.std.specs.Prelude.{◌≡◌, ℕ, Bool, true, false, List, length, nat_lt, Option, Some, None, option_map, string_bytes}
use Rattle.zst_request.specs.Views.{Blocklist}
use Rattle.zst_request.specs.dnw_name.DomainName.{DomainName}
use Rattle.zsv_blocked.specs.declared.read.BlocklistError.{BlocklistError}
use Rattle.zsv_blocked.specs.declared.read.BlocklistError.TheVariants as causes
use Rattle.zsv_blocklist.specs.declared.config.BlocklistConfig.{BlocklistConfig}

abbrev pub message_of : BlocklistConfig → Option (List ℕ)
message_of config = option_map string_bytes config.block_message

-- A message that doesn't fit in one string, of 255 octets at most (RFC 1035, section 3.3).
abbrev pub is_too_long : Option (List ℕ) → Bool
is_too_long None = false
is_too_long (Some octets) = nat_lt 255 (length octets)

-- A list of these names, with these settings.
abbrev pub blocklist_of : DomainName → List DomainName → BlocklistConfig → Blocklist
blocklist_of origin names config = record {
  origin = origin;
  names = names;
  wildcard_match = config.wildcard_match;
  min_wildcard_depth = config.min_wildcard_depth;
  sinkhole_ipv4 = config.sinkhole_ipv4;
  sinkhole_ipv6 = config.sinkhole_ipv6;
  ttl = config.ttl;
  block_message = message_of config;
  consult_action = config.consult_action;
}

-- Why no list is made of these settings: the message is too long, or for want of memory.
abbrev pub IsNewFault : BlocklistConfig → BlocklistError → Type 0
IsNewFault config causes.MessageTooLong = is_too_long (message_of config) ≡ true
IsNewFault config causes.OutOfMemory = is_too_long (message_of config) ≡ false
IsNewFault config other = ⊥
