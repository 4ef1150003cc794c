-- The text of a subnet: an address, `/`, and the number of bits of its block (RFC 4632 3.1, RFC
-- 4291 2.3).
use Rattle.std.specs.Prelude.{◌≡◌, ℕ, ◌<◌, ◌≤◌, ◌==◌, Bool, List, length}
use Rattle.std.specs.List.{before_first, after_first, position_or_len}
use Rattle.std.specs.Net.Grammar.{IsIpText}
use Rattle.drd_words.specs.dnw_codes.Ascii.{slash_sign}
use Rattle.drd_words.specs.dnw_net.Networks.{address_bits}
use Rattle.drd_words.specs.Word.{IsNumberWord}
use Rattle.drd_opt.specs.declared.subnet.ClientSubnet.{ClientSubnet}

abbrev pub is_slash : ℕ → Bool
is_slash octet = octet == slash_sign

-- The address stands before the first `/`, and behind it a decimal number of at most the address's
-- bits; the scope is 0.
pub record IsSubnetText (text : List ℕ) (subnet : ClientSubnet) : Type 0 where
  pub slash : position_or_len is_slash text < length text
  pub address : IsIpText (before_first is_slash text) subnet.address
  pub prefix : IsNumberWord 8 subnet.source_prefix (after_first is_slash text)
  pub within : subnet.source_prefix ≤ address_bits subnet.address
  pub scope : subnet.scope_prefix ≡ 0
