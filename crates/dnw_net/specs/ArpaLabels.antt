-- The labels of names of addresses and networks (RFC 1035 3.5, RFC 3596 2.5).
use Rattle.std.specs.Prelude.{ℕ, ◌≡◌, ◌<◌, ◌+◌, ◌*◌, ◌/◌, ◌%◌, ◌^◌, ◌++◌, true, List, [], ◌∷◌, All, length, map, replicate, reverse, flat_map, decimal, codes}
use Rattle.std.specs.Char.{digit_char}
use Rattle.std.specs.Net.Addr.{ipv4_octets, ipv6_octets, ipv6_segments}
use Rattle.std.specs.declared.net.ip_addr.IpAddr.{IpAddr}
use Rattle.std.specs.declared.net.ip_addr.IpAddr.TheVariants.{V4, V6}
use Rattle.std.specs.Cmp.Lexicographic.{pointwise}
use Rattle.dnw_label.specs.Label.{label_eq}
use Rattle.dnw_net.specs.Networks.{address_bits}

-- An octet in decimal, without leading zeros.
abbrev pub v4_labels : ℕ → List (List ℕ)
v4_labels octet = decimal octet ∷ []

-- An octet as two hexadecimal digits, the last one first.
abbrev pub v6_labels : ℕ → List (List ℕ)
v6_labels octet = (digit_char (octet % 16) ∷ []) ∷ (digit_char (octet / 16) ∷ []) ∷ []

-- The bits that a label below the suffix stands for.
abbrev pub label_bits : IpAddr → ℕ
label_bits (V4 a) = 8
label_bits (V6 a) = 4

-- Four octets, or eight groups of 16 bits.
abbrev pub IsAddress : IpAddr → Type 0
IsAddress (V4 a) = (length (ipv4_octets a) ≡ 4) × All (λ octet. octet < 2 ^ 8) (ipv4_octets a)
IsAddress (V6 a) = (length (ipv6_segments a) ≡ 8) × All (λ group. group < 2 ^ 16) (ipv6_segments a)

-- So many labels `0`.
abbrev pub zero_labels : ℕ → List (List ℕ)
zero_labels n = replicate n (codes "0")

-- The number as a hexadecimal digit.
abbrev pub digit_label : ℕ → List ℕ
digit_label digit = digit_char digit ∷ []

-- The hexadecimal digits of octets.
abbrev pub hex_digits : List ℕ → List ℕ
hex_digits octets = flat_map (λ octet. (octet / 16) ∷ (octet % 16) ∷ []) octets

-- The labels write these numbers, the first on the right, where as many labels `0` as are missing
-- follow on the left.
abbrev pub WriteNumbers : (ℕ → List ℕ) → List (List ℕ) → ℕ → List ℕ → Type 0
WriteNumbers label labels missing address_numbers =
    pointwise label_eq (reverse labels ++ zero_labels missing) (map label address_numbers) ≡ true

-- The numbers of an address that labels write, and how they write them.
abbrev pub address_numbers : IpAddr → List ℕ
address_numbers (V4 a) = ipv4_octets a
address_numbers (V6 a) = hex_digits (ipv6_octets a)

abbrev pub number_label : IpAddr → ℕ → List ℕ
number_label (V4 a) = decimal
number_label (V6 a) = digit_label

-- The label above those of an address.
abbrev pub suffix_label : IpAddr → List ℕ
suffix_label (V4 a) = codes "in-addr"
suffix_label (V6 a) = codes "ip6"

-- The labels below the suffix are those of this network.
pub record IsBelowSuffix (labels : List (List ℕ)) (addr : IpAddr) (prefix : ℕ) : Type 0 where
  pub missing : ℕ
  pub bits : prefix + label_bits addr * missing ≡ address_bits addr
  pub address : IsAddress addr
  pub written : WriteNumbers (number_label addr) labels missing (address_numbers addr)
