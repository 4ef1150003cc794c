-- Laws of addresses in lists: each takes octets, octets that begin with one end it in one place,
-- and why a text is none.
use Rattle.std.proofs.Common.{◌≡◌, ℕ, ◌<◌, List, [], ◌++◌, length, length-append, refl, sym, ◌∙◌, arith}
use Rattle.std.specs.Net.Addr.{ipv4_bits}
use Rattle.drd_fields.specs.dnw_decoder.Octets.{octets_32}
use Rattle.drd_param_keys.specs.drd_words.Refusals.{AreCauses, RefusesIpv4, RefusesIpv6}
use Rattle.drd_param_keys.specs.drd_words.RefusalsLaws.{by_part, ipv4_causes, ipv6_causes}
use Rattle.drd_param_keys.specs.EntryLaws.{fronts_same}
use Rattle.drd_params.specs.AddressEntries.{IsAEntry, IsAaaaEntry, a_octets, aaaa_octets}
use Rattle.drd_params.specs.declared.a.A.{A}
use Rattle.drd_params.specs.declared.aaaa.AAAA.{AAAA}

pub length-octets_32 : (n : ℕ) → length (octets_32 n) ≡ 4
unfolding octets_32
length-octets_32 n = refl

pub length_a : (a : A) → length (a_octets a) ≡ 4
length_a a =
    omega (arith, length-append (octets_32 (ipv4_bits a.0)) [], length-octets_32 (ipv4_bits a.0))

pub a_laws : ((a : A) → 0 < length (a_octets a))
    × ((a b : A) (xs ys : List ℕ) → a_octets a ++ xs ≡ a_octets b ++ ys → xs ≡ ys)
a_laws = (
  λ a. omega (arith, length_a a),
  λ a b xs ys whole. (fronts_same (a_octets a) (a_octets b) xs ys
      (length_a a ∙ sym (length_a b)) whole).1,
)

pub aaaa_laws : ((a : AAAA) → 0 < length (aaaa_octets a))
    × ((a b : AAAA) (xs ys : List ℕ) → aaaa_octets a ++ xs ≡ aaaa_octets b ++ ys → xs ≡ ys)
aaaa_laws = (
  λ a. omega arith,
  λ a b xs ys whole. (fronts_same (aaaa_octets a) (aaaa_octets b) xs ys refl whole).1,
)

pub a_told : (a b : A) (text : List ℕ) → IsAEntry a text → IsAEntry b text
    → length (a_octets a) ≡ length (a_octets b)
a_told a b text is other = length_a a ∙ sym (length_a b)

pub aaaa_told : (a b : AAAA) (text : List ℕ) → IsAaaaEntry a text → IsAaaaEntry b text
    → length (aaaa_octets a) ≡ length (aaaa_octets b)
aaaa_told a b text is other = refl

pub a_causes : (text : List ℕ) → AreCauses (λ a. IsAEntry a text) (RefusesIpv4 text)
a_causes text = by_part (λ (a : A). a.0) (ipv4_causes text)

pub aaaa_causes : (text : List ℕ) → AreCauses (λ aaaa. IsAaaaEntry aaaa text) (RefusesIpv6 text)
aaaa_causes text = by_part (λ (aaaa : AAAA). aaaa.0) (ipv6_causes text)
