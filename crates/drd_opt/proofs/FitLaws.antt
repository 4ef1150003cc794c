-- Options that were read are such as 16 bits can count.
use Rattle.std.proofs.Common.{◌≡◌, ℕ, ◌<◌, ◌≤◌, ◌^◌, List, [], ◌∷◌, inl, inr, length, take, map, refl, sym, ap, subst, ◌∙◌, arith}
use Rattle.std.proofs.lemmas.List.{length-append, length-take}
use Rattle.std.proofs.lemmas.List.Elements.{All-head, All-tail, All-cons, All-nil}
use Rattle.std.specs.List.{All}
use Rattle.std.specs.declared.net.ip_addr.IpAddr.{IpAddr}
use Rattle.std.specs.declared.net.ip_addr.IpAddr.TheVariants.{V4, V6}
use Rattle.drd_opt.proofs.CodeLaws.{number_of_code}
use Rattle.drd_opt.specs.Codes.{edns_code_number}
use Rattle.drd_opt.specs.Options.{option_octets, IsOptionOf}
use Rattle.drd_opt.specs.Subnets.{family_of, address_size, address_octets, prefix_size, subnet_head, subnet_octets}
use Rattle.drd_opt.specs.declared.subnet.ClientSubnet.{ClientSubnet}
use Rattle.drd_opt.specs.declared.option.EdnsOption.{EdnsOption}
use Rattle.drd_opt.specs.declared.option.EdnsOption.TheVariants.{DAU, Subnet, NSID, Unknown}
use Rattle.drd_opt.specs.Entries.{Entry, RawOption, raw_of, FitsLengths}
use Rattle.drd_opt.specs.Reading.{IsEntryOf, AreEntriesOf, HoldsEntries}

pub small_size : (a : IpAddr) → address_size a ≤ 16
small_size (V4 a) = omega arith
small_size (V6 a) = omega arith

pub small_prefix : (a : IpAddr) (bits : ℕ) → prefix_size a bits ≤ 16
small_prefix a bits = omega (arith, small_size a)

pub small_family : (a : IpAddr) → family_of a < 2 ^ 16
small_family (V4 a) = omega arith
small_family (V6 a) = omega arith

pub size_of_family : (a b : IpAddr) → family_of a ≡ family_of b → address_size a ≡ address_size b
size_of_family (V4 a) (V4 b) e = refl
size_of_family (V6 a) (V6 b) e = refl
size_of_family (V4 a) (V6 b) e = absurd (omega (arith, e))
size_of_family (V6 a) (V4 b) e = absurd (omega (arith, e))

pub few_octets : (s : ClientSubnet) → length (subnet_octets s) < 2 ^ 16
few_octets s =
    let n = prefix_size s.address s.source_prefix in
    omega (arith, length-append (subnet_head (family_of s.address) s.source_prefix s.scope_prefix) (take n (address_octets s.address)), length-take n (address_octets s.address), small_prefix s.address s.source_prefix)

pub option_fits : (code : ℕ) (octets : List ℕ) (option : EdnsOption) → length octets < 2 ^ 16 → IsOptionOf code octets option → length (option_octets option) < 2 ^ 16
option_fits code octets (DAU a) few is = omega (arith, few, ap length is.1)
option_fits code octets (NSID p) few is = omega (arith, few, ap length is.1)
option_fits code octets (Subnet s) few is = few_octets s
option_fits code octets (Unknown n k) few is = omega (arith, few, ap length is.1)

-- The number of an entry's code is the one that is written.
pub entry_number : (r : RawOption) (w : Entry) → IsEntryOf r w → edns_code_number w.0 ≡ r.code
entry_number r w is = ap edns_code_number is.code ∙ number_of_code r.code

pub entry_fits : (r : RawOption) (w : Entry) → FitsLengths r → IsEntryOf r w → FitsLengths (raw_of w)
entry_fits r w f is = record {
  code = omega (arith, f.code, entry_number r w is);
  octets = option_fits r.code r.octets w.1 f.octets is.option;
}

pub all_fit : (rs : List RawOption) (ws : List Entry) → All FitsLengths rs → AreEntriesOf rs ws → All FitsLengths (map raw_of ws)
all_fit [] [] f are = All-nil FitsLengths
all_fit (r ∷ rs) (w ∷ ws) f are =
    All-cons FitsLengths (raw_of w) (map raw_of ws) (entry_fits r w (All-head FitsLengths r rs f) are.0) (all_fit rs ws (All-tail FitsLengths r rs f) are.1)
all_fit [] (w ∷ ws) f are = absurd are
all_fit (r ∷ rs) [] f are = absurd are

pub read_fit : (octets : List ℕ) (ws : List Entry) → HoldsEntries octets ws → All FitsLengths (map raw_of ws)
read_fit octets ws (inl all) = all_fit all.raws ws all.fit all.entries_of
read_fit octets ws (inr none) = subst (λ (es : List Entry). All FitsLengths (map raw_of es)) (sym none.none) (All-nil FitsLengths)
