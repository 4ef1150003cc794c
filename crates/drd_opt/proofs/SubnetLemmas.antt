-- Octets of addresses, and that one place holds one subnet.
use Rattle.std.proofs.Common.{◌≡◌, ℕ, zero, suc, ◌+◌, ◌-◌, ◌/◌, ◌%◌, ◌^◌, ◌<◌, ◌≤◌, List, [], ◌∷◌, ◌++◌, ◌⊎◌, inl, inr, length, take, drop, get_or, replicate, refl, sym, ap, subst, ◌∙◌, arith, append_assoc, append-nil}
use Rattle.std.proofs.Math.Seq.{take-append-add, get_or-append_seam}
use Rattle.std.proofs.lemmas.List.{take-append-le, get_or_past, length-append, length-take-le, length-drop}
use Rattle.std.specs.Net.Addr.{ipv6_octets}
use Rattle.std.specs.declared.net.ipv6_addr.Ipv6Addr.{Ipv6Addr}
use Rattle.std.specs.declared.net.ip_addr.IpAddr.{IpAddr}
use Rattle.std.specs.declared.net.ip_addr.IpAddr.TheVariants.{V4, V6}
use Rattle.drd_fields.specs.dnw_codes.declared.error.DecodeError.{DecodeError}
use Rattle.drd_fields.specs.dnw_decoder.Octets.{Stands}
use Rattle.drd_fields.specs.dnw_decoder.Reading.{IsCut}
use Rattle.drd_fields.proofs.dnw_decoder_lemmas.Standing.{stands_same, stands_within, cut_none}
use Rattle.drd_opt.specs.Subnets.{family_of, address_size, prefix_octets, subnet_head, AddressAt, SubnetAt, RefusesAddress}
use Rattle.drd_opt.specs.declared.subnet.ClientSubnet.{ClientSubnet}

-- So many octets from an index on, with zeros behind the last.
abbrev pub octets_from : ℕ → ℕ → List ℕ → List ℕ
octets_from k zero xs = []
octets_from k (suc n) xs = get_or xs k 0 ∷ octets_from (k + 1) n xs

none_left : (n k : ℕ) (xs : List ℕ) → length xs ≤ k → octets_from k n xs ≡ replicate n 0
none_left zero k xs le = refl
none_left (suc n) k xs le =
    ap (λ (x : ℕ). x ∷ octets_from (k + 1) n xs) (get_or_past xs k 0 le) ∙ ap (λ (t : List ℕ). 0 ∷ t) (none_left n (k + 1) xs (omega arith))

some_left : (n : ℕ) (front xs : List ℕ) (k : ℕ) → length front ≡ k → length xs ≤ n → octets_from k n (front ++ xs) ≡ xs ++ replicate (n - length xs) 0
some_left n front [] k e le =
    none_left n k (front ++ []) (omega (arith, length-append front [])) ∙ ap (λ (m : ℕ). replicate m 0) (omega arith)
some_left zero front (x ∷ xs) k e le = absurd (omega arith)
some_left (suc n) front (x ∷ xs) k e le =
    let here : get_or (front ++ x ∷ xs) k 0 ≡ x = ap (λ (i : ℕ). get_or (front ++ x ∷ xs) i 0) (sym e) ∙ get_or-append_seam front x xs 0 in
    let long : length (front ++ x ∷ []) ≡ k + 1 = omega (arith, length-append front (x ∷ [])) in
    let later : octets_from (k + 1) n (front ++ x ∷ xs) ≡ xs ++ replicate (n - length xs) 0 =
    ap (octets_from (k + 1) n) (sym (append_assoc front (x ∷ []) xs)) ∙ some_left n (front ++ x ∷ []) xs (k + 1) long (omega arith) in
    let count : n - length xs ≡ suc n - length (x ∷ xs) = omega arith in
    ap (λ (y : ℕ). y ∷ octets_from (k + 1) n (front ++ x ∷ xs)) here ∙ ap (λ (t : List ℕ). x ∷ t) (later ∙ ap (λ (m : ℕ). xs ++ replicate m 0) count)

pub octets_padded : (n : ℕ) (xs : List ℕ) → length xs ≤ n → octets_from 0 n xs ≡ xs ++ replicate (n - length xs) 0
octets_padded n xs le = some_left n [] xs 0 refl le

-- A front of some octets behind a head.
pub front_behind : (head front zeros : List ℕ) (n : ℕ) → n ≤ length front → take (length head + n) (head ++ (front ++ zeros)) ≡ head ++ take n front
front_behind head front zeros n le = take-append-add head (front ++ zeros) n ∙ ap (λ (t : List ℕ). head ++ t) (take-append-le n front zeros le)

pub length_behind : (head front : List ℕ) (n : ℕ) → n ≤ length front → length (head ++ take n front) ≡ length head + n
length_behind head front n le = length-append head (take n front) ∙ ap (λ (m : ℕ). length head + m) (length-take-le n front le)

-- Heads that are the same hold the same family and source prefix.
same_head : (f g s t c d : ℕ) → f < 2 ^ 16 → g < 2 ^ 16 → subnet_head f s c ≡ subnet_head g t d → (f ≡ g) × (s ≡ t)
same_head f g s t c d small few same =
    let high : f / 256 % 256 ≡ g / 256 % 256 = cc same in
    let low : f % 256 ≡ g % 256 = cc same in
    let source : s ≡ t = cc same in
    (omega (arith, high, low, small, few), source)

few_families : (address : IpAddr) → family_of address < 2 ^ 16
few_families (V4 a) = omega arith
few_families (V6 a) = omega arith

size_of_family : (address : IpAddr) → ((family_of address ≡ 1) × (address_size address ≡ 4)) ⊎ ((family_of address ≡ 2) × (address_size address ≡ 16))
size_of_family (V4 a) = inl (refl, refl)
size_of_family (V6 a) = inr (refl, refl)

-- Where octets are cut, none of an address stand that are as many.
cut_front : (message : List ℕ) (place wanted : ℕ) (front : List ℕ) (end : ℕ) → place ≤ length message → length front ≡ wanted → length message < place + wanted → Stands message place front end → ⊥
cut_front message place wanted front end le long short there =
    omega (arith, ap length there.there, length-drop place message, length-append front (drop end message), le, long, short)

no_address : (message : List ℕ) (place family source : ℕ) (e : DecodeError) (address : IpAddr) (end : ℕ) → place ≤ length message → RefusesAddress message place family source e → family_of address ≡ family → AddressAt message place source address end → ⊥
no_address message place family source e address end le refused is there =
    elim refused [
      | inl (inl cut) ↦ elim (size_of_family address) [
        | inl (one, four) ↦ cut_front message place (prefix_octets source 4) there.front end le (there.long ∙ ap (prefix_octets source) four) cut.1.1 there.there
        | inr (two, sixteen) ↦ omega (arith, two, is, cut.0)
      ]
      | inl (inr cut) ↦ elim (size_of_family address) [
        | inl (one, four) ↦ omega (arith, one, is, cut.0)
        | inr (two, sixteen) ↦ cut_front message place (prefix_octets source 16) there.front end le (there.long ∙ ap (prefix_octets source) sixteen) cut.1.1 there.there
      ]
      | inr unknown ↦ elim (size_of_family address) [
        | inl (one, four) ↦ unknown.1 (sym is ∙ one)
        | inr (two, sixteen) ↦ unknown.2 (sym is ∙ two)
      ]
    ]

-- Where the head of a subnet stands and its address is refused, no subnet stands.
pub no_subnet : (message : List ℕ) (place family source scope : ℕ) (e : DecodeError) → family < 2 ^ 16 → Stands message place (subnet_head family source scope) (place + 4) → RefusesAddress message (place + 4) family source e → (subnet : ClientSubnet) (end : ℕ) → SubnetAt message place subnet end → ⊥
no_subnet message place family source scope e small head refused subnet end there =
    let heads = stands_same message place (subnet_head (family_of subnet.address) subnet.source_prefix subnet.scope_prefix) (subnet_head family source scope) (place + 4) (place + 4) refl there.0 head in
    let same : (family_of subnet.address ≡ family) × (subnet.source_prefix ≡ source) = same_head (family_of subnet.address) family subnet.source_prefix source subnet.scope_prefix scope (few_families subnet.address) small heads.0 in
    let le : place + 4 ≤ length message = stands_within message place (subnet_head family source scope) (place + 4) (omega arith) head in
    no_address message (place + 4) family source e subnet.address end le refused same.0 (subst (λ (s : ℕ). AddressAt message (place + 4) s subnet.address end) same.1 there.1)

-- Where its head is cut, no subnet stands.
pub no_head : (message : List ℕ) (place : ℕ) (e : DecodeError) → IsCut 4 message place e → (subnet : ClientSubnet) (end : ℕ) → SubnetAt message place subnet end → ⊥
no_head message place e cut subnet end there =
    cut_none message place 4 (subnet_head (family_of subnet.address) subnet.source_prefix subnet.scope_prefix) (place + 4) refl (omega arith) cut.1 there.0

-- The octets of an IPv6 subnet at the front of its whole address.
pub whole_address : (o : List ℕ) (a : Ipv6Addr) (source scope n : ℕ) → o ≡ ipv6_octets a → length o ≡ 16 → n ≡ prefix_octets source 16 → n ≤ 16 → take (4 + n) (0 ∷ 2 ∷ source ∷ scope ∷ octets_from 0 16 o) ≡ subnet_head 2 source scope ++ take (prefix_octets source 16) (ipv6_octets a)
whole_address o a source scope n is long size le =
    let none : 16 - length o ≡ 0 = omega arith in
    let filled : octets_from 0 16 o ≡ o = octets_padded 16 o (omega arith) ∙ ap (λ (k : ℕ). o ++ replicate k 0) none ∙ append-nil o in
    front_behind (0 ∷ 2 ∷ source ∷ scope ∷ []) (octets_from 0 16 o) [] n le
    ∙ ap (λ (t : List ℕ). 0 ∷ 2 ∷ source ∷ scope ∷ take n t) (filled ∙ is)
    ∙ ap (λ (k : ℕ). 0 ∷ 2 ∷ source ∷ scope ∷ take k (ipv6_octets a)) size
