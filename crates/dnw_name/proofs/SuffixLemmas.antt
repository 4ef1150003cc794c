-- Names of networks and the labels below their suffix.
use Rattle.std.proofs.Common.{◌≡◌, ◌∙◌, ◌⊎◌, inl, inr, ℕ, zero, ◌/◌, ◌%◌, suc, ◌++◌, Bool, false, ◌&&◌, List, [], ◌∷◌, map, refl, ap, sym, subst, arith, true, reverse, flat_map}
use Rattle.std.specs.Prelude.{decimal, codes, nat_eq, IfOk, OnErr}
use Rattle.std.specs.Bool.{beq}
use Rattle.std.specs.Cmp.Lexicographic.{pointwise, same_text}
use Rattle.std.specs.Str.{str_to_ascii_lowercase}
use Rattle.std.specs.Result.{IsOkAnd}
use Rattle.std.specs.declared.result.Result.{Result}
use Rattle.std.specs.declared.result.Result.TheVariants.{Ok, Err}
use Rattle.std.specs.Net.Addr.{ipv4_octets, ipv6_octets}
use Rattle.std.specs.declared.net.ip_addr.IpAddr.{IpAddr}
use Rattle.std.specs.declared.net.ip_addr.IpAddr.TheVariants.{V4, V6}
use Rattle.std.proofs.lemmas.Cmp.{nat_list_eq_equiv}
use Rattle.std.proofs.lemmas.Grind.{flat_map-append}
use Rattle.std.proofs.lemmas.List.{reverse-append, append-nil, append_assoc}
use Rattle.std.proofs.lemmas.List.Concat.{flat_map_single}
use Rattle.dnw_net.specs.dnw_label.Label.{label_eq}
use Rattle.dnw_net.specs.Networks.{address_bits}
use Rattle.dnw_name.specs.DomainName.{DomainName, domain_name, name_eq}
use Rattle.dnw_name.specs.NameOrderLaws.{pointwise-reverse}
use Rattle.dnw_net.specs.ArpaLabels.{zero_labels, digit_label, hex_digits, v4_labels, v6_labels, address_numbers, number_label, suffix_label, IsAddress, IsBelowSuffix}
use Rattle.dnw_name.specs.Arpa.{arpa_name, IsArpaName, EndsInArpa}
use Rattle.dnw_net.proofs.NetworkLemmas.{sames, and-parts, and-both}
use Rattle.dnw_net.proofs.SuffixLemmas.{network-one, suffix-either}

pub lower-from : (xs ys : List ℕ) → label_eq xs ys ≡ true → str_to_ascii_lowercase xs ≡ str_to_ascii_lowercase ys
lower-from xs ys e = same_text (str_to_ascii_lowercase xs) (str_to_ascii_lowercase ys) (sym e)

pub label_eq-from : (xs ys : List ℕ) → str_to_ascii_lowercase xs ≡ str_to_ascii_lowercase ys → label_eq xs ys ≡ true
label_eq-from xs ys e = subst (λ t. pointwise nat_eq (str_to_ascii_lowercase xs) t ≡ true) e (nat_list_eq_equiv.refl (str_to_ascii_lowercase xs))

-- The labels of an address, from the right.

reverse-flat : (f g : ℕ → List (List ℕ)) → ((n : ℕ) → reverse (f n) ≡ g n) → (ns : List ℕ) → reverse (flat_map f (reverse ns)) ≡ flat_map g ns
reverse-flat f g e [] = refl
reverse-flat f g e (n ∷ ns) =
    ap (λ xs. reverse (flat_map f xs)) (reverse-append (n ∷ []) ns)
    ∙ ap reverse (flat_map-append f (reverse ns) (n ∷ []))
    ∙ reverse-append (flat_map f (reverse ns)) (f n ++ [])
    ∙ ap (λ xs. reverse xs ++ reverse (flat_map f (reverse ns))) (append-nil (f n))
    ∙ ap (λ xs. xs ++ reverse (flat_map f (reverse ns))) (e n)
    ∙ ap (λ xs. g n ++ xs) (reverse-flat f g e ns)

map-flat : (ns : List ℕ) → flat_map (λ n. digit_label (n / 16) ∷ digit_label (n % 16) ∷ []) ns ≡ map digit_label (hex_digits ns)
map-flat [] = refl
map-flat (n ∷ ns) = ap (λ xs. digit_label (n / 16) ∷ digit_label (n % 16) ∷ xs) (map-flat ns)

arpa-reversed : (addr : IpAddr) → reverse (arpa_name addr).labels ≡ codes "arpa" ∷ suffix_label addr ∷ map (number_label addr) (address_numbers addr)
arpa-reversed (V4 a) =
    reverse-append (flat_map v4_labels (reverse (ipv4_octets a))) (codes "in-addr" ∷ codes "arpa" ∷ [])
    ∙ ap (λ xs. codes "arpa" ∷ codes "in-addr" ∷ xs)
    (reverse-flat v4_labels (λ n. decimal n ∷ []) (λ n. refl) (ipv4_octets a) ∙ flat_map_single decimal (ipv4_octets a))
arpa-reversed (V6 a) =
    reverse-append (flat_map v6_labels (reverse (ipv6_octets a))) (codes "ip6" ∷ codes "arpa" ∷ [])
    ∙ ap (λ xs. codes "arpa" ∷ codes "ip6" ∷ xs)
    (reverse-flat v6_labels (λ n. digit_label (n / 16) ∷ digit_label (n % 16) ∷ []) (λ n. refl) (ipv6_octets a) ∙ map-flat (ipv6_octets a))

arpa-fqdn : (addr : IpAddr) → (arpa_name addr).fqdn ≡ true
arpa-fqdn (V4 a) = refl
arpa-fqdn (V6 a) = refl

zeros-last : (n : ℕ) → zero_labels n ++ codes "0" ∷ [] ≡ zero_labels (suc n)
zeros-last zero = refl
zeros-last (suc n) = ap (λ xs. codes "0" ∷ xs) (zeros-last n)

reverse-zeros : (n : ℕ) → reverse (zero_labels n) ≡ zero_labels n
reverse-zeros zero = refl
reverse-zeros (suc n) = reverse-append (codes "0" ∷ []) (zero_labels n) ∙ ap (λ xs. xs ++ codes "0" ∷ []) (reverse-zeros n) ∙ zeros-last n

-- What a name of a network is, from the right.
named-is : (name : DomainName) (missing : ℕ) (addr : IpAddr) → name_eq (domain_name name.fqdn (zero_labels missing ++ name.labels)) (arpa_name addr) ≡ (beq name.fqdn true && pointwise label_eq (reverse name.labels ++ zero_labels missing) (codes "arpa" ∷ suffix_label addr ∷ map (number_label addr) (address_numbers addr)))
named-is name missing addr =
    ap (λ f. beq name.fqdn f && pointwise label_eq (zero_labels missing ++ name.labels) (arpa_name addr).labels) (arpa-fqdn addr)
    ∙ ap (λ b. beq name.fqdn true && b)
    (sym (pointwise-reverse label_eq (zero_labels missing ++ name.labels) (arpa_name addr).labels)
    ∙ ap (λ xs. pointwise label_eq xs (reverse (arpa_name addr).labels)) (reverse-append (zero_labels missing) name.labels ∙ ap (λ xs. reverse name.labels ++ xs) (reverse-zeros missing))
    ∙ ap (λ ys. pointwise label_eq (reverse name.labels ++ zero_labels missing) ys) (arpa-reversed addr))

beq-true : (b : Bool) → beq b true ≡ b
beq-true true = refl
beq-true false = refl

pub record Named (name : DomainName) (missing : ℕ) (addr : IpAddr) : Type 0 where
  pub fqdn : name.fqdn ≡ true
  pub matches : pointwise label_eq (reverse name.labels ++ zero_labels missing) (codes "arpa" ∷ suffix_label addr ∷ map (number_label addr) (address_numbers addr)) ≡ true

named-parts : (name : DomainName) (addr : IpAddr) (prefix : ℕ) (h : IsArpaName name addr prefix) → Named name h.missing addr
named-parts name addr prefix h =
    let parts = and-parts (beq name.fqdn true) (pointwise label_eq (reverse name.labels ++ zero_labels h.missing) (codes "arpa" ∷ suffix_label addr ∷ map (number_label addr) (address_numbers addr))) (sym (named-is name h.missing addr) ∙ h.named) in
    record { fqdn = sym (beq-true name.fqdn) ∙ parts.0; matches = parts.1 }

-- Relative names, and names that end otherwise.

pub no-relative : (name : DomainName) → name.fqdn ≡ false → (addr : IpAddr) (prefix : ℕ) → IsArpaName name addr prefix → ⊥
no-relative name e addr prefix h = let fully : name.fqdn ≡ true = (named-parts name addr prefix h).fqdn in absurd (cc)

no-zero_arpa : (missing : ℕ) (rest : List (List ℕ)) → pointwise label_eq (zero_labels missing) (codes "arpa" ∷ rest) ≡ true → ⊥
no-zero_arpa zero rest e = absurd (cc)
no-zero_arpa (suc n) rest e = absurd (cc)

no-zero_suffix : (addr : IpAddr) (missing : ℕ) (rest : List (List ℕ)) → pointwise label_eq (zero_labels missing) (suffix_label addr ∷ rest) ≡ true → ⊥
no-zero_suffix addr zero rest e = absurd (cc)
no-zero_suffix (V4 a) (suc n) rest e = absurd (cc)
no-zero_suffix (V6 a) (suc n) rest e = absurd (cc)

pub no-label : (name : DomainName) → name.labels ≡ [] → (addr : IpAddr) (prefix : ℕ) → IsArpaName name addr prefix → ⊥
no-label name e addr prefix h =
    no-zero_arpa h.missing (suffix_label addr ∷ map (number_label addr) (address_numbers addr))
    (subst (λ xs. pointwise label_eq (reverse xs ++ zero_labels h.missing) (codes "arpa" ∷ suffix_label addr ∷ map (number_label addr) (address_numbers addr)) ≡ true) e (named-parts name addr prefix h).matches)

pub reversed-two : (behind : List (List ℕ)) (top : List ℕ) → reverse (behind ++ top ∷ []) ≡ top ∷ reverse behind
reversed-two behind top = reverse-append behind (top ∷ [])

top-parts : (name : DomainName) (behind : List (List ℕ)) (top : List ℕ) → name.labels ≡ behind ++ top ∷ [] → (addr : IpAddr) (prefix : ℕ) (h : IsArpaName name addr prefix) → (label_eq top (codes "arpa") ≡ true) × (pointwise label_eq (reverse behind ++ zero_labels h.missing) (suffix_label addr ∷ map (number_label addr) (address_numbers addr)) ≡ true)
top-parts name behind top e addr prefix h =
    and-parts (label_eq top (codes "arpa")) (pointwise label_eq (reverse behind ++ zero_labels h.missing) (suffix_label addr ∷ map (number_label addr) (address_numbers addr)))
    (subst (λ xs. pointwise label_eq (xs ++ zero_labels h.missing) (codes "arpa" ∷ suffix_label addr ∷ map (number_label addr) (address_numbers addr)) ≡ true) (ap reverse e ∙ reversed-two behind top) (named-parts name addr prefix h).matches)

pub no-arpa : (name : DomainName) (behind : List (List ℕ)) (top : List ℕ) → name.labels ≡ behind ++ top ∷ [] → (str_to_ascii_lowercase top ≡ codes "arpa" → ⊥) → (addr : IpAddr) (prefix : ℕ) → IsArpaName name addr prefix → ⊥
no-arpa name behind top e other addr prefix h = other (lower-from top (codes "arpa") (top-parts name behind top e addr prefix h).0)

pub no-second : (name : DomainName) (behind : List (List ℕ)) (top : List ℕ) → name.labels ≡ behind ++ top ∷ [] → behind ≡ [] → (addr : IpAddr) (prefix : ℕ) → IsArpaName name addr prefix → ⊥
no-second name behind top e none addr prefix h =
    no-zero_suffix addr h.missing (map (number_label addr) (address_numbers addr))
    (subst (λ xs. pointwise label_eq (reverse xs ++ zero_labels h.missing) (suffix_label addr ∷ map (number_label addr) (address_numbers addr)) ≡ true) none (top-parts name behind top e addr prefix h).1)

-- Between a name and the labels below its suffix.

pub record Below (below : List (List ℕ)) (kind : List ℕ) (addr : IpAddr) (prefix : ℕ) : Type 0 where
  pub suffix : label_eq kind (suffix_label addr) ≡ true
  pub network : IsBelowSuffix below addr prefix

pub two-labels : (below : List (List ℕ)) (kind top : List ℕ) → below ++ kind ∷ top ∷ [] ≡ (below ++ kind ∷ []) ++ top ∷ []
two-labels below kind top = sym (append_assoc below (kind ∷ []) (top ∷ []))

pub below-from : (name : DomainName) (below : List (List ℕ)) (kind : List ℕ) → EndsInArpa name below kind → (addr : IpAddr) (prefix : ℕ) → IsArpaName name addr prefix → Below below kind addr prefix
below-from name below kind ends addr prefix h =
    let top = top-parts name (below ++ kind ∷ []) ends.top (ends.labels ∙ two-labels below kind ends.top) addr prefix h in
    let parts = and-parts (label_eq kind (suffix_label addr)) (pointwise label_eq (reverse below ++ zero_labels h.missing) (map (number_label addr) (address_numbers addr)))
    (subst (λ xs. pointwise label_eq (xs ++ zero_labels h.missing) (suffix_label addr ∷ map (number_label addr) (address_numbers addr)) ≡ true) (reversed-two below kind) top.1) in
    record { suffix = parts.0; network = record { missing = h.missing; bits = h.bits; address = h.address; written = parts.1 } }

pub name-from : (name : DomainName) (below : List (List ℕ)) (kind : List ℕ) → EndsInArpa name below kind → (addr : IpAddr) (prefix : ℕ) → label_eq kind (suffix_label addr) ≡ true → IsBelowSuffix below addr prefix → IsArpaName name addr prefix
name-from name below kind ends addr prefix suffix h =
    let labels : reverse name.labels ≡ ends.top ∷ kind ∷ reverse below =
    ap reverse (ends.labels ∙ two-labels below kind ends.top) ∙ reversed-two (below ++ kind ∷ []) ends.top ∙ ap (λ xs. ends.top ∷ xs) (reversed-two below kind) in
    let rest : pointwise label_eq (reverse name.labels ++ zero_labels h.missing) (codes "arpa" ∷ suffix_label addr ∷ map (number_label addr) (address_numbers addr)) ≡ true =
    subst (λ xs. pointwise label_eq (xs ++ zero_labels h.missing) (codes "arpa" ∷ suffix_label addr ∷ map (number_label addr) (address_numbers addr)) ≡ true) (sym labels)
    (and-both (label_eq ends.top (codes "arpa")) (label_eq kind (suffix_label addr) && pointwise label_eq (reverse below ++ zero_labels h.missing) (map (number_label addr) (address_numbers addr))) ends.arpa
    (and-both (label_eq kind (suffix_label addr)) (pointwise label_eq (reverse below ++ zero_labels h.missing) (map (number_label addr) (address_numbers addr))) suffix h.written)) in
    record {
      missing = h.missing;
      bits = h.bits;
      address = h.address;
      named = named-is name h.missing addr ∙ and-both (beq name.fqdn true) (pointwise label_eq (reverse name.labels ++ zero_labels h.missing) (codes "arpa" ∷ suffix_label addr ∷ map (number_label addr) (address_numbers addr))) (beq-true name.fqdn ∙ ends.fqdn) rest;
    }

-- What a reader of labels below a suffix says of the name.

pub name-read : (name : DomainName) (below : List (List ℕ)) (kind suffix : List ℕ) → EndsInArpa name below kind → label_eq kind suffix ≡ true → (addr : IpAddr) (prefix : ℕ) → IsBelowSuffix below addr prefix → suffix_label addr ≡ suffix → IsArpaName name addr prefix
name-read name below kind suffix ends e addr prefix h k = name-from name below kind ends addr prefix (ap (label_eq kind) k ∙ e) h

-- Another label than the two stands before no network.
pub no-suffix : (name : DomainName) (below : List (List ℕ)) (kind : List ℕ) → EndsInArpa name below kind → (str_to_ascii_lowercase kind ≡ codes "in-addr" → ⊥) → (str_to_ascii_lowercase kind ≡ codes "ip6" → ⊥) → (addr : IpAddr) (prefix : ℕ) → IsArpaName name addr prefix → ⊥
no-suffix name below kind ends no4 no6 addr prefix h = by_suffix (suffix-either addr)
  where
    suffix : label_eq kind (suffix_label addr) ≡ true
    suffix = (below-from name below kind ends addr prefix h).suffix

    by_suffix : (suffix_label addr ≡ codes "in-addr") ⊎ (suffix_label addr ≡ codes "ip6") → ⊥
    by_suffix (inl e) = no4 (lower-from kind (codes "in-addr") (ap (label_eq kind) (sym e) ∙ suffix))
    by_suffix (inr e) = no6 (lower-from kind (codes "ip6") (ap (label_eq kind) (sym e) ∙ suffix))

-- The name of an address is that of its network with a whole prefix.
pub address-named : (addr : IpAddr) → IsAddress addr → IsArpaName (arpa_name addr) addr (address_bits addr)
address-named addr h =
    record {
      missing = 0;
      bits = omega arith;
      address = h;
      named = named addr;
    }
  where
    named : (addr : IpAddr) → name_eq (domain_name (arpa_name addr).fqdn (arpa_name addr).labels) (arpa_name addr) ≡ true
    named (V4 a) = sames.refl (arpa_name (V4 a)).labels
    named (V6 a) = sames.refl (arpa_name (V6 a)).labels

module _ {N E : Type 0} (addr_of : N → IpAddr) (prefix_of : N → ℕ) (name : DomainName) (below : List (List ℕ)) (kind suffix : List ℕ) where
  pub result-ok : (r : Result N E) → EndsInArpa name below kind → label_eq kind suffix ≡ true → IfOk r (λ net. IsBelowSuffix below (addr_of net) (prefix_of net) × (suffix_label (addr_of net) ≡ suffix)) → IfOk r (λ net. IsArpaName name (addr_of net) (prefix_of net))
  result-ok (Ok net) ends e h = name-read name below kind suffix ends e (addr_of net) (prefix_of net) h.0 h.1
  result-ok (Err e) ends f h = tt

  pub result-only : (r : Result N E) → EndsInArpa name below kind → ((addr : IpAddr) → label_eq kind (suffix_label addr) ≡ true → suffix_label addr ≡ suffix) → IfOk r (λ net. IsBelowSuffix below (addr_of net) (prefix_of net) × (suffix_label (addr_of net) ≡ suffix)) → OnErr r ((addr : IpAddr) (prefix : ℕ) → suffix_label addr ≡ suffix → IsBelowSuffix below addr prefix → ⊥) → (addr : IpAddr) (prefix : ℕ) → IsArpaName name addr prefix → IsOkAnd r (λ net. (addr_of net ≡ addr) × (prefix_of net ≡ prefix))
  result-only (Ok net) ends kinds h none addr prefix is =
      let b = below-from name below kind ends addr prefix is in
      network-one below (addr_of net) addr (prefix_of net) prefix (h.1 ∙ sym (kinds addr b.suffix)) h.0 b.network
  result-only (Err e) ends kinds h none addr prefix is =
      let b = below-from name below kind ends addr prefix is in
      none addr prefix (kinds addr b.suffix) b.network

pub address-from : (name : DomainName) (Q : IpAddr → ℕ → Type 0) → ((addr : IpAddr) (prefix : ℕ) → IsArpaName name addr prefix → Q addr prefix) → (addr : IpAddr) → IsAddress addr → name ≡ arpa_name addr → Q addr (address_bits addr)
address-from name Q only addr h e = only addr (address_bits addr) (subst (λ n. IsArpaName n addr (address_bits addr)) (sym e) (address-named addr h))
