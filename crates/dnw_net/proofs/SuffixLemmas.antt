-- The labels below the suffix of a network.
use Rattle.std.proofs.Common.{◌≡◌, ◌∙◌, ◌⊎◌, inl, inr, cond, lt-ltb, le-ltb, ℕ, ◌+◌, ◌-◌, ◌*◌, ◌/◌, ◌%◌, ◌^◌, ◌≤◌, ◌<◌, ◌++◌, List, [], ◌∷◌, length, map, refl, ap, sym, subst, arith, true, All, reverse}
use Rattle.std.specs.Prelude.{decimal, codes}
use Rattle.std.specs.Cmp.Lexicographic.{pointwise, same_text}
use Rattle.std.specs.Char.{to_ascii_lowercase, digit_char, digit_value}
use Rattle.std.specs.Str.{str_to_ascii_lowercase}
use Rattle.std.specs.Str.Parse.{AllDigits, digits_value}
use Rattle.std.specs.Net.Addr.{ipv4_octets, ipv6_octets, ipv6_segments, octets_of, segments_of}
use Rattle.std.specs.declared.net.ip_addr.IpAddr.{IpAddr}
use Rattle.std.specs.declared.net.ip_addr.IpAddr.TheVariants.{V4, V6}
use Rattle.std.specs.declared.net.ipv4_addr.Ipv4Addr.{Ipv4Addr}
use Rattle.std.specs.declared.net.ipv6_addr.Ipv6Addr.{Ipv6Addr}
use Rattle.std.proofs.lemmas.Bool.{cases_lt}
use Rattle.std.proofs.lemmas.Fmt.{digits_value-decimal}
use Rattle.std.proofs.lemmas.Str.{digit_value-digit_char}
use Rattle.std.proofs.lemmas.Str.Ascii.{lowercase_is}
use Rattle.std.proofs.lemmas.Str.Parse.{IsNumeralModel, numerals_by_value, tells_digits}
use Rattle.std.proofs.lemmas.List.{length-map, length-replicate, length-append}
use Rattle.std.proofs.lemmas.List.Elements.{All-head, All-tail, All-nil, All-cons}
use Rattle.dnw_label.specs.Label.{label_eq}
use Rattle.dnw_net.specs.ArpaLabels.{zero_labels, digit_label, hex_digits, suffix_label, IsAddress, IsBelowSuffix, WriteNumbers}
use Rattle.dnw_net.proofs.NetworkLemmas.{same, sames, and-parts, decimal_same, pointwise-length, v4_address, v6_address}

-- The numbers that labels write are no others.

own : IsNumeralModel (AllDigits 10) (digits_value 10)
own = numerals_by_value (AllDigits 10) tells_digits

decimal-one : (n m : ℕ) → n ≤ 255 → m ≤ 255 → label_eq (decimal n) (decimal m) ≡ true → n ≡ m
decimal-one n m small below e =
    sym (digits_value-decimal own n (omega (arith, small))) ∙ ap (digits_value 10) (decimal_same (decimal n) m below e) ∙ digits_value-decimal own m (omega (arith, below))

digit_char-lower : (n : ℕ) → n ≤ 15 → to_ascii_lowercase (digit_char n) ≡ digit_char n
digit_char-lower n small = by_place (cases_lt n 10)
  where
    low : n < 10 → digit_char n ≡ 48 + n
    low h = ap (λ b. cond b (48 + n) (87 + n)) (lt-ltb n 10 h)

    high : 10 ≤ n → digit_char n ≡ 87 + n
    high h = ap (λ b. cond b (48 + n) (87 + n)) (le-ltb n 10 h)

    by_place : (n < 10) ⊎ (10 ≤ n) → to_ascii_lowercase (digit_char n) ≡ digit_char n
    by_place (inl h) = (lowercase_is (digit_char n)).1 (omega (arith, low h, h))
    by_place (inr h) = (lowercase_is (digit_char n)).2 (omega (arith, high h, h))

digit-one : (n m : ℕ) → n ≤ 15 → m ≤ 15 → label_eq (digit_label n) (digit_label m) ≡ true → n ≡ m
digit-one n m small below e =
    let lower : to_ascii_lowercase (digit_char n) ∷ [] ≡ to_ascii_lowercase (digit_char m) ∷ [] = same_text (str_to_ascii_lowercase (digit_label n)) (str_to_ascii_lowercase (digit_label m)) (sym e) in
    let chars : to_ascii_lowercase (digit_char n) ≡ to_ascii_lowercase (digit_char m) = cc in
    sym (digit_value-digit_char n (omega (arith, small)))
    ∙ ap digit_value (sym (digit_char-lower n small) ∙ chars ∙ digit_char-lower m below)
    ∙ digit_value-digit_char m (omega (arith, below))

numbers-one : (written : ℕ → List ℕ) (last : ℕ) → ((n m : ℕ) → n ≤ last → m ≤ last → label_eq (written n) (written m) ≡ true → n ≡ m) → (ns ms : List ℕ) → All (λ n. n ≤ last) ns → All (λ n. n ≤ last) ms → pointwise label_eq (map written ns) (map written ms) ≡ true → ns ≡ ms
numbers-one written last one [] [] a b e = refl
numbers-one written last one [] (m ∷ ms) a b e = absurd (cc)
numbers-one written last one (n ∷ ns) [] a b e = absurd (cc)
numbers-one written last one (n ∷ ns) (m ∷ ms) a b e =
    let parts = and-parts (label_eq (written n) (written m)) (pointwise label_eq (map written ns) (map written ms)) e in
    let first : n ≡ m = one n m (All-head (λ n. n ≤ last) n ns a) (All-head (λ n. n ≤ last) m ms b) parts.0 in
    let rest : ns ≡ ms = numbers-one written last one ns ms (All-tail (λ n. n ≤ last) n ns a) (All-tail (λ n. n ≤ last) m ms b) parts.1 in
    cc

-- The same labels write the same numbers, with as many missing.
writes-one : (written : ℕ → List ℕ) (last : ℕ) → ((n m : ℕ) → n ≤ last → m ≤ last → label_eq (written n) (written m) ≡ true → n ≡ m) → (labels : List (List ℕ)) (missing other : ℕ) (ns ms : List ℕ) → length ns ≡ length ms → All (λ n. n ≤ last) ns → All (λ n. n ≤ last) ms → WriteNumbers written labels missing ns → WriteNumbers written labels other ms → (missing ≡ other) × (ns ≡ ms)
writes-one written last one labels missing other ns ms long a b h k =
    let count : missing ≡ other = omega (
      arith,
      pointwise-length (reverse labels ++ zero_labels missing) (map written ns) h,
      pointwise-length (reverse labels ++ zero_labels other) (map written ms) k,
      length-map ns written,
      length-map ms written,
      length-append (reverse labels) (zero_labels missing),
      length-append (reverse labels) (zero_labels other),
      length-replicate missing (codes "0"),
      length-replicate other (codes "0"),
      long,
    ) in
    let again : WriteNumbers written labels missing ms = subst (λ n. WriteNumbers written labels n ms) (sym count) k in
    let both : pointwise label_eq (map written ns) (map written ms) ≡ true = sym (sames.congr (reverse labels ++ zero_labels missing) (map written ns) (map written ms) h) ∙ again in
    (count, numbers-one written last one ns ms a b both)

hex_digits-one : (ns ms : List ℕ) → hex_digits ns ≡ hex_digits ms → ns ≡ ms
hex_digits-one [] [] e = refl
hex_digits-one [] (m ∷ ms) e = absurd (cc)
hex_digits-one (n ∷ ns) [] e = absurd (cc)
hex_digits-one (n ∷ ns) (m ∷ ms) e =
    let high : n / 16 ≡ m / 16 = cc in
    let low : n % 16 ≡ m % 16 = cc in
    let rest : hex_digits ns ≡ hex_digits ms = cc in
    let first : n ≡ m = omega (arith, high, low) in
    let others : ns ≡ ms = hex_digits-one ns ms rest in
    cc

octets_of-one : (ns ms : List ℕ) → octets_of ns ≡ octets_of ms → ns ≡ ms
octets_of-one [] [] e = refl
octets_of-one [] (m ∷ ms) e = absurd (cc)
octets_of-one (n ∷ ns) [] e = absurd (cc)
octets_of-one (n ∷ ns) (m ∷ ms) e =
    let high : n / 256 ≡ m / 256 = cc in
    let low : n % 256 ≡ m % 256 = cc in
    let rest : octets_of ns ≡ octets_of ms = cc in
    let first : n ≡ m = omega (arith, high, low) in
    let others : ns ≡ ms = octets_of-one ns ms rest in
    cc

hex_digits-length : (ns : List ℕ) → length (hex_digits ns) ≡ 2 * length ns
hex_digits-length [] = refl
hex_digits-length (n ∷ ns) = omega (arith, hex_digits-length ns)

octets_of-length : (ns : List ℕ) → length (octets_of ns) ≡ 2 * length ns
octets_of-length [] = refl
octets_of-length (n ∷ ns) = omega (arith, octets_of-length ns)

octets_of-below : (ns : List ℕ) → All (λ n. n < 2 ^ 16) ns → All (λ n. n ≤ 255) (octets_of ns)
octets_of-below [] all = All-nil (λ n. n ≤ 255)
octets_of-below (n ∷ ns) all =
    let small : n < 2 ^ 16 = All-head (λ n. n < 2 ^ 16) n ns all in
    All-cons (λ n. n ≤ 255) (n / 256) ((n % 256) ∷ octets_of ns) (omega (arith, small))
    (All-cons (λ n. n ≤ 255) (n % 256) (octets_of ns) (omega arith) (octets_of-below ns (All-tail (λ n. n < 2 ^ 16) n ns all)))

hex_digits-below : (ns : List ℕ) → All (λ n. n ≤ 255) ns → All (λ n. n ≤ 15) (hex_digits ns)
hex_digits-below [] all = All-nil (λ n. n ≤ 15)
hex_digits-below (n ∷ ns) all =
    let small : n ≤ 255 = All-head (λ n. n ≤ 255) n ns all in
    All-cons (λ n. n ≤ 15) (n / 16) ((n % 16) ∷ hex_digits ns) (omega (arith, small))
    (All-cons (λ n. n ≤ 15) (n % 16) (hex_digits ns) (omega arith) (hex_digits-below ns (All-tail (λ n. n ≤ 255) n ns all)))

pub numbers-v4 : (a : Ipv4Addr) → IsAddress (V4 a) → (length (ipv4_octets a) ≡ 4) × All (λ n. n ≤ 255) (ipv4_octets a)
numbers-v4 a h = (h.0, λ k d lt. omega (arith, h.1 k d lt))

pub numbers-v6 : (a : Ipv6Addr) → IsAddress (V6 a) → (length (hex_digits (ipv6_octets a)) ≡ 32) × All (λ n. n ≤ 15) (hex_digits (ipv6_octets a))
numbers-v6 a h = (
  omega (arith, hex_digits-length (ipv6_octets a), octets_of-length (ipv6_segments a), h.0),
  hex_digits-below (ipv6_octets a) (octets_of-below (ipv6_segments a) h.1),
)

v4-one : (a b : Ipv4Addr) → ipv4_octets a ≡ ipv4_octets b → a ≡ b
v4-one a b e = ap (λ o. record { octets = o }) e

v6-one : (a b : Ipv6Addr) → ipv6_segments a ≡ ipv6_segments b → a ≡ b
v6-one a b e = ap (λ o. record { segments = o }) e

-- Labels are those of one network at most, below a suffix.
pub network-one : (below : List (List ℕ)) (a b : IpAddr) (p q : ℕ) → suffix_label a ≡ suffix_label b → IsBelowSuffix below a p → IsBelowSuffix below b q → (a ≡ b) × (p ≡ q)
network-one below (V4 a) (V4 b) p q e h k =
    let x = numbers-v4 a h.address in
    let y = numbers-v4 b k.address in
    let one = writes-one decimal 255 decimal-one below h.missing k.missing (ipv4_octets a) (ipv4_octets b) (x.0 ∙ sym y.0) x.1 y.1 h.written k.written in
    (ap V4 (v4-one a b one.1), omega (arith, h.bits, k.bits, one.0))
network-one below (V6 a) (V6 b) p q e h k =
    let x = numbers-v6 a h.address in
    let y = numbers-v6 b k.address in
    let one = writes-one digit_label 15 digit-one below h.missing k.missing (hex_digits (ipv6_octets a)) (hex_digits (ipv6_octets b)) (x.0 ∙ sym y.0) x.1 y.1 h.written k.written in
    (ap V6 (v6-one a b (octets_of-one (ipv6_segments a) (ipv6_segments b) (hex_digits-one (ipv6_octets a) (ipv6_octets b) one.1))), omega (arith, h.bits, k.bits, one.0))
network-one below (V4 a) (V6 b) p q e h k = absurd (cc)
network-one below (V6 a) (V4 b) p q e h k = absurd (cc)

v4-suffix : (addr : IpAddr) → label_eq (codes "in-addr") (suffix_label addr) ≡ true → suffix_label addr ≡ codes "in-addr"
v4-suffix (V4 a) e = refl
v4-suffix (V6 a) e = absurd (cc)

v6-suffix : (addr : IpAddr) → label_eq (codes "ip6") (suffix_label addr) ≡ true → suffix_label addr ≡ codes "ip6"
v6-suffix (V6 a) e = refl
v6-suffix (V4 a) e = absurd (cc)

pub suffix-v4 : (kind : List ℕ) → label_eq kind (codes "in-addr") ≡ true → (addr : IpAddr) → label_eq kind (suffix_label addr) ≡ true → suffix_label addr ≡ codes "in-addr"
suffix-v4 kind e addr h = v4-suffix addr (sym (same.congr kind (codes "in-addr") (suffix_label addr) e) ∙ h)

pub suffix-v6 : (kind : List ℕ) → label_eq kind (codes "ip6") ≡ true → (addr : IpAddr) → label_eq kind (suffix_label addr) ≡ true → suffix_label addr ≡ codes "ip6"
suffix-v6 kind e addr h = v6-suffix addr (sym (same.congr kind (codes "ip6") (suffix_label addr) e) ∙ h)

pub suffix-either : (addr : IpAddr) → (suffix_label addr ≡ codes "in-addr") ⊎ (suffix_label addr ≡ codes "ip6")
suffix-either (V4 a) = inl refl
suffix-either (V6 a) = inr refl

-- What the readers' results say.

pub v4-below : (labels : List (List ℕ)) (addr : IpAddr) (prefix count : ℕ) (a : Ipv4Addr) (octets : List ℕ) → addr ≡ V4 a → prefix ≡ 8 * count → ipv4_octets a ≡ octets → length octets ≡ 4 → All (λ n. n ≤ 255) octets → count ≤ 4 → WriteNumbers decimal labels (4 - count) octets → IsBelowSuffix labels addr prefix × (suffix_label addr ≡ codes "in-addr")
v4-below labels addr prefix count a octets e f g size below few h =
    subst (λ x. IsBelowSuffix labels x prefix × (suffix_label x ≡ codes "in-addr")) (sym e) (
      record {
        missing = 4 - count;
        bits = omega (arith, f, few);
        address = v4_address a (ap length g ∙ size) (subst (All (λ n. n ≤ 255)) (sym g) below);
        written = subst (WriteNumbers decimal labels (4 - count)) (sym g) h;
      },
      refl,
    )

octets-below : (ns : List ℕ) → All (λ n. n ≤ 15) (hex_digits ns) → All (λ n. n ≤ 255) ns
octets-below [] all = All-nil (λ n. n ≤ 255)
octets-below (n ∷ ns) all =
    let rest = All-tail (λ n. n ≤ 15) (n / 16) ((n % 16) ∷ hex_digits ns) all in
    All-cons (λ n. n ≤ 255) n ns (omega (arith, All-head (λ n. n ≤ 15) (n / 16) ((n % 16) ∷ hex_digits ns) all)) (octets-below ns (All-tail (λ n. n ≤ 15) (n % 16) (hex_digits ns) rest))

pub v6-below : (labels : List (List ℕ)) (addr : IpAddr) (prefix count : ℕ) (a : Ipv6Addr) (octets digits : List ℕ) → addr ≡ V6 a → prefix ≡ 4 * count → ipv6_segments a ≡ segments_of octets → length octets ≡ 16 → hex_digits octets ≡ digits → All (λ n. n ≤ 15) digits → count ≤ 32 → WriteNumbers digit_label labels (32 - count) digits → IsBelowSuffix labels addr prefix × (suffix_label addr ≡ codes "ip6")
v6-below labels addr prefix count a octets digits e f g size joined below few h =
    let is = v6_address a octets g size (octets-below octets (subst (All (λ n. n ≤ 15)) (sym joined) below)) in
    subst (λ x. IsBelowSuffix labels x prefix × (suffix_label x ≡ codes "ip6")) (sym e) (
      record {
        missing = 32 - count;
        bits = omega (arith, f, few);
        address = is.0;
        written = subst (WriteNumbers digit_label labels (32 - count)) (sym (ap hex_digits is.1 ∙ joined)) h;
      },
      refl,
    )

pub v6-refused : (labels : List (List ℕ)) → ((missing : ℕ) (others : List ℕ) → length others ≡ 32 → All (λ n. n ≤ 15) others → WriteNumbers digit_label labels missing others → ⊥) → (addr : IpAddr) (prefix : ℕ) → suffix_label addr ≡ codes "ip6" → IsBelowSuffix labels addr prefix → ⊥
v6-refused labels none (V4 a) prefix e h = absurd (cc)
v6-refused labels none (V6 a) prefix e h =
    let is = numbers-v6 a h.address in
    none h.missing (hex_digits (ipv6_octets a)) is.0 is.1 h.written
