-- A digest is known by its digits in base 32.
use Rattle.std.proofs.Common.{◌≡◌, ℕ, zero, suc, ◌+◌, ◌-◌, ◌*◌, ◌/◌, ◌%◌, ◌^◌, ◌<◌, true, List, [], ◌∷◌, ◌++◌, length, map, drop, get_or, refl, ap, sym, ◌∙◌, arith}
use Rattle.std.specs.Prelude.{cond, nat_lt}
use Rattle.std.specs.Char.{to_ascii_lowercase}
use Rattle.std.specs.Int.{to_be_bytes, w32}
use Rattle.std.specs.List.{AllByRecursion}
use Rattle.std.proofs.lemmas.Bool.Decides.{nat_tests}
use Rattle.std.proofs.lemmas.List.{length-append}
use Rattle.sha1.specs.Sha1.{digest_bytes, hash_after, padded_message, sha1}
use Rattle.zst_absence.specs.dnw_name.DomainName.{DomainName, domain_name, lowercase_name, name_cmp, name_eq, name_octets}
use Rattle.zst_absence.specs.zst_denial.Hashed.{Hashing, digest_of}
use Rattle.zst_absence.specs.zst_hash.Base32.{base32hex, digit, eight_digits, group_number}
use Rattle.zst_absence.specs.zst_hash.Digests.{iterated_hash}
use Rattle.zst_absence.specs.zst_hash.Owners.{hashed_owner}
use Rattle.zst_absence.specs.zst_record.RecordLaws.{name_eq_equiv}
use Rattle.zst_absence.proofs.zst_denial_lemmas.zst_key_lemmas.KeyLemmas.{cmp-lower, cmp-lower-first, eq-lower, one-lower}

-- ---- digits
value : ℕ → ℕ
value c = cond (nat_lt c 58) (c - 48) (c - 87)

digit_value : (n : ℕ) → value (to_ascii_lowercase (digit n)) ≡ n % 32
unfolding value
digit_value n = grind (arith, nat_tests)

same_digit : (n m : ℕ) → to_ascii_lowercase (digit n) ≡ to_ascii_lowercase (digit m) → n % 32 ≡ m % 32
same_digit n m e = sym (digit_value n) ∙ ap value e ∙ digit_value m

one_more : (n m : ℕ) → n / 32 ≡ m / 32 → n % 32 ≡ m % 32 → n ≡ m
one_more n m q r = omega (arith, q, r)

shift_35 : (n : ℕ) → n < 2 ^ 40 → n / 2 ^ 35 % 32 ≡ n / 2 ^ 35
shift_35 n small = omega (arith, small)

shift_30 : (n : ℕ) → n / 2 ^ 30 / 32 ≡ n / 2 ^ 35
shift_30 n = omega (arith)

shift_25 : (n : ℕ) → n / 2 ^ 25 / 32 ≡ n / 2 ^ 30
shift_25 n = omega (arith)

shift_20 : (n : ℕ) → n / 2 ^ 20 / 32 ≡ n / 2 ^ 25
shift_20 n = omega (arith)

shift_15 : (n : ℕ) → n / 2 ^ 15 / 32 ≡ n / 2 ^ 20
shift_15 n = omega (arith)

shift_10 : (n : ℕ) → n / 2 ^ 10 / 32 ≡ n / 2 ^ 15
shift_10 n = omega (arith)

shift_5 : (n : ℕ) → n / 2 ^ 5 / 32 ≡ n / 2 ^ 10
shift_5 n = omega (arith)

shift_0 : (n : ℕ) → n / 32 ≡ n / 2 ^ 5
shift_0 n = omega (arith)

-- Numbers of 40 bits with the same digits.
same_number : (n m : ℕ) → n < 2 ^ 40 → m < 2 ^ 40 → (rest more : List ℕ)
    → map to_ascii_lowercase (eight_digits n ++ rest) ≡ map to_ascii_lowercase (eight_digits m ++ more) → n ≡ m
same_number n m small also rest more e =
    let at : (i : ℕ) → get_or (map to_ascii_lowercase (eight_digits n ++ rest)) i 0 ≡ get_or (map to_ascii_lowercase (eight_digits m ++ more)) i 0 = λ i. ap (λ (l : List ℕ). get_or l i 0) e in
    let q7 : n / 2 ^ 35 ≡ m / 2 ^ 35 = sym (shift_35 n small) ∙ same_digit (n / 2 ^ 35) (m / 2 ^ 35) (at 0) ∙ shift_35 m also in
    let q6 = one_more (n / 2 ^ 30) (m / 2 ^ 30) (shift_30 n ∙ q7 ∙ sym (shift_30 m)) (same_digit (n / 2 ^ 30) (m / 2 ^ 30) (at 1)) in
    let q5 = one_more (n / 2 ^ 25) (m / 2 ^ 25) (shift_25 n ∙ q6 ∙ sym (shift_25 m)) (same_digit (n / 2 ^ 25) (m / 2 ^ 25) (at 2)) in
    let q4 = one_more (n / 2 ^ 20) (m / 2 ^ 20) (shift_20 n ∙ q5 ∙ sym (shift_20 m)) (same_digit (n / 2 ^ 20) (m / 2 ^ 20) (at 3)) in
    let q3 = one_more (n / 2 ^ 15) (m / 2 ^ 15) (shift_15 n ∙ q4 ∙ sym (shift_15 m)) (same_digit (n / 2 ^ 15) (m / 2 ^ 15) (at 4)) in
    let q2 = one_more (n / 2 ^ 10) (m / 2 ^ 10) (shift_10 n ∙ q3 ∙ sym (shift_10 m)) (same_digit (n / 2 ^ 10) (m / 2 ^ 10) (at 5)) in
    let q1 = one_more (n / 2 ^ 5) (m / 2 ^ 5) (shift_5 n ∙ q2 ∙ sym (shift_5 m)) (same_digit (n / 2 ^ 5) (m / 2 ^ 5) (at 6)) in
    one_more n m (shift_0 n ∙ q1 ∙ sym (shift_0 m)) (same_digit n m (at 7))

-- ---- groups of five octets
number_small : (a b c d e : ℕ) → a < 256 → b < 256 → c < 256 → d < 256 → e < 256 → group_number (a ∷ b ∷ c ∷ d ∷ e ∷ []) < 2 ^ 40
number_small a b c d e sa sb sc sd se = omega (arith, sa, sb, sc, sd, se)

octet_off : (n m x y : ℕ) → x < 256 → y < 256 → n * 256 + x ≡ m * 256 + y → (n ≡ m) × (x ≡ y)
octet_off n m x y small also e = (omega (arith, small, also, e), omega (arith, small, also, e))

-- Octets in groups of five with the same digits.
pub same_octets : (k : ℕ) (xs ys : List ℕ) → length xs ≡ k * 5 → length ys ≡ k * 5 → AllByRecursion (λ x. x < 256) xs → AllByRecursion (λ x. x < 256) ys
    → map to_ascii_lowercase (base32hex xs) ≡ map to_ascii_lowercase (base32hex ys) → xs ≡ ys
same_octets zero [] [] long also s t e = refl
same_octets zero (x ∷ xs) ys long also s t e = absurd (omega (arith, long))
same_octets zero [] (y ∷ ys) long also s t e = absurd (omega (arith, also))
same_octets (suc k) (a ∷ b ∷ c ∷ d ∷ f ∷ xs) (g ∷ h ∷ i ∷ j ∷ l ∷ ys) long also s t e =
    let number = same_number (group_number (a ∷ b ∷ c ∷ d ∷ f ∷ [])) (group_number (g ∷ h ∷ i ∷ j ∷ l ∷ []))
    (number_small a b c d f s.0 s.1.0 s.1.1.0 s.1.1.1.0 s.1.1.1.1.0) (number_small g h i j l t.0 t.1.0 t.1.1.0 t.1.1.1.0 t.1.1.1.1.0) (base32hex xs) (base32hex ys) e in
    let fifth = octet_off (((a * 256 + b) * 256 + c) * 256 + d) (((g * 256 + h) * 256 + i) * 256 + j) f l s.1.1.1.1.0 t.1.1.1.1.0 number in
    let fourth = octet_off ((a * 256 + b) * 256 + c) ((g * 256 + h) * 256 + i) d j s.1.1.1.0 t.1.1.1.0 fifth.0 in
    let third = octet_off (a * 256 + b) (g * 256 + h) c i s.1.1.0 t.1.1.0 fourth.0 in
    let second = octet_off a g b h s.1.0 t.1.0 third.0 in
    let later = same_octets k xs ys (omega (arith, long)) (omega (arith, also)) s.1.1.1.1.1 t.1.1.1.1.1 (ap (drop 8) e) in
    λ i. second.0 i ∷ second.1 i ∷ third.1 i ∷ fourth.1 i ∷ fifth.1 i ∷ later i
same_octets (suc k) [] ys long also s t e = absurd (omega (arith, long))
same_octets (suc k) (a ∷ []) ys long also s t e = absurd (omega (arith, long))
same_octets (suc k) (a ∷ b ∷ []) ys long also s t e = absurd (omega (arith, long))
same_octets (suc k) (a ∷ b ∷ c ∷ []) ys long also s t e = absurd (omega (arith, long))
same_octets (suc k) (a ∷ b ∷ c ∷ d ∷ []) ys long also s t e = absurd (omega (arith, long))
same_octets (suc k) (a ∷ b ∷ c ∷ d ∷ f ∷ xs) [] long also s t e = absurd (omega (arith, also))
same_octets (suc k) (a ∷ b ∷ c ∷ d ∷ f ∷ xs) (g ∷ []) long also s t e = absurd (omega (arith, also))
same_octets (suc k) (a ∷ b ∷ c ∷ d ∷ f ∷ xs) (g ∷ h ∷ []) long also s t e = absurd (omega (arith, also))
same_octets (suc k) (a ∷ b ∷ c ∷ d ∷ f ∷ xs) (g ∷ h ∷ i ∷ []) long also s t e = absurd (omega (arith, also))
same_octets (suc k) (a ∷ b ∷ c ∷ d ∷ f ∷ xs) (g ∷ h ∷ i ∷ j ∷ []) long also s t e = absurd (omega (arith, also))

-- ---- what SHA-1 gives
both_parts : (P : ℕ → Type 0) (xs ys : List ℕ) → AllByRecursion P xs → AllByRecursion P ys → AllByRecursion P (xs ++ ys)
both_parts P [] ys s t = t
both_parts P (x ∷ xs) ys s t = (s.0, both_parts P xs ys s.1 t)

small_rest : (n : ℕ) → n % 256 < 256
small_rest n = omega (arith)

digest_small : (h : List ℕ) (n : ℕ) → AllByRecursion (λ x. x < 256) (digest_bytes h n)
unfolding digest_bytes
digest_small h zero = tt
digest_small h (suc n) = both_parts (λ x. x < 256) (digest_bytes h n) (to_be_bytes w32 _) (digest_small h n) (small_rest _, (small_rest _, (small_rest _, (small_rest _, tt))))

pub small_digest : (m : List ℕ) → AllByRecursion (λ x. x < 256) (sha1 m)
unfolding sha1
small_digest m = digest_small (hash_after (padded_message m) (length (padded_message m) / 64)) 5

digest_long : (h : List ℕ) (n : ℕ) → length (digest_bytes h n) ≡ n * 4
unfolding digest_bytes
digest_long h zero = refl
digest_long h (suc n) = length-append (digest_bytes h n) (to_be_bytes w32 _) ∙ ap (λ (k : ℕ). k + 4) (digest_long h n) ∙ omega (arith)

pub long_digest : (m : List ℕ) → length (sha1 m) ≡ 20
unfolding sha1
long_digest m = digest_long (hash_after (padded_message m) (length (padded_message m) / 64)) 5

same_sha1 : (m n : List ℕ) → map to_ascii_lowercase (base32hex (sha1 m)) ≡ map to_ascii_lowercase (base32hex (sha1 n)) → sha1 m ≡ sha1 n
same_sha1 m n same = same_octets 4 (sha1 m) (sha1 n) (long_digest m) (long_digest n) (small_digest m) (small_digest n) same

-- A digest is what SHA-1 gives of some octets.
hashed_octets : (salt x : List ℕ) (k : ℕ) → (m : List ℕ) × (iterated_hash salt x k ≡ sha1 m)
hashed_octets salt x zero = (x ++ salt, refl)
hashed_octets salt x (suc k) = (iterated_hash salt x k ++ salt, refl)

digits_of : DomainName → List ℕ
digits_of name = get_or name.labels 0 []

same_digits : (by : Hashing) (a b o p : DomainName) → name_eq (hashed_owner (digest_of by a) o) (hashed_owner (digest_of by b) p) ≡ true
    → map to_ascii_lowercase (base32hex (digest_of by a)) ≡ map to_ascii_lowercase (base32hex (digest_of by b))
unfolding digits_of
same_digits by a b o p e = ap digits_of (one-lower (hashed_owner (digest_of by a) o) (hashed_owner (digest_of by b) p) e)

-- Names with the same hashed owner have the same digest.
pub same_digest : (by : Hashing) (a b o p : DomainName) → name_eq (hashed_owner (digest_of by a) o) (hashed_owner (digest_of by b) p) ≡ true → digest_of by a ≡ digest_of by b
same_digest by a b o p e =
    let first = hashed_octets by.salt (name_octets (lowercase_name a)) by.iterations in
    let second = hashed_octets by.salt (name_octets (lowercase_name b)) by.iterations in
    let digits : map to_ascii_lowercase (base32hex (sha1 first.0)) ≡ map to_ascii_lowercase (base32hex (sha1 second.0))
    = ap (λ (d : List ℕ). map to_ascii_lowercase (base32hex d)) (sym first.1) ∙ same_digits by a b o p e ∙ ap (λ (d : List ℕ). map to_ascii_lowercase (base32hex d)) second.1 in
    first.1 ∙ same_sha1 first.0 second.0 digits ∙ sym second.1

-- ---- names that are equal
-- Names that are one in lower case have one digest.
pub digest_alike : (by : Hashing) (a b : DomainName) → lowercase_name a ≡ lowercase_name b → digest_of by a ≡ digest_of by b
digest_alike by a b e = ap (λ (n : DomainName). iterated_hash by.salt (name_octets n) by.iterations) e

owner_lower : (d : List ℕ) (o p : DomainName) → lowercase_name o ≡ lowercase_name p → lowercase_name (hashed_owner d o) ≡ lowercase_name (hashed_owner d p)
owner_lower d o p e = ap (λ (n : DomainName). domain_name n.fqdn (map to_ascii_lowercase (base32hex d) ∷ n.labels)) e

-- Hashed owners under one origin, however that is spelled.
pub owner_alike : (d : List ℕ) (o p : DomainName) → lowercase_name o ≡ lowercase_name p → name_eq (hashed_owner d o) (hashed_owner d p) ≡ true
owner_alike d o p e =
    sym (eq-lower (hashed_owner d o) (hashed_owner d p)) ∙ ap (name_eq (hashed_owner d o)) (sym (owner_lower d o p e))
    ∙ eq-lower (hashed_owner d o) (hashed_owner d o) ∙ name_eq_equiv.refl (hashed_owner d o)

pub order_alike : (d e : List ℕ) (o p : DomainName) → lowercase_name o ≡ lowercase_name p → name_cmp (hashed_owner d o) (hashed_owner e o) ≡ name_cmp (hashed_owner d p) (hashed_owner e p)
order_alike d e o p same =
    sym (cmp-lower (hashed_owner d o) (hashed_owner e o)) ∙ sym (cmp-lower-first (hashed_owner d o) (lowercase_name (hashed_owner e o)))
    ∙ (λ i. name_cmp (owner_lower d o p same i) (owner_lower e o p same i))
    ∙ cmp-lower-first (hashed_owner d p) (lowercase_name (hashed_owner e p)) ∙ cmp-lower (hashed_owner d p) (hashed_owner e p)
