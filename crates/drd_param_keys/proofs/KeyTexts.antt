-- Keys that stand in texts.
use Rattle.std.proofs.Common.{◌≡◌, ℕ, ◌<◌, ◌==◌, ◌&&◌, Bool, true, false, List, [], ◌∷◌, nat_lt, length, drop, nat_eq, nat_le, cond, refl, sym, ap, subst, ◌∙◌, arith}
use Rattle.std.specs.Prelude.{Option, Some, None, Ok, Err, codes, find, unwrap_or}
use Rattle.std.specs.List.{starts_with}
use Rattle.std.specs.Option.{option_or, option_map, ok_or}
use Rattle.std.specs.Str.{all_ascii_digits, bytes_eq}
use Rattle.std.specs.Str.Parse.{digits_value}
use Rattle.std.proofs.lemmas.Bool.Decides.{nat_tests}
use Rattle.drd_words.specs.dnw_codes.Digits.{number_of_digits, number_behind}
use Rattle.drd_param_keys.specs.Keys.{key_number, key_of, key_name, named_keys, IsKey}
use Rattle.drd_param_keys.specs.Texts.{IsKeyText}
use Rattle.drd_param_keys.specs.declared.key.SvcParamKey.{SvcParamKey}
use Rattle.drd_param_keys.specs.declared.key.SvcParamKey.TheVariants.{Mandatory, Alpn, NoDefaultAlpn, Port, Ipv4Hint, EchConfigList, Ipv6Hint, Key, Key65535, Unknown}

pub key-found : {X E : Type 0} (o : Option X) (k : X) (e : E) → Ok k ≡ ok_or o e → o ≡ Some k
key-found None k e is = absurd (cc is)
key-found (Some x) k e is = cc is

pub key-none : {X E : Type 0} (o : Option X) (e f : E) → Err e ≡ ok_or o f → (e ≡ f) × ((x : X) → o ≡ Some x → ⊥)
key-none None e f is = (cc is, λ x found. cc found)
key-none (Some x) e f is = absurd (cc is)

abbrev AreKeys : List SvcParamKey → Type 0
AreKeys [] = Unit {0}
AreKeys (k ∷ ks) = IsKey k × AreKeys ks

key-at : (k : SvcParamKey) → key_number k < 65536 → k ≡ key_of (key_number k) → IsKey k
key-at k small one = record { small = small; one = one }

named-keys : AreKeys named_keys
named-keys = (
  key-at Mandatory (omega arith) refl,
  (
    key-at Alpn (omega arith) refl,
    (
      key-at NoDefaultAlpn (omega arith) refl,
      (
        key-at Port (omega arith) refl,
        (
          key-at Ipv4Hint (omega arith) refl,
          (
            key-at EchConfigList (omega arith) refl,
            (
              key-at Ipv6Hint (omega arith) refl,
              (
                key-at Key65535 (omega arith) refl,
                tt,
              ),
            ),
          ),
        ),
      ),
    ),
  ),
)

found-is : (p : SvcParamKey → Bool) (ks : List SvcParamKey) → AreKeys ks → (k : SvcParamKey) → find p ks ≡ Some k → IsKey k
found-is p [] are k e = absurd (cc e)
found-is p (x ∷ xs) are k e = by_test (p x) (found-is p xs are.1 k) e
  where
    by_test : (t : Bool) → (find p xs ≡ Some k → IsKey k) → cond t (Some x) (find p xs) ≡ Some k → IsKey k
    by_test true later h = let same : x ≡ k = cc h in subst IsKey same are.0
    by_test false later h = later h

-- The key of a number has it.
found-number : (n : ℕ) (ks : List SvcParamKey) (d : SvcParamKey) → key_number d ≡ n → key_number (unwrap_or (find (λ named. key_number named == n) ks) d) ≡ n
found-number n [] d e = e
found-number n (x ∷ xs) d e = by_test (key_number x == n) refl (found-number n xs d e)
  where
    by_test : (t : Bool) → (key_number x == n) ≡ t → key_number (unwrap_or (find (λ named. key_number named == n) xs) d) ≡ n → key_number (unwrap_or (cond t (Some x) (find (λ named. key_number named == n) xs)) d) ≡ n
    by_test true h later = grind (arith, nat_tests)
    by_test false h later = later

other-number : (n : ℕ) (t : Bool) → key_number (cond t (Key n) (Unknown n)) ≡ n
other-number n true = refl
other-number n false = refl

pub number-of : (n : ℕ) → key_number (key_of n) ≡ n
number-of n = found-number n named_keys (cond (nat_le 65280 n && nat_le n 65534) (Key n) (Unknown n)) (other-number n (nat_le 65280 n && nat_le n 65534))

small-digits : (digits : List ℕ) (n : ℕ) → number_of_digits digits ≡ Some n → n < 65536
small-digits digits n e = by_tests (all_ascii_digits digits) (nat_lt 0 (length digits)) (nat_lt (digits_value 10 digits) 65536) refl e
  where
    by_tests : (a b t : Bool) → nat_lt (digits_value 10 digits) 65536 ≡ t → cond ((a && b) && t) (Some (digits_value 10 digits)) None ≡ Some n → n < 65536
    by_tests true true true small h = let same : digits_value 10 digits ≡ n = cc h in grind (arith, nat_tests)
    by_tests true true false small h = absurd (cc h)
    by_tests true false t small h = absurd (cc h)
    by_tests false b t small h = absurd (cc h)

small-behind : (text : List ℕ) (n : ℕ) → number_behind (codes "key") text ≡ Some n → n < 65536
small-behind text n e = by_test (starts_with nat_eq text (codes "key")) e
  where
    by_test : (t : Bool) → cond t (number_of_digits (drop (length (codes "key")) text)) None ≡ Some n → n < 65536
    by_test true h = small-digits (drop (length (codes "key")) text) n h
    by_test false h = absurd (cc h)

-- A key that a text stands for is the one of its number.
pub key-one : (k : SvcParamKey) (text : List ℕ) → IsKeyText k text → IsKey k
key-one k text is = by_name (find (λ named. bytes_eq (key_name named) text) named_keys) refl is
  where
    by_number : (o : Option ℕ) → number_behind (codes "key") text ≡ o → option_map key_of o ≡ Some k → IsKey k
    by_number (Some n) e h =
        let same : key_of n ≡ k = cc h in
        subst IsKey same (key-at (key_of n) (omega (arith, number-of n, small-behind text n e)) (ap key_of (sym (number-of n))))
    by_number None e h = absurd (cc h)

    by_name : (o : Option SvcParamKey) → find (λ named. bytes_eq (key_name named) text) named_keys ≡ o → option_or o (option_map key_of (number_behind (codes "key") text)) ≡ Some k → IsKey k
    by_name (Some x) e h = let same : x ≡ k = cc h in subst IsKey same (found-is (λ named. bytes_eq (key_name named) text) named_keys named-keys x e)
    by_name None e h = by_number (number_behind (codes "key") text) refl h

-- A text stands for one key.
pub key-once : (a b : SvcParamKey) (text : List ℕ) → IsKeyText a text → IsKeyText b text → a ≡ b
key-once a b text is other = let same : Some a ≡ Some b = sym is ∙ other in cc same
