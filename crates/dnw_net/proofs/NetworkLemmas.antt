-- Networks of names.
use Rattle.std.proofs.Common.{◌≡◌, ◌≢◌, ◌∙◌, ◌⊎◌, inl, inr, ℕ, zero, ◌+◌, ◌-◌, ◌*◌, ◌/◌, ◌%◌, ◌^◌, ◌≤◌, ◌<◌, suc, ◌++◌, Bool, false, ◌&&◌, List, [], ◌∷◌, length, map, refl, ap, sym, subst, arith, true, All, take, drop, replicate, reverse, slice_index, slice_index_or as get_or, slice_set}
use Rattle.std.specs.Prelude.{decimal, codes}
use Rattle.std.specs.Cmp.{IsEquivalence}
use Rattle.std.specs.Cmp.Lexicographic.{pointwise, on_texts_equal, same_text}
use Rattle.std.specs.Char.{to_ascii_lowercase}
use Rattle.std.specs.Str.{str_to_ascii_lowercase, IsUtf8}
use Rattle.std.specs.Str.Parse.{AllDigits, digits_value, ParsesUnsigned}
use Rattle.std.specs.declared.result.Result.{Result}
use Rattle.std.specs.declared.result.Result.TheVariants.{Ok, Err}
use Rattle.std.proofs.lemmas.Bool.{cases_lt}
use Rattle.std.proofs.lemmas.Cmp.{lists_equiv}
use Rattle.std.proofs.lemmas.Result.{OkIff-at_ok}
use Rattle.std.proofs.lemmas.Fmt.{decimal_digit, digits_decimal, decimal-digits_value, parse-decimal, first_decimal, IsAscii-decimal}
use Rattle.std.proofs.lemmas.Str.{IsUtf8-from_ascii}
use Rattle.std.proofs.lemmas.Str.Ascii.{lowercase_is}
use Rattle.std.proofs.lemmas.Str.Parse.{IsNumeralModel, numerals_by_value, tells_digits, digit_from_value, parse_plain}
use Rattle.std.proofs.lemmas.List.{reverse-append, take_more_set, take_more, length-map, map-append, take-append-drop, length-reverse, append-nil, append_assoc, length-append, length-set}
use Rattle.std.proofs.lemmas.List.Elements.{All-head, All-tail, All-set, All-replicate, All-nil, All-cons}
use Rattle.std.proofs.lemmas.Grind.{flat_map-append}
use Rattle.dnw_label.specs.Label.{label_eq}
use Rattle.std.specs.Prelude.{Option, Some, None, IfNone}
use Rattle.std.specs.Net.Addr.{ipv4_octets, ipv6_octets, ipv6_segments, octets_of, segments_of}
use Rattle.std.specs.declared.net.ip_addr.IpAddr.TheVariants.{V4, V6}
use Rattle.std.specs.declared.net.ipv4_addr.Ipv4Addr.{Ipv4Addr}
use Rattle.std.specs.declared.net.ipv6_addr.Ipv6Addr.{Ipv6Addr}
use Rattle.dnw_net.specs.ArpaLabels.{zero_labels, hex_digits, IsAddress, WriteNumbers}

pub same : IsEquivalence label_eq
same = on_texts_equal str_to_ascii_lowercase

pub sames : IsEquivalence (pointwise label_eq)
sames = lists_equiv same

-- Labels in decimal.

own : IsNumeralModel (AllDigits 10) (digits_value 10)
own = numerals_by_value (AllDigits 10) tells_digits

digit_lower : (c d : ℕ) → 48 ≤ d → d ≤ 57 → to_ascii_lowercase c ≡ to_ascii_lowercase d → c ≡ d
digit_lower c d low high e = by_place (cases_lt c 65) (cases_lt 90 c)
  where
    own_lower : to_ascii_lowercase d ≡ d
    own_lower = (lowercase_is d).1 (omega arith)

    by_place : (c < 65) ⊎ (65 ≤ c) → (90 < c) ⊎ (c ≤ 90) → c ≡ d
    by_place (inl small) place = sym ((lowercase_is c).1 small) ∙ e ∙ own_lower
    by_place (inr above) (inl large) = sym ((lowercase_is c).2 large) ∙ e ∙ own_lower
    by_place (inr above) (inr below) = absurd (omega (arith, (lowercase_is c).0 (above, below), e, own_lower, low, high))

digits_lower : (bs ds : List ℕ) → AllDigits 10 ds → map to_ascii_lowercase bs ≡ map to_ascii_lowercase ds → bs ≡ ds
digits_lower [] [] h e = refl
digits_lower [] (d ∷ ds) h e = absurd (cc)
digits_lower (b ∷ bs) [] h e = absurd (cc)
digits_lower (b ∷ bs) (d ∷ ds) h e =
    let range = digit_from_value d h.0 in
    let first : to_ascii_lowercase b ≡ to_ascii_lowercase d = cc in
    let rest : map to_ascii_lowercase bs ≡ map to_ascii_lowercase ds = cc in
    let one : b ≡ d = digit_lower b d range.0 range.1 first in
    let more : bs ≡ ds = digits_lower bs ds h.1 rest in
    cc

wide : (n : ℕ) → n ≤ 255 → n < 2 ^ 64
wide n small = omega arith

-- A label that writes an octet up to case is its decimal digits.
pub decimal_same : (bs : List ℕ) (n : ℕ) → n ≤ 255 → label_eq bs (decimal n) ≡ true → bs ≡ decimal n
decimal_same bs n small e =
    digits_lower bs (decimal n) (digits_decimal own n (wide n small)) (same_text (str_to_ascii_lowercase bs) (str_to_ascii_lowercase (decimal n)) (sym e))

pub decimal_plain : (n : ℕ) → n ≤ 255 → (slice_index (decimal n) 0 ≢ 43) × (slice_index (decimal n) 0 ≡ 48 → length (decimal n) ≡ 1)
decimal_plain n small = by_place (cases_lt 0 n)
  where
    zero_text : (n : ℕ) → n ≤ 0 → decimal n ≡ 48 ∷ []
    zero_text n none = let z : n ≡ 0 = omega arith in ap decimal z ∙ decimal_digit 0 (omega arith)

    by_place : (0 < n) ⊎ (n ≤ 0) → (slice_index (decimal n) 0 ≢ 43) × (slice_index (decimal n) 0 ≡ 48 → length (decimal n) ≡ 1)
    by_place (inr none) = rw (zero_text n none) (λ e. omega (arith, e), λ e. refl)
    by_place (inl some) = (λ e. omega (arith, first_decimal n some (wide n small), e), λ e. absurd (omega (arith, first_decimal n some (wide n small), e)))

pub decimal_utf8 : (bs : List ℕ) (n : ℕ) → n ≤ 255 → label_eq bs (decimal n) ≡ true → IsUtf8 bs
decimal_utf8 bs n small e =
    subst IsUtf8 (sym (decimal_same bs n small e)) (IsUtf8-from_ascii (decimal n) (IsAscii-decimal n (wide n small)))

pub octet_read : {E : Type 0} (bs : List ℕ) (r : Result ℕ E) (n : ℕ) → r ≡ Ok n → (slice_index bs 0 ≢ 43) × (slice_index bs 0 ≡ 48 → length bs ≡ 1) → ParsesUnsigned 8 10 bs r → (n ≤ 255) × (label_eq bs (decimal n) ≡ true)
octet_read bs r n is plain parsed =
    let h = OkIff-at_ok r (AllDigits 10 bs × (0 < length bs) × (digits_value 10 bs < 2 ^ 8)) (digits_value 10 bs) n (parse_plain own 8 bs r parsed plain.0) is in
    let text : decimal n ≡ bs = ap decimal h.1 ∙ decimal-digits_value own bs h.0.0 h.0.1 plain.1 (omega (arith, h.0.2)) in
    (omega (arith, h.0.2, h.1), ap (label_eq bs) text ∙ same.refl bs)

pub octet_not_read : {E : Type 0} (bs : List ℕ) (r : Result ℕ E) (e : E) → r ≡ Err e → ParsesUnsigned 8 10 bs r → (n : ℕ) → n ≤ 255 → label_eq bs (decimal n) ≡ true → ⊥
octet_not_read bs r e is parsed n small same-as =
    let read : r ≡ Ok n = parse-decimal 8 n bs r (omega arith) (wide n small) (decimal_same bs n small same-as) parsed in
    absurd (cc)

-- The loop over labels.

pub and-parts : (a b : Bool) → (a && b) ≡ true → (a ≡ true) × (b ≡ true)
and-parts true b e = (refl, e)
and-parts false b e = absurd (cc)

pub and-both : (a b : Bool) → a ≡ true → b ≡ true → (a && b) ≡ true
and-both true b e f = f
and-both false b e f = e

pointwise-append : (xs ys zs ws : List (List ℕ)) → pointwise label_eq xs ys ≡ true → pointwise label_eq zs ws ≡ true → pointwise label_eq (xs ++ zs) (ys ++ ws) ≡ true
pointwise-append [] [] zs ws e f = f
pointwise-append [] (y ∷ ys) zs ws e f = absurd (cc)
pointwise-append (x ∷ xs) [] zs ws e f = absurd (cc)
pointwise-append (x ∷ xs) (y ∷ ys) zs ws e f =
    let parts = and-parts (label_eq x y) (pointwise label_eq xs ys) e in
    and-both (label_eq x y) (pointwise label_eq (xs ++ zs) (ys ++ ws)) parts.0 (pointwise-append xs ys zs ws parts.1 f)

pub pointwise-length : (xs ys : List (List ℕ)) → pointwise label_eq xs ys ≡ true → length xs ≡ length ys
pointwise-length [] [] e = refl
pointwise-length [] (y ∷ ys) e = absurd (cc)
pointwise-length (x ∷ xs) [] e = absurd (cc)
pointwise-length (x ∷ xs) (y ∷ ys) e = ap suc (pointwise-length xs ys (and-parts (label_eq x y) (pointwise label_eq xs ys) e).1)

-- A label among those that write numbers writes one of them.
pointwise-at : (written : ℕ → List ℕ) (P : ℕ → Type 0) (xs : List (List ℕ)) (x : List ℕ) (ys : List (List ℕ)) (ns : List ℕ) → All P ns → pointwise label_eq (xs ++ x ∷ ys) (map written ns) ≡ true → (n : ℕ) × P n × (label_eq x (written n) ≡ true)
pointwise-at written P [] x ys [] all e = absurd (cc)
pointwise-at written P [] x ys (n ∷ ns) all e = (n, All-head P n ns all, (and-parts (label_eq x (written n)) (pointwise label_eq ys (map written ns)) e).0)
pointwise-at written P (z ∷ xs) x ys [] all e = absurd (cc)
pointwise-at written P (z ∷ xs) x ys (n ∷ ns) all e =
    pointwise-at written P xs x ys ns (All-tail P n ns all) (and-parts (label_eq z (written n)) (pointwise label_eq (xs ++ x ∷ ys) (map written ns)) e).1

map-zeros : (written : ℕ → List ℕ) → written 0 ≡ codes "0" → (k : ℕ) → map written (replicate k 0) ≡ zero_labels k
map-zeros written e zero = refl
map-zeros written e (suc k) = ap (λ x. x ∷ map written (replicate k 0)) e ∙ ap (λ xs. codes "0" ∷ xs) (map-zeros written e k)

drop_more_set : (xs : List ℕ) (i m n k j : ℕ) → m ≡ i + 1 → k ≡ j + 1 → drop i xs ≡ replicate k 0 → drop m (slice_set xs i n) ≡ replicate j 0
drop_more_set xs i m n zero j g e f = absurd (omega (arith, e))
drop_more_set xs i zero n (suc k) j g e f = absurd (omega (arith, g))
drop_more_set [] zero (suc m) n (suc k) j g e f = absurd (cc)
drop_more_set (x ∷ xs) zero (suc m) n (suc k) j g e f =
    let none : m ≡ 0 = omega (arith, g) in
    let same-size : k ≡ j = omega (arith, e) in
    let rest : xs ≡ replicate k 0 = cc in
    ap (λ l. drop l xs) none ∙ rest ∙ ap (λ l. replicate l 0) same-size
drop_more_set [] (suc i) (suc m) n (suc k) j g e f = absurd (cc)
drop_more_set (x ∷ xs) (suc i) (suc m) n (suc k) j g e f = drop_more_set xs i m n (suc k) j (omega (arith, g)) e f

-- The numbers that were read, of the labels from the right; those behind them are 0 still.
pub record NumbersSoFar (written : ℕ → List ℕ) (last : ℕ) (all left : List (List ℕ)) (numbers : List ℕ) (long count : ℕ) : Type 0 where
  pub done : List (List ℕ)
  pub whole : reverse all ≡ done ++ reverse left
  pub many : length done ≡ count
  pub read : pointwise label_eq done (map written (take count numbers)) ≡ true
  pub rest : drop count numbers ≡ replicate (long - count) 0
  pub below : All (λ n. n ≤ last) numbers
  pub length : length numbers ≡ long
  pub small : count ≤ long

module _ (written : ℕ → List ℕ) (last : ℕ) where
  pub numbers-start : (all : List (List ℕ)) (numbers : List ℕ) (long : ℕ) → length numbers ≡ long → numbers ≡ replicate long 0 → NumbersSoFar written last all all numbers long 0
  numbers-start all numbers long size zeros =
      record {
        done = [];
        whole = refl;
        many = refl;
        read = refl;
        rest = zeros ∙ ap (λ k. replicate k 0) (omega arith);
        below = subst (All (λ n. n ≤ last)) (sym zeros) (All-replicate (λ n. n ≤ last) long 0 (omega arith));
        length = size;
        small = omega arith;
      }

  pub numbers-more : (all left behind : List (List ℕ)) (numbers : List ℕ) (long count : ℕ) (label : List ℕ) (n : ℕ) → NumbersSoFar written last all left numbers long count → left ≡ behind ++ label ∷ [] → n ≤ last → label_eq label (written n) ≡ true → count < long → NumbersSoFar written last all behind (slice_set numbers count n) long (count + 1)
  numbers-more all left behind numbers long count label n h e small same-as room =
      record {
        done = h.done ++ label ∷ [];
        whole = h.whole ∙ ap (λ xs. h.done ++ reverse xs) e ∙ ap (λ xs. h.done ++ xs) (reverse-append behind (label ∷ [])) ∙ sym (append_assoc h.done (label ∷ []) (reverse behind));
        many = length-append h.done (label ∷ []) ∙ ap (λ k. k + 1) h.many;
        read = subst (λ ns. pointwise label_eq (h.done ++ label ∷ []) ns ≡ true)
            (sym (map-append written (take count numbers) (n ∷ [])) ∙ ap (map written) (sym (take_more_set numbers count n (omega (arith, h.length, room)))))
            (pointwise-append h.done (map written (take count numbers)) (label ∷ []) (written n ∷ []) h.read (and-both (label_eq label (written n)) true same-as refl));
        rest = drop_more_set numbers count (count + 1) n (long - count) (long - (count + 1)) refl (omega (arith, room)) h.rest;
        below = All-set (λ n. n ≤ last) numbers count n small h.below;
        length = length-set numbers count n ∙ h.length;
        small = omega (arith, room);
      }

  pub numbers-done : (all left : List (List ℕ)) (numbers : List ℕ) (long count : ℕ) → written 0 ≡ codes "0" → NumbersSoFar written last all left numbers long count → left ≡ [] → WriteNumbers written all (long - count) numbers
  numbers-done all left numbers long count zero-written h e =
      let whole : reverse all ≡ h.done = h.whole ∙ ap (λ xs. h.done ++ reverse xs) e ∙ append-nil h.done in
      let zeros : map written (drop count numbers) ≡ zero_labels (long - count) = ap (map written) h.rest ∙ map-zeros written zero-written (long - count) in
      let parts : map written numbers ≡ map written (take count numbers) ++ map written (drop count numbers) = ap (map written) (sym (take-append-drop count numbers)) ∙ map-append written (take count numbers) (drop count numbers) in
      rw (whole, parts, zeros)
      (pointwise-append h.done (map written (take count numbers)) (zero_labels (long - count)) (zero_labels (long - count)) h.read (sames.refl (zero_labels (long - count))))

  pub numbers-too_many : (all left behind : List (List ℕ)) (numbers : List ℕ) (long count : ℕ) (label : List ℕ) → NumbersSoFar written last all left numbers long count → left ≡ behind ++ label ∷ [] → count ≡ long → (missing : ℕ) (others : List ℕ) → length others ≡ long → WriteNumbers written all missing others → ⊥
  numbers-too_many all left behind numbers long count label h e full missing others size writes =
      omega (
        arith,
        pointwise-length (reverse all ++ zero_labels missing) (map written others) writes,
        length-map others written,
        size,
        length-append (reverse all) (zero_labels missing),
        ap length h.whole,
        length-append h.done (reverse left),
        h.many,
        full,
        length-reverse left,
        ap length e,
        length-append behind (label ∷ []),
      )

  pub numbers-refused : (all left behind : List (List ℕ)) (numbers : List ℕ) (long count : ℕ) (label : List ℕ) → NumbersSoFar written last all left numbers long count → left ≡ behind ++ label ∷ [] → ((n : ℕ) → n ≤ last → label_eq label (written n) ≡ true → ⊥) → (missing : ℕ) (others : List ℕ) → All (λ n. n ≤ last) others → WriteNumbers written all missing others → ⊥
  numbers-refused all left behind numbers long count label h e none missing others small writes =
      let whole : reverse all ++ zero_labels missing ≡ h.done ++ label ∷ (reverse behind ++ zero_labels missing) =
      ap (λ xs. xs ++ zero_labels missing) (h.whole ∙ ap (λ xs. h.done ++ reverse xs) e ∙ ap (λ xs. h.done ++ xs) (reverse-append behind (label ∷ [])))
      ∙ append_assoc h.done (label ∷ reverse behind) (zero_labels missing) in
      let found = pointwise-at written (λ n. n ≤ last) h.done label (reverse behind ++ zero_labels missing) others small
      (subst (λ xs. pointwise label_eq xs (map written others) ≡ true) whole writes) in
      none found.0 found.1 found.2

pub if_none : {X : Type 0} (o : Option X) (P : Type 0) → P → IfNone o P
if_none None P p = p
if_none (Some x) P p = tt

pub less_unless : (a b c : ℕ) → a ≤ b → c ≡ b → a ≢ c → a < b
less_unless a b c le same other = omega (arith, le, same, other)

-- Digits of octets.

pub join-more : (digits octets : List ℕ) (i a b : ℕ) → hex_digits (take i octets) ≡ take (2 * i) digits → i < length octets → length digits ≡ 2 * length octets → a ≡ get_or digits (2 * i) 0 → b ≡ get_or digits (2 * i + 1) 0 → b ≤ 15 → hex_digits (take (i + 1) (slice_set octets i (16 * a + b))) ≡ take (2 * (i + 1)) digits
join-more digits octets i a b h small size ea eb below =
    ap hex_digits (take_more_set octets i (16 * a + b) small)
    ∙ flat_map-append (λ octet. (octet / 16) ∷ (octet % 16) ∷ []) (take i octets) ((16 * a + b) ∷ [])
    ∙ ap (λ xs. xs ++ ((16 * a + b) / 16) ∷ ((16 * a + b) % 16) ∷ []) h
    ∙ ap (λ x. take (2 * i) digits ++ x ∷ ((16 * a + b) % 16) ∷ []) (high ∙ ea)
    ∙ ap (λ x. take (2 * i) digits ++ get_or digits (2 * i) 0 ∷ x ∷ []) (low ∙ eb)
    ∙ sym two
  where
    high : (16 * a + b) / 16 ≡ a
    high = omega (arith, below)

    low : (16 * a + b) % 16 ≡ b
    low = omega (arith, below)

    two : take (2 * (i + 1)) digits ≡ take (2 * i) digits ++ get_or digits (2 * i) 0 ∷ get_or digits (2 * i + 1) 0 ∷ []
    two =
        ap (λ k. take k digits) (omega arith)
        ∙ take_more digits (2 * i + 1) 0 (omega (arith, small, size))
        ∙ ap (λ xs. xs ++ get_or digits (2 * i + 1) 0 ∷ []) (take_more digits (2 * i) 0 (omega (arith, small, size)))
        ∙ append_assoc (take (2 * i) digits) (get_or digits (2 * i) 0 ∷ []) (get_or digits (2 * i + 1) 0 ∷ [])

pub v4_address : (a : Ipv4Addr) → length (ipv4_octets a) ≡ 4 → All (λ n. n ≤ 255) (ipv4_octets a) → IsAddress (V4 a)
v4_address a size below = (size, λ k d lt. omega (arith, below k d lt))

segments-length : (octets : List ℕ) (n : ℕ) → length octets ≡ 2 * n → length (segments_of octets) ≡ n
segments-length [] n e = omega (arith, e)
segments-length (a ∷ []) n e = absurd (omega (arith, e))
segments-length (a ∷ b ∷ octets) zero e = absurd (omega (arith, e))
segments-length (a ∷ b ∷ octets) (suc n) e = ap suc (segments-length octets n (omega (arith, e)))

segments-back : (octets : List ℕ) (n : ℕ) → length octets ≡ 2 * n → All (λ o. o ≤ 255) octets → octets_of (segments_of octets) ≡ octets
segments-back [] n e all = refl
segments-back (a ∷ []) n e all = absurd (omega (arith, e))
segments-back (a ∷ b ∷ octets) zero e all = absurd (omega (arith, e))
segments-back (a ∷ b ∷ octets) (suc n) e all =
    let rest = All-tail (λ o. o ≤ 255) a (b ∷ octets) all in
    let small : b ≤ 255 = All-head (λ o. o ≤ 255) b octets rest in
    let high : (a * 256 + b) / 256 ≡ a = omega (arith, small) in
    let low : (a * 256 + b) % 256 ≡ b = omega (arith, small) in
    ap (λ x. x ∷ ((a * 256 + b) % 256) ∷ octets_of (segments_of octets)) high
    ∙ ap (λ x. a ∷ x ∷ octets_of (segments_of octets)) low
    ∙ ap (λ xs. a ∷ b ∷ xs) (segments-back octets n (omega (arith, e)) (All-tail (λ o. o ≤ 255) b octets rest))

segments-below : (octets : List ℕ) → All (λ o. o ≤ 255) octets → All (λ s. s < 2 ^ 16) (segments_of octets)
segments-below [] all = All-nil (λ s. s < 2 ^ 16)
segments-below (a ∷ []) all = All-nil (λ s. s < 2 ^ 16)
segments-below (a ∷ b ∷ octets) all =
    let rest = All-tail (λ o. o ≤ 255) a (b ∷ octets) all in
    All-cons (λ s. s < 2 ^ 16) (a * 256 + b) (segments_of octets)
    (omega (arith, All-head (λ o. o ≤ 255) a (b ∷ octets) all, All-head (λ o. o ≤ 255) b octets rest))
    (segments-below octets (All-tail (λ o. o ≤ 255) b octets rest))

pub v6_address : (a : Ipv6Addr) (octets : List ℕ) → ipv6_segments a ≡ segments_of octets → length octets ≡ 16 → All (λ n. n ≤ 255) octets → IsAddress (V6 a) × (ipv6_octets a ≡ octets)
v6_address a octets e size below = (
  (ap length e ∙ segments-length octets 8 (omega (arith, size)), subst (All (λ s. s < 2 ^ 16)) (sym e) (segments-below octets below)),
  ap octets_of e ∙ segments-back octets 8 (omega (arith, size)) below,
)
