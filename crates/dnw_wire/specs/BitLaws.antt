-- Octets with a bit more, and the types that bits stand for.
use Rattle.std.proofs.Common.{◌≡◌, ℕ, zero, suc, ◌+◌, ◌-◌, ◌*◌, ◌/◌, ◌%◌, ◌^◌, ◌<◌, ◌≤◌, ◌==◌, List, [], ◌∷◌, ◌++◌, length, cond, replicate, refl, sym, ap, ◌∙◌, arith, append-nil}
use Rattle.std.proofs.lemmas.Nat.{pow_pos}
use Rattle.std.proofs.Math.Nat.{pow-suc, pow-le-pow_right}
use Rattle.std.specs.Cmp.{ranked, nat_cmp_is}
use Rattle.std.specs.Cmp.Lexicographic.{slice_cmp}
use Rattle.std.specs.Ordering.{nat_cmp, ordering_then, MatchOrdering}
use Rattle.std.specs.declared.cmp.Ordering.{Ordering}
use Rattle.std.specs.declared.cmp.Ordering.TheVariants.{Less, Equal, Greater}
use Rattle.dnw_wire.specs.BitMaps.{bits_types, octet_types, map_types, AreOctets}
use Rattle.dnw_wire.specs.BitMapLaws.{octet_none, last}
use Rattle.dnw_wire.specs.MapOrder.{octet_place, octet_bit, with_bit}

-- At a place of octets stands one of at least so much.
abbrev pub From : ℕ → ℕ → List ℕ → Type 0
From place bit [] = ⊥
From zero bit (octet ∷ octets) = bit ≤ octet
From (suc place) bit (octet ∷ octets) = From place bit octets

-- Before a place stand zeros, and there less than so much.
abbrev pub Below : ℕ → ℕ → List ℕ → Type 0
Below place bit [] = Unit {0}
Below zero bit (octet ∷ octets) = octet < bit
Below (suc place) bit (octet ∷ octets) = (octet ≡ 0) × Below place bit octets

pub from_length : (place bit : ℕ) (xs : List ℕ) → From place bit xs → place < length xs
from_length place bit [] f = absurd f
from_length zero bit (x ∷ xs) f = omega arith
from_length (suc place) bit (x ∷ xs) f = omega (arith, from_length place bit xs f)

pub from_less : (place bit less : ℕ) (xs : List ℕ) → less ≤ bit → From place bit xs
    → From place less xs
from_less place bit less [] le f = absurd f
from_less zero bit less (x ∷ xs) le f = omega arith
from_less (suc place) bit less (x ∷ xs) le f = from_less place bit less xs le f

pub from_behind : (place bit : ℕ) (xs ys : List ℕ) → From place bit xs → From place bit (xs ++ ys)
from_behind place bit [] ys f = absurd f
from_behind zero bit (x ∷ xs) ys f = f
from_behind (suc place) bit (x ∷ xs) ys f = from_behind place bit xs ys f

pub below_behind : (place bit : ℕ) (xs ys : List ℕ) → place < length xs → Below place bit xs
    → Below place bit (xs ++ ys)
below_behind place bit [] ys long b = absurd (omega (arith, long))
below_behind zero bit (x ∷ xs) ys long b = b
below_behind (suc place) bit (x ∷ xs) ys long b =
    (b.0, below_behind place bit xs ys (omega (arith, long)) b.1)

zero_or_more : (n : ℕ) (o : Ordering) → o ≡ Greater → ordering_then (nat_cmp n 0) o ≡ Greater
zero_or_more zero o e = e
zero_or_more (suc n) o e =
    ap (λ (p : Ordering). ordering_then p o) (sym (nat_cmp_is (suc n) 0 Greater (omega arith)))

pub from_below : (place bit : ℕ) (xs ys : List ℕ) → From place bit xs → Below place bit ys
    → slice_cmp nat_cmp xs ys ≡ Greater
from_below place bit [] ys f b = absurd f
from_below place bit (x ∷ xs) [] f b = refl
from_below zero bit (x ∷ xs) (y ∷ ys) f b =
    ap (λ (o : Ordering). ordering_then o (slice_cmp nat_cmp xs ys))
    (sym (nat_cmp_is x y Greater (omega (arith, f, b))))
from_below (suc place) bit (x ∷ xs) (y ∷ ys) f b =
    ap (λ (n : ℕ). ordering_then (nat_cmp x n) (slice_cmp nat_cmp xs ys)) b.0
    ∙ zero_or_more x (slice_cmp nat_cmp xs ys) (from_below place bit xs ys f b.1)

-- Octets with a bit more.

pub bit_length : (place bit : ℕ) (xs : List ℕ) → length (with_bit place bit xs) ≡ length xs
bit_length place bit [] = refl
bit_length zero bit (x ∷ xs) = refl
bit_length (suc place) bit (x ∷ xs) = ap suc (bit_length place bit xs)

pub bit_behind : (place bit : ℕ) (xs ys : List ℕ) → place < length xs
    → with_bit place bit (xs ++ ys) ≡ with_bit place bit xs ++ ys
bit_behind place bit [] ys long = absurd (omega (arith, long))
bit_behind zero bit (x ∷ xs) ys long = refl
bit_behind (suc place) bit (x ∷ xs) ys long =
    ap (λ (zs : List ℕ). x ∷ zs) (bit_behind place bit xs ys (omega (arith, long)))

pub bit_from : (place bit least : ℕ) (xs : List ℕ) → From place least xs
    → From place (least + bit) (with_bit place bit xs)
bit_from place bit least [] f = absurd f
bit_from zero bit least (x ∷ xs) f = omega arith
bit_from (suc place) bit least (x ∷ xs) f = bit_from place bit least xs f

pub bit_set : (place bit : ℕ) (xs : List ℕ) → place < length xs
    → From place bit (with_bit place bit xs)
bit_set place bit [] long = absurd (omega (arith, long))
bit_set zero bit (x ∷ xs) long = omega arith
bit_set (suc place) bit (x ∷ xs) long = bit_set place bit xs (omega (arith, long))

-- A place behind which, or a bit above which, there is nothing.
pub bit_before : (place before bit limit : ℕ) (xs : List ℕ) → before < place → 0 < limit
    → Below place bit xs → Below before limit (with_bit place bit xs)
bit_before place before bit limit [] lt some b = tt
bit_before zero before bit limit (x ∷ xs) lt some b = absurd (omega (arith, lt))
bit_before (suc place) zero bit limit (x ∷ xs) lt some b = omega (arith, b.0, some)
bit_before (suc place) (suc before) bit limit (x ∷ xs) lt some b =
    (b.0, bit_before place before bit limit xs (omega (arith, lt)) some b.1)

pub bit_there : (place bit limit : ℕ) (xs : List ℕ) → bit + bit ≤ limit → Below place bit xs
    → Below place limit (with_bit place bit xs)
bit_there place bit limit [] le b = tt
bit_there zero bit limit (x ∷ xs) le b = omega (arith, b, le)
bit_there (suc place) bit limit (x ∷ xs) le b = (b.0, bit_there place bit limit xs le b.1)

pub bit_small : (place bit : ℕ) (xs : List ℕ) → bit + bit ≤ 256 → Below place bit xs → AreOctets xs
    → AreOctets (with_bit place bit xs)
bit_small place bit [] le b small = tt
bit_small zero bit (x ∷ xs) le b small = (omega (arith, b, le), small.1)
bit_small (suc place) bit (x ∷ xs) le b small = (small.0, bit_small place bit xs le b.1 small.1)

pub bit_last : (place bit : ℕ) (xs : List ℕ) → 0 < last xs → 0 < last (with_bit place bit xs)
bit_last place bit [] some = some
bit_last zero bit (x ∷ []) some = omega (arith, some)
bit_last zero bit (x ∷ y ∷ ys) some = some
bit_last (suc place) bit (x ∷ []) some = some
bit_last (suc zero) bit (x ∷ y ∷ ys) some = bit_last zero bit (y ∷ ys) some
bit_last (suc (suc place)) bit (x ∷ y ∷ ys) some = bit_last (suc place) bit (y ∷ ys) some

-- The same bit in both leaves the order.
pub bit_cmp : (place bit : ℕ) (xs ys : List ℕ)
    → slice_cmp nat_cmp (with_bit place bit xs) (with_bit place bit ys) ≡ slice_cmp nat_cmp xs ys
bit_cmp place bit [] [] = refl
bit_cmp zero bit [] (y ∷ ys) = refl
bit_cmp (suc place) bit [] (y ∷ ys) = refl
bit_cmp zero bit (x ∷ xs) [] = refl
bit_cmp (suc place) bit (x ∷ xs) [] = refl
bit_cmp zero bit (x ∷ xs) (y ∷ ys) =
    ap (λ (o : Ordering). ordering_then o (slice_cmp nat_cmp xs ys))
    (by_order (nat_cmp x y) (ranked x y (nat_cmp x y) refl))
  where
    by_order : (o : Ordering) → MatchOrdering o (x < y) (x ≡ y) (y < x)
        → nat_cmp (x + bit) (y + bit) ≡ o
    by_order Less h = sym (nat_cmp_is (x + bit) (y + bit) Less (omega (arith, h)))
    by_order Equal h = sym (nat_cmp_is (x + bit) (y + bit) Equal (omega (arith, h)))
    by_order Greater h = sym (nat_cmp_is (x + bit) (y + bit) Greater (omega (arith, h)))
bit_cmp (suc place) bit (x ∷ xs) (y ∷ ys) =
    ap (ordering_then (nat_cmp x y)) (bit_cmp place bit xs ys)

-- Octets of zero, and one behind them.

pub alone_from : (place bit : ℕ) → From place bit (replicate place 0 ++ bit ∷ [])
alone_from zero bit = omega arith
alone_from (suc place) bit = alone_from place bit

pub alone_before : (place before bit limit : ℕ) (xs : List ℕ) → before < place → 0 < limit
    → Below before limit (replicate place 0 ++ bit ∷ xs)
alone_before zero before bit limit xs lt some = absurd (omega (arith, lt))
alone_before (suc place) zero bit limit xs lt some = some
alone_before (suc place) (suc before) bit limit xs lt some =
    (refl, alone_before place before bit limit xs (omega (arith, lt)) some)

pub alone_there : (place bit limit : ℕ) (xs : List ℕ) → bit < limit
    → Below place limit (replicate place 0 ++ bit ∷ xs)
alone_there zero bit limit xs lt = lt
alone_there (suc place) bit limit xs lt = (refl, alone_there place bit limit xs lt)

pub alone_small : (place bit : ℕ) → bit < 256 → AreOctets (replicate place 0 ++ bit ∷ [])
alone_small zero bit lt = (lt, tt)
alone_small (suc place) bit lt = (omega arith, alone_small place bit lt)

pub alone_last : (place bit : ℕ) → 0 < bit → 0 < last (replicate place 0 ++ bit ∷ [])
alone_last zero bit some = some
alone_last (suc zero) bit some = some
alone_last (suc (suc place)) bit some = alone_last (suc place) bit some

pub alone_types : (place bit base : ℕ)
    → map_types base (replicate place 0 ++ bit ∷ []) ≡ octet_types (base + 8 * place) bit
alone_types zero bit base =
    append-nil (octet_types base bit) ∙ ap (λ (n : ℕ). octet_types n bit) (omega arith)
alone_types (suc place) bit base =
    ap (λ (ts : List ℕ). ts ++ map_types (base + 8) (replicate place 0 ++ bit ∷ []))
    (octet_none base)
    ∙ alone_types place bit (base + 8)
    ∙ ap (λ (n : ℕ). octet_types n bit) (omega arith)

-- Bits, and the types that they stand for.

double : (low high : ℕ) → low < high → 2 ^ low + 2 ^ low ≤ 2 ^ high
double low high lt =
    omega (
      arith,
      pow-suc 2 low,
      pow-le-pow_right {n = 2} (omega arith) {i = suc low} {j = high}
          (omega (arith, lt)),
    )

pub bit_some : (code : ℕ) → 0 < octet_bit code
bit_some code = pow_pos (7 - code % 8)

pub bit_top : (code : ℕ) → octet_bit code + octet_bit code ≤ 256
bit_top code = double (7 - code % 8) 8 (omega arith)

-- Of two types in one window, the lower one has the octet before, or the greater bit.
pub place_order : (before code : ℕ) → before < code → before / 256 ≡ code / 256
    → octet_place before ≤ octet_place code
place_order before code lt same = omega (arith, lt, same)

pub bit_order : (before code : ℕ) → before < code → before / 256 ≡ code / 256
    → octet_place before ≡ octet_place code → octet_bit code + octet_bit code ≤ octet_bit before
bit_order before code lt same place =
    double (7 - code % 8) (7 - before % 8) (omega (arith, lt, same, place))

bits_none : (base width : ℕ) → bits_types base width 0 ≡ []
bits_none base zero = refl
bits_none base (suc width) = ap (λ (ts : List ℕ). ts ++ []) (bits_none base width)

bits_last : (base width bits : ℕ) → bits ≡ 0
    → bits_types base (suc width) (bits + 1) ≡ (base + width) ∷ bits_types base (suc width) bits
bits_last base width bits none =
    ap (λ (b : ℕ). bits_types base (suc width) (b + 1)) none
    ∙ ap (λ (ts : List ℕ). ts ++ (base + width) ∷ []) (bits_none base width)
    ∙ ap (λ (ts : List ℕ). (base + width) ∷ (ts ++ [])) (sym (bits_none base width))
    ∙ ap (λ (b : ℕ). (base + width) ∷ bits_types base (suc width) b) (sym none)

-- A bit above all that are set stands for the first type.
bits_first : (base width place bits : ℕ) → place < width → bits < 2 ^ place
    → bits_types base width (bits + 2 ^ place)
    ≡ (base + (width - 1 - place)) ∷ bits_types base width bits
bits_first base zero place bits lt few = absurd (omega (arith, lt))
bits_first base (suc width) zero bits lt few =
    bits_last base width bits (omega (arith, few))
    ∙ ap (λ (n : ℕ). n ∷ bits_types base (suc width) bits) (omega arith)
bits_first base (suc width) (suc place) bits lt few =
    let half : (bits + 2 ^ suc place) / 2 ≡ bits / 2 + 2 ^ place = omega (arith, pow-suc 2 place) in
    let odd : (bits + 2 ^ suc place) % 2 ≡ bits % 2 = omega (arith, pow-suc 2 place) in
    ap
    (λ (n : ℕ). bits_types base width n
    ++ cond ((bits + 2 ^ suc place) % 2 == 1) ((base + width) ∷ []) []) half
    ∙ ap
    (λ (n : ℕ). bits_types base width (bits / 2 + 2 ^ place)
    ++ cond (n == 1) ((base + width) ∷ []) []) odd
    ∙ ap (λ (ts : List ℕ). ts ++ cond (bits % 2 == 1) ((base + width) ∷ []) [])
    (bits_first base width place (bits / 2) (omega (arith, lt))
    (omega (arith, few, pow-suc 2 place)))
    ∙ ap (λ (n : ℕ). n ∷ bits_types base (suc width) bits) (omega arith)

octet_first : (base k octet : ℕ) → k < 8 → octet < 2 ^ (7 - k)
    → octet_types base (octet + 2 ^ (7 - k)) ≡ (base + k) ∷ octet_types base octet
unfolding octet_types
octet_first base k octet lt few =
    bits_first base 8 (7 - k) octet (omega (arith, lt)) few
    ∙ ap (λ (n : ℕ). n ∷ bits_types base 8 octet) (omega (arith, lt))

map_first : (place base k : ℕ) (map : List ℕ) → k < 8 → Below place (2 ^ (7 - k)) map
    → place < length map
    → map_types base (with_bit place (2 ^ (7 - k)) map)
    ≡ (base + 8 * place + k) ∷ map_types base map
map_first place base k [] lt below long = absurd (omega (arith, long))
map_first zero base k (octet ∷ octets) lt below long =
    ap (λ (ts : List ℕ). ts ++ map_types (base + 8) octets) (octet_first base k octet lt below)
    ∙ ap (λ (n : ℕ). n ∷ map_types base (octet ∷ octets)) (omega arith)
map_first (suc place) base k (octet ∷ octets) lt below long =
    let none : octet_types base octet ≡ [] = ap (octet_types base) below.0 ∙ octet_none base in
    ap (λ (ts : List ℕ). ts ++ map_types (base + 8) (with_bit place (2 ^ (7 - k)) octets)) none
    ∙ map_first place (base + 8) k octets lt below.1 (omega (arith, long))
    ∙ ap (λ (n : ℕ). n ∷ map_types (base + 8) octets) (omega arith)
    ∙ ap (λ (ts : List ℕ). (base + 8 * suc place + k) ∷ (ts ++ map_types (base + 8) octets))
    (sym none)

-- A type's place and bit are its own.
code_of : (code : ℕ) → 256 * (code / 256) + 8 * octet_place code + code % 8 ≡ code
code_of code = omega arith

pub type_first : (code : ℕ) (map : List ℕ) → Below (octet_place code) (octet_bit code) map
    → octet_place code < length map
    → map_types (256 * (code / 256)) (with_bit (octet_place code) (octet_bit code) map)
    ≡ code ∷ map_types (256 * (code / 256)) map
type_first code map below long =
    map_first (octet_place code) (256 * (code / 256)) (code % 8) map (omega arith) below long
    ∙ ap (λ (n : ℕ). n ∷ map_types (256 * (code / 256)) map) (code_of code)

pub type_alone : (code : ℕ)
    → map_types (256 * (code / 256)) (replicate (octet_place code) 0 ++ octet_bit code ∷ [])
    ≡ code ∷ []
type_alone code =
    let base = 256 * (code / 256) + 8 * octet_place code in
    alone_types (octet_place code) (octet_bit code) (256 * (code / 256))
    ∙ ap (octet_types base) (omega arith)
    ∙ octet_first base (code % 8) 0 (omega arith) (bit_some code)
    ∙ ap (λ (ts : List ℕ). (base + code % 8) ∷ ts) (octet_none base)
    ∙ ap (λ (n : ℕ). n ∷ []) (code_of code)
