-- Laws of the order of sets of types.
use Rattle.std.proofs.Common.{◌≡◌, ℕ, suc, ◌+◌, ◌*◌, ◌/◌, ◌<◌, ◌≤◌, ◌==◌, Bool, true, false, List, [], ◌∷◌, ◌++◌, length, cond, replicate, nat_eq, refl, sym, ap, subst, ◌∙◌, arith, append-nil}
use Rattle.std.proofs.lemmas.Bool.{eqb-true}
use Rattle.std.proofs.lemmas.Cmp.{then_total, on_total, nat_list_cmp_total, nat_eq_equiv, tied_itself}
use Rattle.std.proofs.lemmas.List.{length-append, length-replicate}
use Rattle.std.specs.Cmp.{IsTotalOrder, ranked}
use Rattle.std.specs.Cmp.Lexicographic.{slice_cmp, pointwise, texts_ties, same_text}
use Rattle.std.specs.Ordering.{nat_cmp, ordering_then, eq_by_cmp, is_eq, MatchOrdering}
use Rattle.std.specs.declared.cmp.Ordering.{Ordering}
use Rattle.std.specs.declared.cmp.Ordering.TheVariants.{Less, Equal, Greater}
use Rattle.dnw_wire.specs.BitMaps.{map_types, IsTightMap, BitMaps, no_window, window, Rises, AreOctets, AreTightMaps}
use Rattle.dnw_wire.specs.BitLaws.{Below, From, from_length, bit_length, bit_behind, bit_set, bit_before, bit_there, bit_small, bit_last, alone_from, alone_before, alone_there, alone_small, alone_last, bit_some, bit_top, place_order, bit_order, type_first, type_alone}
use Rattle.dnw_wire.specs.BitMapLaws.{last, last_is, maps_rise, read_once, rises_up, tight_reads, written_once}
use Rattle.dnw_wire.specs.MapOrder.{octet_place, octet_bit, window_of, with_bit, with_type, tight_maps, types_cmp, window_end}

pub types_total : IsTotalOrder types_cmp
types_total = then_total (on_total tight_maps nat_list_cmp_total) nat_list_cmp_total

-- Lists tie exactly where they are the same.
pub types_ties : (xs ys : List ℕ) → pointwise nat_eq xs ys ≡ eq_by_cmp types_cmp xs ys
types_ties xs ys = by_test (pointwise nat_eq xs ys) refl
  where
    no_tie : (o p : Ordering) → false ≡ is_eq p → false ≡ is_eq (ordering_then o p)
    no_tie Less p e = refl
    no_tie Equal p e = e
    no_tie Greater p e = refl

    by_test : (b : Bool) → b ≡ pointwise nat_eq xs ys → b ≡ eq_by_cmp types_cmp xs ys
    by_test true e = let same : xs ≡ ys = same_text xs ys e in
        sym
        (ap is_eq
        (subst (λ (zs : List ℕ). types_cmp xs zs ≡ Equal) same (tied_itself types_total xs)))
    by_test false e =
        no_tie (slice_cmp nat_cmp (tight_maps xs) (tight_maps ys)) (slice_cmp nat_cmp xs ys)
        (e ∙ texts_ties xs ys)

small_joined : (xs ys : List ℕ) → AreOctets xs → AreOctets ys → AreOctets (xs ++ ys)
small_joined [] ys small few = few
small_joined (x ∷ xs) ys small few = (small.0, small_joined xs ys small.1 few)

pub test_same : (n m : ℕ) → n ≡ m → (n == m) ≡ true
test_same n m e = ap (λ (k : ℕ). k == m) e ∙ nat_eq_equiv.refl m

pub test_above : (n m : ℕ) → false ≡ (m == n) → n ≤ m → n < m
test_above n m e le = by_order (nat_cmp n m) (ranked n m (nat_cmp n m) refl)
  where
    by_order : (o : Ordering) → MatchOrdering o (n < m) (n ≡ m) (m < n) → n < m
    by_order Less h = h
    by_order Equal h = let same : (m == n) ≡ true = test_same m n (sym h) in absurd (cc)
    by_order Greater h = absurd (omega (arith, h, le))

-- What stands before and below a type's bit.

clear_alone : (before code : ℕ) (xs : List ℕ) → before < code → before / 256 ≡ code / 256
    → Below (octet_place before) (octet_bit before)
    (replicate (octet_place code) 0 ++ octet_bit code ∷ xs)
clear_alone before code xs lt same =
    by_place (nat_cmp (octet_place before) (octet_place code))
    (ranked (octet_place before) (octet_place code)
    (nat_cmp (octet_place before) (octet_place code)) refl)
  where
    by_place : (o : Ordering)
        → MatchOrdering o (octet_place before < octet_place code)
        (octet_place before ≡ octet_place code) (octet_place code < octet_place before)
        → Below (octet_place before) (octet_bit before)
        (replicate (octet_place code) 0 ++ octet_bit code ∷ xs)
    by_place Less h =
        alone_before (octet_place code) (octet_place before) (octet_bit code) (octet_bit before) xs
        h (bit_some before)
    by_place Equal h =
        subst
        (λ (n : ℕ). Below n (octet_bit before)
        (replicate (octet_place code) 0 ++ octet_bit code ∷ xs)) (sym h)
        (alone_there (octet_place code) (octet_bit code) (octet_bit before) xs
        (omega (arith, bit_order before code lt same h, bit_some code)))
    by_place Greater h = absurd (omega (arith, h, place_order before code lt same))

clear_set : (before code : ℕ) (xs : List ℕ) → before < code → before / 256 ≡ code / 256
    → Below (octet_place code) (octet_bit code) xs
    → Below (octet_place before) (octet_bit before)
    (with_bit (octet_place code) (octet_bit code) xs)
clear_set before code xs lt same clear =
    by_place (nat_cmp (octet_place before) (octet_place code))
    (ranked (octet_place before) (octet_place code)
    (nat_cmp (octet_place before) (octet_place code)) refl)
  where
    by_place : (o : Ordering)
        → MatchOrdering o (octet_place before < octet_place code)
        (octet_place before ≡ octet_place code) (octet_place code < octet_place before)
        → Below (octet_place before) (octet_bit before)
        (with_bit (octet_place code) (octet_bit code) xs)
    by_place Less h =
        bit_before (octet_place code) (octet_place before) (octet_bit code) (octet_bit before) xs h
        (bit_some before) clear
    by_place Equal h =
        subst
        (λ (n : ℕ). Below n (octet_bit before) (with_bit (octet_place code) (octet_bit code) xs))
        (sym h)
        (bit_there (octet_place code) (octet_bit code) (octet_bit before) xs
        (bit_order before code lt same h) clear)
    by_place Greater h = absurd (omega (arith, h, place_order before code lt same))

-- The first window of the bit maps of types, and what is behind it.
pub record MapFront (code : ℕ) (codes : List ℕ) : Type 0 where
  pub map : List ℕ
  pub rest : List ℕ
  pub later : List ℕ
  pub octets : tight_maps (code ∷ codes) ≡ code / 256 ∷ length map ∷ (map ++ rest)
  pub long : length map ≡ octet_place (window_end code codes) + 1
  pub set : From (octet_place code) (octet_bit code) map
  pub clear : (before : ℕ) → before < code → before / 256 ≡ code / 256
      → Below (octet_place before) (octet_bit before) map
  pub few : length map ≤ 32
  pub tight : 0 < last map
  pub small : AreOctets map
  pub behind : AreOctets rest
  pub types : code ∷ codes ≡ map_types (256 * (code / 256)) map ++ later
  pub more : BitMaps IsTightMap (code / 256 + 1) rest later

-- A window of one type, and those behind it.
front_alone : (code : ℕ) (codes rest : List ℕ) → tight_maps (code ∷ codes) ≡ window_of code ++ rest
    → window_end code codes ≡ code → AreOctets rest → BitMaps IsTightMap (code / 256 + 1) rest codes
    → MapFront code codes
front_alone code codes rest octets end small more =
    let map = replicate (octet_place code) 0 ++ octet_bit code ∷ [] in
    let long : length map ≡ octet_place code + 1 =
    length-append (replicate (octet_place code) 0) (octet_bit code ∷ [])
    ∙ ap (λ (n : ℕ). n + 1) (length-replicate (octet_place code) 0) in
    record {
      map = map;
      rest = rest;
      later = codes;
      octets = octets ∙ ap (λ (n : ℕ). code / 256 ∷ n ∷ (map ++ rest)) (sym long);
      long = long ∙ ap (λ (n : ℕ). octet_place n + 1) (sym end);
      set = alone_from (octet_place code) (octet_bit code);
      clear = λ before lt same. clear_alone before code [] lt same;
      few = omega (arith, long);
      tight = alone_last (octet_place code) (octet_bit code) (bit_some code);
      small =
          alone_small (octet_place code) (octet_bit code)
          (omega (arith, bit_top code, bit_some code));
      behind = small;
      types = ap (λ (ts : List ℕ). ts ++ codes) (sym (type_alone code));
      more = more;
    }

-- One type more in the first window.
front_set : (code next : ℕ) (codes : List ℕ) → code < next → next / 256 ≡ code / 256
    → tight_maps (code ∷ next ∷ codes) ≡ with_type code (tight_maps (next ∷ codes))
    → window_end code (next ∷ codes) ≡ window_end next codes → MapFront next codes
    → MapFront code (next ∷ codes)
front_set code next codes lt same octets end f =
    let place = octet_place code in
    let bit = octet_bit code in
    let clear : Below place bit f.map = f.clear code lt (sym same) in
    let inside : place < length f.map =
    omega (
      arith,
      from_length (octet_place next) (octet_bit next) f.map f.set,
      place_order code
          next lt (sym same),
    ) in
    let length_same = bit_length place bit f.map in
    record {
      map = with_bit place bit f.map;
      rest = f.rest;
      later = f.later;
      octets =
          octets
          ∙ ap (with_type code) f.octets
          ∙ ap
          (λ (b : Bool). cond b (next / 256 ∷ length f.map ∷ with_bit place bit (f.map ++ f.rest))
          (window_of code ++ next / 256 ∷ length f.map ∷ (f.map ++ f.rest)))
          (test_same (next / 256) (code / 256) same)
          ∙ ap (λ (n : ℕ). n ∷ length f.map ∷ with_bit place bit (f.map ++ f.rest)) same
          ∙ ap (λ (n : ℕ). code / 256 ∷ n ∷ with_bit place bit (f.map ++ f.rest)) (sym length_same)
          ∙ ap (λ (xs : List ℕ). code / 256 ∷ length (with_bit place bit f.map) ∷ xs)
          (bit_behind place bit f.map f.rest inside);
      long = length_same ∙ f.long ∙ ap (λ (n : ℕ). octet_place n + 1) (sym end);
      set = bit_set place bit f.map inside;
      clear = λ before below window. clear_set before code f.map below window clear;
      few = omega (arith, length_same, f.few);
      tight = bit_last place bit f.map f.tight;
      small = bit_small place bit f.map (bit_top code) clear f.small;
      behind = f.behind;
      types =
          ap (λ (ts : List ℕ). code ∷ ts) f.types
          ∙ ap (λ (n : ℕ). code ∷ (map_types (256 * n) f.map ++ f.later)) same
          ∙ ap (λ (ts : List ℕ). ts ++ f.later) (sym (type_first code f.map clear inside));
      more = subst (λ (n : ℕ). BitMaps IsTightMap (n + 1) f.rest f.later) same f.more;
    }

front_maps : (above code : ℕ) (codes : List ℕ) → above ≤ code / 256 → code < 65536
    → MapFront code codes → BitMaps IsTightMap above (tight_maps (code ∷ codes)) (code ∷ codes)
front_maps above code codes le lt f =
    window le (omega (arith, lt))
    (record {
      some = omega (arith, from_length (octet_place code) (octet_bit code) f.map f.set);
      few = f.few;
      tight = subst (λ (n : ℕ). 0 < n) (sym (last_is f.map)) f.tight;
    }) f.octets f.types f.more

front_small : (code : ℕ) (codes : List ℕ) → code < 65536 → MapFront code codes
    → AreOctets (tight_maps (code ∷ codes))
front_small code codes lt f =
    subst AreOctets (sym f.octets)
    (omega (arith, lt), (omega (arith, f.few), small_joined f.map f.rest f.small f.behind))

pub tight_more : (code : ℕ) (codes : List ℕ)
    → tight_maps (code ∷ codes) ≡ with_type code (tight_maps codes)
unfolding tight_maps
tight_more code codes = refl

pub tight_none : tight_maps [] ≡ []
unfolding tight_maps
tight_none = refl

pub tight_one : (code : ℕ) → tight_maps (code ∷ []) ≡ window_of code
tight_one code = tight_more code [] ∙ ap (with_type code) tight_none

-- Types that rise have such a window.
pub front : (code : ℕ) (codes : List ℕ) → code < 65536 → Rises (code + 1) codes 65536
    → MapFront code codes
front code [] lt rises =
    front_alone code [] [] (tight_one code ∙ sym (append-nil (window_of code))) refl tt no_window
front code (next ∷ codes) lt rises =
    by_window (next / 256 == code / 256) refl
    (omega (arith, rises_up (next + 1) 65536 codes rises.1))
    (front next codes (omega (arith, rises_up (next + 1) 65536 codes rises.1)) rises.1)
  where
    by_window : (b : Bool) → b ≡ (next / 256 == code / 256) → next < 65536 → MapFront next codes
        → MapFront code (next ∷ codes)
    by_window true e fits f =
        front_set code next codes (omega (arith, rises.0))
        (eqb-true (next / 256) (code / 256) (sym e)) (tight_more code (next ∷ codes))
        (ap (λ (t : Bool). cond t (window_end next codes) code) (sym e)) f
    by_window false e fits f =
        front_alone code (next ∷ codes) (tight_maps (next ∷ codes))
        (tight_more code (next ∷ codes) ∙ ap (with_type code) f.octets
        ∙ ap
        (λ (t : Bool). cond t
        (next / 256
        ∷ with_bit (suc (octet_place code)) (octet_bit code)
        (length f.map ∷ (f.map ++ f.rest)))
        (window_of code ++ next / 256 ∷ length f.map ∷ (f.map ++ f.rest))) (sym e)
        ∙ ap (λ (xs : List ℕ). window_of code ++ xs) (sym f.octets))
        (ap (λ (t : Bool). cond t (window_end next codes) code) (sym e))
        (front_small next codes fits f)
        (front_maps (code / 256 + 1) next codes
        (omega (arith, test_above (code / 256) (next / 256) e (omega (arith, rises.0)))) fits f)

-- The bit maps of types that rise, as they are written.
pub tight_written : (types : List ℕ) → Rises 0 types 65536 → AreTightMaps (tight_maps types) types
tight_written [] rises = record {
  maps = subst (λ (xs : List ℕ). BitMaps IsTightMap 0 xs []) (sym tight_none) no_window;
  small = subst AreOctets (sym tight_none) tt;
}
tight_written (code ∷ codes) rises =
    let fits : code < 65536 = omega (arith, rises_up (code + 1) 65536 codes rises.1) in
    let f = front code codes fits rises.1 in
    record {
      maps = front_maps 0 code codes (omega arith) fits f;
      small = front_small code codes fits f;
    }

-- Octets that are such bit maps are these.
pub tight_alone : (octets types : List ℕ) → AreTightMaps octets types → octets ≡ tight_maps types
tight_alone octets types tight =
    let written =
    tight_written types
    (maps_rise 0 octets types (omega arith) (tight_reads 0 octets types tight.maps)) in
    written_once 0 0 octets (tight_maps types) types types tight.maps written.maps tight.small
    written.small refl

-- The order of sets is that of the octets that are written.
pub types_order : (xs ys types others : List ℕ) → AreTightMaps xs types → AreTightMaps ys others
    → types_cmp types others ≡ slice_cmp nat_cmp xs ys
types_order xs ys types others tight also =
    by_octets (slice_cmp nat_cmp (tight_maps types) (tight_maps others)) refl
    ∙ ap (λ (zs : List ℕ). slice_cmp nat_cmp zs (tight_maps others))
    (sym (tight_alone xs types tight))
    ∙ ap (slice_cmp nat_cmp xs) (sym (tight_alone ys others also))
  where
    by_octets : (o : Ordering) → o ≡ slice_cmp nat_cmp (tight_maps types) (tight_maps others)
        → ordering_then o (slice_cmp nat_cmp types others) ≡ o
    by_octets Less e = refl
    by_octets Greater e = refl
    by_octets Equal e =
        let octets : tight_maps types ≡ tight_maps others =
        same_text (tight_maps types) (tight_maps others)
        (ap is_eq e ∙ sym (texts_ties (tight_maps types) (tight_maps others))) in
        let codes : types ≡ others =
        read_once 0 0 xs ys types others (tight_reads 0 xs types tight.maps)
        (tight_reads 0 ys others also.maps)
        (tight_alone xs types tight ∙ octets ∙ sym (tight_alone ys others also)) in
        ap (slice_cmp nat_cmp types) (sym codes) ∙ tied_itself nat_list_cmp_total types
