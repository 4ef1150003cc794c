-- Two sets of types, walked side by side up to the first types that differ.
use Rattle.std.proofs.Common.{◌≡◌, ℕ, suc, ◌+◌, ◌/◌, ◌<◌, ◌≤◌, ◌==◌, ◌⊎◌, inl, inr, min, Bool, true, false, List, [], ◌∷◌, ◌++◌, length, cond, replicate, refl, sym, ap, subst, ◌∙◌, arith, append_assoc, append-nil}
use Rattle.std.proofs.lemmas.Bool.{eqb-true}
use Rattle.std.proofs.lemmas.Cmp.{nat_cmp_total, nat_eq_equiv, tied_itself}
use Rattle.std.specs.Cmp.{ranked, nat_cmp_is}
use Rattle.std.specs.Cmp.Lexicographic.{slice_cmp}
use Rattle.std.specs.Ordering.{nat_cmp, ordering_then, ordering_reverse, MatchOrdering}
use Rattle.std.specs.Prelude.{Option, Some, None}
use Rattle.std.specs.declared.cmp.Ordering.{Ordering}
use Rattle.std.specs.declared.cmp.Ordering.TheVariants.{Less, Equal, Greater}
use Rattle.dnw_wire.specs.BitMaps.{Rises}
use Rattle.dnw_wire.specs.BitMapLaws.{rises_up}
use Rattle.dnw_wire.specs.MapOrder.{octet_place, octet_bit, window_of, with_bit, with_type, tight_maps, types_cmp, map_len, codes_after, shares_window}
use Rattle.dnw_wire.specs.BitLaws.{From, from_below, from_behind, from_less, from_length, below_behind, bit_cmp, bit_from, bit_some, place_order, alone_there}
use Rattle.dnw_wire.specs.MapOrderLaws.{MapFront, front, types_total, tight_more, tight_none, tight_one, test_above, test_same}

tied : (n : ℕ) (o : Ordering) → ordering_then (nat_cmp n n) o ≡ o
tied n o = ap (λ (p : Ordering). ordering_then p o) (tied_itself nat_cmp_total n)

same_front : (xs ys zs : List ℕ) → slice_cmp nat_cmp (xs ++ ys) (xs ++ zs) ≡ slice_cmp nat_cmp ys zs
same_front [] ys zs = refl
same_front (x ∷ xs) ys zs = tied x (slice_cmp nat_cmp (xs ++ ys) (xs ++ zs)) ∙ same_front xs ys zs

both : (xs us ys vs : List ℕ) → xs ≡ us → ys ≡ vs → slice_cmp nat_cmp xs ys ≡ slice_cmp nat_cmp us vs
both xs us ys vs e f = ap (λ (zs : List ℕ). slice_cmp nat_cmp zs ys) e ∙ ap (slice_cmp nat_cmp us) f

-- One type more in both leaves the order.
with_cmp : (code number : ℕ) (xs ys : List ℕ) → slice_cmp nat_cmp (with_type code (number ∷ xs)) (with_type code (number ∷ ys)) ≡ slice_cmp nat_cmp (number ∷ xs) (number ∷ ys)
with_cmp code number xs ys = by_window (number == code / 256)
  where
    by_window : (b : Bool) → slice_cmp nat_cmp (cond b (number ∷ with_bit (suc (octet_place code)) (octet_bit code) xs) (window_of code ++ number ∷ xs)) (cond b (number ∷ with_bit (suc (octet_place code)) (octet_bit code) ys) (window_of code ++ number ∷ ys)) ≡ slice_cmp nat_cmp (number ∷ xs) (number ∷ ys)
    by_window true = ap (ordering_then (nat_cmp number number)) (bit_cmp (suc (octet_place code)) (octet_bit code) xs ys)
    by_window false = same_front (window_of code) (number ∷ xs) (number ∷ ys)

same_types : (code t u : ℕ) (ts us : List ℕ) → t / 256 ≡ u / 256 → MapFront t ts → MapFront u us → slice_cmp nat_cmp (tight_maps (code ∷ t ∷ ts)) (tight_maps (code ∷ u ∷ us)) ≡ slice_cmp nat_cmp (tight_maps (t ∷ ts)) (tight_maps (u ∷ us))
same_types code t u ts us same f g =
    let xs = length f.map ∷ (f.map ++ f.rest) in
    let ys = length g.map ∷ (g.map ++ g.rest) in
    let other : tight_maps (u ∷ us) ≡ t / 256 ∷ ys = g.octets ∙ ap (λ (n : ℕ). n ∷ ys) (sym same) in
    both (tight_maps (code ∷ t ∷ ts)) (with_type code (t / 256 ∷ xs)) (tight_maps (code ∷ u ∷ us)) (with_type code (t / 256 ∷ ys))
    (tight_more code (t ∷ ts) ∙ ap (with_type code) f.octets) (tight_more code (u ∷ us) ∙ ap (with_type code) other)
    ∙ with_cmp code (t / 256) xs ys
    ∙ sym (both (tight_maps (t ∷ ts)) (t / 256 ∷ xs) (tight_maps (u ∷ us)) (t / 256 ∷ ys) f.octets other)

-- In one window the longer map stands behind, and of maps of one length that with the lower type.
same_window : (t u : ℕ) (ts us : List ℕ) → t / 256 ≡ u / 256 → t < u → MapFront t ts → MapFront u us → slice_cmp nat_cmp (tight_maps (t ∷ ts)) (tight_maps (u ∷ us)) ≡ ordering_then (nat_cmp (map_len t ts) (map_len u us)) Greater
same_window t u ts us same lt f g =
    let inside : octet_place t < length g.map = omega (arith, from_length (octet_place u) (octet_bit u) g.map g.set, place_order t u lt same) in
    let maps : slice_cmp nat_cmp (f.map ++ f.rest) (g.map ++ g.rest) ≡ Greater =
    from_below (octet_place t) (octet_bit t) (f.map ++ f.rest) (g.map ++ g.rest)
    (from_behind (octet_place t) (octet_bit t) f.map f.rest f.set)
    (below_behind (octet_place t) (octet_bit t) g.map g.rest inside (g.clear t lt same)) in
    both (tight_maps (t ∷ ts)) (t / 256 ∷ length f.map ∷ (f.map ++ f.rest)) (tight_maps (u ∷ us)) (t / 256 ∷ length g.map ∷ (g.map ++ g.rest)) f.octets (g.octets ∙ ap (λ (n : ℕ). n ∷ length g.map ∷ (g.map ++ g.rest)) (sym same))
    ∙ tied (t / 256) (ordering_then (nat_cmp (length f.map) (length g.map)) (slice_cmp nat_cmp (f.map ++ f.rest) (g.map ++ g.rest)))
    ∙ ap (ordering_then (nat_cmp (length f.map) (length g.map))) maps
    ∙ ap (λ (n : ℕ). ordering_then (nat_cmp n (length g.map)) Greater) f.long
    ∙ ap (λ (n : ℕ). ordering_then (nat_cmp (map_len t ts) n) Greater) g.long

-- A window that goes on stands behind one that ends.
longer : (code t : ℕ) (ts ys : List ℕ) → code < t → code / 256 ≡ t / 256 → MapFront t ts → slice_cmp nat_cmp (tight_maps (code ∷ t ∷ ts)) (window_of code ++ ys) ≡ Greater
longer code t ts ys lt same f =
    both (tight_maps (code ∷ t ∷ ts)) (code / 256 ∷ length f.map ∷ with_bit place bit (f.map ++ f.rest)) (window_of code ++ ys) (code / 256 ∷ (place + 1) ∷ (replicate place 0 ++ bit ∷ ys))
    (
    tight_more code (t ∷ ts) ∙ ap (with_type code) f.octets
    ∙ ap (λ (b : Bool). cond b (t / 256 ∷ length f.map ∷ with_bit place bit (f.map ++ f.rest)) (window_of code ++ t / 256 ∷ length f.map ∷ (f.map ++ f.rest))) (test_same (t / 256) (code / 256) (sym same))
    ∙ ap (λ (n : ℕ). n ∷ length f.map ∷ with_bit place bit (f.map ++ f.rest)) (sym same)
    )
    (ap (λ (xs : List ℕ). code / 256 ∷ (place + 1) ∷ xs) (append_assoc (replicate place 0) (bit ∷ []) ys))
    ∙ tied (code / 256) (ordering_then (nat_cmp (length f.map) (place + 1)) (slice_cmp nat_cmp (with_bit place bit (f.map ++ f.rest)) (replicate place 0 ++ bit ∷ ys)))
    ∙ by_length (nat_cmp (length f.map) (place + 1)) (ranked (length f.map) (place + 1) (nat_cmp (length f.map) (place + 1)) refl)
  where
    place : ℕ
    place = octet_place code

    bit : ℕ
    bit = octet_bit code

    by_length : (o : Ordering) → MatchOrdering o (length f.map < place + 1) (length f.map ≡ place + 1) (place + 1 < length f.map) → ordering_then o (slice_cmp nat_cmp (with_bit place bit (f.map ++ f.rest)) (replicate place 0 ++ bit ∷ ys)) ≡ Greater
    by_length Less h = absurd (omega (arith, h, from_length (octet_place t) (octet_bit t) f.map f.set, place_order code t lt same))
    by_length Equal h =
        let there : octet_place t ≡ place = omega (arith, h, from_length (octet_place t) (octet_bit t) f.map f.set, place_order code t lt same) in
        let set : From place (octet_bit t) f.map = subst (λ (n : ℕ). From n (octet_bit t) f.map) there f.set in
        from_below place (1 + bit) (with_bit place bit (f.map ++ f.rest)) (replicate place 0 ++ bit ∷ ys)
        (bit_from place bit 1 (f.map ++ f.rest) (from_behind place 1 f.map f.rest (from_less place (octet_bit t) 1 f.map (bit_some t) set)))
        (alone_there place bit (1 + bit) ys (omega arith))
    by_length Greater h = refl

-- Behind the last type that they have in common.

abbrev rising : Option ℕ → ℕ → List ℕ → Type 0
rising common t ts = Rises 0 (codes_after common (t ∷ ts)) 65536

front_of : (common : Option ℕ) (t : ℕ) (ts : List ℕ) → rising common t ts → MapFront t ts
front_of None t ts r = front t ts (omega (arith, rises_up (t + 1) 65536 ts r.1)) r.1
front_of (Some code) t ts r = front t ts (omega (arith, rises_up (t + 1) 65536 ts r.1.1)) r.1.1

-- Where the octets decide, the types do.
decide : (xs ys : List ℕ) (o : Ordering) → slice_cmp nat_cmp (tight_maps xs) (tight_maps ys) ≡ ordering_then o Greater → types_cmp xs ys ≡ ordering_then o Greater
decide xs ys o e = ap (λ (p : Ordering). ordering_then p (slice_cmp nat_cmp xs ys)) e ∙ decided o
  where
    decided : (o : Ordering) → ordering_then (ordering_then o Greater) (slice_cmp nat_cmp xs ys) ≡ ordering_then o Greater
    decided Less = refl
    decided Equal = refl
    decided Greater = refl

turned : (xs ys : List ℕ) (o : Ordering) → types_cmp ys xs ≡ o → types_cmp xs ys ≡ ordering_reverse o
turned xs ys o e = types_total.antisymm xs ys ∙ ap ordering_reverse e

without_common : (common : Option ℕ) (t u : ℕ) (ts us : List ℕ) → t / 256 ≡ u / 256 → MapFront t ts → MapFront u us → slice_cmp nat_cmp (tight_maps (codes_after common (t ∷ ts))) (tight_maps (codes_after common (u ∷ us))) ≡ slice_cmp nat_cmp (tight_maps (t ∷ ts)) (tight_maps (u ∷ us))
without_common None t u ts us same f g = refl
without_common (Some code) t u ts us same f g = same_types code t u ts us same f g

in_window : (common : Option ℕ) (t u : ℕ) (ts us : List ℕ) → t / 256 ≡ u / 256 → t < u → MapFront t ts → MapFront u us → types_cmp (codes_after common (t ∷ ts)) (codes_after common (u ∷ us)) ≡ ordering_then (nat_cmp (map_len t ts) (map_len u us)) Greater
in_window common t u ts us same lt f g =
    decide (codes_after common (t ∷ ts)) (codes_after common (u ∷ us)) (nat_cmp (map_len t ts) (map_len u us)) (without_common common t u ts us same f g ∙ same_window t u ts us same lt f g)

turned_then : (o : Ordering) → ordering_reverse (ordering_then o Greater) ≡ ordering_then (ordering_reverse o) Less
turned_then Less = refl
turned_then Equal = refl
turned_then Greater = refl

pub one_window : (common : Option ℕ) (t u : ℕ) (ts us : List ℕ) → t / 256 ≡ u / 256 → (t ≡ u → ⊥) → rising common t ts → rising common u us → ordering_then (nat_cmp (map_len t ts) (map_len u us)) (nat_cmp u t) ≡ types_cmp (codes_after common (t ∷ ts)) (codes_after common (u ∷ us))
one_window common t u ts us same apart r s = by_order (nat_cmp t u) (ranked t u (nat_cmp t u) refl)
  where
    by_order : (o : Ordering) → MatchOrdering o (t < u) (t ≡ u) (u < t) → ordering_then (nat_cmp (map_len t ts) (map_len u us)) (nat_cmp u t) ≡ types_cmp (codes_after common (t ∷ ts)) (codes_after common (u ∷ us))
    by_order Less h =
        ap (ordering_then (nat_cmp (map_len t ts) (map_len u us))) (sym (nat_cmp_is u t Greater h))
        ∙ sym (in_window common t u ts us same h (front_of common t ts r) (front_of common u us s))
    by_order Equal h = absurd (apart h)
    by_order Greater h =
        ap (ordering_then (nat_cmp (map_len t ts) (map_len u us))) (sym (nat_cmp_is u t Less h))
        ∙ ap (λ (o : Ordering). ordering_then o Less) (nat_cmp_total.antisymm (map_len t ts) (map_len u us))
        ∙ sym (turned_then (nat_cmp (map_len u us) (map_len t ts)))
        ∙ sym (turned (codes_after common (t ∷ ts)) (codes_after common (u ∷ us)) (ordering_then (nat_cmp (map_len u us) (map_len t ts)) Greater) (in_window common u t us ts (sym same) h (front_of common u us s) (front_of common t ts r)))

test_apart : (n m : ℕ) → (n ≡ m → ⊥) → (n == m) ≡ false
test_apart n m apart = by_test (n == m) refl
  where
    by_test : (b : Bool) → b ≡ (n == m) → (n == m) ≡ false
    by_test true e = absurd (apart (eqb-true n m (sym e)))
    by_test false e = sym e

-- A type in another window has one of its own.
other_window : (code u : ℕ) (us : List ℕ) → code / 256 < u / 256 → MapFront u us → tight_maps (code ∷ u ∷ us) ≡ window_of code ++ tight_maps (u ∷ us)
other_window code u us lt g =
    let ys = length g.map ∷ (g.map ++ g.rest) in
    tight_more code (u ∷ us) ∙ ap (with_type code) g.octets
    ∙ ap (λ (b : Bool). cond b (u / 256 ∷ with_bit (suc (octet_place code)) (octet_bit code) ys) (window_of code ++ u / 256 ∷ ys)) (test_apart (u / 256) (code / 256) (λ same. omega (arith, lt, same)))
    ∙ ap (λ (xs : List ℕ). window_of code ++ xs) (sym g.octets)

heads : (t u : ℕ) (ts us : List ℕ) → t / 256 < u / 256 → MapFront t ts → MapFront u us → slice_cmp nat_cmp (tight_maps (t ∷ ts)) (tight_maps (u ∷ us)) ≡ Less
heads t u ts us lt f g =
    both (tight_maps (t ∷ ts)) (t / 256 ∷ length f.map ∷ (f.map ++ f.rest)) (tight_maps (u ∷ us)) (u / 256 ∷ length g.map ∷ (g.map ++ g.rest)) f.octets g.octets
    ∙ ap (λ (o : Ordering). ordering_then o (slice_cmp nat_cmp (length f.map ∷ (f.map ++ f.rest)) (length g.map ∷ (g.map ++ g.rest)))) (sym (nat_cmp_is (t / 256) (u / 256) Less lt))

-- In two windows.
windows_apart : (common : Option ℕ) (t u : ℕ) (ts us : List ℕ) → t / 256 < u / 256 → rising common t ts → MapFront t ts → MapFront u us → (b : Bool) → b ≡ shares_window common t → types_cmp (codes_after common (t ∷ ts)) (codes_after common (u ∷ us)) ≡ cond b Greater Less
windows_apart None t u ts us lt r f g true e = absurd (cc)
windows_apart None t u ts us lt r f g false e = decide (t ∷ ts) (u ∷ us) Less (heads t u ts us lt f g)
windows_apart (Some code) t u ts us lt r f g true e =
    let same : code / 256 ≡ t / 256 = eqb-true (code / 256) (t / 256) (sym e) in
    decide (code ∷ t ∷ ts) (code ∷ u ∷ us) Greater (
    ap (slice_cmp nat_cmp (tight_maps (code ∷ t ∷ ts))) (other_window code u us (omega (arith, same, lt)) g)
    ∙ longer code t ts (tight_maps (u ∷ us)) (omega (arith, r.1.0)) same f
    )
windows_apart (Some code) t u ts us lt r f g false e =
    let before : code / 256 < t / 256 = test_above (code / 256) (t / 256) (e ∙ nat_eq_equiv.symm (code / 256) (t / 256)) (omega (arith, r.1.0)) in
    decide (code ∷ t ∷ ts) (code ∷ u ∷ us) Less (
    both (tight_maps (code ∷ t ∷ ts)) (window_of code ++ tight_maps (t ∷ ts)) (tight_maps (code ∷ u ∷ us)) (window_of code ++ tight_maps (u ∷ us)) (other_window code t ts before f) (other_window code u us (omega (arith, before, lt)) g)
    ∙ same_front (window_of code) (tight_maps (t ∷ ts)) (tight_maps (u ∷ us))
    ∙ heads t u ts us lt f g
    )

turned_cond : (b : Bool) → ordering_reverse (cond b Greater Less) ≡ cond b Less Greater
turned_cond true = refl
turned_cond false = refl

-- The order of two windows, turned around where the lower one began before.
pub two_windows : (common : Option ℕ) (t u : ℕ) (ts us : List ℕ) (o : Ordering) → o ≡ nat_cmp (t / 256) (u / 256) → (o ≡ Equal → ⊥) → (lower : ℕ) → lower ≡ min t u → (b : Bool) → b ≡ shares_window common lower → rising common t ts → rising common u us → cond b (ordering_reverse o) o ≡ types_cmp (codes_after common (t ∷ ts)) (codes_after common (u ∷ us))
two_windows common t u ts us Less is apart lower low b e r s =
    let lt : t / 256 < u / 256 = ranked (t / 256) (u / 256) Less is in
    let first : lower ≡ t = omega (arith, low, lt) in
    sym (windows_apart common t u ts us lt r (front_of common t ts r) (front_of common u us s) b (e ∙ ap (shares_window common) first))
two_windows common t u ts us Equal is apart lower low b e r s = absurd (apart refl)
two_windows common t u ts us Greater is apart lower low b e r s =
    let lt : u / 256 < t / 256 = ranked (t / 256) (u / 256) Greater is in
    let first : lower ≡ u = omega (arith, low, lt) in
    sym (turned (codes_after common (t ∷ ts)) (codes_after common (u ∷ us)) (cond b Greater Less) (windows_apart common u t us ts lt s (front_of common u us s) (front_of common t ts r) b (e ∙ ap (shares_window common) first)) ∙ turned_cond b)

-- The same type in both.
walk_on : (common : Option ℕ) (t : ℕ) (ts us : List ℕ) → rising common t ts → rising common t us → types_cmp (codes_after common (t ∷ ts)) (codes_after common (t ∷ us)) ≡ types_cmp (t ∷ ts) (t ∷ us)
walk_on None t ts us r s = refl
walk_on (Some code) t ts us r s =
    ap (λ (o : Ordering). ordering_then o (slice_cmp nat_cmp (code ∷ t ∷ ts) (code ∷ t ∷ us))) (same_types code t t ts us refl (front_of (Some code) t ts r) (front_of (Some code) t us s))
    ∙ ap (ordering_then (slice_cmp nat_cmp (tight_maps (t ∷ ts)) (tight_maps (t ∷ us)))) (tied code (slice_cmp nat_cmp (t ∷ ts) (t ∷ us)))

-- One that ends stands before one that goes on.
ends : (common : Option ℕ) (u : ℕ) (us : List ℕ) → rising common u us → MapFront u us → types_cmp (codes_after common []) (codes_after common (u ∷ us)) ≡ Less
ends None u us r g =
    decide [] (u ∷ us) Less (both (tight_maps []) [] (tight_maps (u ∷ us)) (u / 256 ∷ length g.map ∷ (g.map ++ g.rest)) tight_none g.octets)
ends (Some code) u us r g = by_window (u / 256 == code / 256) refl
  where
    by_window : (b : Bool) → b ≡ (u / 256 == code / 256) → types_cmp (code ∷ []) (code ∷ u ∷ us) ≡ Less
    by_window true e =
        turned (code ∷ []) (code ∷ u ∷ us) Greater
        (decide (code ∷ u ∷ us) (code ∷ []) Greater (
        ap (slice_cmp nat_cmp (tight_maps (code ∷ u ∷ us))) (tight_one code ∙ sym (append-nil (window_of code)))
        ∙ longer code u us [] (omega (arith, r.1.0)) (sym (eqb-true (u / 256) (code / 256) (sym e))) g
        ))
    by_window false e =
        decide (code ∷ []) (code ∷ u ∷ us) Less (
        both (tight_maps (code ∷ [])) (window_of code ++ []) (tight_maps (code ∷ u ∷ us)) (window_of code ++ tight_maps (u ∷ us)) (tight_one code ∙ sym (append-nil (window_of code))) (other_window code u us (test_above (code / 256) (u / 256) e (omega (arith, r.1.0))) g)
        ∙ same_front (window_of code) [] (tight_maps (u ∷ us))
        ∙ ap (slice_cmp nat_cmp []) g.octets
        )

pub walk_end : (common : Option ℕ) (xs ys : List ℕ) → (xs ≡ []) ⊎ (ys ≡ []) → Rises 0 (codes_after common xs) 65536 → Rises 0 (codes_after common ys) 65536 → nat_cmp (length xs) (length ys) ≡ types_cmp (codes_after common xs) (codes_after common ys)
walk_end common [] [] over r s = sym (tied_itself types_total (codes_after common []))
walk_end common [] (y ∷ ys) over r s = sym (nat_cmp_is 0 (length (y ∷ ys)) Less (omega arith)) ∙ sym (ends common y ys s (front_of common y ys s))
walk_end common (x ∷ xs) [] over r s =
    sym (nat_cmp_is (length (x ∷ xs)) 0 Greater (omega arith))
    ∙ sym (turned (codes_after common (x ∷ xs)) (codes_after common []) Less (ends common x xs r (front_of common x xs r)))
walk_end common (x ∷ xs) (y ∷ ys) over r s = elim over [ inl e ↦ absurd (cc e) | inr e ↦ absurd (cc e) ]

pub rises_next : (common : Option ℕ) (t : ℕ) (ts left : List ℕ) → left ≡ t ∷ ts → Rises 0 (codes_after common left) 65536 → (0 ≤ t) × Rises (t + 1) ts 65536
rises_next None t ts left e r = let s : Rises 0 (t ∷ ts) 65536 = subst (λ (xs : List ℕ). Rises 0 xs 65536) e r in (omega arith, s.1)
rises_next (Some code) t ts left e r = let s : Rises 0 (code ∷ t ∷ ts) 65536 = subst (λ (xs : List ℕ). Rises 0 (code ∷ xs) 65536) e r in (omega arith, s.1.1)

pub walk_next : (common : Option ℕ) (t u : ℕ) (ts us left right : List ℕ) → left ≡ t ∷ ts → right ≡ u ∷ us → t ≡ u → Rises 0 (codes_after common left) 65536 → Rises 0 (codes_after common right) 65536 → types_cmp (codes_after common left) (codes_after common right) ≡ types_cmp (t ∷ ts) (t ∷ us)
walk_next common t u ts us left right e f same r s =
    let other : right ≡ t ∷ us = f ∙ ap (λ (n : ℕ). n ∷ us) (sym same) in
    ap (λ (xs : List ℕ). types_cmp (codes_after common xs) (codes_after common right)) e
    ∙ ap (λ (xs : List ℕ). types_cmp (codes_after common (t ∷ ts)) (codes_after common xs)) other
    ∙ walk_on common t ts us
    (subst (λ (xs : List ℕ). Rises 0 (codes_after common xs) 65536) e r)
    (subst (λ (xs : List ℕ). Rises 0 (codes_after common xs) 65536) other s)
