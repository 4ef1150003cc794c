-- Laws of the order of the data of CSYNC records, and of their hash.
use Rattle.std.proofs.Common.{◌≡◌, ℕ, ◌^◌, ◌<◌, ◌≤◌, ◌==◌, ◌&&◌, nat_eq, nat_lt, cond, refl, Bool, true, false, List, [], ◌++◌, sym, ap, ◌∙◌, arith, append-nil}
use Rattle.std.proofs.lemmas.Bool.Decides.{nat_tests}
use Rattle.std.proofs.lemmas.Cmp.{then_total, on_total, nat_cmp_total}
use Rattle.std.specs.Cmp.{IsTotalOrder}
use Rattle.std.specs.Hash as fed
use Rattle.std.specs.Cmp.Lexicographic.{pointwise}
use Rattle.std.specs.Ordering.{nat_cmp, ordering_then, eq_by_cmp, is_eq}
use Rattle.std.specs.declared.cmp.Ordering.{Ordering}
use Rattle.std.specs.declared.cmp.Ordering.TheVariants.{Less, Equal, Greater}
use Rattle.dnw_wire.specs.dnw_decoder.Octets.{octets_16}
use Rattle.dnw_wire.specs.MapOrder.{types_cmp}
use Rattle.dnw_wire.specs.MapOrderLaws.{types_total, types_ties, types_order}
use Rattle.drd_fields.proofs.EqualityLaws.{both_true, from_test, same_octets}
use Rattle.drd_fields.specs.Writing.{fields_octets}
use Rattle.drd_fields.specs.Order.{octets_cmp}
use Rattle.drd_fields.proofs.OrderLaws.{long_orders, short_orders}
use Rattle.drd_csync.specs.declared.csync.CSYNC.{CSYNC}
use Rattle.drd_csync.specs.Data.{csync_fields, csync_flags}
use Rattle.drd_csync.specs.Equality.{csync_eq, AreWrittenMaps}
use Rattle.drd_csync.specs.Order.{csync_cmp, csync_input}

pub csync_total : IsTotalOrder csync_cmp
csync_total =
    then_total (on_total (λ (csync : CSYNC). csync.soa_serial) nat_cmp_total)
    (then_total (on_total csync_flags nat_cmp_total)
    (on_total (λ (csync : CSYNC). csync.type_bit_maps) types_total))

-- An order that ties where both of two do.
both_tie : (b c : Bool) (o p : Ordering) → b ≡ is_eq o → c ≡ is_eq p
    → (b && c) ≡ is_eq (ordering_then o p)
both_tie b c Less p e f = ap (λ (t : Bool). t && c) e
both_tie b c Equal p e f = ap (λ (t : Bool). t && c) e ∙ f
both_tie b c Greater p e f = ap (λ (t : Bool). t && c) e

-- The data tie exactly where they are equal.
pub csync_ties : (a b : CSYNC) → csync_eq a b ≡ eq_by_cmp csync_cmp a b
csync_ties a b =
    both_tie (a.soa_serial == b.soa_serial)
    (csync_flags a == csync_flags b && pointwise nat_eq a.type_bit_maps b.type_bit_maps)
    (nat_cmp a.soa_serial b.soa_serial)
    (ordering_then (nat_cmp (csync_flags a) (csync_flags b))
    (types_cmp a.type_bit_maps b.type_bit_maps))
    (numbers_tie a.soa_serial b.soa_serial)
    (both_tie (csync_flags a == csync_flags b) (pointwise nat_eq a.type_bit_maps b.type_bit_maps)
    (nat_cmp (csync_flags a) (csync_flags b)) (types_cmp a.type_bit_maps b.type_bit_maps)
    (numbers_tie (csync_flags a) (csync_flags b))
    (types_ties a.type_bit_maps b.type_bit_maps))
  where
    numbers_tie : (n m : ℕ) → (n == m) ≡ is_eq (nat_cmp n m)
    numbers_tie n m = by_test (nat_lt n m) (n == m) refl refl
      where
        by_test : (less same : Bool) → less ≡ nat_lt n m → same ≡ (n == m)
            → same ≡ is_eq (cond less Less (cond same Equal Greater))
        by_test true true p q = grind (arith, nat_tests)
        by_test true false p q = refl
        by_test false true p q = refl
        by_test false false p q = refl

at_most : (b : Bool) (n : ℕ) → cond b n 0 ≤ n
at_most true n = omega arith
at_most false n = omega arith

pub few_flags : (csync : CSYNC) → csync_flags csync ≤ 3
few_flags csync = omega (arith, at_most csync.immediate 1, at_most csync.soa_minimum 2)

-- It is the order of the octets that are written.
pub csync_order : (a b : CSYNC) → a.soa_serial < 2 ^ 32 → b.soa_serial < 2 ^ 32 → (xs ys : List ℕ)
    → AreWrittenMaps a xs → AreWrittenMaps b ys
    → csync_cmp a b
    ≡ octets_cmp (fields_octets (csync_fields a xs)) (fields_octets (csync_fields b ys))
csync_order a b small few xs ys p q =
    ap
    (λ (o : Ordering). ordering_then (nat_cmp a.soa_serial b.soa_serial)
    (ordering_then (nat_cmp (csync_flags a) (csync_flags b)) o))
    (types_order xs ys a.type_bit_maps b.type_bit_maps p q
    ∙ ap (λ (zs : List ℕ). octets_cmp zs ys) (sym (append-nil xs))
    ∙ ap (octets_cmp (xs ++ [])) (sym (append-nil ys)))
    ∙ ap (ordering_then (nat_cmp a.soa_serial b.soa_serial))
    (sym
    ((short_orders (csync_flags a) (csync_flags b) (omega (arith, few_flags a))
    (omega (arith, few_flags b))).decides (xs ++ []) (ys ++ [])))
    ∙ sym
    ((long_orders a.soa_serial b.soa_serial small few).decides
    (octets_16 (csync_flags a) ++ (xs ++ [])) (octets_16 (csync_flags b) ++ (ys ++ [])))

-- Equal data feed a hasher the same.
pub csync_fed : (a b : CSYNC) → csync_eq a b ≡ true → csync_input a ≡ csync_input b
csync_fed a b e =
    let front =
    both_true (a.soa_serial == b.soa_serial)
    (csync_flags a == csync_flags b && pointwise nat_eq a.type_bit_maps b.type_bit_maps)
    e in
    let behind =
    both_true (csync_flags a == csync_flags b)
    (pointwise nat_eq a.type_bit_maps b.type_bit_maps) front.1 in
    ap (λ (n : ℕ). fed.u32 n ++ (fed.u16 (csync_flags a) ++ fed.slice fed.u16 a.type_bit_maps))
    (from_test a.soa_serial b.soa_serial front.0)
    ∙ ap (λ (n : ℕ). fed.u32 b.soa_serial ++ (fed.u16 n ++ fed.slice fed.u16 a.type_bit_maps))
    (from_test (csync_flags a) (csync_flags b) behind.0)
    ∙ ap
    (λ (ts : List ℕ). fed.u32 b.soa_serial ++ (fed.u16 (csync_flags b) ++ fed.slice fed.u16 ts))
    (same_octets a.type_bit_maps b.type_bit_maps behind.1)
