-- Laws of entries: each takes octets, and octets that begin with one end it in one place.
use Rattle.std.proofs.Common.{◌≡◌, Bool, ℕ, List, [], ◌++◌, length, refl, sym, ap, ◌∙◌}
use Rattle.std.specs.Ordering.{ordering_then}
use Rattle.std.specs.declared.cmp.Ordering.{Ordering}
use Rattle.std.proofs.lemmas.List.{append-nil}
use Rattle.std.specs.Net.Addr.{ipv4_bits}
use Rattle.drd_params.specs.dnw_decoder.Octets.{octets_32}
use Rattle.drd_params.specs.drd_fields.Equality.{Tells, TellsApart}
use Rattle.drd_params.specs.drd_fields.Order.{Orders, OrdersFronts, octets_cmp}
use Rattle.drd_fields.proofs.OrderLaws.{cmp_fronts}
use Rattle.drd_params.specs.declared.a.A.{A}
use Rattle.drd_params.specs.declared.aaaa.AAAA.{AAAA}
use Rattle.drd_params.specs.AddressEntries.{a_octets, aaaa_octets}
use Rattle.drd_param_keys.specs.EntryLaws.{fronts_same}
use Rattle.drd_params.specs.AddressLaws.{length_a}

-- Octets of one length that differ do so whatever is behind them.
apart : (same : Bool) (xs ys : List ℕ) → length xs ≡ length ys → Tells same xs ys
    → TellsApart same xs ys
apart same xs ys long tells = record {
  equal = tells.equal;
  other = λ e behind others whole. tells.other e (fronts_same xs ys behind others long whole).0;
}

pub a_apart : (a b : A) (same : Bool) → Tells same (a_octets a) (a_octets b)
    → TellsApart same (a_octets a) (a_octets b)
a_apart a b same tells = apart same (a_octets a) (a_octets b) (length_a a ∙ sym (length_a b)) tells

pub aaaa_apart : (a b : AAAA) (same : Bool) → Tells same (aaaa_octets a) (aaaa_octets b)
    → TellsApart same (aaaa_octets a) (aaaa_octets b)
aaaa_apart a b same tells = apart same (aaaa_octets a) (aaaa_octets b) refl tells

-- An order of octets decides where there are as many of both.
fronts : (o : Ordering) (xs ys : List ℕ) → length xs ≡ length ys → o ≡ octets_cmp xs ys
    → OrdersFronts o xs ys
fronts o xs ys long is = record {
  decides =
      λ us vs. cmp_fronts xs ys us vs long
      ∙ ap (λ (r : Ordering). ordering_then r (octets_cmp us vs)) (sym is);
}

pub a_fronts : (a b : A) (o : Ordering)
    → OrdersFronts o (octets_32 (ipv4_bits a.0)) (octets_32 (ipv4_bits b.0))
    → OrdersFronts o (a_octets a) (a_octets b)
a_fronts a b o h = record {
  decides = λ us vs.
      ap (λ (xs : List ℕ). octets_cmp (xs ++ us) ((octets_32 (ipv4_bits b.0) ++ []) ++ vs))
      (append-nil (octets_32 (ipv4_bits a.0)))
      ∙ ap (λ (xs : List ℕ). octets_cmp (octets_32 (ipv4_bits a.0) ++ us) (xs ++ vs))
      (append-nil (octets_32 (ipv4_bits b.0)))
      ∙ h.decides us vs;
}

pub aaaa_fronts : (a b : AAAA) (o : Ordering) → Orders o (aaaa_octets a) (aaaa_octets b)
    → OrdersFronts o (aaaa_octets a) (aaaa_octets b)
aaaa_fronts a b o is = fronts o (aaaa_octets a) (aaaa_octets b) refl is
