-- Equality tells whether the octets that are written are the same.
use Rattle.std.proofs.Common.{◌≡◌, ℕ, ◌^◌, ◌<◌, ◌==◌, ◌&&◌, nat_eq, Bool, true, false, List, [], ◌++◌, sym, subst, ◌∙◌, arith, append-nil}
use Rattle.std.specs.Cmp.Lexicographic.{pointwise, same_text}
use Rattle.std.proofs.lemmas.Cmp.{nat_list_eq_equiv}
use Rattle.dnw_wire.specs.dnw_decoder.Octets.{octets_16, octets_32}
use Rattle.dnw_wire.specs.BitMapLaws.{tight_reads, written_once, read_once}
use Rattle.drd_fields.specs.Equality.{Tells}
use Rattle.drd_fields.proofs.EqualityLaws.{front_tells, long_apart, short_apart}
use Rattle.drd_fields.specs.Writing.{fields_octets}
use Rattle.drd_csync.specs.declared.csync.CSYNC.{CSYNC}
use Rattle.drd_csync.specs.Data.{csync_fields, csync_flags}
use Rattle.drd_csync.specs.Equality.{csync_eq, AreWrittenMaps}
use Rattle.drd_csync.specs.OrderLaws.{few_flags}

true_or_false : (b : Bool) → b ≡ true → b ≡ false → ⊥
true_or_false b e f = cc

maps_tell : (a b : CSYNC) (xs ys : List ℕ) → AreWrittenMaps a xs → AreWrittenMaps b ys → Tells (pointwise nat_eq a.type_bit_maps b.type_bit_maps) (xs ++ []) (ys ++ [])
maps_tell a b xs ys p q = record {
  equal = λ e. append-nil xs ∙ written_once 0 0 xs ys a.type_bit_maps b.type_bit_maps p.maps q.maps p.small q.small (same_text a.type_bit_maps b.type_bit_maps (sym e)) ∙ sym (append-nil ys);
  other = λ e same.
      let types : a.type_bit_maps ≡ b.type_bit_maps = read_once 0 0 xs ys a.type_bit_maps b.type_bit_maps (tight_reads 0 xs a.type_bit_maps p.maps) (tight_reads 0 ys b.type_bit_maps q.maps) (sym (append-nil xs) ∙ same ∙ append-nil ys) in
      true_or_false (pointwise nat_eq a.type_bit_maps b.type_bit_maps) (subst (λ (t : List ℕ). pointwise nat_eq a.type_bit_maps t ≡ true) types (nat_list_eq_equiv.refl a.type_bit_maps)) e;
}

pub csync_tells : (a b : CSYNC) → a.soa_serial < 2 ^ 32 → b.soa_serial < 2 ^ 32 → (xs ys : List ℕ) → AreWrittenMaps a xs → AreWrittenMaps b ys → Tells (csync_eq a b) (fields_octets (csync_fields a xs)) (fields_octets (csync_fields b ys))
csync_tells a b small few xs ys p q =
    front_tells (a.soa_serial == b.soa_serial) (csync_flags a == csync_flags b && pointwise nat_eq a.type_bit_maps b.type_bit_maps) (octets_32 a.soa_serial) (octets_32 b.soa_serial) (octets_16 (csync_flags a) ++ (xs ++ [])) (octets_16 (csync_flags b) ++ (ys ++ []))
    (long_apart a.soa_serial b.soa_serial small few)
    (front_tells (csync_flags a == csync_flags b) (pointwise nat_eq a.type_bit_maps b.type_bit_maps) (octets_16 (csync_flags a)) (octets_16 (csync_flags b)) (xs ++ []) (ys ++ [])
    (short_apart (csync_flags a) (csync_flags b) (omega (arith, few_flags a)) (omega (arith, few_flags b)))
    (maps_tell a b xs ys p q))
