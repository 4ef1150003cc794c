-- The data in parts: the front, and the bit maps behind it.
use Rattle.std.proofs.Common.{◌≡◌, ℕ, ◌+◌, ◌/◌, ◌%◌, ◌<◌, ◌≤◌, ◌⊎◌, inl, inr, List, [], ◌∷◌, length, refl, sym, subst, ◌∙◌, arith}
use Rattle.dnw_wire.specs.dnw_codes.declared.error.DecodeError.{DecodeError}
use Rattle.dnw_wire.specs.dnw_codes.declared.error.DecodeError.TheVariants.{NsecBitmapOutOfBounds}
use Rattle.dnw_wire.specs.dnw_decoder.Octets.{Stands, octets_16}
use Rattle.dnw_wire.specs.dnw_decoder.Reading.{IsWantOfMemory, LacksOctets, Reading}
use Rattle.dnw_wire.proofs.dnw_decoder_lemmas.Standing.{stands_same, length-octets_32}
use Rattle.dnw_wire.specs.BitMaps.{TypesAt}
use Rattle.drd_fields.specs.Fields.{a_long, a_short, AreOrdered, FieldsAt}
use Rattle.drd_fields.specs.FieldLaws.{ordered_more, stops_none}
use Rattle.drd_fields.specs.Reading.{StopsReading}
use Rattle.drd_csync.specs.declared.csync.CSYNC.{CSYNC}
use Rattle.drd_csync.specs.Data.{csync_flags, front_fields, front_kinds, MapsAt, CsyncAt}
use Rattle.drd_csync.specs.OrderLaws.{few_flags}
use Rattle.drd_csync.specs.Reading.{RefusesMaps}

-- The two parts of the data.
parts : (message : List ℕ) (place : ℕ) (csync : CSYNC) (end : ℕ) → CsyncAt message place csync end → (behind : ℕ) × FieldsAt message place (front_fields csync.soa_serial (csync_flags csync)) behind × MapsAt message behind csync.type_bit_maps end
parts message place csync end at = (
  at.there.2.0,
  (at.there.0, at.there.1, (at.there.2.0, at.there.2.1, refl)),
  record { octets = at.octets; maps = at.maps; there = subst (λ (n : ℕ). Stands message at.there.2.0 at.octets n) (sym at.there.2.2.2) at.there.2.2.1 },
)

whole : (message : List ℕ) (place : ℕ) (csync : CSYNC) (behind end : ℕ) → FieldsAt message place (front_fields csync.soa_serial (csync_flags csync)) behind → MapsAt message behind csync.type_bit_maps end → CsyncAt message place csync end
whole message place csync behind end front maps = record {
  octets = maps.octets;
  maps = maps.maps;
  there = (front.0, front.1, (front.2.0, front.2.1, (end, subst (λ (n : ℕ). Stands message n maps.octets end) front.2.2 maps.there, refl)));
}

-- Data made of a serial number, flags and types that stand.
pub made : (message : List ℕ) (place : ℕ) (csync : CSYNC) (serial flags behind : ℕ) (types : List ℕ) (end : ℕ) → csync.soa_serial ≡ serial → csync_flags csync ≡ flags → csync.type_bit_maps ≡ types → FieldsAt message place (front_fields serial flags) behind → MapsAt message behind types end → CsyncAt message place csync end
made message place csync serial flags behind types end same_serial same_flags same_types front maps =
    whole message place csync behind end
    (subst (λ (s : ℕ). FieldsAt message place (front_fields s (csync_flags csync)) behind) (sym same_serial)
    (subst (λ (f : ℕ). FieldsAt message place (front_fields serial f) behind) (sym same_flags) front))
    (subst (λ (ts : List ℕ). MapsAt message behind ts end) (sym same_types) maps)

-- One place holds the front once.
same_16 : (f g : ℕ) → f < 65536 → g < 65536 → octets_16 f ≡ octets_16 g → f ≡ g
same_16 f g small few same =
    let high : f / 256 % 256 ≡ g / 256 % 256 = cc same in
    let low : f % 256 ≡ g % 256 = cc same in
    omega (arith, high, low, small, few)

front_once : (message : List ℕ) (place s f t g a b : ℕ) → FieldsAt message place (front_fields s f) a → FieldsAt message place (front_fields t g) b → (octets_16 f ≡ octets_16 g) × (a ≡ b)
front_once message place s f t g a b p q =
    let first : p.0 ≡ q.0 = omega (arith, p.1.behind, q.1.behind, length-octets_32 s, length-octets_32 t) in
    let second = stands_same message p.0 (octets_16 f) (octets_16 g) p.2.0 q.2.0 refl p.2.1 (subst (λ (n : ℕ). Stands message n (octets_16 g) q.2.0) (sym first) q.2.1) in
    (second.0, p.2.2 ∙ second.1 ∙ sym q.2.2)

pub front_size : (message : List ℕ) (place s f a : ℕ) → FieldsAt message place (front_fields s f) a → a ≡ place + 6
front_size message place s f a p = omega (arith, p.1.behind, p.2.1.behind, p.2.2, length-octets_32 s)

-- Without a front there are no data.
pub no_front : (message : List ℕ) (place end : ℕ) → ((serial flags behind : ℕ) → FieldsAt message place (front_fields serial flags) behind → ⊥) → (csync : CSYNC) → CsyncAt message place csync end → ⊥
no_front message place end none csync at =
    let p = parts message place csync end at in
    none csync.soa_serial (csync_flags csync) p.0 p.1

-- Behind other flags there are none.
pub no_flags : (message : List ℕ) (place s f a end : ℕ) → FieldsAt message place (front_fields s f) a → f < 65536 → 3 < f → (csync : CSYNC) → CsyncAt message place csync end → ⊥
no_flags message place s f a end front small other csync at =
    let p = parts message place csync end at in
    let few : csync_flags csync ≤ 3 = few_flags csync in
    let same : f ≡ csync_flags csync = same_16 f (csync_flags csync) small (omega (arith, few)) (front_once message place s f csync.soa_serial (csync_flags csync) a p.0 front p.1).0 in
    omega (arith, few, same, other)

-- Where no bit maps stand behind the front there are none.
pub no_maps : (message : List ℕ) (place s f a end : ℕ) → FieldsAt message place (front_fields s f) a → ((types : List ℕ) → MapsAt message a types end → ⊥) → (csync : CSYNC) → CsyncAt message place csync end → ⊥
no_maps message place s f a end front none csync at =
    let p = parts message place csync end at in
    let same : a ≡ p.0 = (front_once message place s f csync.soa_serial (csync_flags csync) a p.0 front p.1).1 in
    none csync.type_bit_maps (subst (λ (n : ℕ). MapsAt message n csync.type_bit_maps end) (sym same) p.2)

front_ordered : AreOrdered front_kinds
front_ordered = ordered_more a_long (a_short ∷ []) refl (ordered_more a_short [] refl tt)

-- Where reading the front stops, there is none.
pub stops_front : (message : List ℕ) (end place : ℕ) (e : DecodeError) (at : ℕ) → place ≤ length message → StopsReading message end front_kinds place e at → IsWantOfMemory e ⊎ ((serial flags behind : ℕ) → FieldsAt message place (front_fields serial flags) behind → ⊥)
stops_front message end place e at within stops =
    elim (stops_none message end front_kinds place e at within front_ordered stops) [
      | inl memory ↦ inl memory
      | inr none ↦ inr (λ serial flags behind front. none (front_fields serial flags) behind refl (λ filled. absurd (cc filled)) front)
    ]

-- Bit maps of so many octets are those up to the end.
pub types_maps : (message : List ℕ) (place len : ℕ) (types : List ℕ) (behind end : ℕ) → place + len ≡ end → TypesAt message place len types behind → MapsAt message place types end × (behind ≡ end)
types_maps message place len types behind end size at =
    let same : behind ≡ end = omega (arith, at.there.behind, at.long, size) in
    (record { octets = at.octets; maps = at.maps; there = subst (λ (n : ℕ). Stands message place at.octets n) same at.there }, same)

maps_types : (message : List ℕ) (place len : ℕ) (types : List ℕ) (end : ℕ) → place + len ≡ end → MapsAt message place types end → TypesAt message place len types end
maps_types message place len types end size at = record {
  octets = at.octets;
  there = at.there;
  long = omega (arith, at.there.behind, size);
  maps = at.maps;
}

pub no_types : (message : List ℕ) (place len : ℕ) (end : ℕ) → place + len ≡ end → ((types : List ℕ) (behind : ℕ) → TypesAt message place len types behind → ⊥) → (types : List ℕ) → MapsAt message place types end → ⊥
no_types message place len end size none types at = none types end (maps_types message place len types end size at)

no_memory : (e : DecodeError) → e ≡ NsecBitmapOutOfBounds → IsWantOfMemory e → ⊥
no_memory e is memory = subst IsWantOfMemory is memory

-- Why the bit maps are refused.
pub maps_refused : (old new : Reading) (len end : ℕ) (e : DecodeError) → old.index + len ≡ end → IsWantOfMemory e ⊎ (LacksOctets old len new e ⊎ (e ≡ NsecBitmapOutOfBounds)) → IsWantOfMemory e ⊎ ((types : List ℕ) (behind : ℕ) → TypesAt old.octets old.index len types behind → ⊥) → RefusesMaps old.octets end old.index e
maps_refused old new len end e size (inl memory) none = inl memory
maps_refused old new len end e size (inr (inl lacks)) none = inr (inl (record { cause = lacks.cause; short = inr (omega (arith, lacks.short, size)) }))
maps_refused old new len end e size (inr (inr is)) none =
    elim none [
      | inl memory ↦ inl memory
      | inr never ↦ inr (inr (record { cause = is; none = no_types old.octets old.index len end size never }))
    ]
