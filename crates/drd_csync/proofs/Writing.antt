-- The data as they are written.
use Rattle.std.proofs.Common.{◌≡◌, ℕ, ◌+◌, ◌≤◌, inl, inr, List, [], ◌++◌, length, refl, sym, ap, subst, ◌∙◌, arith, append_assoc, append-nil}
use Rattle.std.proofs.lemmas.List.{length-append}
use Rattle.dnw_wire.specs.dnw_codes.declared.error.ProtoError.{ProtoError}
use Rattle.dnw_wire.specs.dnw_decoder.Octets.{Stands, octets_16, octets_32}
use Rattle.dnw_wire.proofs.dnw_decoder_lemmas.Standing.{stands_split, length-octets_32}
use Rattle.dnw_wire.specs.dnw_encoder.Effects.{WritesOctets, IsRefusal}
use Rattle.dnw_wire.proofs.dnw_encoder_lemmas.Laws.{holds_map, puts_stands}
use Rattle.dnw_wire.specs.dnw_encoder.State.{State}
use Rattle.dnw_wire.specs.BitMaps.{EmitsTypes, RefusesTypes}
use Rattle.dnw_wire.specs.BitMapLaws.{tight_reads}
use Rattle.drd_fields.specs.Fields.{FieldsAt}
use Rattle.drd_fields.specs.Writing.{fields_octets}
use Rattle.drd_fields.proofs.WritingLaws.{puts_then, refused_front, refused_later}
use Rattle.drd_csync.specs.declared.csync.CSYNC.{CSYNC}
use Rattle.drd_csync.specs.Data.{csync_fields, csync_flags, CsyncAt}
use Rattle.drd_csync.specs.Writing.{EmitsCsync, RefusesEmitCsync}

abbrev pub front_octets : CSYNC → List ℕ
front_octets csync = octets_32 csync.soa_serial ++ octets_16 (csync_flags csync)

front_six : (csync : CSYNC) → length (front_octets csync) ≡ 6
front_six csync = omega (arith, length-append (octets_32 csync.soa_serial) (octets_16 (csync_flags csync)), length-octets_32 csync.soa_serial)

together : (csync : CSYNC) (maps : List ℕ) → front_octets csync ++ maps ≡ fields_octets (csync_fields csync maps)
together csync maps =
    append_assoc (octets_32 csync.soa_serial) (octets_16 (csync_flags csync)) maps
    ∙ ap (λ (o : List ℕ). octets_32 csync.soa_serial ++ (octets_16 (csync_flags csync) ++ o)) (sym (append-nil maps))

-- The octets of the fields hold them.
fields_stand : (message : List ℕ) (place : ℕ) (csync : CSYNC) (maps : List ℕ) (end : ℕ) → Stands message place (fields_octets (csync_fields csync maps)) end → FieldsAt message place (csync_fields csync maps) end
fields_stand message place csync maps end there =
    let first = stands_split message place (octets_32 csync.soa_serial) (octets_16 (csync_flags csync) ++ (maps ++ [])) end there in
    let second = stands_split message (place + length (octets_32 csync.soa_serial)) (octets_16 (csync_flags csync)) (maps ++ []) end first.1 in
    let behind = (place + length (octets_32 csync.soa_serial)) + 2 in
    (place + length (octets_32 csync.soa_serial), first.0, (behind, second.0, (end, subst (λ (o : List ℕ). Stands message behind o end) (append-nil maps) second.1, refl)))

-- The front and the bit maps are the data.
pub emitted : (csync : CSYNC) (old mid new : State) → old.offset ≤ length old.octets → WritesOctets (front_octets csync) old mid → EmitsTypes csync.type_bit_maps mid new → EmitsCsync csync old new
emitted csync old mid new within front types =
    let all : WritesOctets (fields_octets (csync_fields csync types.octets)) old new =
    subst (λ (o : List ℕ). WritesOctets o old new) (together csync types.octets) (puts_then (front_octets csync) types.octets old mid new within front types.puts) in
    record {
      octets = types.octets;
      maps = types.maps;
      small = types.small;
      puts = all;
      stays = λ sound.
          holds_map new.offset new (λ message. Stands message old.offset (fields_octets (csync_fields csync types.octets)) new.offset) (λ message. CsyncAt message old.offset csync new.offset)
          (λ message there. record { octets = types.octets; maps = tight_reads 0 types.octets csync.type_bit_maps types.maps; there = fields_stand message old.offset csync types.octets new.offset there })
          (puts_stands (fields_octets (csync_fields csync types.octets)) old new sound all);
      fits = omega (arith, types.fits, front.modes.maximum);
    }

-- Why the front is refused.
pub serial_refused : (old : State) (e : ProtoError) → IsRefusal old 4 e → IsRefusal old 6 e
serial_refused old e refused = refused_front 4 2 old e refused

pub flags_refused : (serial : ℕ) (old mid : State) (e : ProtoError) → WritesOctets (octets_32 serial) old mid → IsRefusal mid 2 e → IsRefusal old 6 e
flags_refused serial old mid e put refused =
    refused_later 2 4 old mid e put.modes (omega (arith, put.offset, length-octets_32 serial)) refused

pub front_put : (csync : CSYNC) (old mid new : State) → old.offset ≤ length old.octets → WritesOctets (octets_32 csync.soa_serial) old mid → WritesOctets (octets_16 (csync_flags csync)) mid new → WritesOctets (front_octets csync) old new
front_put csync old mid new within serial flags = puts_then (octets_32 csync.soa_serial) (octets_16 (csync_flags csync)) old mid new within serial flags

-- Why the bit maps behind the front are.
pub types_refused : (csync : CSYNC) (old mid new : State) (e : ProtoError) → WritesOctets (front_octets csync) old mid → RefusesTypes csync.type_bit_maps mid e new → RefusesEmitCsync csync old e
types_refused csync old mid new e front refused =
    elim refused.cause [
      | inl memory ↦ inl (inl memory)
      | inr maps ↦ inr (maps.0, maps.1, refused_later (length maps.0) 6 old mid e front.modes (omega (arith, front.offset, front_six csync)) maps.2)
    ]
