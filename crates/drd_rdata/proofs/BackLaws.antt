-- What is read where data were written has the same canonical octets.
use Rattle.std.proofs.Common.{◌≡◌, ℕ, ◌+◌, ◌++◌, inl, inr, Bool, true, false, List, [], ◌∷◌, map, refl, sym, ap, subst, ◌∙◌, arith}
use Rattle.std.proofs.lemmas.List.Elements.{All-nil}
use Rattle.std.specs.List.{All}
use Rattle.std.specs.Prelude.{Result, Ok, Err, IfOk}
use Rattle.drd_types.specs.dnw_codes.RecordType.{record_type_number}
use Rattle.drd_types.specs.dnw_codes.declared.error.DecodeError.{DecodeError}
use Rattle.drd_types.specs.dnw_codes.declared.record_type.RecordType.{RecordType}
use Rattle.drd_types.specs.dnw_codes.declared.record_type.RecordType.TheVariants as kind
use Rattle.drd_types.specs.dnw_decoder.Octets.{octets_16, octets_32, Stands}
use Rattle.drd_types.proofs.dnw_decoder_lemmas.Standing.{stands_same, length-octets_32}
use Rattle.drd_types.specs.dnw_encoder.Effects.{Sound, StaysTrue}
use Rattle.drd_types.specs.dnw_encoder.State.{State, rdata_encoding}
use Rattle.drd_types.specs.dnw_encoder.declared.modes.NameEncoding.{NameEncoding}
use Rattle.drd_types.specs.dnw_encoder.declared.modes.NameEncoding.TheVariants.{Uncompressed}
use Rattle.drd_types.specs.dnw_encoder.declared.modes.RDataEncoding.TheVariants.{Other}
use Rattle.drd_names_keys.specs.dnw_wire.BitMapLaws.{maps_rise, read_once}
use Rattle.drd_names_keys.specs.dnw_wire.MapOrder.{tight_maps}
use Rattle.drd_names_keys.specs.dnw_wire.MapOrderLaws.{tight_written}
use Rattle.drd_types.specs.drd_fields.Fields.{rest, FieldsAt}
use Rattle.drd_types.proofs.drd_fields_lemmas.BackLaws.{fields_back, fields_full}
use Rattle.drd_types.specs.drd_fields.Equality.{Tells}
use Rattle.drd_types.specs.drd_fields.Writing.{canonical_octets, encoded_fields, fields_octets}
use Rattle.drd_svcb.specs.Fields.{svcb_fields}
use Rattle.drd_names_keys.specs.drd_csync.Data.{csync_fields, csync_flags, CsyncAt}
use Rattle.drd_names_keys.specs.drd_csync.declared.csync.CSYNC.{CSYNC}
use Rattle.drd_types.proofs.drd_opt_lemmas.BackLaws.{read_back}
use Rattle.drd_types.proofs.drd_opt_lemmas.FitLaws.{read_fit}
use Rattle.drd_types.specs.drd_opt.Entries.{Entry, FitsLengths, RawOption, raw_octets, raw_of, entries_octets, options_octets}
use Rattle.drd_types.specs.drd_opt.Order.{sorted_by, canonical_entries}
use Rattle.drd_types.specs.drd_opt.Reading.{EntriesAt, HoldsEntries}
use Rattle.drd_types.specs.drd_opt.declared.opt.OPT.{OPT}
use Rattle.drd_types.specs.drd_fields.Order.{octets_cmp}
use Rattle.std.specs.Ordering.{on}
use Rattle.drd_rdata.specs.Fields.{encoding_of, rdata_fields}
use Rattle.drd_rdata.specs.Reading.{RDataAt, HoldsAs, ReadsAs}
use Rattle.drd_rdata.specs.Types.{Is, type_of}
use Rattle.drd_rdata.specs.Order.{HasCanonical, canonical_data, type_number, data_form}
use Rattle.drd_rdata.specs.ReadingBack.{Alike}
use Rattle.drd_rdata.specs.Writing.{EmitsRData, StandsWritten}
use Rattle.drd_rdata.specs.RowsLaws.{is_plain, kinds_ordered, plain_there, row_forms, same_kinds, to_row}
use Rattle.drd_rdata.specs.declared.rdata.RData.{RData}
use Rattle.drd_rdata.specs.declared.rdata.RData.TheVariants as rdata

told : (same : Bool) (octets : List ℕ) → Tells same octets octets → same ≡ true
told true octets tells = refl
told false octets tells = absurd (tells.other refl refl)

-- Data with the same canonical octets are equal, by an answer that tells it.
pub alike_equal : (v w : RData) (same : Bool) → Alike v w → ((xs ys : List ℕ) → type_number v ≡ type_number w → data_form v ≡ data_form w → HasCanonical v xs → HasCanonical w ys → Tells same xs ys) → same ≡ true
alike_equal v w same a tells = told same a.octets (tells a.octets a.octets a.number a.own a.first a.second)

-- Where data were written there stand the same as an encoder's clause says, in its form of names.
pub emitted_stands : (v : RData) (old new : State) → Sound old → EmitsRData v old new
    → (encoding : NameEncoding)
    × StaysTrue new new.offset (λ message. StandsWritten v encoding message old.offset new.offset)
emitted_stands (rdata.CSYNC csync) old new sound e = (Uncompressed, e.stays sound)
emitted_stands (rdata.OPT opt) old new sound e =
    (rdata_encoding Other old.canonical old.encoding, e.0.stays sound)
emitted_stands (rdata.Update0 code) old new sound e =
    (Uncompressed, record { of = λ later a. ap (λ (s : State). s.offset) e })
emitted_stands rdata.ZERO old new sound e =
    (Uncompressed, record { of = λ later a. ap (λ (s : State). s.offset) e })
emitted_stands v old new sound e =
    (rdata_encoding (encoding_of v) old.canonical old.encoding, e.stays sound)

-- Sets of types at one place are the same, and so are what stands before them.
sets_back : (message : List ℕ) (place end : ℕ) (a b : CSYNC) → CsyncAt message place a end → CsyncAt message place b end → (fields_octets (csync_fields a (tight_maps a.type_bit_maps)) ≡ fields_octets (csync_fields b (tight_maps b.type_bit_maps))) × (a.type_bit_maps ≡ b.type_bit_maps)
sets_back message place end a b s t =
    let serial = stands_same message place (octets_32 a.soa_serial) (octets_32 b.soa_serial) s.there.0 t.there.0 (length-octets_32 a.soa_serial ∙ sym (length-octets_32 b.soa_serial)) s.there.1 t.there.1 in
    let flags = stands_same message s.there.0 (octets_16 (csync_flags a)) (octets_16 (csync_flags b)) s.there.2.0 t.there.2.0 refl s.there.2.1 (subst (λ (p : ℕ). Stands message p (octets_16 (csync_flags b)) t.there.2.0) (sym serial.1) t.there.2.1) in
    let ends : s.there.2.2.0 ≡ t.there.2.2.0 = sym s.there.2.2.2 ∙ t.there.2.2.2 in
    let maps = stands_same message s.there.2.0 s.octets t.octets s.there.2.2.0 t.there.2.2.0 (omega (arith, ends, flags.1, s.there.2.2.1.behind, t.there.2.2.1.behind)) s.there.2.2.1 (subst (λ (p : ℕ). Stands message p t.octets t.there.2.2.0) (sym flags.1) t.there.2.2.1) in
    let types = read_once 0 0 s.octets t.octets a.type_bit_maps b.type_bit_maps s.maps t.maps maps.0 in (
      ap (λ (o : List ℕ). o ++ (octets_16 (csync_flags a) ++ (tight_maps a.type_bit_maps ++ []))) serial.0
          ∙ ap (λ (o : List ℕ). octets_32 b.soa_serial ++ (o ++ (tight_maps a.type_bit_maps ++ []))) flags.0
          ∙ ap (λ (ts : List ℕ). octets_32 b.soa_serial ++ (octets_16 (csync_flags b) ++ (tight_maps ts ++ []))) types,
      types,
    )

-- Data that stand somewhere have canonical octets.
pub has_canonical : (message : List ℕ) (place : ℕ) (value : RData) (end : ℕ)
    → RDataAt message place value end → HasCanonical value (canonical_data value)
has_canonical message place (rdata.CSYNC csync) end there = (
  tight_maps csync.type_bit_maps,
  tight_written csync.type_bit_maps
      (maps_rise 0 there.octets csync.type_bit_maps (omega arith) there.maps),
  refl,
)
has_canonical message place (rdata.HTTPS https) end there =
    (fields_full message place (svcb_fields https.0) end there.0, there.1, refl)
has_canonical message place (rdata.OPT opt) end there =
    (read_fit there.octets opt.options.items there.holds, refl)
has_canonical message place (rdata.SVCB svcb) end there =
    (fields_full message place (svcb_fields svcb) end there.0, there.1, refl)
has_canonical message place (rdata.Update0 code) end there = absurd there.1
has_canonical message place rdata.ZERO end there = absurd there.1
has_canonical message place value end there =
    (fields_full message place (rdata_fields value) end there.0, refl)

pub read_canonical : (t : RecordType) (message : List ℕ) (place len : ℕ) (value : RData)
    → ReadsAs t message place len value → HasCanonical value (canonical_data value)
read_canonical kind.OPT message place len value (inl none) =
    subst (λ (v : RData). HasCanonical v (canonical_data v)) (sym none.1.1) (
      subst (λ (es : List Entry). All FitsLengths (map raw_of es)) (sym none.1.2)
          (All-nil FitsLengths),
      refl,
    )
read_canonical t message place len value (inr some) =
    has_canonical message place value (place + len) some.1.1
read_canonical t message place len value (inl none) =
    subst (λ (v : RData). HasCanonical v (canonical_data v)) (sym none.1) (tt, refl)

pub ok_canonical : (t : RecordType) (message : List ℕ) (place len : ℕ)
    (r : Result RData DecodeError)
    → IfOk r (λ value. HoldsAs t message place value (place + len))
    → IfOk r (λ value. HasCanonical value (canonical_data value))
ok_canonical t message place len (Ok value) held =
    has_canonical message place value (place + len) held.1
ok_canonical t message place len (Err e) held = held

plain_canonical : (value : RData) → is_plain (type_of value) ≡ true
    → canonical_data value ≡ canonical_octets (rdata_fields value)
plain_canonical (rdata.OPT opt) plain = absurd (cc plain)
plain_canonical value plain = refl

plain_written : (value : RData) (encoding : NameEncoding) (message : List ℕ) (place end : ℕ)
    → is_plain (type_of value) ≡ true → StandsWritten value encoding message place end
    → FieldsAt message place (encoded_fields encoding (rdata_fields value)) end
plain_written (rdata.CSYNC csync) encoding message place end plain written = absurd (cc plain)
plain_written value encoding message place end plain written = written

-- What was written and what is read there have the same canonical octets.
sets_same : (message : List ℕ) (place end : ℕ) (v w : RData)
    → Is rdata.CSYNC (λ csync. CsyncAt message place csync end) v
    → Is rdata.CSYNC (λ csync. CsyncAt message place csync end) w
    → canonical_data v ≡ canonical_data w
sets_same message place end v w a b =
    ap canonical_data a.1 ∙ (sets_back message place end a.0 b.0 a.2 b.2).0
    ∙ sym (ap canonical_data b.1)

options_same : (source message : List ℕ) (place end : ℕ) (a b : OPT)
    → HoldsEntries source a.options.items
    → FieldsAt message place (rest (entries_octets a.options.items) ∷ []) end
    → EntriesAt message place b.options.items end
    → canonical_entries a.options.items ≡ canonical_entries b.options.items
options_same source message place end a b held written found =
    let ends : written.0 ≡ end = sym written.2 in
    let octets =
    stands_same message place (entries_octets a.options.items) found.octets written.0 end
    (omega (arith, ends, written.1.behind, found.there.behind)) written.1 found.there in
    let holds : HoldsEntries (entries_octets a.options.items) b.options.items =
    subst (λ (o : List ℕ). HoldsEntries o b.options.items) (sym octets.0) found.holds in
    let same : map raw_of b.options.items ≡ map raw_of a.options.items =
    read_back source a.options.items b.options.items held holds in
    ap (λ (raws : List RawOption). options_octets (sorted_by (on raw_octets octets_cmp) raws))
    (sym same)

written_same : (t : RecordType) (source : List ℕ) (start stop : ℕ) (v w : RData)
    (encoding : NameEncoding) (message : List ℕ) (place end : ℕ)
    → HoldsAs t source start v stop → StandsWritten v encoding message place end
    → HoldsAs t message place w end → canonical_data v ≡ canonical_data w
written_same kind.CSYNC source start stop v w encoding message place end held written found =
    let a = to_row kind.CSYNC source start v stop held in
    let there : CsyncAt message place a.0 end =
    subst (λ (x : RData). StandsWritten x encoding message place end) a.1 written in
    sets_same message place end v w (a.0, a.1, there) (to_row kind.CSYNC message place w end found)
written_same kind.OPT source start stop v w encoding message place end held written found =
    let a = to_row kind.OPT source start v stop held in
    let b = to_row kind.OPT message place w end found in
    let there : FieldsAt message place (rest (entries_octets a.0.options.items) ∷ []) end =
    subst (λ (x : RData). StandsWritten x encoding message place end) a.1 written in
    ap canonical_data a.1
    ∙ options_same a.2.octets message place end a.0 b.0 a.2.holds there b.2
    ∙ sym (ap canonical_data b.1)
written_same t source start stop v w encoding message place end held written found =
    let a = plain_there source start v stop held.1 (ap is_plain held.0) in
    let b = plain_there message place w end found.1 (ap is_plain found.0) in
    plain_canonical v (ap is_plain held.0)
    ∙ fields_back message place encoding (rdata_fields v) (rdata_fields w) end
    (same_kinds v w a.1 b.1 (held.0 ∙ sym found.0)) (kinds_ordered v a.1)
    (plain_written v encoding message place end (ap is_plain held.0) written) b.0
    ∙ sym (plain_canonical w (ap is_plain found.0))

-- What was read for a type and written is read there for it with the same canonical octets.
pub alike : (t : RecordType) (source : List ℕ) (start stop : ℕ) (v w : RData)
    (encoding : NameEncoding) (message : List ℕ) (place end : ℕ)
    → HoldsAs t source start v stop → StandsWritten v encoding message place end
    → HoldsAs t message place w end → Alike v w
alike t source start stop v w encoding message place end held written found = record {
  octets = canonical_data w;
  first =
      subst (HasCanonical v)
      (written_same t source start stop v w encoding message place end held written found)
      (has_canonical source start v stop held.1);
  second = has_canonical message place w end found.1;
  number = ap record_type_number (held.0 ∙ sym found.0);
  own =
      row_forms t source message start place v w stop end (to_row t source start v stop held)
      (to_row t message place w end found);
}
