-- What was read is written, names in full, as what reads back the same, in as many octets as it has, and is refused only where these
-- don't fit. Whatever is written ends within the maximum.
use Rattle.std.proofs.Common.{◌≡◌, ℕ, zero, suc, ◌+◌, ◌^◌, ◌<◌, ◌≤◌, inl, inr, Bool, true, false, List, [], ◌∷◌, ◌++◌, length, map, cond, refl, sym, ap, subst, ◌∙◌, arith}
use Rattle.std.proofs.lemmas.List.{length-append}
use Rattle.std.specs.Str.{str_to_ascii_lowercase}
use Rattle.drd_types.specs.dnw_codes.declared.error.ProtoError.{ProtoError}
use Rattle.drd_types.specs.dnw_codes.declared.record_type.RecordType.{RecordType}
use Rattle.drd_types.specs.dnw_codes.declared.record_type.RecordType.TheVariants as kind
use Rattle.drd_svcb.specs.dnw_name.DomainName.{DomainName, domain_name}
use Rattle.drd_types.specs.dnw_decoder.Octets.{octets_16, octets_32}
use Rattle.drd_types.proofs.dnw_decoder_lemmas.SpellingLaws.{spelled_within}
use Rattle.drd_types.proofs.dnw_decoder_lemmas.Standing.{length-octets_32}
use Rattle.drd_types.specs.dnw_encoder.Effects.{Sound, StaysTrue, IsRefusal}
use Rattle.drd_svcb.proofs.dnw_encoder_lemmas.NameLaws.{length-encoded}
use Rattle.drd_types.proofs.dnw_encoder_lemmas.Laws.{holds_map}
use Rattle.drd_types.specs.dnw_encoder.Names.{encoded_name}
use Rattle.drd_types.specs.dnw_encoder.State.{State, is_lower, rdata_encoding, writes_pointers}
use Rattle.drd_types.specs.dnw_encoder.declared.modes.NameEncoding.{NameEncoding}
use Rattle.drd_types.specs.dnw_encoder.declared.modes.RDataEncoding.{RDataEncoding}
use Rattle.drd_types.specs.dnw_encoder.declared.modes.RDataEncoding.TheVariants.{StandardRecord, Canonical, Other}
use Rattle.drd_names_keys.specs.dnw_wire.BitMapLaws.{maps_rise, written_once}
use Rattle.drd_names_keys.specs.dnw_wire.BitMaps.{AreTightMaps}
use Rattle.drd_names_keys.specs.dnw_wire.MapOrder.{tight_maps}
use Rattle.drd_names_keys.specs.dnw_wire.MapOrderLaws.{tight_written}
use Rattle.drd_names_keys.specs.drd_csync.Data.{csync_fields, csync_flags, CsyncAt}
use Rattle.drd_names_keys.specs.drd_csync.declared.csync.CSYNC.{CSYNC}
use Rattle.drd_types.proofs.drd_fields_lemmas.BackLaws.{fields_full}
use Rattle.drd_types.specs.drd_fields.Equality.{AreFull}
use Rattle.drd_types.specs.drd_fields.FieldLaws.{strings_forward, fields_forward}
use Rattle.drd_types.specs.drd_fields.Fields.{Field, octet, short, long, name, string, strings, rest, FieldAt, FieldsAt}
use Rattle.drd_types.specs.drd_fields.Writing.{EmitsData, EndsWithin, RefusesFields, encoded_field, encoded_fields, field_octets, fields_octets}
use Rattle.drd_types.proofs.drd_fields_lemmas.WritingLaws.{refused_front}
use Rattle.drd_rdata.specs.Fields.{encoding_of, rdata_fields}
use Rattle.drd_types.specs.drd_opt.Entries.{Entry, entries_octets, raw_octets, raw_of}
use Rattle.drd_types.specs.drd_opt.Reading.{HoldsEntries}
use Rattle.drd_types.specs.drd_opt.declared.opt.OPT.{OPT}
use Rattle.drd_types.proofs.drd_opt_lemmas.FitLaws.{read_fit}
use Rattle.drd_rdata.specs.Order.{compared_fields}
use Rattle.drd_rdata.specs.Reading.{HoldsAs, ReadsAs}
use Rattle.drd_rdata.specs.Exceeding.{ExceedsRdlength}
use Rattle.drd_rdata.specs.Writing.{EmitsRData, RefusesRData, StandsWritten, WritesInFull, names_form, written_octets}
use Rattle.drd_rdata.proofs.ReadBackLaws.{options_there}
use Rattle.drd_rdata.proofs.WritingLaws.{none_long, short_fields}
use Rattle.drd_svcb.specs.drd_params.declared.a.A.{A}
use Rattle.drd_svcb.specs.drd_params.declared.aaaa.AAAA.{AAAA}
use Rattle.drd_names_keys.specs.drd_names.declared.aname.ANAME.{ANAME}
use Rattle.drd_names_keys.specs.drd_names.declared.cname.CNAME.{CNAME}
use Rattle.drd_svcb.specs.declared.https.HTTPS.{HTTPS}
use Rattle.drd_names_keys.specs.drd_names.declared.mx.MX.{MX}
use Rattle.drd_names_keys.specs.drd_names.declared.ns.NS.{NS}
use Rattle.drd_names_keys.specs.drd_names.declared.ptr.PTR.{PTR}
use Rattle.drd_names_keys.specs.drd_names.declared.soa.SOA.{SOA}
use Rattle.drd_names_keys.specs.drd_names.declared.srv.SRV.{SRV}
use Rattle.drd_svcb.specs.declared.svcb.SVCB.{SVCB}
use Rattle.drd_rdata.specs.declared.rdata.RData.{RData}
use Rattle.drd_rdata.specs.declared.rdata.RData.TheVariants as rdata

-- Strings, or octets up to the end, of which there are none.
abbrev is_nothing : Field → Bool
is_nothing (strings []) = true
is_nothing (rest []) = true
is_nothing other = false

nothing_there : (message : List ℕ) (place : ℕ) (f : Field) (end : ℕ) → FieldAt message place f end → is_nothing f ≡ true → end ≡ place
nothing_there message place (strings []) end there none = there
nothing_there message place (rest []) end there none = omega (arith, there.behind)
nothing_there message place f end there none = absurd (cc none)

something_there : (message : List ℕ) (place : ℕ) (f : Field) (end : ℕ) → FieldAt message place f end → is_nothing f ≡ false → place < end
something_there message place (octet n) end there some = omega (arith, there.behind)
something_there message place (short n) end there some = omega (arith, there.behind)
something_there message place (long n) end there some = omega (arith, there.behind, length-octets_32 n)
something_there message place (name n) end there some = (spelled_within message place (length message) place n.labels end there.spelled).0
something_there message place (string s) end there some = omega (arith, there.there.behind)
something_there message place (strings (s ∷ ss)) end there some = omega (arith, there.1.there.behind, strings_forward message there.0 ss end there.2)
something_there message place (rest (o ∷ os)) end there some = omega (arith, there.behind)
something_there message place f end there some = absurd (cc some)

-- Fields that take octets somewhere do so everywhere.
fields_some : (fs : List Field) (m n : List ℕ) (place end start stop : ℕ) → FieldsAt m place fs end → place < end → FieldsAt n start fs stop → start < stop
fields_some [] m n place end start stop there lt elsewhere = absurd (omega (arith, there, lt))
fields_some (f ∷ fs) m n place end start stop there lt elsewhere = by (is_nothing f) refl (λ less. fields_some fs m n there.0 end elsewhere.0 stop there.2 less elsewhere.2)
  where
    by : (b : Bool) → is_nothing f ≡ b → (there.0 < end → elsewhere.0 < stop) → start < stop
    by true none later =
        let here : there.0 ≡ place = nothing_there m place f there.0 there.1 none in
        let there_too : elsewhere.0 ≡ start = nothing_there n start f elsewhere.0 elsewhere.1 none in
        omega (arith, there_too, later (omega (arith, here, lt)))
    by false some later = omega (arith, something_there n start f elsewhere.0 elsewhere.1 some, fields_forward n elsewhere.0 fs stop elsewhere.2)

-- A fully qualified name is written as it is.
pub encoded_full : (encoding : NameEncoding) (n : DomainName) → is_lower encoding ≡ false → n.fqdn ≡ true → encoded_name encoding n ≡ n
encoded_full encoding n same full =
    ap (λ (b : Bool). domain_name true (cond b (map str_to_ascii_lowercase n.labels) n.labels)) same ∙ ap (λ (f : Bool). domain_name f n.labels) (sym full)

pub encoded_same : (encoding : NameEncoding) (fs : List Field) → is_lower encoding ≡ false → AreFull fs → encoded_fields encoding fs ≡ fs
encoded_same encoding [] same full = refl
encoded_same encoding (octet n ∷ fs) same full = ap (λ (gs : List Field). octet n ∷ gs) (encoded_same encoding fs same full.1)
encoded_same encoding (short n ∷ fs) same full = ap (λ (gs : List Field). short n ∷ gs) (encoded_same encoding fs same full.1)
encoded_same encoding (long n ∷ fs) same full = ap (λ (gs : List Field). long n ∷ gs) (encoded_same encoding fs same full.1)
encoded_same encoding (name n ∷ fs) same full =
    ap (λ (d : DomainName). name d ∷ encoded_fields encoding fs) (encoded_full encoding n same full.0) ∙ ap (λ (gs : List Field). name n ∷ gs) (encoded_same encoding fs same full.1)
encoded_same encoding (string s ∷ fs) same full = ap (λ (gs : List Field). string s ∷ gs) (encoded_same encoding fs same full.1)
encoded_same encoding (strings ss ∷ fs) same full = ap (λ (gs : List Field). strings ss ∷ gs) (encoded_same encoding fs same full.1)
encoded_same encoding (rest o ∷ fs) same full = ap (λ (gs : List Field). rest o ∷ gs) (encoded_same encoding fs same full.1)

same_case : (data_kind : RDataEncoding) (canonical : Bool) (encoding : NameEncoding) → canonical ≡ false → is_lower encoding ≡ false → is_lower (rdata_encoding data_kind canonical encoding) ≡ false
same_case StandardRecord false encoding own same = same
same_case Canonical false encoding own same = refl
same_case Other canonical encoding own same = refl
same_case StandardRecord true encoding own same = absurd (cc own)
same_case Canonical true encoding own same = absurd (cc own)

-- Fields that stand from one place to another, and take octets.
abbrev FieldsThere : List Field → List ℕ → ℕ → ℕ → Type 0
FieldsThere fs message place end = FieldsAt message place fs end × (place < end)

-- Fields that were read are written as they are.
data_holds : (data_kind : RDataEncoding) (fs : List Field) (source : List ℕ) (start stop : ℕ) → FieldsAt source start fs stop → start < stop → (old new : State) → WritesInFull old → EmitsData data_kind fs old new → StaysTrue new new.offset (λ message. FieldsThere fs message old.offset new.offset)
data_holds data_kind fs source start stop held some old new full e =
    let same = encoded_same (rdata_encoding data_kind old.canonical old.encoding) fs (same_case data_kind old.canonical old.encoding full.own full.same_case) (fields_full source start fs stop held) in
    holds_map new.offset new (λ message. FieldsAt message old.offset (encoded_fields (rdata_encoding data_kind old.canonical old.encoding) fs) new.offset) (λ message. FieldsThere fs message old.offset new.offset)
    (λ message there. let found : FieldsAt message old.offset fs new.offset = subst (λ (gs : List Field). FieldsAt message old.offset gs new.offset) same there in (found, fields_some fs source message start stop old.offset new.offset held some found))
    (e.stays full.sound)

-- Data of a type that stand from one place to another, and take octets.
abbrev pub HoldsSome : RecordType → List ℕ → ℕ → RData → ℕ → Type 0
HoldsSome t message place value end = HoldsAs t message place value end × (place < end)

csync_some : (message : List ℕ) (place : ℕ) (csync : CSYNC) (end : ℕ) → CsyncAt message place csync end → place < end
csync_some message place csync end there =
    omega (arith, something_there message place (long csync.soa_serial) there.there.0 there.there.1 refl, fields_forward message there.there.0 (short (csync_flags csync) ∷ rest there.octets ∷ []) end there.there.2)

-- Data that take octets where they were written are read there for their type.
some_read : (t : RecordType) (v : RData) (old new : State) (n : ℕ) → old.offset + n ≡ new.offset → StaysTrue new new.offset (λ message. HoldsSome t message old.offset v new.offset) → StaysTrue new new.offset (λ message. ReadsAs t message old.offset n v)
some_read t v old new n at = holds_map new.offset new (λ message. HoldsSome t message old.offset v new.offset) (λ message. ReadsAs t message old.offset n v)
    (λ message found. inr (omega (arith, found.1, at), subst (λ (q : ℕ). HoldsAs t message old.offset v q) (sym at) found.0))

-- Options that were written are read where they are, also where there are none.
no_entry : (entries : List Entry) → length (entries_octets entries) ≡ 0 → entries ≡ []
no_entry [] none = refl
no_entry (entry ∷ entries) none = absurd (omega (arith, none, length-append (raw_octets (raw_of entry)) (entries_octets entries)))

options_read : (source : List ℕ) (opt : OPT) (message : List ℕ) (place n : ℕ) → HoldsEntries source opt.options.items → FieldsAt message place (rest (entries_octets opt.options.items) ∷ []) (place + n) → ReadsAs kind.OPT message place n (rdata.OPT opt)
options_read source opt message place zero held written =
    inl (refl, (opt, refl, no_entry opt.options.items (omega (arith, written.1.behind, written.2))))
options_read source opt message place (suc n) held written =
    inr (omega arith, (refl, options_there source message place opt.options.items (place + suc n) held written))

-- What was read for a type and is written reads as itself where it is written, in the finished message too.
pub written_reads : (t : RecordType) (source : List ℕ) (start : ℕ) (v : RData) (stop : ℕ)
    → HoldsAs t source start v stop → start < stop → (old new : State) (n : ℕ)
    → old.offset + n ≡ new.offset → WritesInFull old → EmitsRData v old new
    → StaysTrue new new.offset (λ message. ReadsAs t message old.offset n v)
written_reads t source start (rdata.CSYNC csync) stop held some old new n at full e =
    some_read t (rdata.CSYNC csync) old new n at
    (holds_map new.offset new (λ message. CsyncAt message old.offset csync new.offset)
    (λ message. HoldsSome t message old.offset (rdata.CSYNC csync) new.offset)
    (λ message there. ((held.0, there), csync_some message old.offset csync new.offset there))
    (e.stays full.sound))
written_reads t source start (rdata.OPT opt) stop held some old new n at full e =
    subst
    (λ (t : RecordType). StaysTrue new new.offset (λ message. ReadsAs t message old.offset n (rdata.OPT opt)))
    held.0
    (holds_map new.offset new
    (λ message. FieldsAt message old.offset (rest (entries_octets opt.options.items) ∷ []) new.offset)
    (λ message. ReadsAs kind.OPT message old.offset n (rdata.OPT opt))
    (λ message there. options_read held.1.octets opt message old.offset n held.1.holds
    (subst (λ (q : ℕ). FieldsAt message old.offset (rest (entries_octets opt.options.items) ∷ []) q) (sym at) there))
    (e.0.stays full.sound))
written_reads t source start (rdata.Update0 code) stop held some old new n at full e =
    absurd held.1.1
written_reads t source start rdata.ZERO stop held some old new n at full e = absurd held.1.1
written_reads t source start v stop held some old new n at full e =
    some_read t v old new n at
    (holds_map new.offset new (λ message. FieldsThere (rdata_fields v) message old.offset new.offset)
    (λ message. HoldsSome t message old.offset v new.offset)
    (λ message there. ((held.0, (there.0, held.1.1)), there.1))
    (data_holds (encoding_of v) (rdata_fields v) source start stop held.1.0 some old new full e))

-- The bit maps that were written are those of the types.
maps_same : (source : List ℕ) (start stop : ℕ) (csync : CSYNC) (octets : List ℕ) → CsyncAt source start csync stop → AreTightMaps octets csync.type_bit_maps → octets ≡ tight_maps csync.type_bit_maps
maps_same source start stop csync octets held tight =
    let own = tight_written csync.type_bit_maps (maps_rise 0 held.octets csync.type_bit_maps (omega arith) held.maps) in
    written_once 0 0 octets (tight_maps csync.type_bit_maps) csync.type_bit_maps csync.type_bit_maps tight.maps own.maps tight.small own.small refl

csync_size : (csync : CSYNC) (octets : List ℕ) → length (fields_octets (csync_fields csync octets)) ≡ 6 + length octets
csync_size csync octets =
    omega (arith, length-append (octets_32 csync.soa_serial) (octets_16 (csync_flags csync) ++ (octets ++ [])), length-append (octets_16 (csync_flags csync)) (octets ++ []), length-append octets [], length-octets_32 csync.soa_serial)

-- They take as many octets at most as they have in full.
pub written_size : (t : RecordType) (source : List ℕ) (start : ℕ) (v : RData) (stop : ℕ)
    → HoldsAs t source start v stop → (old new : State) → EmitsRData v old new
    → new.offset ≤ old.offset + length (written_octets v)
written_size t source start (rdata.CSYNC csync) stop held old new e =
    omega (
      arith,
      e.puts.offset,
      ap (λ (o : List ℕ). length (fields_octets (csync_fields csync o)))
          (maps_same source start stop csync e.octets held.1
          (record { maps = e.maps; small = e.small })),
    )
written_size t source start (rdata.OPT opt) stop held old new e = e.0.size
written_size t source start (rdata.Update0 code) stop held old new e = absurd held.1.1
written_size t source start rdata.ZERO stop held old new e = absurd held.1.1
written_size t source start v stop held old new e = e.size

-- Fields that were read are refused only where they don't fit.
fields_fit : (source : List ℕ) (start stop : ℕ) (fs : List Field) → FieldsAt source start fs stop → (old : State) (e : ProtoError) → RefusesFields fs old e → IsRefusal old (length (fields_octets fs)) e
fields_fit source start stop fs held old e (inl refused) = refused
fields_fit source start stop fs held old e (inr big) = absurd (short_fields source start fs stop held e big)

-- They are refused only where those octets don't fit, or for want of memory.
pub written_refused : (t : RecordType) (source : List ℕ) (start : ℕ) (v : RData) (stop : ℕ)
    → HoldsAs t source start v stop → (old : State) (e : ProtoError) → RefusesRData v old e
    → IsRefusal old (length (written_octets v)) e
written_refused t source start (rdata.CSYNC csync) stop held old e (inl front) =
    subst (λ (n : ℕ). IsRefusal old n e)
    (sym (csync_size csync (tight_maps csync.type_bit_maps)))
    (refused_front 6 (length (tight_maps csync.type_bit_maps)) old e front)
written_refused t source start (rdata.CSYNC csync) stop held old e (inr whole) =
    subst (λ (o : List ℕ). IsRefusal old (length (fields_octets (csync_fields csync o))) e)
    (maps_same source start stop csync whole.0 held.1 whole.1)
    (subst (λ (n : ℕ). IsRefusal old n e) (sym (csync_size csync whole.0)) whole.2)
written_refused t source start (rdata.HTTPS https) stop held old e refused =
    refused.read held.1.1
written_refused t source start (rdata.OPT opt) stop held old e (inl (inl refused)) = refused
written_refused t source start (rdata.OPT opt) stop held old e (inl (inr (inl far))) = absurd far
written_refused t source start (rdata.OPT opt) stop held old e (inl (inr (inr far))) = absurd far
written_refused t source start (rdata.OPT opt) stop held old e (inr far) =
    absurd
    (none_long opt.options.items e (read_fit held.1.octets opt.options.items held.1.holds) far)
written_refused t source start (rdata.SVCB svcb) stop held old e refused =
    refused.read held.1.1
written_refused t source start (rdata.Update0 code) stop held old e refused =
    absurd refused
written_refused t source start rdata.ZERO stop held old e refused = absurd refused
written_refused t source start v stop held old e refused =
    fields_fit source start stop (rdata_fields v) held.1.0 old e refused

-- ---- what was written ends within the maximum
unmoved : (old new : State) → new ≡ old → EndsWithin old new
unmoved old new same = λ more. absurd (omega (arith, more, ap (λ (s : State). s.offset) same))

pub data_within : (v : RData) (old new : State) → EmitsRData v old new → EndsWithin old new
data_within (rdata.CSYNC csync) old new e = λ more. e.fits
data_within (rdata.OPT opt) old new e = e.0.within
data_within (rdata.Update0 code) old new e = unmoved old new e
data_within rdata.ZERO old new e = unmoved old new e
data_within v old new e = e.within

-- ---- written RDATA have their names in the encoder's form
pub emitted_form : (v : RData) (old new : State) → Sound old → EmitsRData v old new
    → StaysTrue new new.offset (λ message. StandsWritten v (names_form v old) message old.offset new.offset)
emitted_form (rdata.CSYNC csync) old new sound e = e.stays sound
emitted_form (rdata.OPT opt) old new sound e = e.0.stays sound
emitted_form (rdata.Update0 code) old new sound e = record { of = λ later a. ap (λ (s : State). s.offset) e }
emitted_form rdata.ZERO old new sound e = record { of = λ later a. ap (λ (s : State). s.offset) e }
emitted_form v old new sound e = e.stays sound

-- ---- what exceeds RDLENGTH is never written
encoded_long : (encoding : NameEncoding) (fs : List Field) → length (fields_octets (encoded_fields encoding fs)) ≡ length (fields_octets fs)
encoded_long encoding [] = refl
encoded_long encoding (f ∷ fs) =
    omega (arith, length-append (field_octets (encoded_field encoding f)) (fields_octets (encoded_fields encoding fs)), length-append (field_octets f) (fields_octets fs), one f, encoded_long encoding fs)
  where
    one : (f : Field) → length (field_octets (encoded_field encoding f)) ≡ length (field_octets f)
    one (name n) = length-encoded encoding n
    one other = refl

-- Only the types of RFC 1035 are written with pointers (RFC 3597 4).
in_full : (data_kind : RDataEncoding) (canonical : Bool) (encoding : NameEncoding) → (data_kind ≡ StandardRecord → ⊥) → writes_pointers (rdata_encoding data_kind canonical encoding) ≡ false
unfolding writes_pointers
in_full StandardRecord canonical encoding other = absurd (other refl)
in_full Canonical false encoding other = refl
in_full Canonical true encoding other = refl
in_full Other canonical encoding other = refl

fields_fits : (data_kind : RDataEncoding) (fs : List Field) (old new : State) → (data_kind ≡ StandardRecord → ⊥) → EmitsData data_kind fs old new → old.maximum < 2 ^ 16 → 65535 < length (fields_octets fs) → ⊥
fields_fits data_kind fs old new other e small far =
    let end = (e.exact (in_full data_kind old.canonical old.encoding other)).offset in
    let long = encoded_long (rdata_encoding data_kind old.canonical old.encoding) fs in
    omega (arith, end, long, e.within (omega (arith, end, long, far)), small, far)

pub never_written : (v : RData) (old new : State) → EmitsRData v old new → old.maximum < 2 ^ 16 → ExceedsRdlength v → ⊥
never_written (rdata.A a) old new e small far = far
never_written (rdata.AAAA aaaa) old new e small far = far
never_written (rdata.ANAME aname) old new e small far = far
never_written (rdata.CNAME cname) old new e small far = far
never_written (rdata.CSYNC csync) old new e small far = far
never_written (rdata.MX mx) old new e small far = far
never_written (rdata.NS ns) old new e small far = far
never_written (rdata.PTR ptr) old new e small far = far
never_written (rdata.SOA soa) old new e small far = far
never_written (rdata.SRV srv) old new e small far = far
never_written (rdata.OPT opt) old new e small far = fields_fits Other (rdata_fields (rdata.OPT opt)) old new (λ same. absurd (cc same)) e.0 small far
never_written (rdata.Update0 code) old new e small far = omega (arith, far)
never_written rdata.ZERO old new e small far = omega (arith, far)
never_written v old new e small far = fields_fits (encoding_of v) (rdata_fields v) old new (λ same. absurd (cc same)) e small far

-- They would take at most their octets with names uncompressed.
pub exceeding_size : (v : RData) (old new : State) → ExceedsRdlength v → EmitsRData v old new → new.offset ≤ old.offset + length (written_octets v)
exceeding_size (rdata.CSYNC csync) old new far e = absurd far
exceeding_size (rdata.OPT opt) old new far e = e.0.size
exceeding_size (rdata.Update0 code) old new far e = absurd (omega (arith, far))
exceeding_size rdata.ZERO old new far e = absurd (omega (arith, far))
exceeding_size v old new far e = e.size

-- RDATA that exceed RDLENGTH have more octets than a maximum of 16 bits, and are not those of an update without any.
pub exceeding_long : (v : RData) → ExceedsRdlength v → 65535 < length (written_octets v)
exceeding_long (rdata.A a) far = absurd far
exceeding_long (rdata.AAAA aaaa) far = absurd far
exceeding_long (rdata.ANAME aname) far = absurd far
exceeding_long (rdata.CNAME cname) far = absurd far
exceeding_long (rdata.CSYNC csync) far = absurd far
exceeding_long (rdata.MX mx) far = absurd far
exceeding_long (rdata.NS ns) far = absurd far
exceeding_long (rdata.PTR ptr) far = absurd far
exceeding_long (rdata.SOA soa) far = absurd far
exceeding_long (rdata.SRV srv) far = absurd far
exceeding_long v far = far

-- ---- which exceed it, by what is counted
-- Data that are counted field by field.
pub plain_exceeds : (value : RData) → ((x : A) → value ≡ rdata.A x → ⊥) → ((x : AAAA) → value ≡ rdata.AAAA x → ⊥) → ((x : ANAME) → value ≡ rdata.ANAME x → ⊥) → ((x : CNAME) → value ≡ rdata.CNAME x → ⊥) → ((x : CSYNC) → value ≡ rdata.CSYNC x → ⊥) → ((x : HTTPS) → value ≡ rdata.HTTPS x → ⊥) → ((x : MX) → value ≡ rdata.MX x → ⊥) → ((x : NS) → value ≡ rdata.NS x → ⊥) → ((x : OPT) → value ≡ rdata.OPT x → ⊥) → ((x : PTR) → value ≡ rdata.PTR x → ⊥) → ((x : SOA) → value ≡ rdata.SOA x → ⊥) → ((x : SRV) → value ≡ rdata.SRV x → ⊥) → ((x : SVCB) → value ≡ rdata.SVCB x → ⊥) → ExceedsRdlength value ≡ (65535 < length (fields_octets (compared_fields value)))
plain_exceeds (rdata.A x) na naaaa naname ncname ncsync nhttps nmx nns nopt nptr nsoa nsrv nsvcb = absurd (na x refl)
plain_exceeds (rdata.AAAA x) na naaaa naname ncname ncsync nhttps nmx nns nopt nptr nsoa nsrv nsvcb = absurd (naaaa x refl)
plain_exceeds (rdata.ANAME x) na naaaa naname ncname ncsync nhttps nmx nns nopt nptr nsoa nsrv nsvcb = absurd (naname x refl)
plain_exceeds (rdata.CNAME x) na naaaa naname ncname ncsync nhttps nmx nns nopt nptr nsoa nsrv nsvcb = absurd (ncname x refl)
plain_exceeds (rdata.CSYNC x) na naaaa naname ncname ncsync nhttps nmx nns nopt nptr nsoa nsrv nsvcb = absurd (ncsync x refl)
plain_exceeds (rdata.HTTPS x) na naaaa naname ncname ncsync nhttps nmx nns nopt nptr nsoa nsrv nsvcb = absurd (nhttps x refl)
plain_exceeds (rdata.MX x) na naaaa naname ncname ncsync nhttps nmx nns nopt nptr nsoa nsrv nsvcb = absurd (nmx x refl)
plain_exceeds (rdata.NS x) na naaaa naname ncname ncsync nhttps nmx nns nopt nptr nsoa nsrv nsvcb = absurd (nns x refl)
plain_exceeds (rdata.OPT x) na naaaa naname ncname ncsync nhttps nmx nns nopt nptr nsoa nsrv nsvcb = absurd (nopt x refl)
plain_exceeds (rdata.PTR x) na naaaa naname ncname ncsync nhttps nmx nns nopt nptr nsoa nsrv nsvcb = absurd (nptr x refl)
plain_exceeds (rdata.SOA x) na naaaa naname ncname ncsync nhttps nmx nns nopt nptr nsoa nsrv nsvcb = absurd (nsoa x refl)
plain_exceeds (rdata.SRV x) na naaaa naname ncname ncsync nhttps nmx nns nopt nptr nsoa nsrv nsvcb = absurd (nsrv x refl)
plain_exceeds (rdata.SVCB x) na naaaa naname ncname ncsync nhttps nmx nns nopt nptr nsoa nsrv nsvcb = absurd (nsvcb x refl)
plain_exceeds other na naaaa naname ncname ncsync nhttps nmx nns nopt nptr nsoa nsrv nsvcb = refl
