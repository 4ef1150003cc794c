-- Octets are data of a type in one way: values that are read where the same octets stand have the
-- same fields, and are equal.
use Rattle.std.proofs.Common.{◌≡◌, ℕ, ◌+◌, inl, inr, true, List, [], ◌∷◌, map, refl, sym, ap, subst, ◌∙◌, arith}
use Rattle.std.specs.Ordering.{on}
use Rattle.drd_rdata.specs.dnw_codes.RecordType.{record_type_number}
use Rattle.drd_rdata.specs.dnw_codes.declared.record_type.RecordType.{RecordType}
use Rattle.drd_rdata.specs.dnw_codes.declared.record_type.RecordType.TheVariants as kind
use Rattle.drd_rdata.specs.dnw_wire.BitMapLaws.{read_once}
use Rattle.drd_rdata.specs.dnw_wire.MapOrder.{tight_maps}
use Rattle.drd_rdata.specs.drd_csync.Data.{csync_fields, csync_flags, CsyncAt}
use Rattle.drd_rdata.specs.drd_csync.declared.csync.CSYNC.{CSYNC}
use Rattle.drd_rdata.specs.dnw_encoder.declared.modes.NameEncoding.TheVariants.{Uncompressed}
use Rattle.drd_rdata.specs.drd_fields.Fields.{Field, FieldsAt, AllFit, long, rest, short}
use Rattle.drd_rdata.proofs.drd_fields_lemmas.BackLaws.{fields_full}
use Rattle.drd_rdata.proofs.drd_fields_lemmas.OnceLaws.{fields_once}
use Rattle.drd_rdata.specs.drd_fields.Order.{octets_cmp}
use Rattle.drd_rdata.specs.drd_opt.Entries.{Entry, RawOption, options_octets, raw_octets, raw_of}
use Rattle.drd_rdata.specs.drd_opt.Order.{canonical_entries, sorted_by}
use Rattle.drd_rdata.proofs.drd_opt_lemmas.OnceLaws.{entries_once}
use Rattle.drd_rdata.specs.Fields.{rdata_fields}
use Rattle.drd_rdata.specs.Reading.{HoldsAs, IsEmptyOf, ReadsAs}
use Rattle.drd_rdata.specs.Order.{HasCanonical, canonical_data, data_form, type_number}
use Rattle.drd_rdata.specs.RowsLaws.{is_plain, kinds_ordered, plain_there, row_forms, same_kinds, to_row}
use Rattle.drd_rdata.specs.Types.{type_of}
use Rattle.drd_rdata.specs.Writing.{StandsWritten}
use Rattle.drd_rdata.specs.declared.rdata.RData.{RData}
use Rattle.drd_rdata.specs.declared.rdata.RData.TheVariants as rdata
use Rattle.drd_rdata.specs.ReadingBack.{Alike}
use Rattle.drd_rdata.proofs.BackLaws.{alike, has_canonical, read_canonical}
use Rattle.drd_rdata.proofs.WrittenLaws.{encoded_same}

-- Each number is one that its octets can hold.
abbrev pub IsInRange : RData → Type 0
IsInRange value = AllFit (rdata_fields value)

csync_once : (message : List ℕ) (place : ℕ) (a b : CSYNC) (end : ℕ)
    → AllFit (csync_fields a []) → AllFit (csync_fields b []) → CsyncAt message place a end
    → CsyncAt message place b end
    → csync_fields a (tight_maps a.type_bit_maps) ≡ csync_fields b (tight_maps b.type_bit_maps)
csync_once message place a b end f g s t =
    let same =
    fields_once message place (csync_fields a s.octets) (csync_fields b t.octets) end refl
    ((λ o. absurd (cc o)), ((λ o. absurd (cc o)), ((λ o. refl), tt))) f g s.there t.there in
    let serial : a.soa_serial ≡ b.soa_serial = cc same in
    let flags : csync_flags a ≡ csync_flags b = cc same in
    let octets : s.octets ≡ t.octets = cc same in
    let types =
    read_once 0 0 s.octets t.octets a.type_bit_maps b.type_bit_maps s.maps t.maps octets in
    ap (λ (n : ℕ). long n ∷ short (csync_flags a) ∷ rest (tight_maps a.type_bit_maps) ∷ []) serial
    ∙ ap (λ (n : ℕ). long b.soa_serial ∷ short n ∷ rest (tight_maps a.type_bit_maps) ∷ []) flags
    ∙ ap (λ (ts : List ℕ). csync_fields b (tight_maps ts)) types

options_alike : (a b : List Entry) → map raw_of a ≡ map raw_of b → (fs gs : List Field)
    → fs ≡ rest (options_octets (map raw_of a)) ∷ [] → gs ≡ rest (options_octets (map raw_of b)) ∷ []
    → fs ≡ gs
options_alike a b same fs gs f g =
    f ∙ ap (λ (raws : List RawOption). rest (options_octets raws) ∷ []) same ∙ sym g

-- Octets that have a place and an end are data of a type in one way.
pub holds_once : (t : RecordType) (message : List ℕ) (place end : ℕ) (a b : RData) → IsInRange a
    → IsInRange b → HoldsAs t message place a end → HoldsAs t message place b end
    → rdata_fields a ≡ rdata_fields b
holds_once kind.CSYNC message place end a b f g s t =
    let x = to_row kind.CSYNC message place a end s in
    let y = to_row kind.CSYNC message place b end t in
    ap rdata_fields x.1
    ∙ csync_once message place x.0 y.0 end (rw x.1 at f) (rw y.1 at g) x.2 y.2
    ∙ sym (ap rdata_fields y.1)
holds_once kind.OPT message place end a b f g s t =
    let x = to_row kind.OPT message place a end s in
    let y = to_row kind.OPT message place b end t in
    options_alike x.0.options.items y.0.options.items
    (entries_once message place x.0.options.items y.0.options.items end x.2 y.2)
    (rdata_fields a) (rdata_fields b) (ap rdata_fields x.1) (ap rdata_fields y.1)
holds_once t message place end a b f g s r =
    let x = plain_there message place a end s.1 (ap is_plain s.0) in
    let y = plain_there message place b end r.1 (ap is_plain r.0) in
    fields_once message place (rdata_fields a) (rdata_fields b) end
    (same_kinds a b x.1 y.1 (s.0 ∙ sym r.0)) (kinds_ordered a x.1) f g x.0 y.0

-- No octets are data of a type in one way.
empty_once : (t : RecordType) (a b : RData) → IsEmptyOf t a → IsEmptyOf t b
    → rdata_fields a ≡ rdata_fields b
empty_once kind.OPT a b s t =
    options_alike s.0.options.items t.0.options.items
    (ap (λ (es : List Entry). map raw_of es) (s.2 ∙ sym t.2)) (rdata_fields a) (rdata_fields b)
    (ap rdata_fields s.1) (ap rdata_fields t.1)
empty_once other a b s t = ap rdata_fields (s ∙ sym t)

-- What is read of so many octets at a place for a type is one value, but for where the octets that
-- it holds lie in memory.
pub reads_once : (t : RecordType) (message : List ℕ) (place len : ℕ) (a b : RData) → IsInRange a
    → IsInRange b → ReadsAs t message place len a → ReadsAs t message place len b
    → rdata_fields a ≡ rdata_fields b
reads_once t message place len a b f g (inl s) (inl r) = empty_once t a b s.1 r.1
reads_once t message place len a b f g (inr s) (inr r) =
    holds_once t message place (place + len) a b f g s.1 r.1
reads_once t message place len a b f g (inl s) (inr r) = absurd (omega (arith, s.0, r.0))
reads_once t message place len a b f g (inr s) (inl r) = absurd (omega (arith, s.0, r.0))

-- Fields that were read stand as an encoder in full writes them.
as_written : (value : RData) (message : List ℕ) (place end : ℕ)
    → is_plain (type_of value) ≡ true → FieldsAt message place (rdata_fields value) end
    → StandsWritten value Uncompressed message place end
as_written (rdata.CSYNC csync) message place end plain there = absurd (cc plain)
as_written value message place end plain there =
    let same =
    encoded_same Uncompressed (rdata_fields value) refl
    (fields_full message place (rdata_fields value) end there) in
    subst (λ (fs : List Field). FieldsAt message place fs end) (sym same) there

canonical_alike : (a b : List Entry) → map raw_of a ≡ map raw_of b
    → canonical_entries a ≡ canonical_entries b
canonical_alike a b same =
    ap (λ (raws : List RawOption). options_octets (sorted_by (on raw_octets octets_cmp) raws)) same

-- Values that are read where the same octets stand have the same canonical octets, by which they
-- are compared: whatever a number's octets can't hold, they are equal.
pub holds_alike : (t : RecordType) (message : List ℕ) (place end : ℕ) (a b : RData)
    → HoldsAs t message place a end → HoldsAs t message place b end → Alike a b
holds_alike kind.CSYNC message place end a b s r =
    let x = to_row kind.CSYNC message place a end s in
    alike kind.CSYNC message place end a b Uncompressed message place end s
    (subst (λ (v : RData). StandsWritten v Uncompressed message place end) (sym x.1) x.2) r
holds_alike kind.OPT message place end a b s r =
    let x = to_row kind.OPT message place a end s in
    let y = to_row kind.OPT message place b end r in
    let same : canonical_data a ≡ canonical_data b =
    ap canonical_data x.1
    ∙ canonical_alike x.0.options.items y.0.options.items
    (entries_once message place x.0.options.items y.0.options.items end x.2 y.2)
    ∙ sym (ap canonical_data y.1) in
    record {
      octets = canonical_data b;
      first = subst (HasCanonical a) same (has_canonical message place a end s.1);
      second = has_canonical message place b end r.1;
      number = ap record_type_number (s.0 ∙ sym r.0);
      own = row_forms kind.OPT message message place place a b end end x y;
    }
holds_alike t message place end a b s r =
    let x = plain_there message place a end s.1 (ap is_plain s.0) in
    alike t message place end a b Uncompressed message place end s
    (as_written a message place end (ap is_plain s.0) x.0) r

empty_same : (t : RecordType) (a b : RData) → IsEmptyOf t a → IsEmptyOf t b
    → (canonical_data a ≡ canonical_data b) × (type_number a ≡ type_number b)
    × (data_form a ≡ data_form b)
empty_same kind.OPT a b s r = (
  ap canonical_data s.1 ∙ ap canonical_entries (s.2 ∙ sym r.2) ∙ sym (ap canonical_data r.1),
  ap type_number s.1 ∙ sym (ap type_number r.1),
  ap data_form s.1 ∙ sym (ap data_form r.1),
)
empty_same other a b s r =
    (ap canonical_data (s ∙ sym r), ap type_number (s ∙ sym r), ap data_form (s ∙ sym r))

pub reads_alike : (t : RecordType) (message : List ℕ) (place len : ℕ) (a b : RData)
    → ReadsAs t message place len a → ReadsAs t message place len b → Alike a b
reads_alike t message place len a b (inl s) (inl r) =
    let same = empty_same t a b s.1 r.1 in
    record {
      octets = canonical_data b;
      first = subst (HasCanonical a) same.0 (read_canonical t message place len a (inl s));
      second = read_canonical t message place len b (inl r);
      number = same.1;
      own = same.2;
    }
reads_alike t message place len a b (inr s) (inr r) =
    holds_alike t message place (place + len) a b s.1 r.1
reads_alike t message place len a b (inl s) (inr r) = absurd (omega (arith, s.0, r.0))
reads_alike t message place len a b (inr s) (inl r) = absurd (omega (arith, s.0, r.0))
