-- A record that is written piece by piece.
use Rattle.std.proofs.Common.{◌≡◌, ℕ, ◌+◌, ◌^◌, ◌<◌, ◌≤◌, ◌⊎◌, inl, inr, Bool, List, [], ◌∷◌, ◌++◌, length, length-append, slice_index_or, refl, sym, ap, subst, ◌∙◌, arith}
use Rattle.std.specs.Prelude.{Result, Ok, Err, OnOk}
use Rattle.std.specs.Int.{to_be_bytes, w32}
use Rattle.std.specs.Net.Addr.{ipv4_bits}
use Rattle.drd_fields.proofs.ReadableLaws.{own_fields}
use Rattle.drd_rdata.specs.dnw_codes.DNSClass.{class_number}
use Rattle.drd_rdata.specs.dnw_codes.RecordType.{record_type_number}
use Rattle.drd_rdata.specs.dnw_codes.ProtoError.{IsMemory}
use Rattle.drd_rdata.specs.dnw_codes.declared.error.ProtoError.{ProtoError}
use Rattle.drd_rdata.specs.dnw_codes.declared.error.ProtoError.TheVariants.{MaxBufferSizeExceeded}
use Rattle.drd_rdata.specs.dnw_codes.declared.record_type.RecordType.{RecordType}
use Rattle.drd_rdata.specs.dnw_codes.declared.record_type.RecordType.TheVariants as kind
use Rattle.drd_rdata.specs.dnw_decoder.Octets.{octets_16, octets_32, Stands}
use Rattle.drd_rdata.specs.dnw_decoder.Spelling.{NameAt}
use Rattle.drd_rdata.proofs.dnw_decoder_lemmas.Standing.{length-octets_32, stands_split}
use Rattle.drd_rdata.specs.dnw_encoder.Effects.{Has, SameModes, Sound, StaysTrue, Keeps, Writes, WritesOctets, Opens, Fills, IsRefusal, place_of, written_at}
use Rattle.drd_rdata.proofs.dnw_encoder_lemmas.Laws.{holds_more, holds_same, holds_written, keeps_then, modes_then, puts_stands, puts_writes, writes_then, written_length}
use Rattle.drd_fields.specs.dnw_encoder.Members.{In}
use Rattle.drd_rdata.specs.dnw_encoder.Names.{EmitsName, encoded_name}
use Rattle.drd_rdata.proofs.dnw_encoder_lemmas.PlaceLaws.{opens_open}
use Rattle.drd_rdata.specs.dnw_encoder.State.{Candidate, State, is_lower, rdata_encoding}
use Rattle.drd_rdata.specs.dnw_encoder.declared.modes.NameEncoding.{NameEncoding}
use Rattle.drd_rdata.specs.dnw_name.DomainName.{DomainName, name_octets}
use Rattle.drd_rdata.proofs.drd_fields_lemmas.WritingLaws.{refused_front, refused_later, within_then, written_then}
use Rattle.drd_rdata.specs.Reading.{HoldsAs, IsEmptyOf, IsReadable, ReadsAs}
use Rattle.drd_rdata.specs.Types.{type_of}
use Rattle.drd_rdata.specs.Exceeding.{ExceedsRdlength}
use Rattle.drd_rdata.specs.Fields.{encoding_of}
use Rattle.drd_rdata.specs.Writing.{EmitsRData, RefusesRData, StandsWritten, WritesInFull, names_form, written_octets}
use Rattle.drd_rdata.proofs.WrittenLaws.{data_within, emitted_form, encoded_full, exceeding_long, exceeding_size, never_written, written_reads, written_size, written_refused}
use Rattle.drd_rdata.specs.declared.rdata.RData.{RData}
use Rattle.drd_rdata.specs.declared.rdata.RData.TheVariants as rdata
use Rattle.drd_rdata.specs.drd_params.AddressFields.{aaaa_fields}
use Rattle.drd_rdata.specs.drd_params.declared.a.A.{A}
use Rattle.drd_rdata.specs.drd_params.declared.aaaa.AAAA.{AAAA}
use Rattle.zst_record.proofs.OwnCodes.{class_read, class_small, type_read, type_small}
use Rattle.zst_record.specs.Records.{IsEmpty, ReadsBack, RecordAt}
use Rattle.zst_record.specs.Writing.{HeadAt, HeadWritten, DataWritten, EmitsHead, DataAt, EmitsBehindLength, EmitsRecord, RefusesBehindLength, RefusesLater, RefusesRecord, ShownError, ShowsRefusal, head_numbers}
use Rattle.zst_record.specs.declared.records.Record.{Record}

-- What stands behind one call stands behind a later one.
later_holds : (bound : ℕ) (a b : State) (P : List ℕ → Type 0) → Writes a b → bound ≤ a.offset → StaysTrue a bound P → StaysTrue b b.offset P
later_holds bound a b P w le h = holds_more bound b.offset b P (omega (arith, le, w.forward)) (holds_written bound a b P w le h)

-- The encoder goes on writing names in full.
full_after : (a b : State) → Writes a b → WritesInFull a → WritesInFull b
full_after a b w full = record {
  sound = w.sound full.sound;
  own = w.modes.canonical ∙ full.own;
  same_case = ap is_lower w.modes.encoding ∙ full.same_case;
}

-- A candidate stays one.
has_after : (a b : State) (octets : List ℕ) → Writes a b → Sound a → Has a.candidates octets → Has b.candidates octets
has_after a b octets w sound (c, found, is) = (c, w.keeps.candidates c found (omega (arith, (sound.stands.each c found).within, sound.at_end)), is)

-- ---- owner, type, class and time to live
pub head_emitted : (r : Record) (a b c : State) → EmitsName r.name a b → Writes a b → WritesOctets (head_numbers r) b c → Writes b c → r.ttl < 2 ^ 32 → EmitsHead r a c
head_emitted r a b c name ab numbers bc small = record {
  written = λ sound.
      let named = later_holds b.offset b c (λ m. NameAt m a.offset (encoded_name a.encoding r.name) b.offset) bc (omega arith) (name.stays sound) in
      let behind = puts_stands (head_numbers r) b c (ab.sound sound) numbers in
      record {
        of = λ later agrees. record {
          owner_end = b.offset;
          owner = named.of later agrees;
          numbers = behind.of later agrees;
        };
      };
  stays = λ full_name own_type own_class full.
      let kind = octets_16 (record_type_number (type_of r.rdata)) in
      let class = octets_16 (class_number r.dns_class) in
      let named : StaysTrue b b.offset (λ m. NameAt m a.offset r.name b.offset) = subst (λ (n : DomainName). StaysTrue b b.offset (λ m. NameAt m a.offset n b.offset)) (encoded_full a.encoding r.name full.same_case full_name) (name.stays full.sound) in
      let owner = later_holds b.offset b c (λ m. NameAt m a.offset r.name b.offset) bc (omega arith) named in
      let behind = puts_stands (head_numbers r) b c (ab.sound full.sound) numbers in
      record {
        of = λ later agrees.
            let first = stands_split later b.offset kind (class ++ octets_32 r.ttl) c.offset (behind.of later agrees) in
            let second = stands_split later (b.offset + length kind) class (octets_32 r.ttl) c.offset first.1 in
            record {
              owner_end = b.offset;
              type_end = b.offset + length kind;
              class_end = b.offset + length kind + length class;
              owner = owner.of later agrees;
              record_type = record {
                number = record_type_number (type_of r.rdata);
                small = type_small (type_of r.rdata) own_type;
                there = first.0;
                means = type_read (type_of r.rdata) own_type;
              };
              dns_class = record {
                number = class_number r.dns_class;
                small = class_small r.dns_class own_class;
                there = second.0;
                means = class_read r.dns_class own_class;
              };
              ttl = second.1;
              small_ttl = small;
            };
      };
  size = omega (arith, name.size, numbers.offset, length-octets_32 r.ttl);
  owner_used = λ points some has. omega (arith, name.used points some has, numbers.offset, length-octets_32 r.ttl);
  owner_kept = λ points some room early. subst (λ (cs : List Candidate). Has cs (name_octets r.name)) (sym numbers.candidates) (name.becomes points some room early);
}

-- ---- data behind their length
pub still_open : (p size : ℕ) (a b c : State) → Opens p size a b → Writes b c → In (place_of p size) c.places
still_open p size a b c opens bc = bc.keeps.stay_open (place_of p size) (opens_open p size a b opens) (omega (arith, opens.at, opens.offset))

pub filled_writes : (p : ℕ) (more : List ℕ) (a b c : State) → p ≡ a.offset → Writes a b → Fills p more b c → Writes a c
filled_writes p more a b c at w f = record {
  keeps = keeps_then a.offset a.offset a b c (omega arith) w.keeps (subst (λ (n : ℕ). Keeps n b c) at f.keeps);
  forward = omega (arith, w.forward, f.offset);
  sound = λ s. f.sound (w.sound s);
  modes = modes_then a b c w.modes f.modes;
}

-- No RDATA are read as none.
empty_of : (t : RecordType) → IsEmpty (rdata.Update0 t) → IsEmptyOf t (rdata.Update0 t)
empty_of kind.OPT none = absurd none
empty_of t none = refl

-- RDATA that read back are read where they were written.
data_reads : (v : RData) (b c : State) (n : ℕ) → b.offset + n ≡ c.offset → IsReadable v ⊎ IsEmpty v → WritesInFull b → EmitsRData v b c → StaysTrue c c.offset (λ message. ReadsAs (type_of v) message b.offset n v)
data_reads v b c n at (inl readable) full emits =
    written_reads (type_of v) readable.message readable.place v readable.end (refl, readable.there) readable.some b c n at full emits
data_reads (rdata.Update0 t) b c n at (inr none) full emits = record {
  of = λ later agrees. inl (omega (arith, at, ap (λ (s : State). s.offset) emits), empty_of t none);
}
data_reads v b c n at (inr none) full emits = absurd none

data_size : (v : RData) (b c : State) → (IsReadable v ⊎ IsEmpty v) ⊎ ExceedsRdlength v → EmitsRData v b c → c.offset ≤ b.offset + length (written_octets v)
data_size v b c (inl (inl readable)) emits =
    written_size (type_of v) readable.message readable.place v readable.end (refl, readable.there) b c emits
data_size (rdata.Update0 t) b c (inl (inr none)) emits = omega (arith, ap (λ (s : State). s.offset) emits)
data_size v b c (inl (inr none)) emits = absurd none
data_size v b c (inr far) emits = exceeding_size v b c far emits

data_room : (v : RData) (b : State) (e : ProtoError) → IsReadable v ⊎ IsEmpty v → RefusesRData v b e → IsRefusal b (length (written_octets v)) e
data_room v b e (inl readable) refused =
    written_refused (type_of v) readable.message readable.place v readable.end (refl, readable.there) b e refused
data_room (rdata.Update0 t) b e (inr none) refused = absurd refused
data_room v b e (inr none) refused = absurd none

-- What exceeds RDLENGTH doesn't fit.
far_refused : (v : RData) (b s : State) (e : ProtoError) → s.maximum ≡ b.maximum → b.maximum < 2 ^ 16 → ExceedsRdlength v → IsMemory e ⊎ (e ≡ MaxBufferSizeExceeded s.maximum) → IsRefusal b (length (written_octets v)) e
far_refused v b s e same small far (inl memory) = inl memory
far_refused v b s e same small far (inr is) = inr (is ∙ ap MaxBufferSizeExceeded same, omega (arith, small, exceeding_long v far))

shown_room : (v : RData) (b s : State) (cause e : ProtoError) → s.maximum ≡ b.maximum → b.maximum < 2 ^ 16 → ShownError v s cause e → (IsReadable v ⊎ IsEmpty v) ⊎ ExceedsRdlength v → RefusesRData v b cause → IsRefusal b (length (written_octets v)) e
shown_room v b s cause e same small shown (inr far) refused = far_refused v b s e same small far (shown.room far)
shown_room v b s cause e same small shown (inl reads) refused = by shown.is
  where
    by : (e ≡ cause) ⊎ (ExceedsRdlength v × (e ≡ MaxBufferSizeExceeded s.maximum)) → IsRefusal b (length (written_octets v)) e
    by (inl is) = subst (λ (f : ProtoError). IsRefusal b (length (written_octets v)) f) (sym is) (data_room v b cause reads refused)
    by (inr far) = far_refused v b s e same small far.0 (inr far.1)

shown_any : (v : RData) (b s : State) (cause e : ProtoError) → s.maximum ≡ b.maximum → b.maximum < 2 ^ 16 → ShownError v s cause e → RefusesRData v b cause → ShowsRefusal v b e
shown_any v b s cause e same small shown refused = by shown.is
  where
    by : (e ≡ cause) ⊎ (ExceedsRdlength v × (e ≡ MaxBufferSizeExceeded s.maximum)) → ShowsRefusal v b e
    by (inl is) = inl (subst (λ (f : ProtoError). RefusesRData v b f) (sym is) refused)
    by (inr far) = inr (far.0, far_refused v b s e same small far.0 (inr far.1))

data_filled : (v : RData) (n : ℕ) (a b c d : State) → Opens a.offset 2 a b → Writes a b → EmitsRData v b c → Writes b c → Fills a.offset (octets_16 n) c d → a.offset + 2 + n ≡ c.offset → n < 2 ^ 16 → IsReadable v ⊎ IsEmpty v → WritesInFull a → StaysTrue d d.offset (λ message. DataAt message a.offset v d.offset)
data_filled v n a b c d opens ab emits bc fills long small reads full =
    let from : b.offset ≡ a.offset + 2 = opens.offset in
    let written = data_reads v b c n (omega (arith, from, long)) reads (full_after a b ab full) emits in
    let stays = holds_more c.offset d.offset d (λ m. ReadsAs (type_of v) m b.offset n v) (omega (arith, fills.offset)) (holds_same c.offset c.offset c d (λ m. ReadsAs (type_of v) m b.offset n v) (fills.same c.offset) (omega arith) written) in
    let counted = holds_more (a.offset + 2) d.offset d (λ m. Stands m a.offset (octets_16 n) (a.offset + 2)) (omega (arith, fills.offset, long)) (fills.stays (bc.sound (ab.sound full.sound))) in
    record {
      of = λ later agrees. record {
        len = n;
        number = counted.of later agrees;
        small = small;
        data_there = subst (λ (p : ℕ). ReadsAs (type_of v) later p n v) from (stays.of later agrees);
        filled = omega (arith, fills.offset, long);
      };
    }

-- The form of names stays with the modes.
same_form : (v : RData) (a b : State) → SameModes a b → names_form v b ≡ names_form v a
same_form v a b modes =
    ap (λ (c : Bool). rdata_encoding (encoding_of v) c b.encoding) modes.canonical ∙ ap (λ (e : NameEncoding). rdata_encoding (encoding_of v) a.canonical e) modes.encoding

-- Whatever the RDATA are, they are where they were written, in the encoder's form.
data_written : (v : RData) (n : ℕ) (a b c d : State) → Opens a.offset 2 a b → Writes a b → EmitsRData v b c → Writes b c → Fills a.offset (octets_16 n) c d → a.offset + 2 + n ≡ c.offset → n < 2 ^ 16 → Sound a → StaysTrue d d.offset (λ message. DataWritten v (names_form v a) message a.offset d.offset)
data_written v n a b c d opens ab emits bc fills long small sound =
    let from : b.offset ≡ a.offset + 2 = opens.offset in
    let form = names_form v a in
    let written = subst (λ (f : NameEncoding). StaysTrue c c.offset (λ m. StandsWritten v f m b.offset c.offset)) (same_form v a b ab.modes) (emitted_form v b c (ab.sound sound) emits) in
    let stays = holds_more c.offset d.offset d (λ m. StandsWritten v form m b.offset c.offset) (omega (arith, fills.offset)) (holds_same c.offset c.offset c d (λ m. StandsWritten v form m b.offset c.offset) (fills.same c.offset) (omega arith) written) in
    let counted = holds_more (a.offset + 2) d.offset d (λ m. Stands m a.offset (octets_16 n) (a.offset + 2)) (omega (arith, fills.offset, long)) (fills.stays (bc.sound (ab.sound sound))) in
    record {
      of = λ later agrees. record {
        len = n;
        count = counted.of later agrees;
        small = small;
        rdata = subst (λ (q : ℕ). StandsWritten v form later (a.offset + 2) q) (sym long) (subst (λ (p : ℕ). StandsWritten v form later p c.offset) from (stays.of later agrees));
        filled = omega (arith, fills.offset, long);
      };
    }

pub behind_emitted : (v : RData) (p n : ℕ) (a b c d : State) → Opens p 2 a b → Writes a b → a.offset + 2 ≤ a.maximum → EmitsRData v b c → Writes b c → Fills p (octets_16 n) c d → p + 2 + n ≡ c.offset → n < 2 ^ 16 → EmitsBehindLength v a d
behind_emitted v p n a b c d opens ab room emits bc fills long short =
    let within = within_then a b c ab.modes.maximum bc.forward (λ more. omega (arith, opens.offset, room)) (data_within v b c emits) (omega (arith, opens.offset, bc.forward)) in
    let opened : Opens a.offset 2 a b = subst (λ (q : ℕ). Opens q 2 a b) opens.at opens in
    let filled : Fills a.offset (octets_16 n) c d = subst (λ (q : ℕ). Fills q (octets_16 n) c d) opens.at fills in
    let end : a.offset + 2 + n ≡ c.offset = omega (arith, long, opens.at) in
    record {
      written = λ sound. data_written v n a b c d opened ab emits bc filled end short sound;
      stays = λ reads full small. data_filled v n a b c d opened ab emits bc filled end short reads full;
      never = λ far small. never_written v b c emits (omega (arith, small, ab.modes.maximum)) far;
      size = λ reads. omega (arith, fills.offset, opens.offset, data_size v b c reads emits);
      fits = omega (arith, fills.offset, within);
    }

-- Why they are refused.
pub place_refused : (v : RData) (a : State) (e : ProtoError) → IsRefusal a 2 e → RefusesBehindLength v a e
place_refused v a e refused = record {
  whole = λ reads small. refused_front 2 (length (written_octets v)) a e refused;
  any = λ small. inl refused;
}

pub data_refused : (v : RData) (p : ℕ) (a b c : State) (cause e : ProtoError) → Opens p 2 a b → Writes b c → RefusesRData v b cause → ShownError v c cause e → RefusesBehindLength v a e
data_refused v p a b c cause e opens bc refused shown = record {
  whole = λ reads small. refused_later (length (written_octets v)) 2 a b e opens.modes (omega (arith, opens.offset)) (shown_room v b c cause e bc.modes.maximum (omega (arith, small, opens.modes.maximum)) shown reads refused);
  any = λ small. inr (b, opens.modes, opens.offset, shown_any v b c cause e bc.modes.maximum (omega (arith, small, opens.modes.maximum)) shown refused);
}

-- No more octets than 16 bits count fit a maximum of 16 bits.
pub count_refused : (v : RData) (p n : ℕ) (a b c : State) (e : ProtoError) → Opens p 2 a b → a.offset + 2 ≤ a.maximum → EmitsRData v b c → Writes b c → p + 2 + n ≡ c.offset → 2 ^ 16 ≤ n → RefusesBehindLength v a e
count_refused v p n a b c e opens room emits bc long far =
    let within = within_then a b c opens.modes.maximum bc.forward (λ more. omega (arith, opens.offset, room)) (data_within v b c emits) (omega (arith, opens.offset, bc.forward)) in
    record {
      whole = λ reads small. absurd (omega (arith, within, long, far, small));
      any = λ small. absurd (omega (arith, within, long, far, small));
    }

-- ---- the record
pub record_emitted : (r : Record) (a b c : State) → EmitsHead r a b → Writes a b → EmitsBehindLength r.rdata b c → Writes b c → EmitsRecord r a c
record_emitted r a b c head ab behind bc = record {
  written = λ sound.
      let first = later_holds b.offset b c (λ m. HeadWritten r a.encoding m a.offset b.offset) bc (omega arith) (head.written sound) in
      let second = subst (λ (f : NameEncoding). StaysTrue c c.offset (λ m. DataWritten r.rdata f m b.offset c.offset)) (same_form r.rdata a b ab.modes) (behind.written (ab.sound sound)) in
      record {
        of = λ later agrees. record {
          head_end = b.offset;
          head = first.of later agrees;
          rdata = second.of later agrees;
        };
      };
  stays = λ back full small. back_stands back full small;
  never = λ far small. behind.never far (omega (arith, small, ab.modes.maximum));
  size = λ back. omega (arith, head.size, behind.size (data_back back));
  fits = omega (arith, behind.fits, ab.modes.maximum);
  owner_used = λ back points some has. omega (arith, head.owner_used points some has, behind.size (data_back back));
  owner_kept = λ sound points some room early. has_after b c (name_octets r.name) bc (ab.sound sound) (head.owner_kept points some room early);
}
  where
    data_back : ReadsBack r → (IsReadable r.rdata ⊎ IsEmpty r.rdata) ⊎ ExceedsRdlength r.rdata
    data_back (inl reads) = inl reads.1
    data_back (inr far) = inr far

    back_stands : ReadsBack r → WritesInFull a → a.maximum < 2 ^ 16 → StaysTrue c c.offset (λ message. RecordAt message a.offset r c.offset)
    back_stands (inr far) full small = absurd (behind.never far (omega (arith, small, ab.modes.maximum)))
    back_stands (inl (own, reads)) full small =
        let first = later_holds b.offset b c (λ m. HeadAt m a.offset r b.offset) bc (omega arith) (head.stays own.owner own.own_type own.own_class full) in
        let second = behind.stays reads (full_after a b ab full) (omega (arith, small, ab.modes.maximum)) in
        record {
          of = λ later agrees.
              let h = first.of later agrees in
              let d = second.of later agrees in
              record {
                owner_end = h.owner_end;
                type_end = h.type_end;
                class_end = h.class_end;
                ttl_end = b.offset;
                first = b.offset + 2;
                len = d.len;
                owner = h.owner;
                record_type = h.record_type;
                dns_class = h.dns_class;
                ttl = h.ttl;
                small_ttl = h.small_ttl;
                count = d.number;
                small_len = d.small;
                rdata = d.data_there;
                filled = d.filled;
              };
        }

pub head_refused : (r : Record) (a : State) (e : ProtoError) → IsRefusal a (length (name_octets r.name) + 8) e → RefusesRecord r a e
head_refused r a e refused = record {
  whole = λ back small. subst (λ (n : ℕ). IsRefusal a n e) (omega arith) (refused_front (length (name_octets r.name) + 8) (2 + length (written_octets r.rdata)) a e refused);
  any = λ small. inl (subst (λ (n : ℕ). IsRefusal a n e) (omega arith) (refused_front (length (name_octets r.name) + 8) 2 a e refused));
}

-- The RDATA that come after the head are refused.
later_refused : (r : Record) (a b : State) (e : ProtoError) → EmitsHead r a b → Writes a b → IsRefusal b 2 e ⊎ ((start : State) × SameModes b start × (start.offset ≡ b.offset + 2) × ShowsRefusal r.rdata start e) → IsRefusal a (length (name_octets r.name) + 10) e ⊎ RefusesLater r a e
later_refused r a b e head ab (inl refused) =
    inl (subst (λ (n : ℕ). IsRefusal a n e) (omega arith) (refused_later 2 (length (name_octets r.name) + 8) a b e ab.modes (omega (arith, head.size)) refused))
later_refused r a b e head ab (inr refused) = inr (record {
  start = refused.0;
  modes = modes_then a b refused.0 ab.modes refused.1;
  after = omega (arith, ab.forward, refused.2);
  near = omega (arith, head.size, refused.2);
  refused = refused.3;
})

pub rest_refused : (r : Record) (a b : State) (e : ProtoError) → EmitsHead r a b → Writes a b → RefusesBehindLength r.rdata b e → RefusesRecord r a e
rest_refused r a b e head ab refused = record {
  whole = λ back small.
      subst (λ (n : ℕ). IsRefusal a n e) (omega arith)
      (refused_later (2 + length (written_octets r.rdata)) (length (name_octets r.name) + 8) a b e ab.modes (omega (arith, head.size)) (refused.whole (data_back back) (omega (arith, small, ab.modes.maximum))));
  any = λ small. later_refused r a b e head ab (refused.any (omega (arith, small, ab.modes.maximum)));
}
  where
    data_back : ReadsBack r → (IsReadable r.rdata ⊎ IsEmpty r.rdata) ⊎ ExceedsRdlength r.rdata
    data_back (inl reads) = inl reads.1
    data_back (inr far) = inr far

-- ---- an address in one piece behind its owner
pub eight_octets : (octets : List ℕ) (r : Record) → octets ≡ head_numbers r → slice_index_or octets 0 0 ∷ slice_index_or octets 1 0 ∷ slice_index_or octets 2 0 ∷ slice_index_or octets 3 0 ∷ slice_index_or octets 4 0 ∷ slice_index_or octets 5 0 ∷ slice_index_or octets 6 0 ∷ slice_index_or octets 7 0 ∷ [] ≡ head_numbers r
unfolding octets_32
eight_octets octets r is =
    subst (λ (o : List ℕ). slice_index_or o 0 0 ∷ slice_index_or o 1 0 ∷ slice_index_or o 2 0 ∷ slice_index_or o 3 0 ∷ slice_index_or o 4 0 ∷ slice_index_or o 5 0 ∷ slice_index_or o 6 0 ∷ slice_index_or o 7 0 ∷ [] ≡ head_numbers r) (sym is) refl

pub four_octets : (octets : List ℕ) (n : ℕ) → octets ≡ to_be_bytes w32 n → slice_index_or octets 0 0 ∷ slice_index_or octets 1 0 ∷ slice_index_or octets 2 0 ∷ slice_index_or octets 3 0 ∷ [] ≡ octets_32 n
unfolding octets_32
four_octets octets n is =
    subst (λ (o : List ℕ). slice_index_or o 0 0 ∷ slice_index_or o 1 0 ∷ slice_index_or o 2 0 ∷ slice_index_or o 3 0 ∷ [] ≡ to_be_bytes w32 n) (sym is) refl

pub sixteen_octets : (octets : List ℕ) (aaaa : AAAA) → octets ≡ written_octets (rdata.AAAA aaaa) → slice_index_or octets 0 0 ∷ slice_index_or octets 1 0 ∷ slice_index_or octets 2 0 ∷ slice_index_or octets 3 0 ∷ slice_index_or octets 4 0 ∷ slice_index_or octets 5 0 ∷ slice_index_or octets 6 0 ∷ slice_index_or octets 7 0 ∷ slice_index_or octets 8 0 ∷ slice_index_or octets 9 0 ∷ slice_index_or octets 10 0 ∷ slice_index_or octets 11 0 ∷ slice_index_or octets 12 0 ∷ slice_index_or octets 13 0 ∷ slice_index_or octets 14 0 ∷ slice_index_or octets 15 0 ∷ [] ≡ written_octets (rdata.AAAA aaaa)
sixteen_octets octets aaaa is =
    subst (λ (o : List ℕ). slice_index_or o 0 0 ∷ slice_index_or o 1 0 ∷ slice_index_or o 2 0 ∷ slice_index_or o 3 0 ∷ slice_index_or o 4 0 ∷ slice_index_or o 5 0 ∷ slice_index_or o 6 0 ∷ slice_index_or o 7 0 ∷ slice_index_or o 8 0 ∷ slice_index_or o 9 0 ∷ slice_index_or o 10 0 ∷ slice_index_or o 11 0 ∷ slice_index_or o 12 0 ∷ slice_index_or o 13 0 ∷ slice_index_or o 14 0 ∷ slice_index_or o 15 0 ∷ [] ≡ written_octets (rdata.AAAA aaaa)) (sym is) refl

pub four_written : (n : ℕ) → length (octets_32 n ++ []) ≡ 4
unfolding octets_32
four_written n = refl

-- Data whose octets are these, in this number, in every form of names.
pub record IsOctets (v : RData) (n : ℕ) (octets : List ℕ) : Type 0 where
  pub stands : (m : List ℕ) (p q : ℕ) (form : NameEncoding) → Stands m p octets q → StandsWritten v form m p q
  pub holds : (m : List ℕ) (p q : ℕ) → IsReadable v → Stands m p octets q → HoldsAs (type_of v) m p v q
  pub full : IsEmpty v → ⊥
  pub refuses : (s : State) (e : ProtoError) → IsRefusal s n e → RefusesRData v s e
  pub written : length (written_octets v) ≡ n
  pub long : length octets ≡ n
  pub some : 0 < n
  pub few : n < 2 ^ 16

-- So few don't exceed RDLENGTH.
pub octets_short : (v : RData) (n : ℕ) (octets : List ℕ) → IsOctets v n octets → ExceedsRdlength v → ⊥
octets_short v n octets is far = omega (arith, exceeding_long v far, is.written, is.few)

-- Those of an address of 32 bits, and of one of 128.
pub are_address : (v : RData) (a : A) → v ≡ rdata.A a → IsOctets v 4 (octets_32 (ipv4_bits a.0))
are_address v a is = subst (λ (v : RData). IsOctets v 4 (octets_32 (ipv4_bits a.0))) (sym is) (record {
  stands = λ m p q form stands. (q, stands, refl);
  holds = λ m p q readable stands. (refl, ((q, stands, refl), readable.there.1));
  full = λ none. none;
  refuses = λ s e refused. inl (subst (λ (n : ℕ). IsRefusal s n e) (sym (four_written (ipv4_bits a.0))) refused);
  written = four_written (ipv4_bits a.0);
  long = length-octets_32 (ipv4_bits a.0);
  some = omega arith;
  few = omega arith;
})

pub are_wide : (v : RData) (aaaa : AAAA) → v ≡ rdata.AAAA aaaa → IsOctets v 16 (written_octets (rdata.AAAA aaaa))
are_wide v aaaa is = subst (λ (v : RData). IsOctets v 16 (written_octets (rdata.AAAA aaaa))) (sym is) (record {
  stands = λ m p q form stands. own_fields m p (aaaa_fields aaaa) q (tt, (tt, (tt, (tt, (tt, (tt, (tt, (tt, tt)))))))) stands;
  holds = λ m p q readable stands. (refl, (own_fields m p (aaaa_fields aaaa) q (tt, (tt, (tt, (tt, (tt, (tt, (tt, (tt, tt)))))))) stands, readable.there.1));
  full = λ none. none;
  refuses = λ s e refused. inl refused;
  written = refl;
  long = refl;
  some = omega arith;
  few = omega arith;
})

-- Octets of data that read back are read.
octets_read : (v : RData) (n : ℕ) (own : List ℕ) → IsOctets v n own → (m : List ℕ) (p q : ℕ) → p + n ≡ q → IsReadable v ⊎ IsEmpty v → Stands m p own q → ReadsAs (type_of v) m p n v
octets_read v n own is m p q at (inl readable) stands =
    inr (is.some, subst (λ (q : ℕ). HoldsAs (type_of v) m p v q) (sym at) (is.holds m p q readable stands))
octets_read v n own is m p q at (inr none) stands = absurd (is.full none)

octets_emitted : (v : RData) (n : ℕ) (own : List ℕ) (old new : State) → IsOctets v n own → WritesOctets (octets_16 n ++ own) old new → old.offset + (2 + n) ≤ old.maximum → EmitsBehindLength v old new
octets_emitted v n own old new is octets room =
    let end : new.offset ≡ old.offset + 2 + n = omega (arith, octets.offset, is.long) in
    record {
      written = λ sound.
          let there = puts_stands (octets_16 n ++ own) old new sound octets in
          record {
            of = λ later agrees.
                let both = stands_split later old.offset (octets_16 n) own new.offset (there.of later agrees) in
                record {
                  len = n;
                  count = both.0;
                  small = is.few;
                  rdata = is.stands later (old.offset + 2) (old.offset + 2 + n) (names_form v old) (subst (λ (q : ℕ). Stands later (old.offset + 2) own q) end both.1);
                  filled = end;
                };
          };
      stays = λ reads full small.
          let there = puts_stands (octets_16 n ++ own) old new full.sound octets in
          record {
            of = λ later agrees.
                let both = stands_split later old.offset (octets_16 n) own new.offset (there.of later agrees) in
                record {
                  len = n;
                  number = both.0;
                  small = is.few;
                  data_there = octets_read v n own is later (old.offset + 2) new.offset (sym end) reads both.1;
                  filled = end;
                };
          };
      never = λ far small. octets_short v n own is far;
      size = λ reads. omega (arith, end, is.written);
      fits = omega (arith, end, room);
    }

-- Between a front and a rest that were written at once.
abbrev between : State → List ℕ → State
between s front = record s { octets = written_at s.octets s.offset front; offset = s.offset + length front }

pub address_emitted : (r : Record) (n : ℕ) (own : List ℕ) (a b d : State) → IsOctets r.rdata n own → EmitsName r.name a b → Writes a b → b.offset ≤ length b.octets → WritesOctets (head_numbers r ++ (octets_16 n ++ own)) b d → b.offset + (10 + n) ≤ b.maximum → r.ttl < 2 ^ 32 → EmitsRecord r a d
address_emitted r n own a b d is name ab within w room small =
    let head = head_numbers r in
    let address = octets_16 n ++ own in
    let c = between b head in
    let modes : SameModes b c = record { maximum = refl; encoding = refl; canonical = refl; points = refl } in
    let first : WritesOctets head b c = record { octets = refl; offset = refl; candidates = refl; places = refl; modes = modes } in
    let second : WritesOctets address c d = record {
      octets = w.octets ∙ sym (written_then b.octets b.offset head address within);
      offset = omega (arith, w.offset, length-append head address);
      candidates = w.candidates;
      places = w.places;
      modes = record { maximum = w.modes.maximum; encoding = w.modes.encoding; canonical = w.modes.canonical; points = w.modes.points };
    } in
    let bc = puts_writes head b c within first in
    let cd = puts_writes address c d (written_length b.octets b.offset head within).1 second in
    record_emitted r a c d (head_emitted r a b c name ab first bc small) (writes_then a b c ab bc)
    (octets_emitted r.rdata n own c d is second (omega (arith, room, length-octets_32 r.ttl))) cd

pub address_written : (r : Record) (n : ℕ) (own : List ℕ) (octets : List ℕ) (a b d : State) (done : Result (Unit {0}) ProtoError) → IsOctets r.rdata n own → EmitsName r.name a b → Writes a b → b.offset ≤ length b.octets → r.ttl < 2 ^ 32 → octets ≡ head_numbers r ++ (octets_16 n ++ own) → OnOk done (WritesOctets octets b d) → OnOk done (b.offset + length octets ≤ b.maximum) → OnOk done (EmitsRecord r a d)
address_written r n own octets a b d (Ok done) is name ab within small same written fits =
    address_emitted r n own a b d is name ab within (subst (λ (o : List ℕ). WritesOctets o b d) same written) (omega (arith, fits, ap length same, length-append (head_numbers r) (octets_16 n ++ own), length-octets_32 r.ttl, is.long)) small
address_written r n own octets a b d (Err e) is name ab within small same written fits = written

-- After the head comes the length, and after it the address.
address_start : (r : Record) (n : ℕ) (own : List ℕ) (a b : State) (e : ProtoError) → IsOctets r.rdata n own → EmitsName r.name a b → Writes a b → IsRefusal b (10 + n) e → RefusesLater r a e
address_start r n own a b e is name ab refused =
    let start = record b { offset = b.offset + 10 } in
    record {
      start = start;
      modes = record { maximum = ab.modes.maximum; encoding = ab.modes.encoding; canonical = ab.modes.canonical; points = ab.modes.points };
      after = omega (arith, ab.forward);
      near = omega (arith, name.size);
      refused = inl (is.refuses start e (start_refused n b e refused));
    }
  where
    start_refused : (n : ℕ) (b : State) (e : ProtoError) → IsRefusal b (10 + n) e → IsRefusal (record b { offset = b.offset + 10 }) n e
    start_refused n b e (inl memory) = inl memory
    start_refused n b e (inr room) = inr (room.0, omega (arith, room.1))

pub address_refused : (r : Record) (n : ℕ) (own : List ℕ) (octets : List ℕ) (a b : State) (e : ProtoError) → IsOctets r.rdata n own → octets ≡ head_numbers r ++ (octets_16 n ++ own) → EmitsName r.name a b → Writes a b → IsRefusal b (length octets) e → RefusesRecord r a e
address_refused r n own octets a b e is same name ab refused =
    let long : length octets ≡ 10 + n = omega (arith, ap length same, length-append (head_numbers r) (octets_16 n ++ own), length-octets_32 r.ttl, is.long) in
    record {
      whole = λ back small.
          subst (λ (n : ℕ). IsRefusal a n e) (omega (arith, is.written, long))
          (refused_later (length octets) (length (name_octets r.name)) a b e ab.modes (omega (arith, name.size)) refused);
      any = λ small. inr (address_start r n own a b e is name ab (subst (λ (n : ℕ). IsRefusal b n e) long refused));
    }
