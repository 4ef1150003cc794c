-- The sections of a reply, written one behind the other, and the header that is filled in last.
use Rattle.std.specs.List.{AllByRecursion}
use Rattle.std.specs.Result.{IsErrAnd}
use Rattle.std.proofs.Common.{◌≡◌, ◌⊎◌, inl, inr, ℕ, ◌+◌, ◌*◌, ◌<◌, ◌≤◌, ◌||◌, Bool, false, List, [], ◌∷◌, ◌++◌, length, drop, sym, ap, subst, ◌∙◌, arith}
use Rattle.std.specs.Prelude.{IfOk, IfErr, MatchResult, Option, Result, Ok, Err, option_to_list}
use Rattle.zsv_request.specs.zsv_message.zst_record.declared.records.Record.{Record}
use Rattle.zsv_request.specs.zsv_message.zst_record.dnw_codes.ProtoError.{IsMemory}
use Rattle.zsv_request.specs.zsv_message.zst_record.dnw_codes.declared.error.ProtoError.{ProtoError}
use Rattle.zsv_request.specs.zsv_message.zst_record.dnw_codes.declared.error.ProtoError.TheVariants.{MaxBufferSizeExceeded}
use Rattle.zsv_request.specs.zsv_message.zst_record.dnw_decoder.Octets.{Stands}
use Rattle.zsv_request.specs.zsv_message.zst_record.dnw_encoder.Effects.{StaysTrue, Writes, Fills, IsRefusal, Sound, place_of}
use Rattle.zsv_request.proofs.zsv_message_lemmas.zst_record_lemmas.dnw_encoder_lemmas.Laws.{holds_more, holds_now, holds_same, holds_written, writes_same, writes_then}
use Rattle.zsv_request.specs.zsv_message.zst_record.dnw_encoder.Members.{In}
use Rattle.zsv_request.specs.zsv_message.zst_record.dnw_encoder.State.{State, at_offset}
use Rattle.zsv_request.specs.zsv_message.zst_record.Records.{IsServable, plain}
use Rattle.zsv_request.specs.zsv_message.zst_record.Writing.{EmitsRecord, RefusesRecord}
use Rattle.zsv_request.specs.zsv_message.Messages.{OptAt}
use Rattle.zsv_request.specs.zsv_message.zst_edns.Writing.{EdnsReadsBack, EmitsEdns, RefusesEdns}
use Rattle.zsv_request.specs.zsv_message.zst_edns.declared.edns.Edns.{Edns}
use Rattle.zsv_request.specs.zsv_message.zsv_parts.declared.header.Header.{Header}
use Rattle.zsv_request.specs.zsv_message.zsv_parts.declared.tsig.TsigRecord.{TsigRecord}
use Rattle.zsv_request.specs.zsv_message.zsv_parts.Headers.{FitsOpCode, header_of, header_octets, reserved_bit}
use Rattle.zsv_request.specs.zsv_message.zsv_parts.Questions.{Asked}
use Rattle.zsv_request.specs.zsv_message.zsv_parts.SignatureRecords.{EmitsTsigRecord, RefusesTsigRecord, TsigReadsBack, TsigRecordAt}
use Rattle.zsv_request.proofs.zsv_message_lemmas.zsv_parts_lemmas.Flags.{reserved_zero}
use Rattle.zsv_reply.specs.declared.fronts.Kept.{Kept}
use Rattle.zsv_reply.specs.Replies.{Front, Fronts, ReplyParts, ReplyRecordAt, header_of_fronts, header_of_reply, opt_plain, tsig_plain}
use Rattle.zsv_reply.specs.Writing.{EmitsAdditionals, EmitsFront, IsEmitted, LeadsRecords}
use Rattle.zsv_reply.proofs.FrontLaws.{IsSet, emits_few, emits_fits}
use Rattle.zsv_reply.proofs.OptRecords.{options_stand, records_stand, signature_stands}

-- An open place before the offset stays open.
pub stays_open : (p size : ℕ) (old new : State) → Writes old new → p + size ≤ old.offset → In (place_of p size) old.places → In (place_of p size) new.places
stays_open p size old new w before is_open = w.keeps.stay_open (place_of p size) is_open before

-- What stood when it was written stands in the octets once the header is filled.
stands_at_last : (bound : ℕ) (P : List ℕ → Type 0) (more : List ℕ) (s last filled : State) → Writes s last → bound ≤ s.offset → Fills 0 more last filled → StaysTrue s bound P → P filled.octets
stands_at_last bound P more s last filled w le f h =
    holds_now bound filled P (holds_same bound bound last filled P (f.same bound) (omega arith) (holds_written bound s last P w le h))

-- The header that was filled in is read back.
header_at_last : (h : Header) (last filled : State) → Sound last → Fills 0 (header_octets h) last filled → ((rest : List ℕ) → header_of (header_octets h ++ rest) ≡ h) → header_of filled.octets ≡ h
header_at_last h last filled sound f back =
    let at = holds_now (0 + length (header_octets h)) filled _ (f.stays sound) in
    ap header_of at.there ∙ back (drop (0 + length (header_octets h)) filled.octets)

-- Its reserved bit is zero.
reserved_at_last : (h : Header) (last filled : State) → Sound last → Fills 0 (header_octets h) last filled → reserved_bit filled.octets ≡ false
reserved_at_last h last filled sound f =
    let at = holds_now (0 + length (header_octets h)) filled _ (f.stays sound) in
    ap reserved_bit at.there ∙ reserved_zero h (drop (0 + length (header_octets h)) filled.octets)

-- So many items together, of which each takes eleven octets, are counted by 16 bits.
pub records_few : (points : Bool) (first : ℕ) (xs : List Record) (written : Kept) (old new : State) → EmitsFront (ReplyRecordAt points first) plain xs written old new → 11 * written.count ≤ old.maximum
records_few points first xs written old new f = emits_few (LeadsRecords points first) (ReplyRecordAt points first) plain IsServable EmitsRecord RefusesRecord (records_stand points first) xs written old new f

pub options_few : (xs : List Edns) (written : Kept) (old new : State) → EmitsFront OptAt opt_plain xs written old new → 11 * written.count ≤ old.maximum
options_few xs written old new f = emits_few IsSet OptAt opt_plain EdnsReadsBack EmitsEdns RefusesEdns options_stand xs written old new f

pub signature_few : (xs : List TsigRecord) (written : Kept) (old new : State) → EmitsFront TsigRecordAt tsig_plain xs written old new → 11 * written.count ≤ old.maximum
signature_few xs written old new f = emits_few IsSet TsigRecordAt tsig_plain TsigReadsBack EmitsTsigRecord RefusesTsigRecord signature_stands xs written old new f

-- Fronts of the additional records, of the options and of the signature, one behind the other.
pub additionals_written : (points : Bool) (first : ℕ) (records : List Record) (edns : Option Edns) (signature : Option TsigRecord) (one two three both all : Kept) (old mid later new : State) → EmitsFront (ReplyRecordAt points first) plain records one old mid → Writes old mid → EmitsFront OptAt opt_plain (option_to_list edns) two mid later → Writes mid later → EmitsFront TsigRecordAt tsig_plain (option_to_list signature) three later new → Writes later new →
    (both.count ≡ one.count + two.count) × (both.is_cut ≡ (one.is_cut || two.is_cut)) → (all.count ≡ both.count + three.count) × (all.is_cut ≡ (both.is_cut || three.is_cut)) → EmitsAdditionals points first records edns signature all old new
additionals_written points first records edns signature one two three both all old mid later new f w g v h u together whole =
    let behind = writes_then mid later new v u in
    let later_maximum : later.maximum ≡ old.maximum = v.modes.maximum ∙ w.modes.maximum in
    record {
      kept = f.kept;
      kept_edns = g.kept;
      kept_signature = h.kept;
      records_end = mid.offset;
      edns_end = later.offset;
      counted = omega (arith, f.counted, g.counted, h.counted, together.0, whole.0);
      cut = (λ i. (f.cut i || g.cut i) || h.cut i) ∙ sym (whole.1 ∙ ap (λ (b : Bool). b || three.is_cut) together.1);
      records_stay = holds_more mid.offset new.offset new _ behind.forward (holds_written mid.offset mid new _ behind (omega arith) f.stays);
      options_stay = subst (λ (k : ℕ). StaysTrue new new.offset (λ message. Front OptAt opt_plain message k mid.offset (option_to_list edns) g.kept later.offset)) w.modes.maximum
          (holds_more later.offset new.offset new _ u.forward (holds_written later.offset later new _ u (omega arith) g.stays));
      signature_stays = subst (λ (k : ℕ). StaysTrue new new.offset (λ message. Front TsigRecordAt tsig_plain message k later.offset (option_to_list signature) h.kept new.offset)) later_maximum h.stays;
      fits = λ within. omega (
        arith,
        later_maximum,
        emits_fits TsigRecordAt tsig_plain (option_to_list signature) three later new h
            (omega (arith, later_maximum, w.modes.maximum, emits_fits OptAt opt_plain (option_to_list edns) two mid later g (omega (arith, w.modes.maximum, emits_fits (ReplyRecordAt points first) plain records one old mid f within)))),
      );
    }

-- What holds of a value, or of an error, is so where there is one.
pub if_ok : {T E : Type 0} {P Q : T → Type 0} (r : Result T E) → ((x : T) → P x → Q x) → IfOk r P → IfOk r Q
if_ok (Ok x) f p = f x p
if_ok (Err e) f p = tt

-- What an encoder leads to holds however its records begin.
pub leads_all : {T E : Type 0} (Q : T → Bool → ℕ → Type 0) (old : State) (r : Result T E) → ((points : Bool) (first : ℕ) → LeadsRecords points first old → IfOk r (λ x. Q x points first)) → IfOk r (λ x. (points : Bool) (first : ℕ) → LeadsRecords points first old → Q x points first)
leads_all Q old (Ok x) f = f
leads_all Q old (Err e) f = tt

pub if_err : {T E : Type 0} {P Q : E → Type 0} (r : Result T E) → ((e : E) → P e → Q e) → IfErr r P → IfErr r Q
if_err (Ok x) f p = tt
if_err (Err e) f p = f e p

pub if_matched : {T E : Type 0} {P Q : T → Type 0} (R : E → Type 0) (r : Result T E) → ((x : T) → P x → Q x) → MatchResult r P R → IfOk r Q
if_matched R (Ok x) f p = f x p
if_matched R (Err e) f p = tt

pub if_not_matched : {T E : Type 0} {R Q : E → Type 0} (P : T → Type 0) (r : Result T E) → ((e : E) → R e → Q e) → MatchResult r P R → IfErr r Q
if_not_matched P (Ok x) f p = tt
if_not_matched P (Err e) f p = f e p

-- An error that is passed on.
pub if_passed_on : {T E : Type 0} (Q : E → Type 0) (r : Result T E) (e : E) → IsErrAnd r (λ other. other ≡ e) → Q e → IfErr r Q
if_passed_on Q (Ok x) e is q = tt
if_passed_on Q (Err other) e is q = subst Q (sym is) q

-- What holds of the records of two lists holds of those of each.
pub first_back : (xs ys : List Record) → AllByRecursion IsServable (xs ++ ys) → AllByRecursion IsServable xs
first_back [] ys all = tt
first_back (x ∷ xs) ys all = (all.0, first_back xs ys all.1)

pub later_back : (xs ys : List Record) → AllByRecursion IsServable (xs ++ ys) → AllByRecursion IsServable ys
later_back [] ys all = all
later_back (x ∷ xs) ys all = later_back xs ys all.1

-- The place of the header has room for it.
pub header_refused : (told : State) (start maximum size : ℕ) (e : ProtoError) → start ≡ 0 → told.maximum ≡ maximum → 12 ≤ maximum → IsRefusal (at_offset told start) 12 e → IsMemory e ⊎ ((e ≡ MaxBufferSizeExceeded maximum) × (maximum < size))
header_refused told start maximum size e front same room (inl memory) = inl memory
header_refused told start maximum size e front same room (inr refused) = absurd (omega (arith, refused.1, front, same, room))

-- The steps of a reply: the place of its header, the questions, a front of each list, the header.
pub record Steps (points : Bool) (h : Header) (parts : ReplyParts) (answers authorities additionals : Kept) (question_octets : List ℕ) (questions : ℕ) (opened asked answered vouched told filled : State) : Type 0 where
  pub sound : Sound opened
  pub twelve : opened.offset ≡ 12
  pub question : StaysTrue asked asked.offset (λ message. Stands message opened.offset question_octets (opened.offset + length question_octets))
  pub question_offset : asked.offset ≡ opened.offset + length question_octets
  pub asks : Writes opened asked
  pub answers_front : EmitsFront (ReplyRecordAt points asked.offset) plain parts.answers answers asked answered
  pub answers_writes : Writes asked answered
  pub authorities_front : EmitsFront (ReplyRecordAt points asked.offset) plain parts.authorities authorities answered vouched
  pub authorities_writes : Writes answered vouched
  pub additionals_front : EmitsAdditionals points asked.offset parts.additionals parts.edns parts.signature additionals vouched told
  pub additionals_writes : Writes vouched told
  pub header : Fills 0 (header_octets h) told filled
  pub back : FitsOpCode parts.metadata → (rest : List ℕ) → header_of (header_octets h ++ rest) ≡ h
  pub says : h ≡ header_of_reply parts.metadata (answers.is_cut || authorities.is_cut || additionals.is_cut) questions answers.count authorities.count additionals.count

-- They write the reply, and the header is that over what was kept.
pub steps_emit : (points : Bool) (h : Header) (parts : ReplyParts) (answers authorities additionals : Kept) (questions : Asked) (opened asked answered vouched told filled : State) (limit : ℕ) → Steps points h parts answers authorities additionals questions.octets (length questions.questions) opened asked answered vouched told filled →
    opened.maximum ≡ limit → 12 + length questions.octets ≤ limit → (info : Header) → info ≡ h →
    IsEmitted points info filled.octets parts questions limit
steps_emit points h parts answers authorities additionals questions opened asked answered vouched told filled limit s maximum room info is =
    let one = s.answers_front in
    let two = s.authorities_front in
    let three = s.additionals_front in
    let last_two = writes_then answered vouched told s.authorities_writes s.additionals_writes in
    let all = writes_then asked answered told s.answers_writes last_two in
    let sound = all.sound (s.asks.sound s.sound) in
    let asked_maximum : asked.maximum ≡ limit = s.asks.modes.maximum ∙ maximum in
    let answered_maximum : answered.maximum ≡ limit = s.answers_writes.modes.maximum ∙ asked_maximum in
    let vouched_maximum : vouched.maximum ≡ limit = s.authorities_writes.modes.maximum ∙ answered_maximum in
    let first : asked.offset ≡ 12 + length questions.octets = omega (arith, s.question_offset, s.twelve) in
    let last : length filled.octets ≡ told.offset = sym (s.header.sound sound).at_end ∙ s.header.offset in
    let question = stands_at_last asked.offset _ _ asked told filled all (omega arith) s.header s.question in
    let answers_there = stands_at_last answered.offset _ _ answered told filled last_two (omega arith) s.header one.stays in
    let authorities_there = stands_at_last vouched.offset _ _ vouched told filled s.additionals_writes (omega arith) s.header two.stays in
    let additionals_there = stands_at_last told.offset _ _ told told filled (writes_same told) (omega arith) s.header three.records_stay in
    let options_there = stands_at_last told.offset _ _ told told filled (writes_same told) (omega arith) s.header three.options_stay in
    let signature_there = stands_at_last told.offset _ _ told told filled (writes_same told) (omega arith) s.header three.signature_stays in
    let answered_fits = emits_fits (ReplyRecordAt points asked.offset) plain parts.answers answers asked answered one (omega (arith, first, asked_maximum, room)) in
    let vouched_fits = emits_fits (ReplyRecordAt points asked.offset) plain parts.authorities authorities answered vouched two (omega (arith, answered_fits, answered_maximum, asked_maximum)) in
    let kept : Fronts = record { answers = one.kept; authorities = two.kept; additionals = three.kept; edns = three.kept_edns; signature = three.kept_signature } in
    let over : h ≡ header_of_fronts parts (length questions.questions) kept = s.says ∙ (λ i. header_of_reply parts.metadata (sym one.cut i || sym two.cut i || sym three.cut i) (length questions.questions) (sym one.counted i) (sym two.counted i) (sym three.counted i)) in
    record {
      written = record {
        kept = kept;
        asked = subst (λ (p : ℕ). Stands filled.octets p questions.octets (p + length questions.octets)) s.twelve question;
        fronts = record {
          answers_end = answered.offset;
          authorities_end = vouched.offset;
          additionals_end = three.records_end;
          edns_end = three.edns_end;
          answers = rw (sym first, sym asked_maximum) answers_there;
          authorities = rw (sym first) (subst (λ (k : ℕ). Front (ReplyRecordAt points asked.offset) plain filled.octets k answered.offset parts.authorities two.kept vouched.offset) answered_maximum authorities_there);
          additionals = rw (sym first) (subst (λ (k : ℕ). Front (ReplyRecordAt points asked.offset) plain filled.octets k vouched.offset parts.additionals three.kept three.records_end) vouched_maximum additionals_there);
          edns = subst (λ (k : ℕ). Front OptAt opt_plain filled.octets k three.records_end (option_to_list parts.edns) three.kept_edns three.edns_end) vouched_maximum options_there;
          signature = rw last (subst (λ (k : ℕ). Front TsigRecordAt tsig_plain filled.octets k three.edns_end (option_to_list parts.signature) three.kept_signature told.offset) vouched_maximum signature_there);
        };
        header = λ fits. header_at_last h told filled sound s.header (s.back fits) ∙ over;
        reserved = reserved_at_last h told filled sound s.header;
        within = omega (arith, last, three.fits (omega (arith, vouched_fits, vouched_maximum, answered_maximum)), vouched_maximum);
      };
      header = is ∙ over;
    }
