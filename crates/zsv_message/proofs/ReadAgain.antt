-- A message that stands whole at the front of octets is read from them.
use Rattle.std.proofs.Common.{◌≡◌, ℕ, ◌+◌, ◌*◌, ◌%◌, ◌<◌, ◌≤◌, ◌==◌, ◌||◌, ◌^◌, not, Bool, true, false, inl, inr, List, [], ◌∷◌, ◌++◌, length, length-append, length-drop, take, drop, get_or, refl, sym, ap, subst, ◌∙◌, arith, append-nil, true≢false, Vec, Global}
use Rattle.std.proofs.lemmas.Bool.{eqb-true}
use Rattle.std.specs.List.{AllByRecursion}
use Rattle.std.specs.Prelude.{Option, Some, None, option_to_list, unwrap_or, find, cond}
use Rattle.zsv_sections.specs.Sections.{PlacedRecords, is_opt, is_root, is_signature, is_tsig, misplaced, past, past_all}
use Rattle.zst_edns.specs.declared.edns.Edns.{Edns}
use Rattle.zsv_sections.specs.zst_record.Records.{ReadsBackAlone, RecordAt, IsServable, belongs_to_message}
use Rattle.zsv_sections.specs.zst_record.declared.records.Record.{Record}
use Rattle.zsv_sections.specs.zst_record.dnw_codes.RecordType.{named_record_types, record_type_number, record_type_of, same_record_type}
use Rattle.zsv_sections.specs.zst_record.dnw_codes.declared.record_type.RecordType.{RecordType}
use Rattle.zsv_sections.specs.zst_record.dnw_codes.declared.record_type.RecordType.TheVariants as kind
use Rattle.zsv_sections.specs.zst_record.dnw_decoder.Octets.{Stands}
use Rattle.zsv_sections.specs.zst_record.drd_rdata.Exceeding.{ExceedsRdlength}
use Rattle.zsv_sections.specs.zst_record.drd_rdata.Reading.{IsReadable, RDataAt}
use Rattle.zsv_sections.specs.zst_record.drd_rdata.Types.{is_update0, type_of}
use Rattle.zsv_sections.specs.zst_record.drd_rdata.declared.rdata.RData.{RData}
use Rattle.zsv_sections.specs.zst_record.drd_rdata.declared.rdata.RData.TheVariants as rdata
use Rattle.zsv_sections.specs.zsv_parts.Headers.{header_of}
use Rattle.zsv_sections.specs.zsv_parts.Questions.{AskedAt, AvoidsHeader, QuestionsAt}
use Rattle.zsv_sections.specs.zsv_parts.SignatureRecords.{TsigRecordAt}
use Rattle.zsv_sections.specs.zsv_parts.Signatures.{TsigAt}
use Rattle.zsv_sections.specs.zsv_parts.Wire.{Entries}
use Rattle.zsv_sections.specs.zsv_parts.declared.header.Header.{Header}
use Rattle.zsv_sections.specs.zsv_parts.declared.header.Metadata.{Metadata}
use Rattle.zsv_sections.specs.zsv_parts.declared.header.OpCode.{OpCode}
use Rattle.zsv_sections.specs.zsv_parts.zst_codes.ResponseCode.{joined_code, low_bits, response_code_of}
use Rattle.zsv_sections.specs.zsv_parts.zst_codes.declared.response_code.ResponseCode.{ResponseCode}
use Rattle.zsv_sections.specs.zst_record.dnw_encoder.Effects.{StaysTrue}
use Rattle.zsv_sections.specs.zst_record.dnw_encoder.State.{State}
use Rattle.zsv_sections.proofs.zst_record_lemmas.dnw_encoder_lemmas.Laws.{holds_now}
use Rattle.zsv_sections.specs.zsv_parts.declared.tsig.TsigRecord.{TsigRecord}
use Rattle.zsv_sections.proofs.zst_record_lemmas.dnw_decoder_lemmas.SpellingLaws.{spelled_within}
use Rattle.zsv_sections.proofs.zst_record_lemmas.dnw_decoder_lemmas.Standing.{stands_front}
use Rattle.zsv_sections.proofs.zsv_parts_lemmas.Pieces.{SameThere}
use Rattle.zsv_sections.proofs.zsv_parts_lemmas.QuestionsOver.{questions_over}
use Rattle.zsv_sections.proofs.zsv_parts_lemmas.TsigLaws.{tsig_within}
use Rattle.zsv_message.specs.Messages.{AdditionalsAt, IsEdnsFor, IsMessage, IsSignatureFor, Message, OptAt, before_additionals, in_additionals, is_update, joined_metadata, other_records}
use Rattle.zsv_message.specs.Writing.{MessageAt, ReadsBack, header_over}
use Rattle.zsv_message.proofs.WrittenHeaders.{code_back}

-- ---- the types of records that are read
number_back : (named : List RecordType) (n : ℕ) → record_type_number (unwrap_or (find (λ t. record_type_number t == n) named) (kind.Unknown n)) ≡ n
number_back [] n = refl
number_back (x ∷ xs) n = by (record_type_number x == n) refl (number_back xs n) where
  by : (b : Bool) → (record_type_number x == n) ≡ b → record_type_number (unwrap_or (find (λ t. record_type_number t == n) xs) (kind.Unknown n)) ≡ n → record_type_number (unwrap_or (cond b (Some x) (find (λ t. record_type_number t == n) xs)) (kind.Unknown n)) ≡ n
  by true e later = eqb-true (record_type_number x) n e
  by false e later = later

-- A type that is read, and is the same as another, is that of its number.
type_is : (t u : RecordType) (n : ℕ) → t ≡ record_type_of n → same_record_type t u ≡ true → t ≡ record_type_of (record_type_number u)
type_is t u n means same =
    let number : n ≡ record_type_number u = sym (ap record_type_number means ∙ number_back named_record_types n) ∙ eqb-true (record_type_number t) (record_type_number u) same in
    means ∙ ap record_type_of number

-- A record of a zone isn't of a type whose records belong to messages.
not_of : (t u : RecordType) (n : ℕ) → t ≡ record_type_of n → belongs_to_message (record_type_of (record_type_number u)) ≡ true → belongs_to_message t ≡ false → same_record_type t u ≡ false
not_of t u n means ours theirs = by (same_record_type t u) refl where
  by : (b : Bool) → same_record_type t u ≡ b → b ≡ false
  by false e = refl
  by true e = absurd (true≢false (sym ours ∙ ap belongs_to_message (sym (type_is t u n means e)) ∙ theirs))

-- Data that can be read have octets.
there_not_bare : (message : List ℕ) (place end : ℕ) (v : RData) → RDataAt message place v end → is_update0 v ≡ false
there_not_bare message place end (rdata.Update0 code) at = absurd at.1
there_not_bare message place end other at = refl

not_bare : (v : RData) → IsReadable v → is_update0 v ≡ false
not_bare v readable = there_not_bare readable.message readable.place readable.end v readable.there

far_not_bare : (v : RData) → ExceedsRdlength v → is_update0 v ≡ false
far_not_bare (rdata.Update0 code) far = absurd (omega (arith, far))
far_not_bare other far = refl

record IsOfZone (r : Record) : Type 0 where
  opt : is_opt r ≡ false
  tsig : is_tsig r ≡ false
  signature : is_signature r ≡ false
  bare : is_update0 r.rdata ≡ false

of_zone : (message : List ℕ) (place : ℕ) (r : Record) (end : ℕ) → RecordAt message place r end → IsServable r → IsOfZone r
of_zone message place r end at alone =
    let t = type_of r.rdata in
    let n = at.record_type.number in
    let tsig = not_of t kind.TSIG n at.record_type.means refl alone.of_zones in
    let sig = not_of t kind.SIG n at.record_type.means refl alone.of_zones in
    record {
      opt = not_of t kind.OPT n at.record_type.means refl alone.of_zones;
      tsig = tsig;
      signature = λ i. tsig i || sig i;
      bare = some_data r alone.alone;
    }
  where
    some_data : (r : Record) → ReadsBackAlone r → is_update0 r.rdata ≡ false
    some_data r (inl read) = not_bare r.rdata read.1
    some_data r (inr far) = far_not_bare r.rdata far

-- ---- sections of such records
may_stand : (u a : Bool) (r : Record) → IsOfZone r → misplaced (record { is_update = u; is_additional = a; is_signed = false; has_options = false }) r ≡ None
may_stand u true r is = rw (is.opt, is.bare) refl
may_stand u false r is = rw (is.opt, is.signature, is.bare) refl

past_same : (u a : Bool) (r : Record) → IsOfZone r → past (record { is_update = u; is_additional = a; is_signed = false; has_options = false }) r ≡ record { is_update = u; is_additional = a; is_signed = false; has_options = false }
past_same u a r is = λ i. record { is_update = u; is_additional = a; is_signed = is.signature i; has_options = is.opt i }

record Section (u a : Bool) (octets : List ℕ) (place : ℕ) (xs : List Record) (end : ℕ) : Type 0 where
  placed : PlacedRecords (record { is_update = u; is_additional = a; is_signed = false; has_options = false }) octets place xs end
  same : past_all (record { is_update = u; is_additional = a; is_signed = false; has_options = false }) xs ≡ record { is_update = u; is_additional = a; is_signed = false; has_options = false }
  others : AllByRecursion IsOfZone xs

section_of : (u a : Bool) (octets : List ℕ) (place : ℕ) (xs : List Record) (end : ℕ) → AllByRecursion IsServable xs → Entries (RecordAt octets) place xs end → Section u a octets place xs end
section_of u a octets place [] end all e = record { placed = e; same = refl; others = tt }
section_of u a octets place (x ∷ xs) end all (behind, at, later) =
    let is = of_zone octets place x behind at all.0 in
    let rest = section_of u a octets behind xs end all.1 later in
    let stays = past_same u a x is in
    record {
      placed = (behind, at, may_stand u a x is, subst (λ p. PlacedRecords p octets behind xs end) (sym stays) rest.placed);
      same = ap (λ p. past_all p xs) stays ∙ rest.same;
      others = (is, rest.others);
    }

-- ---- the additional section: options and a signature behind its records
placed_behind : (at : _) (octets : List ℕ) (place middle end : ℕ) (xs ys : List Record) → PlacedRecords at octets place xs middle → PlacedRecords (past_all at xs) octets middle ys end → PlacedRecords at octets place (xs ++ ys) end
placed_behind at octets place middle end [] ys p q = subst (λ (n : ℕ). PlacedRecords at octets n ys end) p q
placed_behind at octets place middle end (x ∷ xs) ys (behind, here, may, more) q = (behind, here, may, placed_behind (past at x) octets behind middle end xs ys more q)

find_behind : (test : Record → Bool) (xs ys : List Record) → AllByRecursion (λ r. test r ≡ false) xs → find test (xs ++ ys) ≡ find test ys
find_behind test [] ys none = refl
find_behind test (x ∷ xs) ys none = ap (λ (b : Bool). cond b (Some x) (find test (xs ++ ys))) none.0 ∙ find_behind test xs ys none.1

others_kept : (xs ys : List Record) → AllByRecursion IsOfZone xs → other_records (xs ++ ys) ≡ xs ++ other_records ys
others_kept [] ys all = refl
others_kept (x ∷ xs) ys all =
    let neither : (is_opt x || is_tsig x) ≡ false = λ i. all.0.opt i || all.0.tsig i in
    ap (λ (b : Bool). cond (not b) (x ∷ other_records (xs ++ ys)) (other_records (xs ++ ys))) neither ∙ ap (λ (rs : List Record). x ∷ rs) (others_kept xs ys all.1)

no_options : (xs : List Record) → AllByRecursion IsOfZone xs → AllByRecursion (λ r. is_opt r ≡ false) xs
no_options [] all = tt
no_options (x ∷ xs) all = (all.0.opt, no_options xs all.1)

no_signatures : (xs : List Record) → AllByRecursion IsOfZone xs → AllByRecursion (λ r. is_tsig r ≡ false) xs
no_signatures [] all = tt
no_signatures (x ∷ xs) all = (all.0.tsig, no_signatures xs all.1)

-- The record of a signature, its data as octets.
record Signs (message : List ℕ) (place : ℕ) (signature : TsigRecord) (end : ℕ) : Type 0 where
  standing : Record
  there : RecordAt message place standing end
  opt : is_opt standing ≡ false
  tsig : is_tsig standing ≡ true
  bare : is_update0 standing.rdata ≡ false
  says : IsSignatureFor message end (Some standing) (Some signature)

abbrev octets_vec : Vec ℕ Global → (octets : List ℕ) → length octets < 2 ^ 16 → Vec ℕ Global
octets_vec v octets small = record v { len = length octets; cap = length octets; items = octets; ok = (refl, omega arith); small = omega (arith, small) }

signs : (message : List ℕ) (place : ℕ) (s : TsigRecord) (end : ℕ) → TsigRecordAt message place s end → Signs message place s end
signs message place s end at =
    let octets = take at.len (drop at.first message) in
    let within = tsig_within message at.first at.len s.rdata at.rdata in
    let stands = stands_front message at.first at.len within in
    let long : length octets ≡ at.len = omega (arith, stands.behind) in
    let name = spelled_within message at.first (length message) at.first s.rdata.algorithm.labels at.rdata.behind at.rdata.algorithm.spelled in
    let some : 0 < at.len = omega (arith, name.0, at.rdata.signed.there.behind) in
    let kept = octets_vec s.rdata.mac octets (omega (arith, long, at.small_len)) in
    record {
      standing = record { name = s.name; dns_class = s.dns_class; ttl = s.ttl; rdata = rdata.Unknown kind.TSIG (record { anything = kept }) };
      there = record {
        owner_end = at.owner_end;
        type_end = at.type_end;
        class_end = at.class_end;
        ttl_end = at.ttl_end;
        first = at.first;
        len = at.len;
        owner = at.owner;
        record_type = at.record_type;
        dns_class = at.dns_class;
        ttl = at.ttl;
        small_ttl = at.small_ttl;
        count = at.count;
        small_len = at.small_len;
        rdata = inr (some, (refl, ((at.first + at.len, stands, refl), tt)));
        filled = at.filled;
      };
      opt = refl;
      tsig = refl;
      bare = refl;
      says = record {
        octets = octets;
        whole = refl;
        there = record {
          name = refl;
          dns_class = refl;
          ttl = refl;
          rdata = rw long (subst (λ (p : ℕ). TsigAt message p at.len s.rdata) (omega (arith, at.filled)) at.rdata);
        };
      };
    }

-- The record of options.
record Opts (message : List ℕ) (place : ℕ) (edns : Edns) (end : ℕ) : Type 0 where
  standing : Record
  there : RecordAt message place standing end
  owner : is_root standing.name ≡ true
  opt : is_opt standing ≡ true
  tsig : is_tsig standing ≡ false
  signature : is_signature standing ≡ false
  bare : is_update0 standing.rdata ≡ false
  says : IsEdnsFor (Some standing) (Some edns)

opts : (message : List ℕ) (place : ℕ) (edns : Edns) (end : ℕ) → OptAt message place edns end → Opts message place edns end
opts message place edns end at = record {
  standing = at.standing;
  there = at.there;
  owner = at.owner;
  opt = ap (λ v. same_record_type (type_of v) kind.OPT) at.says.0;
  tsig = ap (λ v. same_record_type (type_of v) kind.TSIG) at.says.0;
  signature = ap (λ v. same_record_type (type_of v) kind.TSIG || same_record_type (type_of v) kind.SIG) at.says.0;
  bare = ap is_update0 at.says.0;
  says = at.says;
}

record OptionsPart (u : Bool) (message : List ℕ) (place : ℕ) (edns : Option Edns) (end : ℕ) : Type 0 where
  standing : List Record
  placed : PlacedRecords (record { is_update = u; is_additional = true; is_signed = false; has_options = false }) message place standing end
  counted : length standing ≡ length (option_to_list edns)
  has : Bool
  after : past_all (record { is_update = u; is_additional = true; is_signed = false; has_options = false }) standing ≡ record { is_update = u; is_additional = true; is_signed = false; has_options = has }
  others : (ys : List Record) → other_records (standing ++ ys) ≡ other_records ys
  options : (ys : List Record) → find is_opt ys ≡ None → IsEdnsFor (find is_opt (standing ++ ys)) edns
  tsig : (ys : List Record) → find is_tsig (standing ++ ys) ≡ find is_tsig ys

no_edns : (o : Option Record) → o ≡ None → IsEdnsFor o None
no_edns None none = tt
no_edns (Some r) none = absurd (cc none)

options_part : (u : Bool) (message : List ℕ) (place : ℕ) (edns : Option Edns) (end : ℕ) → Entries (OptAt message) place (option_to_list edns) end → OptionsPart u message place edns end
options_part u message place None end e =
    record { standing = []; placed = e; counted = refl; has = false; after = refl; others = λ ys. refl; options = λ ys none. no_edns (find is_opt ys) none; tsig = λ ys. refl }
options_part u message place (Some edns) end (behind, at, later) =
    let o = opts message place edns behind at in
    let may : misplaced (record { is_update = u; is_additional = true; is_signed = false; has_options = false }) o.standing ≡ None = rw (o.opt, o.owner, o.bare) refl in
    record {
      standing = o.standing ∷ [];
      placed = (behind, o.there, may, later);
      counted = refl;
      has = true;
      after = λ i. record { is_update = u; is_additional = true; is_signed = o.signature i; has_options = o.opt i };
      others = λ ys. ap (λ (b : Bool). cond (not (b || is_tsig o.standing)) (o.standing ∷ other_records ys) (other_records ys)) o.opt;
      options = λ ys none. subst (λ (f : Option Record). IsEdnsFor f (Some edns)) (sym (ap (λ (b : Bool). cond b (Some o.standing) (find is_opt ys)) o.opt)) o.says;
      tsig = λ ys. ap (λ (b : Bool). cond b (Some o.standing) (find is_tsig ys)) o.tsig;
    }

record SignaturePart (u has : Bool) (message : List ℕ) (place : ℕ) (signature : Option TsigRecord) (end : ℕ) : Type 0 where
  standing : List Record
  placed : PlacedRecords (record { is_update = u; is_additional = true; is_signed = false; has_options = has }) message place standing end
  counted : length standing ≡ length (option_to_list signature)
  others : other_records standing ≡ []
  opt : find is_opt standing ≡ None
  signs : IsSignatureFor message end (find is_tsig standing) signature

signature_part : (u has : Bool) (message : List ℕ) (place : ℕ) (signature : Option TsigRecord) (end : ℕ) → Entries (TsigRecordAt message) place (option_to_list signature) end → SignaturePart u has message place signature end
signature_part u has message place None end e = record { standing = []; placed = e; counted = refl; others = refl; opt = refl; signs = tt }
signature_part u has message place (Some s) end (behind, at, later) =
    let o = signs message place s behind at in
    let may : misplaced (record { is_update = u; is_additional = true; is_signed = false; has_options = has }) o.standing ≡ None = rw (o.opt, o.bare) refl in
    record {
      standing = o.standing ∷ [];
      placed = (behind, o.there, may, later);
      counted = refl;
      others = ap (λ (b : Bool). cond (not (is_opt o.standing || b)) (o.standing ∷ []) []) o.tsig ∙ rw o.opt refl;
      opt = ap (λ (b : Bool). cond b (Some o.standing) None) o.opt;
      signs = subst (λ (n : ℕ). IsSignatureFor message n (find is_tsig (o.standing ∷ [])) (Some s)) (sym later)
          (subst (λ (f : Option Record). IsSignatureFor message behind f (Some s)) (sym (ap (λ (b : Bool). cond b (Some o.standing) None) o.tsig)) o.says);
    }

-- The additional section.
additional_section : (op : OpCode) (message : List ℕ) (place records_end edns_end end : ℕ) (xs : List Record) (edns : Option Edns) (signature : Option TsigRecord) → AllByRecursion IsServable xs → Entries (RecordAt message) place xs records_end → Entries (OptAt message) records_end (option_to_list edns) edns_end → Entries (TsigRecordAt message) edns_end (option_to_list signature) end →
    AdditionalsAt message op place (length xs + length (option_to_list edns) + length (option_to_list signature)) xs edns signature end
additional_section op message place records_end edns_end end xs edns signature all f g h =
    let u = is_update op in
    let first = section_of u true message place xs records_end all f in
    let second = options_part u message records_end edns edns_end g in
    let third = signature_part u second.has message edns_end signature end h in
    let tail = second.standing ++ third.standing in
    let behind = placed_behind (record { is_update = u; is_additional = true; is_signed = false; has_options = false }) message records_end edns_end end second.standing third.standing second.placed
    (subst (λ p. PlacedRecords p message edns_end third.standing end) (sym second.after) third.placed) in
    record {
      standing = xs ++ tail;
      there = (
        placed_behind (in_additionals op) message place records_end end xs tail first.placed (subst (λ p. PlacedRecords p message records_end tail end) (sym first.same) behind),
        omega (arith, length-append xs tail, length-append second.standing third.standing, second.counted, third.counted),
      );
      rest = sym (others_kept xs tail first.others ∙ ap (λ (rs : List Record). xs ++ rs) (second.others third.standing ∙ third.others) ∙ append-nil xs);
      options = subst (λ (o : Option Record). IsEdnsFor o edns) (sym (find_behind is_opt xs tail (no_options xs first.others))) (second.options third.standing third.opt);
      signs = subst (λ (o : Option Record). IsSignatureFor message end o signature) (sym (find_behind is_tsig xs tail (no_signatures xs first.others) ∙ second.tsig third.standing)) third.signs;
    }

-- ---- the whole
all_front : (Good : Record → Type 0) (xs ys : List Record) → AllByRecursion Good (xs ++ ys) → AllByRecursion Good xs
all_front Good [] ys all = tt
all_front Good (x ∷ xs) ys all = (all.0, all_front Good xs ys all.1)

all_rest : (Good : Record → Type 0) (xs ys : List Record) → AllByRecursion Good (xs ++ ys) → AllByRecursion Good ys
all_rest Good [] ys all = all
all_rest Good (x ∷ xs) ys all = all_rest Good xs ys all.1

-- The questions that stand in one message stand in another that has the same octets there.
asked_again : (octets : List ℕ) (m : Message) (end : ℕ) (at : MessageAt octets 0 m end) (message : List ℕ) (last : ℕ) (is : AskedAt message 12 (length m.asked.questions) m.asked last) → AvoidsHeader message 12 m.asked.questions last is.questions.0 → AskedAt octets 12 (length m.asked.questions) m.asked at.questions_end
asked_again octets m end at message last is far =
    let same_end : last ≡ at.questions_end = omega (arith, is.octets.behind, at.questions.behind) in
    let long : last ≤ length octets = omega (arith, ap length at.questions.there, length-drop 12 octets, length-append m.asked.octets (drop at.questions_end octets), at.header.within, is.octets.behind) in
    let same : SameThere message octets 12 last = record { octets = m.asked.octets; in_m = is.octets; in_n = subst (λ (n : ℕ). Stands octets 12 m.asked.octets n) (sym same_end) at.questions } in
    let there = questions_over message octets last same long 12 m.asked.questions last (omega arith) (omega arith) is.questions.0 far in
    record {
      questions = subst (λ (n : ℕ). QuestionsAt octets 12 (length m.asked.questions) m.asked.questions n) same_end (there, refl);
      octets = at.questions;
    }

-- The header over a message that was read says, with the options, what was read.
own_code : (h x : ℕ) → joined_code h (low_bits (joined_code h x)) ≡ joined_code h x
own_code h x =
    let same : 16 * h + low_bits (joined_code h x) % 16 ≡ 16 * h + x % 16 = omega (arith, code_back (16 * h + x % 16)) in
    ap response_code_of same

low_again : (h : ℕ) (code : ResponseCode) → joined_code h (low_bits (joined_code 0 (low_bits code))) ≡ joined_code h (low_bits code)
low_again h code =
    let same : 16 * h + low_bits (joined_code 0 (low_bits code)) % 16 ≡ 16 * h + low_bits code % 16 = omega (arith, code_back (16 * 0 + low_bits code % 16)) in
    ap response_code_of same

with_code : Metadata → ResponseCode → Metadata
with_code m code = record m { response_code = code }

code_kept : (h x : ℕ) (code : ResponseCode) → code ≡ joined_code h x → joined_code h (low_bits (joined_code 0 (low_bits code))) ≡ code
code_kept h x code is = low_again h code ∙ ap (λ (c : ResponseCode). joined_code h (low_bits c)) is ∙ own_code h x ∙ sym is

metadata_again : (octets : List ℕ) (m : Message) (edns : Option Edns) → m.metadata ≡ joined_metadata (header_of octets).metadata edns → joined_metadata (header_over m).metadata edns ≡ m.metadata
unfolding with_code
metadata_again octets m None is =
    let code = m.metadata.response_code in
    let four : get_or octets 3 0 % 16 ≡ 16 * 0 + get_or octets 3 0 % 16 = omega arith in
    let read : code ≡ joined_code 0 (get_or octets 3 0) = ap (λ (n : Metadata). n.response_code) is ∙ ap response_code_of four in
    ap (with_code m.metadata) (ap (λ (c : ResponseCode). joined_code 0 (low_bits c)) read ∙ own_code 0 (get_or octets 3 0) ∙ sym read)
metadata_again octets m (Some edns) is =
    let code = m.metadata.response_code in
    let x = low_bits (header_of octets).metadata.response_code in
    let read : code ≡ joined_code edns.rcode_high x = ap (λ (n : Metadata). n.response_code) is in
    ap (with_code m.metadata) (code_kept edns.rcode_high x code read)

-- Where a message stands whole that was read elsewhere, it is read again, unless a pointer of its questions goes into the
-- header.
written_is_read : (octets : List ℕ) (m : Message) (end : ℕ) → MessageAt octets 0 m end → ReadsBack m → (message : List ℕ) (is : IsMessage message m) → AvoidsHeader message 12 m.asked.questions is.questions_end is.questions.questions.0 → IsMessage octets m
written_is_read octets m end at back message is far =
    let h : header_over m ≡ header_of octets = at.header.means in
    let op = m.metadata.op_code in
    let u = is_update op in
    let asks = asked_again octets m end at message is.questions_end (record { questions = (is.questions.questions.0, refl); octets = is.questions.octets }) far in
    let later = all_rest IsServable m.answers (m.authorities ++ m.additionals) back.records in
    let first = section_of u false octets at.questions_end m.answers at.answers_end (all_front IsServable m.answers (m.authorities ++ m.additionals) back.records) at.answers in
    let second = section_of u false octets at.answers_end m.authorities at.authorities_end (all_front IsServable m.authorities m.additionals later) at.authorities in
    let third = additional_section op octets at.authorities_end at.additionals_end at.edns_end end m.additionals m.edns m.signature (all_rest IsServable m.authorities m.additionals later) at.additionals at.edns at.signature in
    record {
      long = at.header.within;
      questions_end = at.questions_end;
      answers_end = at.answers_end;
      authorities_end = at.authorities_end;
      end = end;
      questions = subst (λ (k : Header). AskedAt octets 12 k.counts.queries m.asked at.questions_end) h asks;
      answers = subst (λ (k : Header). PlacedRecords (before_additionals k.metadata.op_code) octets at.questions_end m.answers at.answers_end × (length m.answers ≡ k.counts.answers)) h (first.placed, refl);
      authorities = subst (λ (k : Header). PlacedRecords (before_additionals k.metadata.op_code) octets at.answers_end m.authorities at.authorities_end × (length m.authorities ≡ k.counts.authorities)) h (second.placed, refl);
      additionals = subst (λ (k : Header). AdditionalsAt octets k.metadata.op_code at.authorities_end k.counts.additionals m.additionals m.edns m.signature end) h third;
      metadata = sym (metadata_again message m m.edns is.metadata) ∙ ap (λ (k : Header). joined_metadata k.metadata m.edns) h;
    }

pub message_again : (m : Message) (old new : State) → StaysTrue new new.offset (λ octets. MessageAt octets old.offset m new.offset) → old.offset ≡ 0 → ReadsBack m → (message : List ℕ) (is : IsMessage message m) → AvoidsHeader message 12 m.asked.questions is.questions_end is.questions.questions.0 → IsMessage new.octets m
message_again m old new stays front back message is far =
    written_is_read new.octets m new.offset (subst (λ (place : ℕ). MessageAt new.octets place m new.offset) front (holds_now new.offset new (λ octets. MessageAt octets old.offset m new.offset) stays)) back message is far
