-- A reply is read back as a message.
use Rattle.std.proofs.Common.{◌≡◌, ℕ, ◌+◌, ◌^◌, ◌<◌, ◌==◌, ◌||◌, not, Bool, true, false, inr, List, [], ◌∷◌, ◌++◌, length, length-append, take, drop, refl, sym, ap, subst, ◌∙◌, arith, append-nil, true≢false, Vec, Global}
use Rattle.std.proofs.lemmas.Bool.{eqb-true, ltb-false, ltb-true}
use Rattle.std.specs.List.{AllByRecursion}
use Rattle.std.specs.Prelude.{nat_lt, Option, Some, None, option_to_list, unwrap_or, find, cond}
use Rattle.zsv_request.specs.zsv_message.Messages.{AdditionalsAt, IsEdnsFor, IsMessage, IsSignatureFor, Message, OptAt, in_additionals, is_update, joined_metadata, other_records}
use Rattle.zsv_request.specs.zsv_message.Sections.{PlacedRecords, is_opt, is_root, is_signature, is_tsig, misplaced, past, past_all}
use Rattle.zsv_request.specs.zsv_message.zst_edns.declared.edns.Edns.{Edns}
use Rattle.zsv_request.specs.zsv_message.zst_record.Records.{RecordAt, IsServable, belongs_to_message, plain}
use Rattle.zsv_request.specs.zsv_message.zst_record.declared.records.Record.{Record}
use Rattle.zsv_request.specs.zsv_message.zst_record.dnw_codes.RecordType.{named_record_types, record_type_number, record_type_of, same_record_type}
use Rattle.zsv_request.specs.zsv_message.zst_record.dnw_codes.declared.record_type.RecordType.{RecordType}
use Rattle.zsv_request.specs.zsv_message.zst_record.dnw_codes.declared.record_type.RecordType.TheVariants as kind
use Rattle.zsv_request.specs.zsv_message.zst_record.drd_rdata.Types.{is_update0, type_of}
use Rattle.zsv_request.specs.zsv_message.zst_record.drd_rdata.declared.rdata.RData.TheVariants as rdata
use Rattle.zsv_request.specs.zsv_message.zsv_parts.Headers.{header_of}
use Rattle.zsv_request.specs.zsv_message.zsv_parts.Questions.{Asked, AskedAt, QuestionAt, AvoidsHeader}
use Rattle.zsv_request.specs.zsv_message.zsv_parts.SignatureRecords.{TsigRecordAt}
use Rattle.zsv_request.specs.zsv_message.zsv_parts.Signatures.{TsigAt}
use Rattle.zsv_request.specs.zsv_message.zsv_parts.Wire.{Entries}
use Rattle.zsv_request.specs.zsv_message.zsv_parts.declared.header.Header.{Header}
use Rattle.zsv_request.specs.zsv_message.zsv_parts.declared.header.HeaderCounts.{HeaderCounts}
use Rattle.zsv_request.specs.zsv_message.zsv_parts.declared.header.OpCode.{OpCode}
use Rattle.zsv_request.specs.zsv_message.zsv_parts.declared.tsig.TsigRecord.{TsigRecord}
use Rattle.zsv_request.proofs.zsv_message_lemmas.zst_record_lemmas.dnw_decoder_lemmas.SpellingLaws.{spelled_within}
use Rattle.zsv_request.proofs.zsv_message_lemmas.zst_record_lemmas.dnw_decoder_lemmas.Standing.{stands_front}
use Rattle.zsv_request.proofs.zsv_message_lemmas.zsv_parts_lemmas.TsigLaws.{tsig_within}
use Rattle.zsv_reply.specs.Replies.{Front, Fronts, IsReply, IsWholeReply, ReplyParts, ReplyRecordAt, leaves_room, opt_plain, tsig_plain}
use Rattle.zsv_reply.specs.Writing.{AllReadBack}
use Rattle.zsv_reply.proofs.Bare.{not_bare}
use Rattle.zsv_reply.proofs.FrontLaws.{front_as}
use Rattle.zsv_reply.proofs.Written.{fronts_forward}

-- ---- the types of records that are read
number_back : (named : List RecordType) (n : ℕ) → record_type_number (unwrap_or (find (λ t. record_type_number t == n) named) (kind.Unknown n)) ≡ n
number_back [] n = refl
number_back (x ∷ xs) n = by (record_type_number x == n) refl (number_back xs n) where
  by : (b : Bool) → (record_type_number x == n) ≡ b → record_type_number (unwrap_or (find (λ t. record_type_number t == n) xs) (kind.Unknown n)) ≡ n → record_type_number (unwrap_or (cond b (Some x) (find (λ t. record_type_number t == n) xs)) (kind.Unknown n)) ≡ n
  by true e later = eqb-true (record_type_number x) n e
  by false e later = later

-- A type that is read, and is the same as another, is that of its number.
type_is : (t u : RecordType) (n : ℕ) → t ≡ record_type_of n → same_record_type t u ≡ true → t ≡ record_type_of (record_type_number u)
type_is t u n means same =
    let number : n ≡ record_type_number u = sym (ap record_type_number means ∙ number_back named_record_types n) ∙ eqb-true (record_type_number t) (record_type_number u) same in
    means ∙ ap record_type_of number

-- A record of a zone isn't of a type whose records belong to messages.
not_of : (t u : RecordType) (n : ℕ) → t ≡ record_type_of n → belongs_to_message (record_type_of (record_type_number u)) ≡ true → belongs_to_message t ≡ false → same_record_type t u ≡ false
not_of t u n means ours theirs = by (same_record_type t u) refl where
  by : (b : Bool) → same_record_type t u ≡ b → b ≡ false
  by false e = refl
  by true e = absurd (true≢false (sym ours ∙ ap belongs_to_message (sym (type_is t u n means e)) ∙ theirs))

record IsOfZone (r : Record) : Type 0 where
  opt : is_opt r ≡ false
  tsig : is_tsig r ≡ false
  signature : is_signature r ≡ false
  bare : is_update0 r.rdata ≡ false

of_zone : (message : List ℕ) (place : ℕ) (r : Record) (end : ℕ) → RecordAt message place r end → IsServable r → IsOfZone r
of_zone message place r end at alone =
    let t = type_of r.rdata in
    let n = at.record_type.number in
    let tsig = not_of t kind.TSIG n at.record_type.means refl alone.of_zones in
    let sig = not_of t kind.SIG n at.record_type.means refl alone.of_zones in
    record {
      opt = not_of t kind.OPT n at.record_type.means refl alone.of_zones;
      tsig = tsig;
      signature = λ i. tsig i || sig i;
      bare = not_bare r alone.alone;
    }

-- ---- sections of such records
may_stand : (u a : Bool) (r : Record) → IsOfZone r → misplaced (record { is_update = u; is_additional = a; is_signed = false; has_options = false }) r ≡ None
may_stand u true r is = rw (is.opt, is.bare) refl
may_stand u false r is = rw (is.opt, is.signature, is.bare) refl

past_same : (u a : Bool) (r : Record) → IsOfZone r → past (record { is_update = u; is_additional = a; is_signed = false; has_options = false }) r ≡ record { is_update = u; is_additional = a; is_signed = false; has_options = false }
past_same u a r is = λ i. record { is_update = u; is_additional = a; is_signed = is.signature i; has_options = is.opt i }

record Section (u a : Bool) (reply : List ℕ) (place : ℕ) (kept : List Record) (end : ℕ) : Type 0 where
  placed : PlacedRecords (record { is_update = u; is_additional = a; is_signed = false; has_options = false }) reply place kept end
  same : past_all (record { is_update = u; is_additional = a; is_signed = false; has_options = false }) kept ≡ record { is_update = u; is_additional = a; is_signed = false; has_options = false }
  others : AllByRecursion IsOfZone kept

section_of : (u a : Bool) (reply : List ℕ) (limit place : ℕ) (xs kept : List Record) (end : ℕ) → AllByRecursion IsServable xs → Front RecordAt plain reply limit place xs kept end → Section u a reply place kept end
section_of u a reply limit place [] [] end all f = record { placed = f; same = refl; others = tt }
section_of u a reply limit place (x ∷ xs) [] end all f = record { placed = f.0; same = refl; others = tt }
section_of u a reply limit place [] (k ∷ ks) end all f = absurd f
section_of u a reply limit place (x ∷ xs) (k ∷ ks) end all (behind, same, at, small, later) =
    let is = of_zone reply place k behind at (subst IsServable (sym same) all.0) in
    let rest = section_of u a reply limit behind xs ks end all.1 later in
    let stays = past_same u a k is in
    record {
      placed = (behind, at, may_stand u a k is, subst (λ p. PlacedRecords p reply behind ks end) (sym stays) rest.placed);
      same = ap (λ p. past_all p ks) stays ∙ rest.same;
      others = (is, rest.others);
    }

-- ---- the additional section: options and a signature behind its records
placed_behind : (at : _) (reply : List ℕ) (place middle end : ℕ) (xs ys : List Record) → PlacedRecords at reply place xs middle → PlacedRecords (past_all at xs) reply middle ys end → PlacedRecords at reply place (xs ++ ys) end
placed_behind at reply place middle end [] ys p q = subst (λ (n : ℕ). PlacedRecords at reply n ys end) p q
placed_behind at reply place middle end (x ∷ xs) ys (behind, here, may, more) q = (behind, here, may, placed_behind (past at x) reply behind middle end xs ys more q)

find_behind : (test : Record → Bool) (xs ys : List Record) → AllByRecursion (λ r. test r ≡ false) xs → find test (xs ++ ys) ≡ find test ys
find_behind test [] ys none = refl
find_behind test (x ∷ xs) ys none = ap (λ (b : Bool). cond b (Some x) (find test (xs ++ ys))) none.0 ∙ find_behind test xs ys none.1

others_kept : (xs ys : List Record) → AllByRecursion IsOfZone xs → other_records (xs ++ ys) ≡ xs ++ other_records ys
others_kept [] ys all = refl
others_kept (x ∷ xs) ys all =
    let neither : (is_opt x || is_tsig x) ≡ false = λ i. all.0.opt i || all.0.tsig i in
    ap (λ (b : Bool). cond (not b) (x ∷ other_records (xs ++ ys)) (other_records (xs ++ ys))) neither ∙ ap (λ (rs : List Record). x ∷ rs) (others_kept xs ys all.1)

no_options : (xs : List Record) → AllByRecursion IsOfZone xs → AllByRecursion (λ r. is_opt r ≡ false) xs
no_options [] all = tt
no_options (x ∷ xs) all = (all.0.opt, no_options xs all.1)

no_signatures : (xs : List Record) → AllByRecursion IsOfZone xs → AllByRecursion (λ r. is_tsig r ≡ false) xs
no_signatures [] all = tt
no_signatures (x ∷ xs) all = (all.0.tsig, no_signatures xs all.1)

-- The record of a signature, its data as octets.
record Signs (reply : List ℕ) (place : ℕ) (signature : TsigRecord) (end : ℕ) : Type 0 where
  standing : Record
  there : RecordAt reply place standing end
  opt : is_opt standing ≡ false
  tsig : is_tsig standing ≡ true
  bare : is_update0 standing.rdata ≡ false
  says : IsSignatureFor reply end (Some standing) (Some signature)

abbrev octets_vec : Vec ℕ Global → (octets : List ℕ) → length octets < 2 ^ 16 → Vec ℕ Global
octets_vec v octets small = record v { len = length octets; cap = length octets; items = octets; ok = (refl, omega arith); small = omega (arith, small) }

signs : (reply : List ℕ) (place : ℕ) (s : TsigRecord) (end : ℕ) → TsigRecordAt reply place s end → Signs reply place s end
signs reply place s end at =
    let octets = take at.len (drop at.first reply) in
    let within = tsig_within reply at.first at.len s.rdata at.rdata in
    let stands = stands_front reply at.first at.len within in
    let long : length octets ≡ at.len = omega (arith, stands.behind) in
    let name = spelled_within reply at.first (length reply) at.first s.rdata.algorithm.labels at.rdata.behind at.rdata.algorithm.spelled in
    let some : 0 < at.len = omega (arith, name.0, at.rdata.signed.there.behind) in
    let kept = octets_vec s.rdata.mac octets (omega (arith, long, at.small_len)) in
    record {
      standing = record { name = s.name; dns_class = s.dns_class; ttl = s.ttl; rdata = rdata.Unknown kind.TSIG (record { anything = kept }) };
      there = record {
        owner_end = at.owner_end;
        type_end = at.type_end;
        class_end = at.class_end;
        ttl_end = at.ttl_end;
        first = at.first;
        len = at.len;
        owner = at.owner;
        record_type = at.record_type;
        dns_class = at.dns_class;
        ttl = at.ttl;
        small_ttl = at.small_ttl;
        count = at.count;
        small_len = at.small_len;
        rdata = inr (some, (refl, ((at.first + at.len, stands, refl), tt)));
        filled = at.filled;
      };
      opt = refl;
      tsig = refl;
      bare = refl;
      says = record {
        octets = octets;
        whole = refl;
        there = record {
          name = refl;
          dns_class = refl;
          ttl = refl;
          rdata = rw long (subst (λ (p : ℕ). TsigAt reply p at.len s.rdata) (omega (arith, at.filled)) at.rdata);
        };
      };
    }

-- The record of options.
record Opts (reply : List ℕ) (place : ℕ) (edns : Edns) (end : ℕ) : Type 0 where
  standing : Record
  there : RecordAt reply place standing end
  owner : is_root standing.name ≡ true
  opt : is_opt standing ≡ true
  tsig : is_tsig standing ≡ false
  signature : is_signature standing ≡ false
  bare : is_update0 standing.rdata ≡ false
  says : IsEdnsFor (Some standing) (Some edns)

opts : (reply : List ℕ) (place : ℕ) (edns : Edns) (end : ℕ) → OptAt reply place edns end → Opts reply place edns end
opts reply place edns end at = record {
  standing = at.standing;
  there = at.there;
  owner = at.owner;
  opt = ap (λ v. same_record_type (type_of v) kind.OPT) at.says.0;
  tsig = ap (λ v. same_record_type (type_of v) kind.TSIG) at.says.0;
  signature = ap (λ v. same_record_type (type_of v) kind.TSIG || same_record_type (type_of v) kind.SIG) at.says.0;
  bare = ap is_update0 at.says.0;
  says = at.says;
}

-- Options as a list of none or one.
abbrev pub first_of : {X : Type 0} → List X → Option X
first_of [] = None
first_of (x ∷ xs) = Some x

record OptionsPart (u : Bool) (reply : List ℕ) (place : ℕ) (kept : List Edns) (end : ℕ) : Type 0 where
  standing : List Record
  placed : PlacedRecords (record { is_update = u; is_additional = true; is_signed = false; has_options = false }) reply place standing end
  counted : length standing ≡ length kept
  has : Bool
  after : past_all (record { is_update = u; is_additional = true; is_signed = false; has_options = false }) standing ≡ record { is_update = u; is_additional = true; is_signed = false; has_options = has }
  others : (ys : List Record) → other_records (standing ++ ys) ≡ other_records ys
  options : (ys : List Record) → find is_opt ys ≡ None → IsEdnsFor (find is_opt (standing ++ ys)) (first_of kept)
  tsig : (ys : List Record) → find is_tsig (standing ++ ys) ≡ find is_tsig ys

no_edns : (o : Option Record) → o ≡ None → IsEdnsFor o None
no_edns None none = tt
no_edns (Some r) none = absurd (cc none)

options_part : (u : Bool) (reply : List ℕ) (limit place : ℕ) (edns : Option Edns) (kept : List Edns) (end : ℕ) → Front OptAt opt_plain reply limit place (option_to_list edns) kept end → OptionsPart u reply place kept end
options_part u reply limit place None [] end f =
    record { standing = []; placed = f; counted = refl; has = false; after = refl; others = λ ys. refl; options = λ ys none. no_edns (find is_opt ys) none; tsig = λ ys. refl }
options_part u reply limit place (Some e) [] end f =
    record { standing = []; placed = f.0; counted = refl; has = false; after = refl; others = λ ys. refl; options = λ ys none. no_edns (find is_opt ys) none; tsig = λ ys. refl }
options_part u reply limit place None (k ∷ ks) end f = absurd f
options_part u reply limit place (Some e) (k ∷ l ∷ ls) end (behind, same, at, small, later) = absurd later
options_part u reply limit place (Some e) (k ∷ []) end (behind, same, at, small, later) =
    let o = opts reply place k behind at in
    let may : misplaced (record { is_update = u; is_additional = true; is_signed = false; has_options = false }) o.standing ≡ None = rw (o.opt, o.owner, o.bare) refl in
    record {
      standing = o.standing ∷ [];
      placed = (behind, o.there, may, later);
      counted = refl;
      has = true;
      after = λ i. record { is_update = u; is_additional = true; is_signed = o.signature i; has_options = o.opt i };
      others = λ ys. ap (λ (b : Bool). cond (not (b || is_tsig o.standing)) (o.standing ∷ other_records ys) (other_records ys)) o.opt;
      options = λ ys none. subst (λ (f : Option Record). IsEdnsFor f (Some k)) (sym (ap (λ (b : Bool). cond b (Some o.standing) (find is_opt ys)) o.opt)) o.says;
      tsig = λ ys. ap (λ (b : Bool). cond b (Some o.standing) (find is_tsig ys)) o.tsig;
    }

record SignaturePart (u has : Bool) (reply : List ℕ) (place : ℕ) (kept : List TsigRecord) (end : ℕ) : Type 0 where
  standing : List Record
  placed : PlacedRecords (record { is_update = u; is_additional = true; is_signed = false; has_options = has }) reply place standing end
  counted : length standing ≡ length kept
  others : other_records standing ≡ []
  opt : find is_opt standing ≡ None
  signs : IsSignatureFor reply end (find is_tsig standing) (first_of kept)

signature_part : (u has : Bool) (reply : List ℕ) (limit place : ℕ) (signature : Option TsigRecord) (kept : List TsigRecord) (end : ℕ) → Front TsigRecordAt tsig_plain reply limit place (option_to_list signature) kept end → SignaturePart u has reply place kept end
signature_part u has reply limit place None [] end f = record { standing = []; placed = f; counted = refl; others = refl; opt = refl; signs = tt }
signature_part u has reply limit place (Some s) [] end f = record { standing = []; placed = f.0; counted = refl; others = refl; opt = refl; signs = tt }
signature_part u has reply limit place None (k ∷ ks) end f = absurd f
signature_part u has reply limit place (Some s) (k ∷ l ∷ ls) end (behind, same, at, small, later) = absurd later
signature_part u has reply limit place (Some s) (k ∷ []) end (behind, same, at, small, later) =
    let o = signs reply place k behind at in
    let may : misplaced (record { is_update = u; is_additional = true; is_signed = false; has_options = has }) o.standing ≡ None = rw (o.opt, o.bare) refl in
    record {
      standing = o.standing ∷ [];
      placed = (behind, o.there, may, later);
      counted = refl;
      others = ap (λ (b : Bool). cond (not (is_opt o.standing || b)) (o.standing ∷ []) []) o.tsig ∙ rw o.opt refl;
      opt = ap (λ (b : Bool). cond b (Some o.standing) None) o.opt;
      signs = subst (λ (n : ℕ). IsSignatureFor reply n (find is_tsig (o.standing ∷ [])) (Some k)) (sym later)
          (subst (λ (f : Option Record). IsSignatureFor reply behind f (Some k)) (sym (ap (λ (b : Bool). cond b (Some o.standing) None) o.tsig)) o.says);
    }

-- The additional section of a reply.
additional_section : (op : OpCode) (reply : List ℕ) (limit place records_end edns_end end : ℕ) (xs kept : List Record) (edns : Option Edns) (es : List Edns) (signature : Option TsigRecord) (ss : List TsigRecord) → AllByRecursion IsServable xs → Front RecordAt plain reply limit place xs kept records_end → Front OptAt opt_plain reply limit records_end (option_to_list edns) es edns_end → Front TsigRecordAt tsig_plain reply limit edns_end (option_to_list signature) ss end →
    AdditionalsAt reply op place (length kept + length es + length ss) kept (first_of es) (first_of ss) end
additional_section op reply limit place records_end edns_end end xs kept edns es signature ss all f g h =
    let u = is_update op in
    let first = section_of u true reply limit place xs kept records_end all f in
    let second = options_part u reply limit records_end edns es edns_end g in
    let third = signature_part u second.has reply limit edns_end signature ss end h in
    let tail = second.standing ++ third.standing in
    let behind = placed_behind (record { is_update = u; is_additional = true; is_signed = false; has_options = false }) reply records_end edns_end end second.standing third.standing second.placed
    (subst (λ p. PlacedRecords p reply edns_end third.standing end) (sym second.after) third.placed) in
    record {
      standing = kept ++ tail;
      there = (
        placed_behind (in_additionals op) reply place records_end end kept tail first.placed (subst (λ p. PlacedRecords p reply records_end tail end) (sym first.same) behind),
        omega (arith, length-append kept tail, length-append second.standing third.standing, second.counted, third.counted),
      );
      rest = sym (others_kept kept tail first.others ∙ ap (λ (rs : List Record). kept ++ rs) (second.others third.standing ∙ third.others) ∙ append-nil kept);
      options = subst (λ (o : Option Record). IsEdnsFor o (first_of es)) (sym (find_behind is_opt kept tail (no_options kept first.others))) (second.options third.standing third.opt);
      signs = subst (λ (o : Option Record). IsSignatureFor reply end o (first_of ss)) (sym (find_behind is_tsig kept tail (no_signatures kept first.others) ∙ second.tsig third.standing)) third.signs;
    }

-- ---- the whole
-- What is read of a reply: the questions as they were sent, and the front of each list.
abbrev pub message_of : List ℕ → Asked → Fronts → Message
message_of reply asked kept = record {
  metadata = joined_metadata (header_of reply).metadata (first_of kept.edns);
  asked = asked;
  answers = kept.answers;
  authorities = kept.authorities;
  additionals = kept.additionals;
  edns = first_of kept.edns;
  signature = first_of kept.signature;
}

-- A reply in which the questions fit, and which reads back, is a message, unless a pointer of the questions goes into the
-- header.
pub reply_is_message : (message reply : List ℕ) (parts : ReplyParts) (asked : Asked) (limit : ℕ) → AllReadBack parts → (w : IsWholeReply message reply parts asked limit) (there : Entries (QuestionAt message) 12 asked.questions w.questions_end) → AvoidsHeader message 12 asked.questions w.questions_end there → IsMessage reply (message_of reply asked w.kept)
reply_is_message message reply parts asked limit back w there far =
    let op = (header_of reply).metadata.op_code in
    let u = is_update op in
    let asks : AskedAt reply 12 (length asked.questions) asked w.questions_end = record { questions = w.questions there far; octets = w.question_octets } in
    let turn = λ (m : List ℕ) (place : ℕ) (r : Record) (end : ℕ) (at : ReplyRecordAt (leaves_room asked) w.questions_end m place r end). at.there in
    let first = section_of u false reply limit w.questions_end parts.answers w.kept.answers w.fronts.answers_end back.answers
    (front_as (ReplyRecordAt (leaves_room asked) w.questions_end) RecordAt plain turn reply limit w.questions_end parts.answers w.kept.answers w.fronts.answers_end w.fronts.answers) in
    let second = section_of u false reply limit w.fronts.answers_end parts.authorities w.kept.authorities w.fronts.authorities_end back.authorities
    (front_as (ReplyRecordAt (leaves_room asked) w.questions_end) RecordAt plain turn reply limit w.fronts.answers_end parts.authorities w.kept.authorities w.fronts.authorities_end w.fronts.authorities) in
    let third = additional_section op reply limit w.fronts.authorities_end w.fronts.additionals_end w.fronts.edns_end (length reply) parts.additionals w.kept.additionals parts.edns w.kept.edns parts.signature w.kept.signature back.additionals
    (front_as (ReplyRecordAt (leaves_room asked) w.questions_end) RecordAt plain turn reply limit w.fronts.authorities_end parts.additionals w.kept.additionals w.fronts.additionals_end w.fronts.additionals) w.fronts.edns w.fronts.signature in
    record {
      long = omega (arith, fronts_forward (leaves_room asked) reply limit w.questions_end parts w.kept w.fronts, w.question_octets.behind);
      questions_end = w.questions_end;
      answers_end = w.fronts.answers_end;
      authorities_end = w.fronts.authorities_end;
      end = length reply;
      questions = subst (λ (h : Header). AskedAt reply 12 h.counts.queries asked w.questions_end) (sym w.header) asks;
      answers = (first.placed, sym (ap (λ (h : Header). h.counts.answers) w.header));
      authorities = (second.placed, sym (ap (λ (h : Header). h.counts.authorities) w.header));
      additionals = subst (λ (n : ℕ). AdditionalsAt reply op w.fronts.authorities_end n w.kept.additionals (first_of w.kept.edns) (first_of w.kept.signature) (length reply)) (sym (ap (λ (h : Header). h.counts.additionals) w.header)) third;
      metadata = refl;
    }

-- A header alone, whose counts are zero, is a message.
abbrev no_questions : Asked
no_questions = record { questions = []; octets = [] }

bare_is_message : (reply : List ℕ) → length reply ≡ 12 → (header_of reply).counts.queries ≡ 0 → (header_of reply).counts.answers ≡ 0 → (header_of reply).counts.authorities ≡ 0 → (header_of reply).counts.additionals ≡ 0 → IsMessage reply (message_of reply no_questions (record { answers = []; authorities = []; additionals = []; edns = []; signature = [] }))
bare_is_message reply long queries answers authorities additionals = record {
  long = omega (arith, long);
  questions_end = 12;
  answers_end = 12;
  authorities_end = 12;
  end = 12;
  questions = record { questions = (refl, sym queries); octets = record { there = refl; behind = refl } };
  answers = (refl, sym answers);
  authorities = (refl, sym authorities);
  additionals = record { standing = []; there = (refl, sym additionals); rest = refl; options = tt; signs = tt };
  metadata = refl;
}

-- Each reply of parts that read back is a message, unless a pointer of the questions goes into the header.
pub reply_reads_back : (message reply : List ℕ) (parts : ReplyParts) (asked : Asked) (id limit count end : ℕ) → AllReadBack parts → (is : AskedAt message 12 count asked end) → AvoidsHeader message 12 asked.questions end is.questions.0 → IsReply message reply parts asked id limit → (m : Message) × IsMessage reply m
reply_reads_back message reply parts asked id limit count end back is far r = by (nat_lt limit (12 + length asked.octets)) refl where
  by : (b : Bool) → nat_lt limit (12 + length asked.octets) ≡ b → (m : Message) × IsMessage reply m
  by true e =
      let bare = r.bare (ltb-true limit (12 + length asked.octets) e) in
      let counts : (header_of reply).counts ≡ record { queries = 0; answers = 0; authorities = 0; additionals = 0 } = ap (λ (h : Header). h.counts) bare.1 in (
        message_of reply no_questions (record { answers = []; authorities = []; additionals = []; edns = []; signature = [] }),
        bare_is_message reply bare.0 (ap (λ (c : HeaderCounts). c.queries) counts) (ap (λ (c : HeaderCounts). c.answers) counts) (ap (λ (c : HeaderCounts). c.authorities) counts) (ap (λ (c : HeaderCounts). c.additionals) counts),
      )
  by false e =
      let w = r.whole (ltb-false limit (12 + length asked.octets) e) in
      let same : end ≡ w.questions_end = omega (arith, is.octets.behind, w.question_octets.behind) in
      let (there, clear) = subst (λ (n : ℕ). (there : Entries (QuestionAt message) 12 asked.questions n) × AvoidsHeader message 12 asked.questions n there) same (is.questions.0, far) in
      (message_of reply asked w.kept, reply_is_message message reply parts asked limit back w there clear)
