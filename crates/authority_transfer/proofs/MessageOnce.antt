-- Messages that the same octets hold say the same, and have the same answers.
use Rattle.std.proofs.Common.{◌≡◌, ◌∙◌, ◌/◌, ◌^◌, ℕ, refl, sym, ap, subst, true, false, List, [], ◌∷◌, length, arith}
use Rattle.std.proofs.lemmas.Bool.{true≢false}
use Rattle.std.specs.Prelude.{Bool, not, ◌||◌, Option, Some, None, cond, find, is_some}
use Rattle.std.specs.List.{list_any}
use Rattle.zsv_message.specs.zst_edns.declared.edns.Edns.{Edns}
use Rattle.zsv_message.specs.Messages.{IsEdnsFor, IsMessage, IsSignatureFor, Message, before_additionals, in_additionals, joined_metadata, other_records}
use Rattle.zsv_message.specs.zst_record.Records.{RecordAt}
use Rattle.zsv_message.specs.zst_record.declared.records.Record.{Record}
use Rattle.zsv_message.specs.zst_record.dnw_codes.RecordType.{same_record_type}
use Rattle.zsv_message.specs.zst_record.dnw_codes.declared.record_type.RecordType.{RecordType}
use Rattle.zsv_message.specs.zst_record.dnw_codes.declared.record_type.RecordType.TheVariants as kind
use Rattle.zsv_message.specs.zst_record.drd_rdata.Types.{type_of}
use Rattle.zsv_message.specs.zsv_sections.Sections.{PlacedRecords, is_opt, is_tsig}
use Rattle.zsv_message.specs.zsv_sections.declared.placing.Placing.{Placing}
use Rattle.zsv_message.specs.zsv_parts.Headers.{header_of}
use Rattle.zsv_message.specs.zsv_parts.Questions.{QuestionAt}
use Rattle.zsv_message.specs.zsv_parts.Wire.{Entries}
use Rattle.zsv_message.specs.zsv_parts.declared.header.Metadata.{Metadata}
use Rattle.zsv_message.specs.zsv_parts.declared.question.Query.{Query}
use Rattle.zsv_message.specs.zsv_parts.declared.tsig.TsigRecord.{TsigRecord}
use Rattle.zsv_message.proofs.zsv_parts_lemmas.Questions.{question_once}
use Rattle.authority_transfer.specs.Alike.{AllSame, IsSameRecord, SameOption}
use Rattle.authority_transfer.specs.Transfers.{AllNumbersFit, answered_with, is_sig, is_signed}
use Rattle.authority_transfer.proofs.RecordOnce.{NoOptions, are_alike, as_entries, entries_same, placed_again, ttl_once}

-- ---- the ends of sections
pub questions_end : (message : List ℕ) (place : ℕ) (qs ps : List Query) (e f : ℕ) → Entries (QuestionAt message) place qs e → Entries (QuestionAt message) place ps f → length qs ≡ length ps → e ≡ f
questions_end message place [] [] e f a b same = a ∙ sym b
questions_end message place [] (p ∷ ps) e f a b same = absurd (omega (arith, same))
questions_end message place (q ∷ qs) [] e f a b same = absurd (omega (arith, same))
questions_end message place (q ∷ qs) (p ∷ ps) e f a b same =
    let one = question_once message place q p a.0 b.0 a.1 b.1 in
    questions_end message b.0 qs ps e f (subst (λ (m : ℕ). Entries (QuestionAt message) m qs e) one.1 a.2) b.2 (omega (arith, same))

pub questions_alike : (octets : List ℕ) (a b : Message) (p : IsMessage octets a) (q : IsMessage octets b) → p.questions_end ≡ q.questions_end
questions_alike octets a b p q =
    questions_end octets 12 a.asked.questions b.asked.questions p.questions_end q.questions_end p.questions.questions.0 q.questions.questions.0
    (p.questions.questions.1 ∙ sym q.questions.questions.1)

section_end : (at : Placing) (message : List ℕ) (place other : ℕ) (rs ss : List Record) (e f : ℕ) → place ≡ other → PlacedRecords at message place rs e → PlacedRecords at message other ss f → length rs ≡ length ss → e ≡ f
section_end at message place other rs ss e f same a b long =
    (placed_again at message other rs ss e f (subst (λ (m : ℕ). PlacedRecords at message m rs e) same a) (as_entries at message other ss f b) long).1

pub answers_alike : (octets : List ℕ) (a b : Message) (p : IsMessage octets a) (q : IsMessage octets b) → p.answers_end ≡ q.answers_end
answers_alike octets a b p q =
    section_end (before_additionals (header_of octets).metadata.op_code) octets p.questions_end q.questions_end a.answers b.answers p.answers_end q.answers_end
    (questions_alike octets a b p q) p.answers.0 q.answers.0 (p.answers.1 ∙ sym q.answers.1)

authorities_alike : (octets : List ℕ) (a b : Message) (p : IsMessage octets a) (q : IsMessage octets b) → p.authorities_end ≡ q.authorities_end
authorities_alike octets a b p q =
    section_end (before_additionals (header_of octets).metadata.op_code) octets p.answers_end q.answers_end a.authorities b.authorities p.authorities_end q.authorities_end
    (answers_alike octets a b p q) p.authorities.0 q.authorities.0 (p.authorities.1 ∙ sym q.authorities.1)

-- ---- the answers
-- Answers that stand where those of a message do are answers of it.
pub answered_again : (octets : List ℕ) (m : Message) (is : IsMessage octets m) (rs : List Record) (end : ℕ) → Entries (RecordAt octets) is.questions_end rs end → length rs ≡ (header_of octets).counts.answers → IsMessage octets (answered_with m rs)
answered_again octets m is rs end there long =
    let again = placed_again (before_additionals (header_of octets).metadata.op_code) octets is.questions_end m.answers rs is.answers_end end is.answers.0 there (is.answers.1 ∙ sym long) in
    record {
      long = is.long;
      questions_end = is.questions_end;
      answers_end = is.answers_end;
      authorities_end = is.authorities_end;
      end = is.end;
      questions = is.questions;
      answers = (subst (PlacedRecords (before_additionals (header_of octets).metadata.op_code) octets is.questions_end rs) (sym again.1) again.0, long);
      authorities = is.authorities;
      additionals = is.additionals;
      metadata = is.metadata;
    }

pub answers_same : (octets : List ℕ) (a b : Message) → IsMessage octets a → IsMessage octets b → AllNumbersFit a.answers → AllNumbersFit b.answers → NoOptions a.answers → AllSame IsSameRecord a.answers b.answers
answers_same octets a b p q fits also plain =
    let at = before_additionals (header_of octets).metadata.op_code in
    let first : PlacedRecords at octets q.questions_end a.answers p.answers_end = subst (λ (m : ℕ). PlacedRecords at octets m a.answers p.answers_end) (questions_alike octets a b p q) p.answers.0 in
    entries_same octets q.questions_end a.answers b.answers p.answers_end q.answers_end (as_entries at octets q.questions_end a.answers p.answers_end first) (as_entries at octets q.questions_end b.answers q.answers_end q.answers.0)
    (p.answers.1 ∙ sym q.answers.1) fits also plain

-- ---- the additional records
record SameHead (r s : Record) : Type 0 where
  of_type : type_of r.rdata ≡ type_of s.rdata
  ttl : r.ttl ≡ s.ttl

heads : (message : List ℕ) (place : ℕ) (rs ss : List Record) (e f : ℕ) → Entries (RecordAt message) place rs e → Entries (RecordAt message) place ss f → length rs ≡ length ss → AllSame SameHead rs ss
heads message place [] [] e f p q same = tt
heads message place [] (s ∷ ss) e f p q same = absurd (omega (arith, same))
heads message place (r ∷ rs) [] e f p q same = absurd (omega (arith, same))
heads message place (r ∷ rs) (s ∷ ss) e f p q same =
    let alike = are_alike message place r s p.0 q.0 p.1 q.1 in (
      record { of_type = alike.kind; ttl = ttl_once message place r s p.0 q.0 p.1 q.1 },
      heads message q.0 rs ss e f (subst (λ (m : ℕ). Entries (RecordAt message) m rs e) alike.end p.2) q.2 (omega (arith, same)),
    )

found_heads : (t : RecordType) (rs ss : List Record) → AllSame SameHead rs ss → SameOption SameHead (find (λ r. same_record_type (type_of r.rdata) t) rs) (find (λ r. same_record_type (type_of r.rdata) t) ss)
found_heads t [] [] same = tt
found_heads t [] (s ∷ ss) same = absurd same
found_heads t (r ∷ rs) [] same = absurd same
found_heads t (r ∷ rs) (s ∷ ss) same = by (same_record_type (type_of r.rdata) t) (same_record_type (type_of s.rdata) t) (ap (λ (u : RecordType). same_record_type u t) same.0.of_type) (found_heads t rs ss same.1)
  where
    by : (b c : Bool) → b ≡ c → SameOption SameHead (find (λ x. same_record_type (type_of x.rdata) t) rs) (find (λ x. same_record_type (type_of x.rdata) t) ss)
        → SameOption SameHead (cond b (Some r) (find (λ x. same_record_type (type_of x.rdata) t) rs)) (cond c (Some s) (find (λ x. same_record_type (type_of x.rdata) t) ss))
    by true true e more = same.0
    by false false e more = more
    by true false e more = absurd (true≢false e)
    by false true e more = absurd (true≢false (sym e))

sigs_of : RecordType → Bool → Bool
sigs_of t more =
    cond (not (same_record_type t kind.OPT || same_record_type t kind.TSIG)) (same_record_type t kind.SIG || more) more

sigs_step : (r : Record) (rs : List Record) → list_any is_sig (other_records (r ∷ rs)) ≡ sigs_of (type_of r.rdata) (list_any is_sig (other_records rs))
unfolding sigs_of
sigs_step r rs = by (not (is_opt r || is_tsig r))
  where
    by : (b : Bool) → list_any is_sig (cond b (r ∷ other_records rs) (other_records rs)) ≡ cond b (is_sig r || list_any is_sig (other_records rs)) (list_any is_sig (other_records rs))
    by true = refl
    by false = refl

sigs_same : (rs ss : List Record) → AllSame SameHead rs ss → list_any is_sig (other_records rs) ≡ list_any is_sig (other_records ss)
sigs_same [] [] same = refl
sigs_same [] (s ∷ ss) same = absurd same
sigs_same (r ∷ rs) [] same = absurd same
sigs_same (r ∷ rs) (s ∷ ss) same =
    sigs_step r rs ∙ ap (λ (t : RecordType). sigs_of t (list_any is_sig (other_records rs))) same.0.of_type
    ∙ ap (sigs_of (type_of s.rdata)) (sigs_same rs ss same.1) ∙ sym (sigs_step s ss)

signature_there : (message : List ℕ) (end : ℕ) (o : Option Record) (signature : Option TsigRecord) → IsSignatureFor message end o signature → is_some signature ≡ is_some o
signature_there message end None None is = refl
signature_there message end (Some r) (Some tsig) is = refl
signature_there message end None (Some tsig) is = absurd is
signature_there message end (Some r) None is = absurd is

some_same : (o p : Option Record) → SameOption SameHead o p → is_some o ≡ is_some p
some_same None None same = refl
some_same (Some r) (Some s) same = refl
some_same None (Some s) same = absurd same
some_same (Some r) None same = absurd same

metadata_by : (m : Metadata) (o p : Option Record) (a b : Option Edns) → SameOption SameHead o p → IsEdnsFor o a → IsEdnsFor p b → joined_metadata m a ≡ joined_metadata m b
metadata_by m None None None None same p q = refl
metadata_by m None None None (Some b) same p q = absurd q
metadata_by m None None (Some a) b same p q = absurd p
metadata_by m None (Some s) a b same p q = absurd same
metadata_by m (Some r) None a b same p q = absurd same
metadata_by m (Some r) (Some s) None b same p q = absurd p
metadata_by m (Some r) (Some s) (Some a) None same p q = absurd q
metadata_by m (Some r) (Some s) (Some a) (Some b) same p q =
    let high : a.rcode_high ≡ b.rcode_high = p.1.rcode_high ∙ ap (λ (n : ℕ). n / 2 ^ 24) same.ttl ∙ sym q.1.rcode_high in
    ap (λ (n : ℕ). joined_metadata m (Some (record a { rcode_high = n }))) high

-- What messages of the same octets share.
pub record SayAlike (a b : Message) : Type 0 where
  pub metadata : a.metadata ≡ b.metadata
  pub signed : is_signed a ≡ is_signed b

pub say_alike : (octets : List ℕ) (a b : Message) → IsMessage octets a → IsMessage octets b → SayAlike a b
say_alike octets a b p q =
    let at = in_additionals (header_of octets).metadata.op_code in
    let one = p.additionals in
    let two = q.additionals in
    let first : PlacedRecords at octets q.authorities_end one.standing p.end = subst (λ (m : ℕ). PlacedRecords at octets m one.standing p.end) (authorities_alike octets a b p q) one.there.0 in
    let same : AllSame SameHead one.standing two.standing =
    heads octets q.authorities_end one.standing two.standing p.end q.end (as_entries at octets q.authorities_end one.standing p.end first) (as_entries at octets q.authorities_end two.standing q.end two.there.0)
    (one.there.1 ∙ sym two.there.1) in
    let options = found_heads kind.OPT one.standing two.standing same in
    let signatures = found_heads kind.TSIG one.standing two.standing same in
    let signed : is_some a.signature ≡ is_some b.signature =
    signature_there octets p.end (find is_tsig one.standing) a.signature one.signs
    ∙ some_same (find is_tsig one.standing) (find is_tsig two.standing) signatures
    ∙ sym (signature_there octets q.end (find is_tsig two.standing) b.signature two.signs) in
    let sigs : list_any is_sig a.additionals ≡ list_any is_sig b.additionals =
    ap (list_any is_sig) one.rest ∙ sigs_same one.standing two.standing same ∙ sym (ap (list_any is_sig) two.rest) in
    record {
      metadata = p.metadata
          ∙ metadata_by (header_of octets).metadata (find is_opt one.standing) (find is_opt two.standing) a.edns b.edns options one.options two.options
          ∙ sym q.metadata;
      signed = ap (λ (x : Bool). x || list_any is_sig a.additionals) signed ∙ ap (λ (x : Bool). is_some b.signature || x) sigs;
    }
