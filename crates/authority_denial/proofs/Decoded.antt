-- A reply of which nothing is left out is read as the very parts that were sent.
use Rattle.std.proofs.Common.{◌≡◌, ◌∙◌, ℕ, ◌+◌, ◌<◌, ◌≤◌, Bool, true, false, ◌||◌, List, [], ◌∷◌, length, refl, sym, ap, subst, arith}
use Rattle.std.proofs.lemmas.Bool.{ltb-false, ltb-true, true≢false}
use Rattle.std.specs.Prelude.{nat_lt, Option, Some, None, option_to_list}
use Rattle.zsv_reply.proofs.ReadBack.{first_of, message_of, reply_is_message}
use Rattle.zsv_reply.specs.Replies.{Front, Fronts, FrontsAt, IsReply, IsWholeReply, ReplyParts, ReplyRecordAt, header_of_reply, is_cut, is_truncated, leaves_room, opt_plain, tsig_plain}
use Rattle.zsv_reply.specs.Writing.{AllReadBack}
use Rattle.zsv_reply.specs.zst_record.Records.{plain}
use Rattle.zsv_reply.specs.zsv_message.Messages.{IsMessage, Message, OptAt, joined_metadata}
use Rattle.zsv_reply.specs.zsv_message.zsv_parts.Headers.{header_of}
use Rattle.zsv_reply.specs.zsv_message.zsv_parts.Questions.{Asked, AskedAt, AvoidsHeader, QuestionAt}
use Rattle.zsv_reply.specs.zsv_message.zsv_parts.SignatureRecords.{TsigRecordAt}
use Rattle.zsv_reply.specs.zsv_message.zsv_parts.Wire.{Entries}
use Rattle.zsv_reply.specs.zsv_message.zsv_parts.declared.header.Header.{Header}

-- ---- fronts
neither : (a b : Bool) → (a || b) ≡ false → (a ≡ false) × (b ≡ false)
neither true b e = absurd (true≢false e)
neither false b e = (refl, e)

-- A front as long as its list is the list.
whole_front : {X : Type 0} (At : List ℕ → ℕ → X → ℕ → Type 0) (size : X → ℕ) (reply : List ℕ) (limit place : ℕ) (xs kept : List X) (end : ℕ) → Front At size reply limit place xs kept end → length xs ≤ length kept → kept ≡ xs
whole_front At size reply limit place [] [] end f whole = refl
whole_front At size reply limit place (x ∷ xs) [] end f whole = absurd (omega (arith, whole))
whole_front At size reply limit place [] (k ∷ ks) end f whole = absurd f
whole_front {X} At size reply limit place (x ∷ xs) (k ∷ ks) end (behind, same, at, small, later) whole =
    let rest = whole_front At size reply limit behind xs ks end later (omega (arith, whole)) in
    ap (λ (y : X). y ∷ ks) same ∙ ap (λ (ys : List X). x ∷ ys) rest

uncut : {X : Type 0} (At : List ℕ → ℕ → X → ℕ → Type 0) (size : X → ℕ) (reply : List ℕ) (limit place : ℕ) (xs kept : List X) (end : ℕ) → Front At size reply limit place xs kept end → is_cut xs kept ≡ false → kept ≡ xs
uncut At size reply limit place xs kept end f whole = whole_front At size reply limit place xs kept end f (ltb-false (length kept) (length xs) whole)

-- All that the parts hold.
abbrev pub all_of : ReplyParts → Fronts
all_of parts = record {
  answers = parts.answers;
  authorities = parts.authorities;
  additionals = parts.additionals;
  edns = option_to_list parts.edns;
  signature = option_to_list parts.signature;
}

pub fronts_whole : (points : Bool) (reply : List ℕ) (limit place : ℕ) (parts : ReplyParts) (kept : Fronts) → FrontsAt points reply limit place parts kept → is_truncated parts kept ≡ false → kept ≡ all_of parts
fronts_whole points reply limit place parts kept f whole =
    let cut_a = is_cut parts.answers kept.answers in
    let cut_b = is_cut parts.authorities kept.authorities in
    let cut_c = is_cut parts.additionals kept.additionals in
    let cut_d = is_cut (option_to_list parts.edns) kept.edns in
    let cut_e = is_cut (option_to_list parts.signature) kept.signature in
    let (first, last) = neither (cut_a || cut_b) ((cut_c || cut_d) || cut_e) whole in
    let (answers, authorities) = neither cut_a cut_b first in
    let (behind, signature) = neither (cut_c || cut_d) cut_e last in
    let (additionals, edns) = neither cut_c cut_d behind in
    let a = uncut (ReplyRecordAt points place) plain reply limit place parts.answers kept.answers f.answers_end f.answers answers in
    let b = uncut (ReplyRecordAt points place) plain reply limit f.answers_end parts.authorities kept.authorities f.authorities_end f.authorities authorities in
    let c = uncut (ReplyRecordAt points place) plain reply limit f.authorities_end parts.additionals kept.additionals f.additionals_end f.additionals additionals in
    let d = uncut OptAt opt_plain reply limit f.additionals_end (option_to_list parts.edns) kept.edns f.edns_end f.edns edns in
    let e = uncut TsigRecordAt tsig_plain reply limit f.edns_end (option_to_list parts.signature) kept.signature (length reply) f.signature signature in
    λ i. record { answers = a i; authorities = b i; additionals = c i; edns = d i; signature = e i }

-- ---- the message
-- What is read of a reply that holds all its parts.
abbrev pub message_with : List ℕ → Asked → ReplyParts → Message
message_with reply asked parts = record {
  metadata = joined_metadata (header_of reply).metadata parts.edns;
  asked = asked;
  answers = parts.answers;
  authorities = parts.authorities;
  additionals = parts.additionals;
  edns = parts.edns;
  signature = parts.signature;
}

first_back : {X : Type 0} (o : Option X) → first_of (option_to_list o) ≡ o
first_back None = refl
first_back (Some x) = refl

all_message : (reply : List ℕ) (asked : Asked) (parts : ReplyParts) → message_of reply asked (all_of parts) ≡ message_with reply asked parts
all_message reply asked parts = λ i. record {
  metadata = joined_metadata (header_of reply).metadata (first_back parts.edns i);
  asked = asked;
  answers = parts.answers;
  authorities = parts.authorities;
  additionals = parts.additionals;
  edns = first_back parts.edns i;
  signature = first_back parts.signature i;
}

-- The reply is the message of its parts, and its header counts all of them.
pub record HoldsAll (reply : List ℕ) (asked : Asked) (parts : ReplyParts) : Type 0 where
  pub there : IsMessage reply (message_with reply asked parts)
  pub header : header_of reply ≡ header_of_reply parts.metadata false (length asked.questions) (length parts.answers) (length parts.authorities)
      (length parts.additionals + length (option_to_list parts.edns) + length (option_to_list parts.signature))

pub holds_all : (message reply : List ℕ) (parts : ReplyParts) (asked : Asked) (limit : ℕ) → AllReadBack parts → (w : IsWholeReply message reply parts asked limit) (there : Entries (QuestionAt message) 12 asked.questions w.questions_end) → AvoidsHeader message 12 asked.questions w.questions_end there
    → (header_of reply).metadata.truncation ≡ false → HoldsAll reply asked parts
holds_all message reply parts asked limit back w there far whole =
    let untruncated : is_truncated parts w.kept ≡ false = sym (ap (λ (h : Header). h.metadata.truncation) w.header) ∙ whole in
    let all = fronts_whole (leaves_room asked) reply limit w.questions_end parts w.kept w.fronts untruncated in
    let is = reply_is_message message reply parts asked limit back w there far in
    record {
      there = subst (IsMessage reply) (ap (message_of reply asked) all ∙ all_message reply asked parts) is;
      header = w.header
          ∙ ap (λ (b : Bool). header_of_reply parts.metadata b (length asked.questions) (length w.kept.answers) (length w.kept.authorities) (length w.kept.additionals + length w.kept.edns + length w.kept.signature)) untruncated
          ∙ ap (λ (k : Fronts). header_of_reply parts.metadata false (length asked.questions) (length k.answers) (length k.authorities) (length k.additionals + length k.edns + length k.signature)) all;
    }

-- A reply that is more than a header holds its questions.
pub with_questions : (message reply : List ℕ) (parts : ReplyParts) (asked : Asked) (id limit : ℕ) → IsReply message reply parts asked id limit → (limit < 12 + length asked.octets → ⊥) → IsWholeReply message reply parts asked limit
with_questions message reply parts asked id limit is more = by (nat_lt limit (12 + length asked.octets)) refl
  where
    by : (b : Bool) → nat_lt limit (12 + length asked.octets) ≡ b → IsWholeReply message reply parts asked limit
    by true e = absurd (more (ltb-true limit (12 + length asked.octets) e))
    by false e = is.whole (ltb-false limit (12 + length asked.octets) e)

-- One that counts answers is.
pub more_than_header : (message reply : List ℕ) (parts : ReplyParts) (asked : Asked) (id limit : ℕ) → IsReply message reply parts asked id limit → 0 < (header_of reply).counts.answers → limit < 12 + length asked.octets → ⊥
more_than_header message reply parts asked id limit is some short =
    let none : (header_of reply).counts.answers ≡ 0 = ap (λ (h : Header). h.counts.answers) (is.bare short).1 in
    omega (arith, none, some)

-- The questions end where those of the message do, of which no pointer goes into the header.
pub reply_holds_all : (message reply : List ℕ) (parts : ReplyParts) (asked : Asked) (id limit count end : ℕ) → AllReadBack parts → (is : AskedAt message 12 count asked end) → AvoidsHeader message 12 asked.questions end is.questions.0
    → IsReply message reply parts asked id limit → (limit < 12 + length asked.octets → ⊥) → (header_of reply).metadata.truncation ≡ false → HoldsAll reply asked parts
reply_holds_all message reply parts asked id limit count end back is far r more whole =
    let w = with_questions message reply parts asked id limit r more in
    let same : end ≡ w.questions_end = omega (arith, is.octets.behind, w.question_octets.behind) in
    let (there, clear) = subst (λ (n : ℕ). (there : Entries (QuestionAt message) 12 asked.questions n) × AvoidsHeader message 12 asked.questions n there) same (is.questions.0, far) in
    holds_all message reply parts asked limit back w there clear whole
