-- What a reply denies is what the authorities of its parts do.
use Rattle.std.proofs.Common.{◌≡◌, ◌∙◌, ℕ, ◌+◌, ◌<◌, Bool, true, false, List, [], ◌∷◌, inl, inr, length, refl, sym, ap, subst, arith}
use Rattle.std.proofs.lemmas.Bool.{ltb-false, ltb-true}
use Rattle.std.specs.Prelude.{nat_lt, IfSome, Option, Some, None}
use Rattle.zst_denial.specs.Denials.{Covers, Lacks, SomeOf}
use Rattle.zst_denial.specs.dnw_codes.declared.record_type.RecordType.{RecordType}
use Rattle.zst_denial.specs.dnw_name.DomainName.{DomainName}
use Rattle.zsv_reply.proofs.ReadBack.{message_of, reply_is_message}
use Rattle.zsv_reply.specs.Replies.{Front, IsReply, ReplyParts, ReplyRecordAt, leaves_room}
use Rattle.zsv_reply.specs.Writing.{AllReadBack}
use Rattle.zsv_reply.specs.zst_record.Records.{plain}
use Rattle.zsv_reply.specs.zst_record.declared.records.Record.{Record}
use Rattle.zsv_reply.specs.zsv_message.Messages.{IsMessage, Message, joined_metadata}
use Rattle.zsv_reply.specs.zsv_message.zst_edns.declared.edns.Edns.{Edns}
use Rattle.zsv_reply.specs.zsv_message.zsv_parts.Headers.{header_of}
use Rattle.zsv_reply.specs.zsv_message.zsv_parts.Questions.{Asked, AskedAt, AvoidsHeader, QuestionAt}
use Rattle.zsv_reply.specs.zsv_message.zsv_parts.Wire.{Entries}
use Rattle.zsv_reply.specs.zsv_message.zsv_parts.declared.header.Header.{Header}
use Rattle.zsv_reply.specs.zsv_message.zsv_parts.declared.header.Metadata.{Metadata}
use Rattle.zsv_reply.specs.zsv_message.zsv_parts.zst_codes.ResponseCode.{joined_code, low_bits}
use Rattle.zsv_reply.specs.zsv_message.zsv_parts.zst_codes.declared.response_code.ResponseCode.{ResponseCode}
use Rattle.zsv_reply.specs.zsv_message.zsv_parts.zst_codes.declared.response_code.ResponseCode.TheVariants as codes
use Rattle.authority_denial.specs.Denials.{DeniesName, DeniesType}
use Rattle.authority_denial.proofs.Decoded.{message_with, reply_holds_all, with_questions}
use Rattle.authority_denial.proofs.Denying.{denies_read, denies_type_read}

-- ---- the code
code_is : (m : Metadata) (o : Option Edns) (code : ResponseCode) → m.response_code ≡ code → IfSome o (λ e. e.rcode_high ≡ 0) → joined_code 0 (low_bits code) ≡ code → (joined_metadata m o).response_code ≡ code
code_is m None code says high own = says
code_is m (Some e) code says high own = (λ i. joined_code (high i) (low_bits (says i))) ∙ own

-- A header alone says that the server failed.
pub more_by_code : (message reply : List ℕ) (parts : ReplyParts) (asked : Asked) (id limit : ℕ) → IsReply message reply parts asked id limit → ((header_of reply).metadata.response_code ≡ codes.ServFail → ⊥) → limit < 12 + length asked.octets → ⊥
more_by_code message reply parts asked id limit is other short = other (ap (λ (h : Header). h.metadata.response_code) (is.bare short).1)

-- Of any other reply the header has the last bits of the code.
pub header_code : (message reply : List ℕ) (parts : ReplyParts) (asked : Asked) (id limit : ℕ) → IsReply message reply parts asked id limit → ((header_of reply).metadata.response_code ≡ codes.ServFail → ⊥)
    → (header_of reply).metadata.response_code ≡ joined_code 0 (low_bits parts.metadata.response_code)
header_code message reply parts asked id limit is other =
    ap (λ (h : Header). h.metadata.response_code) (with_questions message reply parts asked id limit is (more_by_code message reply parts asked id limit is other)).header

-- ---- an item of a front is one of the list
some_kept : {X : Type 0} (P : X → Type 0) (At : List ℕ → ℕ → X → ℕ → Type 0) (size : X → ℕ) (reply : List ℕ) (limit place : ℕ) (xs ks : List X) (end : ℕ) → Front At size reply limit place xs ks end → SomeOf P ks → SomeOf P xs
some_kept P At size reply limit place xs [] end f some = absurd some
some_kept P At size reply limit place [] (k ∷ ks) end f some = absurd f
some_kept P At size reply limit place (x ∷ xs) (k ∷ ks) end (behind, same, at, small, later) (inl here) = inl (subst P same here)
some_kept P At size reply limit place (x ∷ xs) (k ∷ ks) end (behind, same, at, small, later) (inr more) = inr (some_kept P At size reply limit behind xs ks end later more)

none_counted : {X : Type 0} (P : X → Type 0) (xs : List X) → length xs ≡ 0 → SomeOf P xs → ⊥
none_counted P [] none some = some
none_counted P (x ∷ xs) none some = omega (arith, none)

-- ---- a reply to a message whose questions avoid the header
module _ (message reply : List ℕ) (parts : ReplyParts) (asked : Asked) (id limit count end : ℕ) (back : AllReadBack parts) (is : AskedAt message 12 count asked end) (far : AvoidsHeader message 12 asked.questions end is.questions.0) (r : IsReply message reply parts asked id limit) where
  -- An untruncated reply denies what an authority of its parts denies.
  pub whole_denies_name : (name : DomainName) → (header_of reply).metadata.truncation ≡ false → (header_of reply).metadata.response_code ≡ codes.NXDomain → IfSome parts.edns (λ e. e.rcode_high ≡ 0)
      → SomeOf (Covers name) parts.authorities → DeniesName reply name
  whole_denies_name name whole code high some =
      let more = more_by_code message reply parts asked id limit r (λ failed. let h : codes.NXDomain ≡ codes.ServFail = sym code ∙ failed in absurd (cc h)) in
      let holds = reply_holds_all message reply parts asked id limit count end back is far r more whole in
      record { message = message_with reply asked parts; is = holds.there; denies = (code_is (header_of reply).metadata parts.edns codes.NXDomain code high refl, some) }

  pub whole_denies_type : (name : DomainName) (t : RecordType) → (header_of reply).metadata.truncation ≡ false → (header_of reply).metadata.response_code ≡ codes.NoError → IfSome parts.edns (λ e. e.rcode_high ≡ 0)
      → parts.answers ≡ [] → SomeOf (Lacks name t) parts.authorities → DeniesType reply name t
  whole_denies_type name t whole code high none some =
      let more = more_by_code message reply parts asked id limit r (λ failed. let h : codes.NoError ≡ codes.ServFail = sym code ∙ failed in absurd (cc h)) in
      let holds = reply_holds_all message reply parts asked id limit count end back is far r more whole in
      record { message = message_with reply asked parts; is = holds.there; denies = (code_is (header_of reply).metadata parts.edns codes.NoError code high refl, none, some) }

  -- A reply, truncated or not, has an authority only where its parts have.
  some_of_parts : (P : Record → Type 0) (m : Message) → IsMessage reply m → ((n : Message) → IsMessage reply n → SomeOf P n.authorities) → SomeOf P parts.authorities
  some_of_parts P m there turn = by (nat_lt limit (12 + length asked.octets)) refl
    where
      by : (b : Bool) → nat_lt limit (12 + length asked.octets) ≡ b → SomeOf P parts.authorities
      by true e =
          let bare = r.bare (ltb-true limit (12 + length asked.octets) e) in
          let none : length m.authorities ≡ 0 = there.authorities.1 ∙ ap (λ (h : Header). h.counts.authorities) bare.1 in
          absurd (none_counted P m.authorities none (turn m there))
      by false e =
          let w = r.whole (ltb-false limit (12 + length asked.octets) e) in
          let same : end ≡ w.questions_end = omega (arith, is.octets.behind, w.question_octets.behind) in
          let (entries, clear) = subst (λ (n : ℕ). (there : Entries (QuestionAt message) 12 asked.questions n) × AvoidsHeader message 12 asked.questions n there) same (is.questions.0, far) in
          some_kept P (ReplyRecordAt (leaves_room asked) w.questions_end) plain reply limit w.fronts.answers_end parts.authorities w.kept.authorities w.fronts.authorities_end w.fronts.authorities
          (turn (message_of reply asked w.kept) (reply_is_message message reply parts asked limit back w entries clear))

  -- What it denies, an authority of its parts denies.
  pub covered_in_parts : (name : DomainName) → DeniesName reply name → SomeOf (Covers name) parts.authorities
  covered_in_parts name d = some_of_parts (Covers name) d.message d.is (λ m there. (denies_read reply name m there d).1)

  pub lacked_in_parts : (name : DomainName) (t : RecordType) → DeniesType reply name t → SomeOf (Lacks name t) parts.authorities
  lacked_in_parts name t d = some_of_parts (Lacks name t) d.message d.is (λ m there. (denies_type_read reply name t m there d).2)
