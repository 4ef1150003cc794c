-- What the steps of a loader give together.
use Rattle.std.proofs.Common.{inl, inr, ◌≡◌, ◌∙◌, ◌⊎◌, refl, sym, ap, subst, ℕ, ◌<◌, ◌≤◌, length, arith, true≢false}
use Rattle.std.specs.Prelude.{Bool, true, false, not, List, [], ◌∷◌, Err, IfErr, IfOk, MatchOption, Option, Result, Ok, Some, None, cond, slice_get}
use Rattle.std.specs.List.{AllByRecursion}
use Rattle.zsv_message.specs.Messages.{IsMessage, Message, ReadsMessage, RefusesMessage, no_additionals, no_answers, no_authorities, no_header, no_questions}
use Rattle.zsv_message.specs.zst_record.declared.records.Record.{Record}
use Rattle.zsv_message.specs.zst_record.dnw_codes.declared.error.DecodeError.{DecodeError}
use Rattle.zsv_message.specs.zst_record.dnw_codes.declared.error.DecodeError.TheVariants as reads
use Rattle.zsv_message.specs.zst_record.dnw_decoder.Reading.{IsWantOfMemory}
use Rattle.zsv_message.specs.zst_record.dnw_name.DomainName.{DomainName}
use Rattle.authority_load.specs.Loaded.{IsLoaded}
use Rattle.authority_load.specs.zst_zone.zst_handler.Zones.{AreInOrder, AreStored, Zone}
use Rattle.authority_transfer.specs.Transfers.{AllNumbersFit, IsReplyFault, IsTransferFault, IsTransferred, IsUnframed, RefusesRecords, ReplyGives, TakesAll, answered_with, begins_with, but_last, fault_read, frame_fault, is_answer, is_framed, is_signed, reply_fault, unread, whole_fault}
use Rattle.authority_transfer.specs.declared.error.TransferError.{TransferError}
use Rattle.authority_transfer.specs.declared.error.TransferError.TheVariants as errors
use Rattle.authority_transfer.proofs.Asked.{asks, faultless, said}
use Rattle.authority_transfer.proofs.Frames.{first_in}
use Rattle.authority_transfer.proofs.Loading.{all_but, takes_loaded}
use Rattle.authority_transfer.proofs.Received.{IsReceived, answers_received}

-- ---- why octets are no reply
-- Reading allocates only after a whole header.
pub memory_long : (octets : List ℕ) → (IsWantOfMemory reads.Memory × (12 ≤ length octets)) ⊎ RefusesMessage octets reads.Memory → 12 ≤ length octets
memory_long octets (inl memory) = memory.1
memory_long octets (inr refused) = long refused
  where
    long : RefusesMessage octets reads.Memory → 12 ≤ length octets
    long (no_header cut) = absurd (cc cut.0)
    long (no_questions whole cause) = whole
    long (no_answers whole asked place there cause) = whole
    long (no_authorities whole asked answers first place there more cause) = whole
    long (no_additionals whole asked answers authorities first second place there more last cause) = whole

data ReplyCause (e : TransferError) : Type 0 where
  no_reply : e ≡ errors.NotAReply → ReplyCause e
  truncated : e ≡ errors.Truncated → ReplyCause e
  signed : e ≡ errors.Signed → ReplyCause e

reply_causes : (a b c : Bool) (e : TransferError) → cond (not a) (Some errors.NotAReply) (cond b (Some errors.Truncated) (cond c (Some errors.Signed) None)) ≡ Some e → ReplyCause e
reply_causes false b c e h = no_reply (cc h)
reply_causes true true c e h = truncated (cc h)
reply_causes true false true e h = signed (cc h)
reply_causes true false false e h = absurd (cc h)

cause_of : (m : Message) (e : TransferError) → reply_fault m ≡ Some e → ReplyCause e
cause_of m e h = reply_causes (is_answer m.metadata) m.metadata.truncation (is_signed m) e h

whole_by : (origin : DomainName) (m : Message) (e : TransferError) → reply_fault m ≡ Some e → whole_fault origin m ≡ Some e
whole_by origin m e h = ap (frame_fault origin m.answers) h

pub reply_refused : (octets : List ℕ) (m : Message) (e : TransferError) → IsMessage octets m → reply_fault m ≡ Some e → (origin : DomainName) → IsReplyFault origin octets e
reply_refused octets m e is h origin = by (cause_of m e h)
  where
    by : ReplyCause e → IsReplyFault origin octets e
    by (no_reply same) = subst (λ (x : TransferError). IsReplyFault origin octets x) (sym same) (m, is, subst (λ (x : TransferError). whole_fault origin m ≡ Some x) same (whole_by origin m e h))
    by (truncated same) = subst (λ (x : TransferError). IsReplyFault origin octets x) (sym same) (m, is, subst (λ (x : TransferError). whole_fault origin m ≡ Some x) same (whole_by origin m e h))
    by (signed same) = subst (λ (x : TransferError). IsReplyFault origin octets x) (sym same) (m, is, subst (λ (x : TransferError). whole_fault origin m ≡ Some x) same (whole_by origin m e h))

pub never_unframed : (m : Message) → reply_fault m ≡ Some errors.NoFrame → ⊥
never_unframed m h = by (cause_of m errors.NoFrame h)
  where
    by : ReplyCause errors.NoFrame → ⊥
    by (no_reply same) = absurd (cc same)
    by (truncated same) = absurd (cc same)
    by (signed same) = absurd (cc same)

-- ---- whether the answers are those of a transfer
pub first_there : (rs : List Record) → slice_get rs 0 ≡ first_in rs
first_there [] = refl
first_there (r ∷ rs) = refl

module _ (origin : DomainName) (octets : List ℕ) (m : Message) (none : reply_fault m ≡ None) (all : List Record) (is : IsMessage octets (answered_with m all)) (fits : AllNumbersFit all) where
  at_frame : whole_fault origin (answered_with m all) ≡ cond (is_framed origin all) None (Some errors.NoFrame)
  at_frame = ap (frame_fault origin all) none

  framed_gives : (front : List Record) → is_framed origin all ≡ true → front ≡ but_last all → IsTransferred origin octets front
  framed_gives front framed is_front = record {
    message = answered_with m all;
    there = is;
    whole = at_frame ∙ ap (λ (b : Bool). cond b None (Some errors.NoFrame)) framed;
    records = is_front;
    fits = fits;
  }

  unframed_gives : is_framed origin all ≡ false → IsReplyFault origin octets errors.NoFrame
  unframed_gives un = (answered_with m all, is, at_frame ∙ ap (λ (b : Bool). cond b None (Some errors.NoFrame)) un)

  -- What is given of the answers.
  pub between_gives : {X : Type 0} (records_in : X → List Record) (r : Result X TransferError) → IfOk r (λ x. (is_framed origin all ≡ true) × (records_in x ≡ but_last all)) → IfErr r (λ e. (e ≡ errors.NoFrame) × (is_framed origin all ≡ false)) → ReplyGives origin octets records_in r
  between_gives records_in (Ok x) ok err = framed_gives (records_in x) ok.0 ok.1
  between_gives records_in (Err e) ok err = subst (λ (f : TransferError). IsReplyFault origin octets f) (sym err.0) (unframed_gives err.1)

  pub between_unframed : {X : Type 0} (r : Result X TransferError) → IfErr r (λ e. (e ≡ errors.NoFrame) × (is_framed origin all ≡ false)) → IfErr r (λ e. e ≡ errors.NoFrame → IsUnframed origin octets)
  between_unframed (Ok x) err = tt
  between_unframed (Err e) err = λ same. record { message = answered_with m all; there = is; fits = fits; unframed = err.1 }

-- ---- the zone
pub transfer_loaded : (empty : Zone) (octets : List ℕ) (rs : List Record) (end : Zone) → empty.sets ≡ [] → IsTransferred empty.origin octets rs → TakesAll empty rs end → AreInOrder end.sets → AreStored end.sets → IsLoaded end
transfer_loaded empty octets rs end bare t takes ordered stored =
    let asked = asks octets t.message t.there (faultless t.message (said empty.origin t.message t.whole)) in
    takes_loaded empty rs end bare takes
    (subst (AllByRecursion IsReceived) (sym t.records) (all_but IsReceived t.message.answers (answers_received octets t.message t.there asked)))
    (subst AllNumbersFit (sym t.records) (all_but _ t.message.answers t.fits)) ordered stored

pub refused_given : (empty : Zone) (octets : List ℕ) (rs : List Record) (e : TransferError) → IsTransferred empty.origin octets rs → RefusesRecords empty rs e → IsTransferFault empty octets e
refused_given empty octets rs e t (inl memory) = subst (IsTransferFault empty octets) (sym memory) (inl t.there.long)
refused_given empty octets rs e t (inr one) = inr (record { records = rs; transferred = t; refuses = one })

-- ---- the message
unread_gives : (octets : List ℕ) (e : DecodeError) → ReadsMessage octets (Err e) → (origin : DomainName) → IsReplyFault origin octets (unread e)
unread_gives octets reads.Memory r origin = memory_long octets r.0
unread_gives octets other r origin = no_memory r.1
  where
    no_memory : ⊥ ⊎ ((m : Message) → IsMessage octets m → ⊥) → (m : Message) → IsMessage octets m → ⊥
    no_memory (inl memory) = absurd memory
    no_memory (inr none) = none

unread_framed : (e : DecodeError) → Some (unread e) ≡ Some errors.NoFrame → ⊥
unread_framed reads.Memory h = absurd (cc h)
unread_framed other h = absurd (cc h)

pub read_gives : (octets : List ℕ) (read : Result Message DecodeError) → ReadsMessage octets read → (o : Option TransferError) → o ≡ fault_read read
    → MatchOption o ((m : Message) × IsMessage octets m × (reply_fault m ≡ None)) (λ e. (origin : DomainName) → IsReplyFault origin octets e)
read_gives octets (Ok m) is None e = (m, is, sym e)
read_gives octets (Ok m) is (Some x) e = reply_refused octets m x is (sym e)
read_gives octets (Err cause) refuses None e = absurd (cc e)
read_gives octets (Err cause) refuses (Some x) e = λ origin. subst (λ (f : TransferError). IsReplyFault origin octets f) (sym (some_same e)) (unread_gives octets cause refuses origin)
  where
    some_same : Some x ≡ Some (unread cause) → x ≡ unread cause
    some_same h = cc h

pub read_framed : (read : Result Message DecodeError) → fault_read read ≡ Some errors.NoFrame → ⊥
read_framed (Ok m) h = never_unframed m h
read_framed (Err e) h = unread_framed e h

-- ---- the answers
pub starts : (origin : DomainName) (items : List Record) (last : Record) (b c : Bool) (o : Option Record) (xs : List Record) → b ≡ begins_with origin o last → o ≡ slice_get xs 0 → xs ≡ items → b ≡ c → begins_with origin (first_in items) last ≡ c
starts origin items last b c o xs is first same test =
    sym (ap (λ (p : Option Record). begins_with origin p last) (first ∙ ap (λ (ys : List Record). slice_get ys 0) same ∙ first_there items)) ∙ sym is ∙ test

pub none_popped : (rs : List Record) (n : ℕ) → n ≡ length rs → (0 < n → false ≡ true) → rs ≡ []
none_popped [] n long some = refl
none_popped (r ∷ rs) n long some = absurd (true≢false (sym (some (omega (arith, long)))))
