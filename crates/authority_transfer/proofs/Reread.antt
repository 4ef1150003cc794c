-- The answers of a message, read again.
use Rattle.std.proofs.Common.{inl, inr, ◌≡◌, ◌∙◌, ◌⊎◌, refl, sym, ap, subst, ℕ, ◌<◌, List, [], ◌∷◌, ◌++◌, length, arith}
use Rattle.std.specs.Prelude.{Err, IfErr, IfOk, Ok, Result}
use Rattle.drd_record_data.specs.Numbers.{NumbersFit}
use Rattle.zsv_message.specs.Messages.{IsMessage, Message}
use Rattle.zsv_message.specs.zst_record.Records.{RecordAt}
use Rattle.zsv_message.specs.zst_record.declared.records.Record.{Record}
use Rattle.zsv_message.specs.zst_record.dnw_codes.declared.error.DecodeError.{DecodeError}
use Rattle.zsv_message.specs.zst_record.dnw_decoder.Reading.{IsWantOfMemory}
use Rattle.zsv_message.specs.zsv_parts.Headers.{header_of}
use Rattle.zsv_message.specs.zsv_parts.Questions.{Asked, AskedAt}
use Rattle.zsv_message.specs.zsv_parts.Wire.{Entries}
use Rattle.zsv_message.specs.zsv_parts.declared.header.Header.{Header}
use Rattle.zsv_message.proofs.Whole.{Asks}
use Rattle.authority_transfer.specs.Transfers.{AllNumbersFit, answered_with}
use Rattle.authority_transfer.proofs.MessageOnce.{answered_again, questions_end}
use Rattle.authority_transfer.proofs.RecordOnce.{are_alike, as_entries}

-- ---- one record more
pub entries_push : (message : List ℕ) (place : ℕ) (before : List Record) (next : ℕ) (r : Record) (end : ℕ) → Entries (RecordAt message) place before next → RecordAt message next r end → Entries (RecordAt message) place (before ++ r ∷ []) end
entries_push message place [] next r end there here = (end, subst (λ (n : ℕ). RecordAt message n r end) there here, refl)
entries_push message place (x ∷ xs) next r end there here = (there.0, there.1, entries_push message there.0 xs next r end there.2 here)

pub fits_push : (before : List Record) (r : Record) → AllNumbersFit before → NumbersFit r.rdata → AllNumbersFit (before ++ r ∷ [])
fits_push [] r all last = (last, tt)
fits_push (x ∷ xs) r all last = (all.0, fits_push xs r all.1 last)

-- Where no further record stands, no longer list does.
none_ahead : (message : List ℕ) (place : ℕ) (before : List Record) (next : ℕ) (rs : List Record) (end : ℕ) → Entries (RecordAt message) place before next → Entries (RecordAt message) place rs end → length before < length rs
    → ((r : Record) (e : ℕ) → RecordAt message next r e → ⊥) → ⊥
none_ahead message place [] next [] end here there long none = omega (arith, long)
none_ahead message place [] next (r ∷ rs) end here there long none = none r there.0 (subst (λ (n : ℕ). RecordAt message n r there.0) (sym here) there.1)
none_ahead message place (x ∷ xs) next [] end here there long none = omega (arith, long)
none_ahead message place (x ∷ xs) next (r ∷ rs) end here there long none =
    let alike = are_alike message place r x there.0 here.0 there.1 here.1 in
    none_ahead message here.0 xs next rs end here.2 (subst (λ (n : ℕ). Entries (RecordAt message) n rs end) alike.end there.2) (omega (arith, long)) none

pub none_as_many : (message : List ℕ) (place count : ℕ) (before : List Record) (next : ℕ) (e : DecodeError) → Entries (RecordAt message) place before next → length before < count
    → IsWantOfMemory e ⊎ ((r : Record) (end : ℕ) → RecordAt message next r end → ⊥)
    → IsWantOfMemory e ⊎ ((rs : List Record) (end : ℕ) → Entries (RecordAt message) place rs end → length rs ≡ count → ⊥)
none_as_many message place count before next e here more (inl memory) = inl memory
none_as_many message place count before next e here more (inr none) = inr (λ rs end there long.
    none_ahead message place before next rs end here there (omega (arith, more, long)) none)

-- ---- the message
place_is : (octets : List ℕ) (h : Header) (asked : Asked) (place : ℕ) (m : Message) (is : IsMessage octets m) → Asks octets h asked place → place ≡ is.questions_end
place_is octets h asked place m is a =
    let there : AskedAt octets 12 (header_of octets).counts.queries asked place = subst (λ (h : Header). AskedAt octets 12 h.counts.queries asked place) a.means a.there in
    questions_end octets 12 asked.questions m.asked.questions place is.questions_end there.questions.0 is.questions.questions.0 (there.questions.1 ∙ sym is.questions.questions.1)

pub answers_again : (octets : List ℕ) (h : Header) (asked : Asked) (place : ℕ) (rs : List Record) (end : ℕ) → Asks octets h asked place → Entries (RecordAt octets) place rs end → length rs ≡ h.counts.answers
    → (m : Message) → IsMessage octets m → IsMessage octets (answered_with m rs)
answers_again octets h asked place rs end a there long m is =
    answered_again octets m is rs end (subst (λ (n : ℕ). Entries (RecordAt octets) n rs end) (place_is octets h asked place m is a) there)
    (long ∙ ap (λ (h : Header). h.counts.answers) a.means)

pub answers_none : (octets : List ℕ) (h : Header) (asked : Asked) (place : ℕ) (e : DecodeError) → Asks octets h asked place
    → IsWantOfMemory e ⊎ ((rs : List Record) (end : ℕ) → Entries (RecordAt octets) place rs end → length rs ≡ h.counts.answers → ⊥)
    → IsWantOfMemory e ⊎ ((m : Message) → IsMessage octets m → ⊥)
answers_none octets h asked place e a (inl memory) = inl memory
answers_none octets h asked place e a (inr none) = inr (λ m is.
    none m.answers is.answers_end
    (subst (λ (n : ℕ). Entries (RecordAt octets) n m.answers is.answers_end) (sym (place_is octets h asked place m is a)) (as_entries _ octets is.questions_end m.answers is.answers_end is.answers.0))
    (is.answers.1 ∙ sym (ap (λ (h : Header). h.counts.answers) a.means)))

pub all_again : {X : Type 0} (r : Result X DecodeError) (items : X → List Record) (octets : List ℕ) (h : Header) (asked : Asked) (place end : ℕ) → Asks octets h asked place
    → IfOk r (λ rs. Entries (RecordAt octets) place (items rs) end) → IfOk r (λ rs. length (items rs) ≡ h.counts.answers)
    → IfOk r (λ rs. (m : Message) → IsMessage octets m → IsMessage octets (answered_with m (items rs)))
all_again (Ok rs) items octets h asked place end a there long = answers_again octets h asked place (items rs) end a there long
all_again (Err e) items octets h asked place end a there long = there

pub none_again : {X : Type 0} (r : Result X DecodeError) (octets : List ℕ) (h : Header) (asked : Asked) (place : ℕ) → Asks octets h asked place
    → IfErr r (λ e. IsWantOfMemory e ⊎ ((rs : List Record) (end : ℕ) → Entries (RecordAt octets) place rs end → length rs ≡ h.counts.answers → ⊥))
    → IfErr r (λ e. IsWantOfMemory e ⊎ ((m : Message) → IsMessage octets m → ⊥))
none_again (Ok rs) octets h asked place a none = none
none_again (Err e) octets h asked place a none = answers_none octets h asked place e a none
