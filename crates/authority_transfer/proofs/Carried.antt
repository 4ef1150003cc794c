-- The transfer of a loaded zone gives the zone again.
use Rattle.std.proofs.Common.{◌≡◌, ◌∙◌, refl, sym, ap, subst, ℕ, ◌<◌, length, arith}
use Rattle.std.proofs.lemmas.Bool.{and_parts, eqb-true, true≢false}
use Rattle.std.specs.Prelude.{Bool, true, false, not, ◌&&◌, ◌||◌, ◌==◌, List, [], ◌∷◌, Option, Some, None, cond}
use Rattle.std.specs.List.{AllByRecursion}
use Rattle.drd_record_data.specs.Numbers.{NumbersFit}
use Rattle.zsv_message.specs.Messages.{IsMessage, Message}
use Rattle.zsv_message.specs.zst_record.declared.records.Record.{Record}
use Rattle.zsv_message.specs.zst_record.dnw_codes.RecordType.{record_type_number, same_record_type}
use Rattle.zsv_message.specs.zst_record.dnw_codes.declared.record_type.RecordType.{RecordType}
use Rattle.zsv_message.specs.zst_record.dnw_codes.declared.record_type.RecordType.TheVariants as kind
use Rattle.zsv_message.specs.zst_record.dnw_name.DomainName.{DomainName, name_eq}
use Rattle.zsv_message.specs.zst_record.drd_rdata.Types.{type_of}
use Rattle.zsv_message.specs.zst_record.RecordSets.{RRset, is_single}
use Rattle.zsv_message.specs.zsv_parts.declared.header.Metadata.{Metadata}
use Rattle.authority_load.proofs.ReadBack.{found_is, found_of}
use Rattle.authority_load.specs.Joining.{is_of}
use Rattle.authority_load.specs.Loaded.{IsLoaded, IsLoadedRecord, IsLoadedSet}
use Rattle.authority_load.specs.zst_zone.zst_handler.Answers.{sets_shown}
use Rattle.authority_load.specs.zst_zone.zst_handler.Zones.{IsStored, Zone, rrset_at}
use Rattle.authority_transfer.specs.Alike.{AllSame, AnswersAlike, IsSameRecord, IsSameZone}
use Rattle.authority_load.specs.zst_zone.zst_request.Transfers.{axfr_records as others_of}
use Rattle.authority_load.specs.zst_zone.zst_request.Transfers.{between_soas, is_start, transfer_of}
use Rattle.authority_transfer.specs.Transfers.{AllNumbersFit, IsReplyFault, IsTransferOf, IsTransferred, IsUnframed, RefusesRecords, but_last, frame_fault, is_answer, is_framed, is_signed, reply_fault, whole_fault}
use Rattle.authority_transfer.specs.TwoRoads.{HandsOverAll}
use Rattle.authority_transfer.specs.declared.error.TransferError.{TransferError}
use Rattle.authority_transfer.specs.declared.error.TransferError.TheVariants as errors
use Rattle.authority_transfer.proofs.Frames.{Begins, axfr_records, begins, but_pushed, but_same, framed_same, sent_of}
use Rattle.authority_transfer.proofs.Keys.{owns, record_of, set_of_key}
use Rattle.authority_transfer.proofs.Lookups.{answers_alike}
use Rattle.authority_transfer.proofs.MessageOnce.{answers_same, say_alike}
use Rattle.authority_transfer.proofs.Asked.{asks}
use Rattle.authority_transfer.proofs.Received.{answers_plain}
use Rattle.authority_transfer.proofs.TwoRoads.{all_append, all_flat, all_kept, memory_alone, one_of, same_zone, shown_plain}

-- ---- the records of a loaded zone
abbrev Fits : Record → Type 0
Fits r = NumbersFit r.rdata

set_fits : (origin : DomainName) (set : RRset) (rs : List Record) → AllByRecursion (IsLoadedRecord origin set) rs → AllByRecursion Fits rs
set_fits origin set [] all = tt
set_fits origin set (r ∷ rs) all = (all.0.fits, set_fits origin set rs all.1)

sets_fit : (origin : DomainName) (sets : List RRset) → AllByRecursion (IsLoadedSet origin) sets → AllByRecursion (λ s. AllByRecursion Fits s.records) sets
sets_fit origin [] all = tt
sets_fit origin (s ∷ sets) all = (set_fits origin s s.records all.0.records, sets_fit origin sets all.1)

others_fit : (zone : Zone) (dnssec_ok : Bool) → IsLoaded zone → AllByRecursion Fits (axfr_records zone.origin dnssec_ok zone.sets)
others_fit zone dnssec_ok loaded =
    all_kept Fits (λ r. not (is_of zone.origin kind.SOA r)) (sets_shown dnssec_ok zone.sets)
    (subst (AllByRecursion Fits) (sym (shown_plain zone.origin dnssec_ok zone.sets loaded.sets)) (all_flat Fits zone.sets (sets_fit zone.origin zone.sets loaded.sets)))

single_soa : (t : RecordType) → same_record_type t kind.SOA ≡ true → is_single t ≡ true
single_soa t e =
    ap (λ (n : ℕ). (n == record_type_number kind.CNAME) || ((n == record_type_number kind.ANAME) || (n == record_type_number kind.SOA)))
    (eqb-true (record_type_number t) (record_type_number kind.SOA) e)

and_turned : (a b : Bool) → (a && b) ≡ (b && a)
and_turned true true = refl
and_turned true false = refl
and_turned false true = refl
and_turned false false = refl

-- The SOA that the transfer begins and ends with.
record HasSoa (zone : Zone) (dnssec_ok : Bool) : Type 0 where
  soa : Record
  begins : Begins zone dnssec_ok soa
  is : is_start zone.origin soa ≡ true
  fits : Fits soa

soa_of : (zone : Zone) (dnssec_ok : Bool) → IsLoaded zone → 0 < length (transfer_of zone dnssec_ok) → HasSoa zone dnssec_ok
soa_of zone dnssec_ok loaded some = by (rrset_at zone.sets zone.origin kind.SOA) refl
  where
    others : List Record
    others = others_of zone.origin dnssec_ok zone.sets

    by : (o : Option RRset) → rrset_at zone.sets zone.origin kind.SOA ≡ o → HasSoa zone dnssec_ok
    by None e = absurd (no_less (subst (λ (o : Option RRset). 0 < length (between_soas o others)) e some))
      where
        no_less : 0 < 0 → ⊥
        no_less h = omega (arith, h)
    by (Some start) e =
        let stored : IsStored start = found_of IsStored zone.origin kind.SOA zone.sets start loaded.stored e in
        let is : IsLoadedSet zone.origin start = found_of (IsLoadedSet zone.origin) zone.origin kind.SOA zone.sets start loaded.sets e in
        let found = found_is zone.origin kind.SOA zone.sets start e in
        let key = and_parts (name_eq zone.origin start.name) (same_record_type start.record_type kind.SOA) found in
        let one = one_of start.records (is.single (single_soa start.record_type key.1)) stored.filled in
        let there = subst (AllByRecursion (IsLoadedRecord zone.origin start)) one.1 is.records in
        let at = subst (AllByRecursion (λ r. record_of (zone.origin, kind.SOA) r ≡ set_of_key (zone.origin, kind.SOA) start)) one.1 (owns start stored (zone.origin, kind.SOA)) in
        record {
          soa = one.0;
          begins = begins zone dnssec_ok start one.0 e one.1;
          is = and_turned (same_record_type (type_of one.0.rdata) kind.SOA) (name_eq zone.origin one.0.name) ∙ at.0 ∙ found;
          fits = there.0.fits;
        }

-- All records of a transfer.
all_fit : (zone : Zone) (dnssec_ok : Bool) → IsLoaded zone → HasSoa zone dnssec_ok → AllNumbersFit (transfer_of zone dnssec_ok)
all_fit zone dnssec_ok loaded has =
    subst AllNumbersFit (sym has.begins.sends)
    (has.fits, all_append Fits (axfr_records zone.origin dnssec_ok zone.sets) (has.soa ∷ []) (others_fit zone dnssec_ok loaded) (has.fits, tt))

clean : (a b c : Bool) → a ≡ true → b ≡ false → c ≡ false → cond (not a) (Some errors.NotAReply) (cond b (Some errors.Truncated) (cond c (Some errors.Signed) None)) ≡ None
clean a b c e f g = rw (e, f, g) refl

-- ---- what was read of a transfer
module _ (empty zone : Zone) (dnssec_ok : Bool) (octets : List ℕ) (bare : empty.sets ≡ []) (same : zone ≡ record empty { sets = zone.sets }) (loaded : IsLoaded zone) (sends : HandsOverAll zone dnssec_ok octets) where
  some : 0 < length (transfer_of zone dnssec_ok)
  some = subst (λ (rs : List Record). 0 < length rs) sends.answers sends.some

  has : HasSoa zone dnssec_ok
  has = soa_of zone dnssec_ok loaded some

  origin : empty.origin ≡ zone.origin
  origin = sym (ap (λ (z : Zone). z.origin) same)

  read_same : (m : Message) → IsMessage octets m → AllNumbersFit m.answers → AllSame IsSameRecord (transfer_of zone dnssec_ok) m.answers
  read_same m is fits =
      subst (λ (rs : List Record). AllSame IsSameRecord rs m.answers) sends.answers
      (answers_same octets sends.message m sends.there is (subst AllNumbersFit (sym sends.answers) (all_fit zone dnssec_ok loaded has)) fits
      (answers_plain octets sends.message sends.there (asks octets sends.message sends.there sends.reply)))

  -- No cause refuses what the reply says.
  no_fault : (m : Message) → IsMessage octets m → reply_fault m ≡ None
  no_fault m is =
      let alike = say_alike octets sends.message m sends.there is in
      let answer : is_answer m.metadata ≡ true = sym (ap is_answer alike.metadata) ∙ sends.reply in
      let whole : m.metadata.truncation ≡ false = sym (ap (λ (x : Metadata). x.truncation) alike.metadata) ∙ sends.whole in
      let unsigned : is_signed m ≡ false = sym alike.signed ∙ sends.unsigned in
      clean (is_answer m.metadata) m.metadata.truncation (is_signed m) answer whole unsigned

  framed : (m : Message) → IsMessage octets m → AllNumbersFit m.answers → is_framed empty.origin m.answers ≡ true
  framed m is fits =
      ap (λ (n : DomainName). is_framed n m.answers) origin
      ∙ framed_same zone.origin has.soa (axfr_records zone.origin dnssec_ok zone.sets) m.answers has.is
      (subst (λ (rs : List Record). AllSame IsSameRecord rs m.answers) has.begins.sends (read_same m is fits))

  sent_same : (rs : List Record) → IsTransferred empty.origin octets rs → AllSame IsSameRecord (sent_of zone dnssec_ok) rs
  sent_same rs t =
      subst (AllSame IsSameRecord (sent_of zone dnssec_ok)) (sym t.records)
      (subst (λ (xs : List Record). AllSame IsSameRecord xs (but_last t.message.answers)) has.begins.before
      (but_same (transfer_of zone dnssec_ok) t.message.answers (read_same t.message t.there t.fits)))

  sent_some : (rs : List Record) → AllSame IsSameRecord (sent_of zone dnssec_ok) rs → 0 < length rs
  sent_some rs alike = one_there rs (subst (λ (xs : List Record). AllSame IsSameRecord xs rs) sends_from alike)
    where
      sends_from : sent_of zone dnssec_ok ≡ has.soa ∷ axfr_records zone.origin dnssec_ok zone.sets
      sends_from = sym has.begins.before ∙ ap but_last has.begins.sends ∙ but_pushed (has.soa ∷ axfr_records zone.origin dnssec_ok zone.sets) has.soa

      one_there : (ss : List Record) → AllSame IsSameRecord (has.soa ∷ axfr_records zone.origin dnssec_ok zone.sets) ss → 0 < length ss
      one_there [] h = absurd h
      one_there (s ∷ ss) h = omega arith

  -- The zone is made again.
  pub made_again : (end : Zone) → IsTransferOf empty octets end → IsSameZone zone end × AnswersAlike zone end
  made_again end t =
      let alike = sent_same t.records t.transferred in
      let is = same_zone empty zone end dnssec_ok t.records bare same loaded alike (sent_some t.records alike) t.takes in
      (is, answers_alike zone end is)

  none_whole : (m : Message) (e : TransferError) → IsMessage octets m → whole_fault empty.origin m ≡ Some e → e ≡ errors.NoFrame
  none_whole m e is cause = by (is_framed empty.origin m.answers) (sym (ap (λ (o : Option TransferError). frame_fault empty.origin m.answers o) (no_fault m is)) ∙ cause)
    where
      by : (b : Bool) → cond b None (Some errors.NoFrame) ≡ Some e → e ≡ errors.NoFrame
      by true h = absurd (cc h)
      by false h = cc h

  reply_fault_alone : (e : TransferError) → IsReplyFault empty.origin octets e → (e ≡ errors.NoFrame → IsUnframed empty.origin octets) → e ≡ errors.OutOfMemory
  reply_fault_alone errors.NotAMessage f u = absurd (f sends.message sends.there)
  reply_fault_alone errors.OutOfMemory f u = refl
  reply_fault_alone errors.NoFrame f u =
      let x = u refl in
      absurd (true≢false (sym (framed x.message x.there x.fits) ∙ x.unframed))
  reply_fault_alone errors.NotAReply f u = let h = none_whole f.0 errors.NotAReply f.1 f.2 in absurd (cc h)
  reply_fault_alone errors.Truncated f u = let h = none_whole f.0 errors.Truncated f.1 f.2 in absurd (cc h)
  reply_fault_alone errors.Signed f u = let h = none_whole f.0 errors.Signed f.1 f.2 in absurd (cc h)
  reply_fault_alone errors.OutsideZone f u = let h = none_whole f.0 errors.OutsideZone f.1 f.2 in absurd (cc h)
  reply_fault_alone errors.DnssecRecord f u = let h = none_whole f.0 errors.DnssecRecord f.1 f.2 in absurd (cc h)
  reply_fault_alone (errors.Record index) f u = let h = none_whole f.0 (errors.Record index) f.1 f.2 in absurd (cc h)

  pub records_alone : (rs : List Record) (e : TransferError) → IsTransferred empty.origin octets rs → RefusesRecords empty rs e → e ≡ errors.OutOfMemory
  records_alone rs e t refuses =
      let alike = sent_same rs t in
      memory_alone empty zone dnssec_ok rs e bare same loaded alike (sent_some rs alike) refuses

  pub whole_alone : (e : TransferError) → IsReplyFault empty.origin octets e → (e ≡ errors.NoFrame → IsUnframed empty.origin octets) → e ≡ errors.OutOfMemory
  whole_alone = reply_fault_alone
