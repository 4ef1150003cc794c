-- What a full reply holds can be written and read back, where what the handlers hold can.
use Rattle.std.proofs.Common.{◌≡◌, ℕ, refl, subst, sym}
use Rattle.std.specs.Prelude.{Bool, true, false, ◌&&◌, ◌||◌, cond, List, [], ◌∷◌, ◌++◌, Option, Some, None, IfSome, MatchBool, option_to_list}
use Rattle.std.specs.List.{AllByRecursion}
use Rattle.zsv_answer.proofs.zst_request_lemmas.zst_denial_lemmas.ShownSets.{nsec3_shown, nsec_shown}
use Rattle.zsv_answer.specs.DenialRecords.{AnswerDenial, DenialRecords, IsDenial, is_by_hash, is_expanded}
use Rattle.zsv_answer.specs.Forwarding.{ForwardedParts, forwarded_error, forwarded_metadata, resolved_parts}
use Rattle.zsv_answer.specs.Parts.{AtOrigin, AuthoritativeParts, BesideAnswer, ChainParts, DeniedParts, PartsAs, answer_records, is_referral}
use Rattle.zsv_answer.specs.Resolution.{Resolution, answering, no_such_name, no_such_type, not_here, resolved}
use Rattle.zsv_answer.specs.Responses.{parts_with}
use Rattle.zsv_answer.specs.Shown.{hidden_but, is_shown, shown_if}
use Rattle.zsv_answer.specs.Transferring.{transfer_parts, transferring, zone_parts}
use Rattle.zsv_answer.specs.zst_request.Transfers.{transfer_of, transfer_refused}
use Rattle.zsv_answer.specs.zst_request.Updating.{Asked}
use Rattle.zsv_answer.specs.zst_request.Views.{Blocked, Stored, View, nx_proof_kind_of, zone_type_of}
use Rattle.zsv_answer.specs.zst_request.zst_handler.Zones.{Zone}
use Rattle.zsv_answer.specs.zst_request.dnw_codes.declared.record_type.RecordType.{RecordType}
use Rattle.zsv_answer.specs.zst_request.dnw_codes.declared.record_type.RecordType.TheVariants as types
use Rattle.zsv_answer.specs.zst_request.dnw_codes.RecordType.{same_record_type}
use Rattle.zsv_answer.specs.zst_request.dnw_name.DomainName.{DomainName, lowercase_name, name_eq}
use Rattle.zsv_answer.specs.zst_request.zst_codes.declared.nx_proof.NxProofKind.{NxProofKind}
use Rattle.zsv_answer.specs.zst_request.zst_codes.declared.nx_proof.NxProofKind.TheVariants as kinds
use Rattle.zsv_answer.specs.zst_request.zst_denial.Denials.{IsSetOf}
use Rattle.zsv_answer.specs.zst_request.zst_denial.Hashed.{Hashing}
use Rattle.zsv_answer.specs.zst_request.zst_codes.declared.response_code.ResponseCode.{ResponseCode}
use Rattle.zsv_answer.specs.zst_request.zst_codes.declared.response_code.ResponseCode.TheVariants as responses
use Rattle.zsv_answer.specs.zst_request.zst_codes.declared.settings.ZoneType.{ZoneType}
use Rattle.zsv_answer.specs.zst_request.zst_codes.declared.settings.ZoneType.TheVariants as zones
use Rattle.zsv_answer.specs.zst_request.zst_handler.Lookups.{Outcome, answered, name_error, name_exists, out_of_zone}
use Rattle.zsv_answer.specs.zsv_reply.Replies.{ReplyParts}
use Rattle.zsv_answer.specs.zsv_reply.Writing.{AllReadBack, error_parts, reply_metadata}
use Rattle.zsv_answer.specs.zsv_reply.zst_record.RecordSets.{RRset}
use Rattle.zsv_answer.specs.zsv_reply.zst_record.Records.{IsServable}
use Rattle.zsv_answer.specs.zsv_reply.zst_record.declared.records.Record.{Record}
use Rattle.zsv_answer.specs.zsv_reply.zsv_message.Messages.{Message}
use Rattle.zsv_answer.specs.zsv_reply.zsv_message.zst_edns.Writing.{EdnsReadsBack}
use Rattle.zsv_answer.specs.zsv_reply.zsv_message.zst_edns.declared.edns.Edns.{Edns}
use Rattle.zsv_answer.specs.zsv_reply.zsv_message.zsv_parts.Questions.{Asked as Section, IsSection, QuestionAt}
use Rattle.zsv_answer.specs.zsv_reply.zsv_message.zsv_parts.Wire.{Entries}
use Rattle.zsv_answer.specs.zsv_reply.zsv_message.zsv_parts.declared.header.Metadata.{Metadata}
use Rattle.zsv_answer.specs.zsv_reply.zsv_message.zsv_parts.declared.header.MessageType.{MessageType}
use Rattle.zsv_answer.specs.zsv_reply.zsv_message.zsv_parts.declared.header.MessageType.TheVariants as messages
use Rattle.zsv_answer.specs.zsv_reply.zsv_message.zsv_parts.declared.header.OpCode.{OpCode}
use Rattle.zsv_answer.specs.zsv_reply.zsv_message.zsv_parts.declared.header.OpCode.TheVariants as operations
use Rattle.zsv_answer.specs.zsv_reply.zsv_message.zsv_parts.declared.question.Query.{Query}
use Rattle.zsv_catalog.specs.Catalogs.{KindParts, OperationParts, PartsOf, PlainParts, QueryParts, QuestionParts, asks_for_dnssec, entry_parts}
use Rattle.zsv_update.specs.Options.{AnswersEdns, has_other_version, nsid_for}
use Rattle.zsv_update.specs.zsv_chains.Chains.{chain_for, entry_for}
use Rattle.zsv_catalog.specs.ReadingBack.{ChainReadsBack, ChainsReadBack, ViewReadsBack}
use Rattle.zsv_update.proofs.EdnsBack.{FitsOption, edns_back}
use Rattle.zsv_catalog.proofs.ResolvedBack.{ResolutionReadsBack, answering_back, entry_for_back, for_back, found_one, resolves_back}
use Rattle.zsv_catalog.proofs.ShownBack.{OutcomeReadsBack, SetIsSound, ZoneIsSound, append_back, filter_back, lookup_back, sets_shown_back, transferred_back, zone_sound}

-- ---- parts of records that read back
pub error_back : (m : Metadata) (code : ResponseCode) (parts : ReplyParts) → parts ≡ error_parts m code → AllReadBack parts
error_back m code parts is = subst AllReadBack (sym is) (record { answers = tt; authorities = tt; additionals = tt; edns = tt; signature = tt })

with_back : (m : Metadata) (referral : Bool) (records additionals beside : List Record) → AllByRecursion IsServable records → AllByRecursion IsServable additionals → AllByRecursion IsServable beside
    → AllReadBack (parts_with m referral records additionals beside)
with_back m true records additionals beside first more later =
    record { answers = tt; authorities = append_back records beside first later; additionals = more; edns = tt; signature = tt }
with_back m false records additionals beside first more later = record { answers = first; authorities = later; additionals = more; edns = tt; signature = tt }

-- ---- authoritative replies
outcome_records : (dnssec : Bool) (outcome : Outcome) → OutcomeReadsBack outcome → AllByRecursion IsServable (answer_records dnssec outcome)
outcome_records dnssec (answered answer) back = sets_shown_back dnssec answer.answers back.answers
outcome_records dnssec name_exists back = tt
outcome_records dnssec name_error back = tt
outcome_records dnssec out_of_zone back = tt

none_back : (records : List Record) → records ≡ [] → AllByRecursion IsServable records
none_back records none = subst (AllByRecursion IsServable) (sym none) tt

origin_back : (view : View) (dnssec : Bool) (t : RecordType) (records : List Record) → ViewReadsBack view → AtOrigin view dnssec t records → AllByRecursion IsServable records
origin_back (Stored zone) dnssec t records back (outcome, is, shown) =
    subst (AllByRecursion IsServable) (sym shown) (outcome_records dnssec outcome (lookup_back zone zone.origin t outcome (zone_sound zone back.0 back.1) is))
origin_back (Blocked blocklist) dnssec t records back none = none_back records none

-- The sets that deny are stored ones.
owned_sound : (zone : Zone) (t : RecordType) (sets : List RRset) → ZoneIsSound zone → AllByRecursion (IsSetOf zone t) sets → AllByRecursion SetIsSound sets
owned_sound zone t [] sound all = tt
owned_sound zone t (set ∷ sets) sound all = (
  subst (λ (o : Option RRset). IfSome o SetIsSound) all.0.there (found_one SetIsSound (λ s. name_eq all.0.owner s.name && same_record_type s.record_type t) zone.sets sound),
  owned_sound zone t sets sound all.1,
)

denial_sound : (kind : Option NxProofKind) (zone : Zone) (name : DomainName) (t : RecordType) (wild : Bool) (sets : List RRset) → ZoneIsSound zone → IsDenial kind zone name t wild sets → AllByRecursion SetIsSound sets
denial_sound None zone name t wild sets sound none = subst (AllByRecursion SetIsSound) (sym none) tt
denial_sound (Some kinds.Nsec) zone name t wild sets sound is = owned_sound zone types.NSEC sets sound (nsec_shown zone name sets is)
denial_sound (Some (kinds.Nsec3 algorithm salt iterations opt_out)) zone name t wild sets sound is =
    let hashing : Hashing = record { salt = salt; iterations = iterations } in
    owned_sound zone types.NSEC3 sets sound (nsec3_shown hashing zone (lowercase_name name) t wild sets is)

denial_back : (view : View) (dnssec : Bool) (name : DomainName) (t : RecordType) (wild : Bool) (records : List Record) → ViewReadsBack view → DenialRecords view dnssec name t wild records → AllByRecursion IsServable records
denial_back (Stored zone) false name t wild records back none = none_back records none
denial_back (Stored zone) true name t wild records back (sets, are, shown) =
    subst (AllByRecursion IsServable) (sym shown) (sets_shown_back true sets (denial_sound zone.nx_proof_kind zone name t wild sets (zone_sound zone back.0 back.1) are))
denial_back (Blocked blocklist) false name t wild records back none = none_back records none
denial_back (Blocked blocklist) true name t wild records back none = none_back records none

answer_denial_back : (view : View) (dnssec : Bool) (name : DomainName) (t : RecordType) (answers records : List Record) → ViewReadsBack view → AnswerDenial view dnssec name t answers records → AllByRecursion IsServable records
answer_denial_back view dnssec name t answers records back is = by (is_expanded answers || is_by_hash (nx_proof_kind_of view)) is
  where
    by : (b : Bool) → MatchBool b (DenialRecords view dnssec name t (is_expanded answers) records) (records ≡ []) → AllByRecursion IsServable records
    by true denies = denial_back view dnssec name t (is_expanded answers) records back denies
    by false none = none_back records none

beside_back : (view : View) (dnssec : Bool) (name : DomainName) (t : RecordType) (answers beside : List Record) → ViewReadsBack view → BesideAnswer view dnssec name t answers beside → AllByRecursion IsServable beside
beside_back view dnssec name t answers beside back (start, other) = by (same_record_type t types.SOA) refl
  where
    by : (b : Bool) → same_record_type t types.SOA ≡ b → AllByRecursion IsServable beside
    by true e = origin_back view dnssec types.NS beside back (start e)
    by false e = answer_denial_back view dnssec name t answers beside back (other e)

denied_back : (view : View) (m : Metadata) (dnssec : Bool) (name : DomainName) (t : RecordType) (code : ResponseCode) (parts : ReplyParts) → ViewReadsBack view → DeniedParts view m dnssec name t code parts → AllReadBack parts
denied_back view m dnssec name t code parts back (denial, start, denies, at, is) =
    subst AllReadBack (sym is)
    (with_back (reply_metadata m true code) false [] [] (denial ++ start) tt tt
    (append_back denial start (denial_back view dnssec name t false denial back denies) (origin_back view dnssec types.SOA start back at)))

authoritative_back : (view : View) (m : Metadata) (dnssec : Bool) (name : DomainName) (t : RecordType) (resolution : Resolution) (parts : ReplyParts) → ViewReadsBack view → ResolutionReadsBack resolution → AuthoritativeParts view m dnssec name t resolution parts → AllReadBack parts
authoritative_back view m dnssec name t (resolved answers additionals) parts back shown (beside, at, is) =
    subst AllReadBack (sym is) (with_back (reply_metadata m true responses.NoError) (is_referral t answers) answers additionals beside shown.0 shown.1 (beside_back view dnssec name t answers beside back at))
authoritative_back view m dnssec name t no_such_type parts back shown is = denied_back view m dnssec name t responses.NoError parts back is
authoritative_back view m dnssec name t no_such_name parts back shown is = denied_back view m dnssec name t responses.NXDomain parts back is
authoritative_back view m dnssec name t (not_here code) parts back shown is =
    subst AllReadBack (sym is) (with_back (reply_metadata m true code) false [] [] [] tt tt tt)

-- ---- forwarded replies
if_shown : (asked : Option RecordType) (rs : List Record) → AllByRecursion IsServable rs → AllByRecursion IsServable (shown_if asked rs)
if_shown None rs all = all
if_shown (Some t) rs all = filter_back IsServable (is_shown t) rs all

bare_back : (m : Metadata) (code : ResponseCode) (parts : ReplyParts) → parts ≡ forwarded_error m code → AllReadBack parts
bare_back m code parts is = subst AllReadBack (sym is) (with_back (forwarded_metadata m code) false [] [] [] tt tt tt)

resolved_back : (m : Metadata) (dnssec : Bool) (t : RecordType) (resolution : Resolution) (parts : ReplyParts) → ResolutionReadsBack resolution → parts ≡ resolved_parts m dnssec t resolution → AllReadBack parts
resolved_back m dnssec t (resolved answers additionals) parts shown is =
    subst AllReadBack (sym is) (with_back (forwarded_metadata m responses.NoError) false (shown_if (hidden_but dnssec t) answers) [] [] (if_shown (hidden_but dnssec t) answers shown.0) tt tt)
resolved_back m dnssec t no_such_type parts shown is = bare_back m responses.ServFail parts is
resolved_back m dnssec t no_such_name parts shown is = bare_back m responses.NXDomain parts is
resolved_back m dnssec t (not_here code) parts shown is = bare_back m responses.ServFail parts is

forwarded_back : (m : Metadata) (dnssec : Bool) (t : RecordType) (resolution : Resolution) (parts : ReplyParts) → ResolutionReadsBack resolution → ForwardedParts m dnssec t resolution parts → AllReadBack parts
forwarded_back m dnssec t resolution parts shown is = by m.recursion_desired refl
  where
    by : (b : Bool) → m.recursion_desired ≡ b → AllReadBack parts
    by false e = bare_back m responses.Refused parts (is.0 e)
    by true e = resolved_back m dnssec t resolution parts shown (is.1 e)

as_back : (kind : ZoneType) (view : View) (m : Metadata) (dnssec : Bool) (name : DomainName) (t : RecordType) (resolution : Resolution) (parts : ReplyParts) → ViewReadsBack view → ResolutionReadsBack resolution → PartsAs kind view m dnssec name t resolution parts → AllReadBack parts
as_back zones.Primary view m dnssec name t resolution parts back shown is = authoritative_back view m dnssec name t resolution parts back shown is
as_back zones.Secondary view m dnssec name t resolution parts back shown is = authoritative_back view m dnssec name t resolution parts back shown is
as_back zones.External view m dnssec name t resolution parts back shown is = forwarded_back m dnssec t resolution parts shown is

transferring_back : (chain : List View) → ChainReadsBack chain → IfSome (transferring chain) (λ z. ViewReadsBack (Stored z))
transferring_back [] back = tt
transferring_back (Stored zone ∷ views) back = back.0
transferring_back (Blocked blocklist ∷ views) back = transferring_back views back.1

-- ---- questions and requests
chain_back : (chain : List View) (m : Metadata) (dnssec : Bool) (name : DomainName) (t : RecordType) (parts : ReplyParts) → name.fqdn ≡ true → ChainReadsBack chain → ChainParts chain m dnssec name t parts → AllReadBack parts
chain_back chain m dnssec name t parts full all is = by (answering chain name) refl
  where
    by : (o : Option View) → answering chain name ≡ o → AllReadBack parts
    by None e = error_back m responses.ServFail parts (is.nobody e)
    by (Some view) e =
        let (resolution, gives, shown) = is.somebody view e in
        let back : ViewReadsBack view = subst (λ (o : Option View). IfSome o ViewReadsBack) e (answering_back chain name all) in
        as_back (zone_type_of view) view m dnssec name t resolution parts back (resolves_back chain view name t dnssec resolution full all back gives) shown

abbrev pub IsFull : Query → Type 0
IsFull q = q.name.fqdn ≡ true

-- ---- transfers
transfer_back : (m : Metadata) (refused : Option ResponseCode) (rs : List Record) → AllByRecursion IsServable rs → AllReadBack (transfer_parts m refused rs)
transfer_back m None rs back = with_back (reply_metadata m true responses.NoError) false rs [] [] back tt tt
transfer_back m (Some code) rs back = error_back m code (error_parts m code) refl

zone_back : (m : Metadata) (dnssec : Bool) (asked : Asked) (zone : Option Zone) → IfSome zone (λ z. ViewReadsBack (Stored z)) → AllReadBack (zone_parts m dnssec asked zone)
zone_back m dnssec asked None back = error_back m responses.ServFail (error_parts m responses.ServFail) refl
zone_back m dnssec asked (Some zone) back =
    transfer_back m (transfer_refused zone asked) (transfer_of zone dnssec) (transferred_back zone dnssec (zone_sound zone back.0 back.1))

entry_back : (m : Metadata) (dnssec : Bool) (asks : DomainName → Asked) (entry : Option (DomainName × List View)) → IfSome entry (λ e. ChainReadsBack e.1) → AllReadBack (entry_parts m dnssec asks entry)
entry_back m dnssec asks None back = error_back m responses.Refused (error_parts m responses.Refused) refl
entry_back m dnssec asks (Some (zone, chain)) back = zone_back m dnssec (asks zone) (transferring chain) (transferring_back chain back)

-- ---- questions
question_back : (chains : List (DomainName × List View)) (m : Metadata) (dnssec : Bool) (asks : DomainName → Asked) (q : Query) (parts : ReplyParts) → IsFull q → ChainsReadBack chains → QuestionParts chains m dnssec asks q parts → AllReadBack parts
question_back chains m dnssec asks q parts full all is = by (same_record_type q.query_type types.AXFR) refl (chain_for chains q.name) refl
  where
    by : (b : Bool) → same_record_type q.query_type types.AXFR ≡ b → (o : Option (List View)) → chain_for chains q.name ≡ o → AllReadBack parts
    by true e o at = subst AllReadBack (sym (is.transfer e)) (entry_back m dnssec asks (entry_for chains q.name) (entry_for_back chains q.name all))
    by false e None at = error_back m responses.Refused parts (is.no_chain at)
    by false e (Some chain) at =
        chain_back chain m dnssec q.name q.query_type parts full (subst (λ (o : Option (List View)). IfSome o ChainReadsBack) at (for_back chains q.name all)) (is.looked_up chain at e)

pub query_back : (chains : List (DomainName × List View)) (m : Metadata) (dnssec : Bool) (asks : Query → DomainName → Asked) (qs : List Query) (parts : ReplyParts) → AllByRecursion IsFull qs → ChainsReadBack chains → QueryParts chains m dnssec asks qs parts → AllReadBack parts
query_back chains m dnssec asks [] parts full all is = error_back m responses.FormErr parts is
query_back chains m dnssec asks (q ∷ []) parts full all is = question_back chains m dnssec (asks q) q parts full.0 all is
query_back chains m dnssec asks (q ∷ r ∷ qs) parts full all is = error_back m responses.FormErr parts is

operation_back : (chains : List (DomainName × List View)) (m : Metadata) (dnssec : Bool) (asks : Query → DomainName → Asked) (operation : OpCode) (qs : List Query) (parts : ReplyParts) → AllByRecursion IsFull qs → ChainsReadBack chains → OperationParts chains m dnssec asks operation qs parts → AllReadBack parts
operation_back chains m dnssec asks operations.Query qs parts full all is = query_back chains m dnssec asks qs parts full all is
operation_back chains m dnssec asks other qs parts full all is = error_back m responses.NotImp parts is

kind_back : (chains : List (DomainName × List View)) (m : Metadata) (dnssec : Bool) (asks : Query → DomainName → Asked) (kind : MessageType) (qs : List Query) (parts : ReplyParts) → AllByRecursion IsFull qs → ChainsReadBack chains → KindParts chains m dnssec asks kind qs parts → AllReadBack parts
kind_back chains m dnssec asks messages.Response qs parts full all is = error_back m responses.FormErr parts is
kind_back chains m dnssec asks messages.Query qs parts full all is = operation_back chains m dnssec asks m.op_code qs parts full all is

plain_back : (chains : List (DomainName × List View)) (asks : Query → DomainName → Asked) (request : Message) (parts : ReplyParts) → AllByRecursion IsFull request.asked.questions → ChainsReadBack chains → PlainParts chains asks request parts → AllReadBack parts
plain_back chains asks request parts full all is = by (has_other_version request.edns) refl
  where
    by : (b : Bool) → has_other_version request.edns ≡ b → AllReadBack parts
    by true e = error_back request.metadata responses.BADVERS parts (is.other_version e)
    by false e = kind_back chains request.metadata (asks_for_dnssec request.edns) asks request.metadata.message_type request.asked.questions parts full all (is.answered e)

-- ---- the options
fits_for : (edns : Option Edns) (nsid : Option (List ℕ)) → FitsOption nsid → FitsOption (nsid_for edns nsid)
fits_for edns nsid fits = by (has_other_version edns)
  where
    by : (b : Bool) → FitsOption (cond b None nsid)
    by true = tt
    by false = fits

options_back : (asked : Option Edns) (nsid : Option (List ℕ)) (code : ResponseCode) (edns : Option Edns) → FitsOption nsid → AnswersEdns asked nsid code edns → AllByRecursion EdnsReadsBack (option_to_list edns)
options_back None nsid code None fits answers = tt
options_back None nsid code (Some edns) fits answers = absurd answers
options_back (Some asked) nsid code None fits answers = absurd answers
options_back (Some asked) nsid code (Some edns) fits answers = (edns_back asked nsid code edns (λ _. fits) answers, tt)

-- ---- whole
asked_full : (octets : List ℕ) (place : ℕ) (qs : List Query) (end : ℕ) → Entries (QuestionAt octets) place qs end → AllByRecursion IsFull qs
asked_full octets place [] end there = tt
asked_full octets place (q ∷ qs) end there = (there.1.name.full, asked_full octets there.0 qs end there.2)

-- The names of questions that were read end at the root.
pub section_full : (asked : Section) → IsSection asked → AllByRecursion IsFull asked.questions
section_full asked section = asked_full section.message section.place asked.questions section.end section.there.questions.0

-- All that a full reply to a message holds reads back.
pub parts_back : (chains : List (DomainName × List View)) (nsid : Option (List ℕ)) (asks : Query → DomainName → Asked) (request : Message) (parts : ReplyParts) → IsSection request.asked → ChainsReadBack chains → FitsOption nsid → PartsOf chains nsid asks request parts → AllReadBack parts
parts_back chains nsid asks request parts section all fits gives =
    let plain = plain_back chains asks request gives.plain (section_full request.asked section) all gives.gives in
    let options = options_back request.edns (nsid_for request.edns nsid) gives.plain.metadata.response_code parts.edns (fits_for request.edns nsid fits) gives.edns in
    subst AllReadBack (sym gives.whole) (record {
      answers = plain.answers;
      authorities = plain.authorities;
      additionals = plain.additionals;
      edns = options;
      signature = plain.signature;
    })
