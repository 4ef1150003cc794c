-- What a reply holds in which a zone of the server's own denies a name or a type.
use Rattle.std.proofs.Common.{◌≡◌, ◌∙◌, ◌⊎◌, ap, inl, inr, refl, subst, sym}
use Rattle.std.proofs.lemmas.Bool.{true≢false}
use Rattle.std.specs.Prelude.{ℕ, Bool, true, false, ◌&&◌, cond, List, [], ◌∷◌, ◌++◌, Option, Some, None, if◌then◌else◌}
use Rattle.std.specs.List.{filter}
use Rattle.zsv_answer.proofs.LookupOnce.{one-lookup}
use Rattle.zsv_answer.specs.DenialRecords.{IsDenial}
use Rattle.zsv_answer.specs.Parts.{AuthoritativeParts, ChainParts, DeniedParts, PartsAs}
use Rattle.zsv_answer.specs.Resolution.{LooksUp, Resolution, outcome_shown}
use Rattle.zsv_answer.specs.Responses.{parts_with}
use Rattle.zsv_answer.specs.zst_request.Updating.{Asked}
use Rattle.zsv_answer.specs.zst_request.Views.{Stored, View}
use Rattle.zsv_answer.specs.zst_request.dnw_codes.declared.record_type.RecordType.{RecordType}
use Rattle.zsv_answer.specs.zst_request.dnw_codes.declared.record_type.RecordType.TheVariants.{ANAME, ANY, AXFR, CNAME}
use Rattle.zsv_answer.specs.zst_request.dnw_codes.RecordType.{same_record_type}
use Rattle.zsv_answer.specs.zst_request.dnw_name.DomainName.{DomainName, is_at_or_below, name_eq}
use Rattle.zsv_answer.specs.zst_request.zst_codes.declared.response_code.ResponseCode.{ResponseCode}
use Rattle.zsv_answer.specs.zst_request.zst_codes.declared.response_code.ResponseCode.TheVariants as responses
use Rattle.zsv_answer.specs.zst_request.zst_codes.declared.settings.ZoneType.{ZoneType}
use Rattle.zsv_answer.specs.zst_request.zst_codes.declared.settings.ZoneType.TheVariants as zones
use Rattle.zsv_answer.specs.zst_request.zst_handler.Answers.{sets_shown}
use Rattle.zsv_answer.specs.zst_request.zst_handler.Found.{delegation, found, is_address, wildcard_answer}
use Rattle.zsv_answer.specs.zst_request.zst_handler.Lookups.{IsLookup, LookupFrom, Outcome, all_outcome, answered, denial, name_error, name_exists, out_of_zone, sets_of_name}
use Rattle.zsv_answer.specs.zst_request.zst_handler.Zones.{Zone, exists_in, rrset_at}
use Rattle.zsv_answer.specs.zsv_reply.Replies.{ReplyParts}
use Rattle.zsv_answer.specs.zsv_reply.Writing.{reply_metadata, with_edns}
use Rattle.zsv_answer.specs.zsv_reply.zst_record.RecordSets.{RRset}
use Rattle.zsv_answer.specs.zsv_reply.zst_record.declared.records.Record.{Record}
use Rattle.zsv_answer.specs.zsv_reply.zsv_message.Messages.{Message}
use Rattle.zsv_answer.specs.zsv_reply.zsv_message.zsv_parts.declared.header.Metadata.{Metadata}
use Rattle.zsv_answer.specs.zsv_reply.zsv_message.zsv_parts.declared.header.MessageType.{MessageType}
use Rattle.zsv_answer.specs.zsv_reply.zsv_message.zsv_parts.declared.header.MessageType.TheVariants as messages
use Rattle.zsv_answer.specs.zsv_reply.zsv_message.zsv_parts.declared.header.OpCode.{OpCode}
use Rattle.zsv_answer.specs.zsv_reply.zsv_message.zsv_parts.declared.header.OpCode.TheVariants as operations
use Rattle.zsv_answer.specs.zsv_reply.zsv_message.zsv_parts.declared.question.Query.{Query}
use Rattle.zsv_catalog.specs.Catalogs.{KindParts, OperationParts, PartsOf, PlainParts, QueryParts, QuestionParts, asks_for_dnssec}
use Rattle.zsv_update.specs.Options.{has_other_version}
use Rattle.zsv_update.specs.zsv_chains.Chains.{chain_for}
use Rattle.zsv_update.specs.zsv_chains.zst_key.Ancestors.{or_else}

-- ---- a question to one zone
-- A query of one question, for no transfer, that one stored zone of the server's own answers alone.
pub record AsksZone (chains : List (DomainName × List View)) (request : Message) (q : Query) (zone : Zone) : Type 0 where
  pub alone : chain_for chains q.name ≡ Some (Stored zone ∷ [])
  pub own : zone.zone_type ≡ zones.External → ⊥
  pub version : has_other_version request.edns ≡ false
  pub kind : request.metadata.message_type ≡ messages.Query
  pub operation : request.metadata.op_code ≡ operations.Query
  pub one : request.asked.questions ≡ q ∷ []
  pub ordinary : same_record_type q.query_type AXFR ≡ false

-- What such a zone looked up, and the parts of the reply, options aside.
pub record FromZone (request : Message) (q : Query) (zone : Zone) (parts : ReplyParts) : Type 0 where
  pub plain : ReplyParts
  pub outcome : Outcome
  pub is : IsLookup zone q.name q.query_type outcome
  pub gives : AuthoritativeParts (Stored zone) request.metadata (asks_for_dnssec request.edns) q.name q.query_type (outcome_shown (asks_for_dnssec request.edns) outcome) plain
  pub whole : parts ≡ with_edns parts.edns plain

own_parts : (zone_type : ZoneType) (view : View) (m : Metadata) (d : Bool) (name : DomainName) (t : RecordType) (r : Resolution) (parts : ReplyParts) → (zone_type ≡ zones.External → ⊥) → PartsAs zone_type view m d name t r parts → AuthoritativeParts view m d name t r parts
own_parts zones.Primary view m d name t r parts own is = is
own_parts zones.Secondary view m d name t r parts own is = is
own_parts zones.External view m d name t r parts own is = absurd (own refl)

module _ (chains : List (DomainName × List View)) (asks : Query → DomainName → Asked) (request : Message) (q : Query) (zone : Zone) (asked : AsksZone chains request q zone) where
  from_chain : (plain : ReplyParts) → PlainParts chains asks request plain → ChainParts (Stored zone ∷ []) request.metadata (asks_for_dnssec request.edns) q.name q.query_type plain
  from_chain plain gives =
      let m = request.metadata in
      let d = asks_for_dnssec request.edns in
      let by_kind : OperationParts chains m d asks m.op_code request.asked.questions plain =
      subst (λ (kind : MessageType). KindParts chains m d asks kind request.asked.questions plain) asked.kind (gives.answered asked.version) in
      let by_operation : QueryParts chains m d asks request.asked.questions plain =
      subst (λ (operation : OpCode). OperationParts chains m d asks operation request.asked.questions plain) asked.operation by_kind in
      let by_question : QuestionParts chains m d (asks q) q plain =
      subst (λ (qs : List Query). QueryParts chains m d asks qs plain) asked.one by_operation in
      by_question.looked_up (Stored zone ∷ []) asked.alone asked.ordinary

  pub from_zone : (nsid : Option (List ℕ)) (parts : ReplyParts) → PartsOf chains nsid asks request parts → FromZone request q zone parts
  from_zone nsid parts gives =
      let d = asks_for_dnssec request.edns in
      let (resolution, looks, shown) = (from_chain gives.plain gives.gives).somebody (Stored zone) refl in
      let looked : LooksUp zone q.name q.query_type d resolution = looks in
      let (outcome, is, same) = looked in
      let own = own_parts zone.zone_type (Stored zone) request.metadata d q.name q.query_type resolution gives.plain asked.own shown in
      record {
        plain = gives.plain;
        outcome = outcome;
        is = is;
        gives = subst (λ (r : Resolution). AuthoritativeParts (Stored zone) request.metadata d q.name q.query_type r gives.plain) same own;
        whole = gives.whole;
      }

-- ---- response codes
abbrev pub IsOwnCode : ResponseCode → Type 0
IsOwnCode code = (code ≡ responses.NoError) ⊎ ((code ≡ responses.NXDomain) ⊎ (code ≡ responses.Refused))

abbrev code_of : ReplyParts → ResponseCode
code_of parts = parts.metadata.response_code

-- The code of what was looked up.
abbrev outcome_code : Outcome → ResponseCode
outcome_code (answered answer) = responses.NoError
outcome_code name_exists = responses.NoError
outcome_code name_error = responses.NXDomain
outcome_code out_of_zone = responses.Refused

plain_code : (zone : Zone) (m : Metadata) (d : Bool) (name : DomainName) (t : RecordType) (outcome : Outcome) (plain : ReplyParts) → AuthoritativeParts (Stored zone) m d name t (outcome_shown d outcome) plain → code_of plain ≡ outcome_code outcome
plain_code zone m d name t (answered answer) plain is = ap code_of is.2
plain_code zone m d name t name_exists plain is = ap code_of is.4
plain_code zone m d name t name_error plain is = ap code_of is.4
plain_code zone m d name t out_of_zone plain is = ap code_of is

from_code : (request : Message) (q : Query) (zone : Zone) (parts : ReplyParts) → (from : FromZone request q zone parts) → code_of parts ≡ outcome_code from.outcome
from_code request q zone parts from =
    ap code_of from.whole ∙ plain_code zone request.metadata (asks_for_dnssec request.edns) q.name q.query_type from.outcome from.plain from.gives

pub own_codes : (request : Message) (q : Query) (zone : Zone) (parts : ReplyParts) → FromZone request q zone parts → IsOwnCode parts.metadata.response_code
own_codes request q zone parts from = subst IsOwnCode (sym (from_code request q zone parts from)) (by from.outcome)
  where
    by : (outcome : Outcome) → IsOwnCode (outcome_code outcome)
    by (answered answer) = inl refl
    by name_exists = inl refl
    by name_error = inr (inl refl)
    by out_of_zone = inr (inr refl)

-- A name error was looked up where the code says so.
abbrev is_no_name : ResponseCode → Bool
is_no_name responses.NXDomain = true
is_no_name other = false

by_code : (outcome : Outcome) → outcome_code outcome ≡ responses.NXDomain → outcome ≡ name_error
by_code (answered answer) e = absurd (true≢false (sym (ap is_no_name e)))
by_code name_exists e = absurd (true≢false (sym (ap is_no_name e)))
by_code name_error e = refl
by_code out_of_zone e = absurd (true≢false (sym (ap is_no_name e)))

-- ---- what a lookup finds that denies
abbrev is_error : Outcome → Bool
is_error name_error = true
is_error other = false

abbrev is_found : Outcome → Bool
is_found (answered answer) = true
is_found other = false

absent_by : (zone : Zone) (name : DomainName) → name_error ≡ denial zone name → exists_in zone.sets name ≡ false
absent_by zone name e = by (exists_in zone.sets name) (ap is_error e)
  where
    by : (b : Bool) → true ≡ is_error (cond b name_exists (cond (is_at_or_below name zone.origin) name_error out_of_zone)) → b ≡ false
    by true h = absurd (true≢false h)
    by false h = refl

-- A name error is of a name that doesn't exist.
pub names_absent : (zone : Zone) (name : DomainName) (t : RecordType) → IsLookup zone name t name_error → exists_in zone.sets name ≡ false
names_absent zone name t is = by (same_record_type t ANY) refl
  where
    of_any : (sets : List RRset) → name_error ≡ all_outcome zone name sets → exists_in zone.sets name ≡ false
    of_any [] e = absent_by zone name e
    of_any (set ∷ sets) e = absurd (true≢false (ap is_error e))

    of_one : (o : Option RRset) → LookupFrom zone name t o name_error → exists_in zone.sets name ≡ false
    of_one None e = absent_by zone name e
    of_one (Some first) (answer, e, from) = absurd (true≢false (ap is_error e))

    by : (b : Bool) → same_record_type t ANY ≡ b → exists_in zone.sets name ≡ false
    by true e = of_any (sets_of_name zone.sets name) (is.any e)
    by false e = of_one (found zone.sets name t) (is.one e)

none_owned : (sets : List RRset) (name : DomainName) (t : RecordType) → filter (λ set. name_eq name set.name) sets ≡ [] → rrset_at sets name t ≡ None
none_owned [] name t none = refl
none_owned (set ∷ sets) name t none = by (name_eq name set.name) none (none_owned sets name t)
  where
    by : (b : Bool) → cond b (set ∷ filter (λ other. name_eq name other.name) sets) (filter (λ other. name_eq name other.name) sets) ≡ []
        → (filter (λ other. name_eq name other.name) sets ≡ [] → rrset_at sets name t ≡ None) → cond (b && same_record_type set.record_type t) (Some set) (rrset_at sets name t) ≡ None
    by true some rest = absurd (cc some)
    by false later rest = rest later

none_here : (d own a w : Option RRset) → or_else d (or_else (or_else own a) w) ≡ None → own ≡ None
none_here None None a w e = refl
none_here None (Some set) a w e = absurd (cc e)
none_here (Some servers) own a w e = absurd (cc e)

-- A name without records of a type owns none.
pub types_absent : (zone : Zone) (name : DomainName) (t : RecordType) → IsLookup zone name t name_exists → rrset_at zone.sets name t ≡ None
types_absent zone name t is = by (same_record_type t ANY) refl
  where
    of_any : (sets : List RRset) → sets_of_name zone.sets name ≡ sets → name_exists ≡ all_outcome zone name sets → rrset_at zone.sets name t ≡ None
    of_any [] none e = none_owned zone.sets name t none
    of_any (set ∷ sets) some e = absurd (true≢false (sym (ap is_found e)))

    of_one : (o : Option RRset) → found zone.sets name t ≡ o → LookupFrom zone name t o name_exists → rrset_at zone.sets name t ≡ None
    of_one None none e = none_here (delegation zone.sets name t) (rrset_at zone.sets name t)
        (or_else (rrset_at zone.sets name CNAME) (if is_address t then rrset_at zone.sets name ANAME else None)) (wildcard_answer zone.sets name t) none
    of_one (Some first) some (answer, e, from) = absurd (true≢false (sym (ap is_found e)))

    by : (b : Bool) → same_record_type t ANY ≡ b → rrset_at zone.sets name t ≡ None
    by true e = of_any (sets_of_name zone.sets name) refl (is.any e)
    by false e = of_one (found zone.sets name t) refl (is.one e)

-- ---- what the reply holds then
-- The records that deny, with their signatures, before others of authority; no answer.
pub record Denied (zone : Zone) (name : DomainName) (t : RecordType) (response : ResponseCode) (parts : ReplyParts) : Type 0 where
  pub sets : List RRset
  pub denies : IsDenial zone.nx_proof_kind zone name t false sets
  pub start : List Record
  pub authorities : parts.authorities ≡ sets_shown true sets ++ start
  pub answers : parts.answers ≡ []
  pub code : parts.metadata.response_code ≡ response

denied_by : (zone : Zone) (m : Metadata) (d : Bool) (name : DomainName) (t : RecordType) (code : ResponseCode) (plain parts : ReplyParts) → d ≡ true → parts ≡ with_edns parts.edns plain → DeniedParts (Stored zone) m d name t code plain
    → Denied zone name t code parts
denied_by zone m d name t code plain parts asks whole gives =
    let (records, start, denies, origin, is) = subst (λ (dnssec_ok : Bool). DeniedParts (Stored zone) m dnssec_ok name t code plain) asks gives in
    let (sets, are, shown) = denies in
    let full : parts ≡ with_edns parts.edns (parts_with (reply_metadata m true code) false [] [] (records ++ start)) = whole ∙ ap (with_edns parts.edns) is in
    record {
      sets = sets;
      denies = are;
      start = start;
      authorities = ap (λ (p : ReplyParts). p.authorities) full ∙ ap (λ (rs : List Record). rs ++ start) shown;
      answers = ap (λ (p : ReplyParts). p.answers) full;
      code = ap code_of full;
    }

module _ (request : Message) (q : Query) (zone : Zone) (parts : ReplyParts) (asks : asks_for_dnssec request.edns ≡ true) (from : FromZone request q zone parts) where
  of_outcome : (outcome : Outcome) → from.outcome ≡ outcome → AuthoritativeParts (Stored zone) request.metadata (asks_for_dnssec request.edns) q.name q.query_type (outcome_shown (asks_for_dnssec request.edns) outcome) from.plain
  of_outcome outcome same =
      subst (λ (o : Outcome). AuthoritativeParts (Stored zone) request.metadata (asks_for_dnssec request.edns) q.name q.query_type (outcome_shown (asks_for_dnssec request.edns) o) from.plain) same from.gives

  -- A name error denies the name, which doesn't exist.
  pub names_denied : parts.metadata.response_code ≡ responses.NXDomain → Denied zone q.name q.query_type responses.NXDomain parts × (exists_in zone.sets q.name ≡ false)
  names_denied code =
      let same = by_code from.outcome (sym (from_code request q zone parts from) ∙ code) in (
        denied_by zone request.metadata (asks_for_dnssec request.edns) q.name q.query_type responses.NXDomain from.plain parts asks from.whole (of_outcome name_error same),
        names_absent zone q.name q.query_type (subst (IsLookup zone q.name q.query_type) same from.is),
      )

  -- Where the lookup finds no record of the type at a name that exists, the type is denied, and the name doesn't own it.
  pub types_denied : IsLookup zone q.name q.query_type name_exists → Denied zone q.name q.query_type responses.NoError parts × (rrset_at zone.sets q.name q.query_type ≡ None)
  types_denied is =
      let same = one-lookup zone q.name q.query_type from.outcome name_exists from.is is in (
        denied_by zone request.metadata (asks_for_dnssec request.edns) q.name q.query_type responses.NoError from.plain parts asks from.whole (of_outcome name_exists same),
        types_absent zone q.name q.query_type is,
      )
