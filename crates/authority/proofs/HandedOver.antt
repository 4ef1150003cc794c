-- The reply of a server that transferred a zone holds the whole transfer, and nothing else.
use Rattle.std.proofs.Common.{◌≡◌, ◌∙◌, ℕ, ◌<◌, Bool, true, false, ◌&&◌, ◌||◌, List, [], ◌∷◌, length, refl, sym, ap, subst, arith}
use Rattle.std.specs.Prelude.{Option, Some, None, is_some, option_map}
use Rattle.std.specs.List.{list_any}
use Rattle.std.specs.Net.Socket.{socket_ip}
use Rattle.authority_server.specs.zsv_access.Access.{is_allowed}
use Rattle.authority_denial.specs.zsv_reply.Replies.{ReplyParts, header_of_reply}
use Rattle.authority_denial.specs.zsv_reply.Writing.{reply_metadata, with_edns}
use Rattle.authority_denial.specs.zsv_reply.zst_record.declared.records.Record.{Record}
use Rattle.authority_denial.specs.zsv_reply.zsv_message.Messages.{Message, joined_metadata}
use Rattle.authority_denial.specs.zsv_reply.zsv_message.zst_edns.declared.edns.Edns.{Edns}
use Rattle.authority_denial.specs.zsv_reply.zsv_message.zsv_parts.Headers.{header_of, same_op_code}
use Rattle.authority_denial.specs.zsv_reply.zsv_message.zsv_parts.declared.header.Header.{Header}
use Rattle.authority_denial.specs.zsv_reply.zsv_message.zsv_parts.declared.header.Metadata.{Metadata}
use Rattle.authority_denial.specs.zsv_reply.zsv_message.zsv_parts.declared.header.MessageType.{MessageType}
use Rattle.authority_denial.specs.zsv_reply.zsv_message.zsv_parts.declared.header.MessageType.TheVariants as messages
use Rattle.authority_denial.specs.zsv_reply.zsv_message.zsv_parts.declared.header.OpCode.{OpCode}
use Rattle.authority_denial.specs.zsv_reply.zsv_message.zsv_parts.declared.header.OpCode.TheVariants as operations
use Rattle.authority_denial.specs.zsv_reply.zsv_message.zsv_parts.declared.question.Query.{Query}
use Rattle.authority_denial.specs.zsv_reply.zsv_message.zsv_parts.zst_codes.ResponseCode.{joined_code, low_bits, same_response_code}
use Rattle.authority_denial.specs.zsv_reply.zsv_message.zsv_parts.zst_codes.declared.response_code.ResponseCode.{ResponseCode}
use Rattle.authority_denial.specs.zsv_reply.zsv_message.zsv_parts.zst_codes.declared.response_code.ResponseCode.TheVariants as codes
use Rattle.authority_server.specs.Serving.{Gives, Received, SendsGiven, World}
use Rattle.authority_server.specs.zsv_catalog.Catalogs.{GivesOf, KindParts, OperationParts, PartsOf, PlainParts, QueryParts, QuestionParts, asked_of_transfer, asks_for_dnssec, entry_parts, failure_of, is_served_update}
use Rattle.authority_server.specs.zsv_catalog.Chains.{chain_for, entry_for}
use Rattle.authority_server.specs.zsv_catalog.zsv_answer.Transferring.{transfer_parts, transferring, zone_parts}
use Rattle.authority_server.specs.zsv_catalog.zsv_answer.zst_request.Transfers.{transfer_of, transfer_refused}
use Rattle.authority_server.specs.zsv_catalog.zsv_answer.zst_request.Updating.{Asked, SigningContext}
use Rattle.authority_server.specs.zsv_catalog.zsv_answer.zst_request.Views.{View}
use Rattle.authority_server.specs.zsv_catalog.zsv_answer.zst_request.dnw_codes.RecordType.{same_record_type}
use Rattle.authority_server.specs.zsv_catalog.zsv_answer.zst_request.dnw_codes.declared.record_type.RecordType.TheVariants.{AXFR, SOA}
use Rattle.authority_server.specs.zsv_catalog.zsv_answer.zst_request.dnw_name.DomainName.{DomainName}
use Rattle.authority_server.specs.zsv_catalog.zsv_answer.zst_request.zst_handler.Zones.{Zone}
use Rattle.authority_server.specs.zsv_catalog.zsv_answer.zsv_request.Requests.{limit_of}
use Rattle.authority_server.specs.zsv_catalog.zsv_update.Keys.{Signature}
use Rattle.authority_server.specs.zsv_catalog.zsv_update.Options.{AnswersEdns, has_other_version}
use Rattle.authority_server.specs.zsv_catalog.zsv_update.Signing.{HasSignature}
use Rattle.authority_server.specs.zsv_catalog.zsv_update.Updates.{ChainUpdates, Given, GivesUpdate, ZoneUpdates}
use Rattle.authority_transfer.specs.Transfers.{is_answer, is_sig}
use Rattle.authority_transfer.specs.TwoRoads.{HandsOverAll}
use Rattle.authority.specs.TwoRoads.{SendsZone}
use Rattle.authority_denial.proofs.Decoded.{message_with, more_than_header, reply_holds_all}

-- ---- parts without records are those of no transfer
abbrev answers_in : ReplyParts → List Record
answers_in parts = parts.answers

no_records : {R : Type 0} (parts : ReplyParts) → answers_in parts ≡ [] → 0 < length parts.answers → R
no_records parts none some = absurd (omega (arith, ap length none, some))

-- ---- the request
-- Its one question is for the transfer of a zone.
record AsksZone (chains : List (DomainName × List View)) (request : Message) (zone : Zone) : Type 0 where
  question : Query
  one : request.asked.questions ≡ question ∷ []
  axfr : same_record_type question.query_type AXFR ≡ true
  chain : List View
  nearest : chain_for chains question.name ≡ Some chain
  first : transferring chain ≡ Some zone

-- The records that it asks for.
abbrev records_for : Message → Zone → List Record
records_for request zone = transfer_of zone (asks_for_dnssec request.edns)

entry_of : {X : Type 0} (o : Option (DomainName × X)) (chain : X) → option_map (λ entry. entry.1) o ≡ Some chain → (name : DomainName) × (o ≡ Some (name, chain))
entry_of None chain e = absurd (cc e)
entry_of {X} (Some (name, found)) chain e =
    let same : found ≡ chain = cc e in
    (name, ap (λ (x : X). Some (name, x)) same)

-- Of the response code all bits in the options are zero.
high_of : (asked : Option Edns) (nsid : Option (List ℕ)) (o : Option Edns) → AnswersEdns asked nsid codes.NoError o → (edns : Edns) → o ≡ Some edns → edns.rcode_high ≡ 0
high_of asked nsid None is edns e = absurd (cc e)
high_of None nsid (Some given) is edns e = absurd is
high_of (Some asked) nsid (Some given) is edns e =
    let same : edns ≡ given = cc e in
    ap (λ (x : Edns). x.rcode_high) same ∙ is.rcode_high

-- ---- parts with records, in reply to that question
-- The whole zone, in reply to a query.
record Transfers (request : Message) (zone : Zone) (parts : ReplyParts) : Type 0 where
  operation : request.metadata.op_code ≡ operations.Query
  is : parts ≡ transfer_parts request.metadata None (records_for request zone)

-- The same with options.
record Sends (request : Message) (zone : Zone) (parts : ReplyParts) : Type 0 where
  operation : request.metadata.op_code ≡ operations.Query
  is : parts ≡ with_edns parts.edns (transfer_parts request.metadata None (records_for request zone))
  high : (edns : Edns) → parts.edns ≡ Some edns → edns.rcode_high ≡ 0

module _ (chains : List (DomainName × List View)) (request : Message) (zone : Zone) (q : AsksZone chains request zone) (asks : Query → DomainName → Asked) where
  module _ (plain : ReplyParts) (some : 0 < length plain.answers) where
    granted : (refused : Option ResponseCode) → plain ≡ transfer_parts request.metadata refused (records_for request zone) → plain ≡ transfer_parts request.metadata None (records_for request zone)
    granted None is = is
    granted (Some code) is = no_records plain (ap answers_in is) some

    of_question : QuestionParts chains request.metadata (asks_for_dnssec request.edns) (asks q.question) q.question plain → plain ≡ transfer_parts request.metadata None (records_for request zone)
    of_question is =
        let (name, found) = entry_of (entry_for chains q.question.name) q.chain q.nearest in
        let asked = asks q.question name in
        granted (transfer_refused zone asked)
        (is.transfer q.axfr ∙ ap (entry_parts request.metadata (asks_for_dnssec request.edns) (asks q.question)) found ∙ ap (zone_parts request.metadata (asks_for_dnssec request.edns) asked) q.first)

    of_operation : (operation : OpCode) → request.metadata.op_code ≡ operation → OperationParts chains request.metadata (asks_for_dnssec request.edns) asks operation request.asked.questions plain → Transfers request zone plain
    of_operation operations.Query e is =
        record { operation = e; is = of_question (subst (λ (qs : List Query). QueryParts chains request.metadata (asks_for_dnssec request.edns) asks qs plain) q.one is) }
    of_operation other e is = no_records plain (ap answers_in is) some

    of_kind : (kind : MessageType) → KindParts chains request.metadata (asks_for_dnssec request.edns) asks kind request.asked.questions plain → Transfers request zone plain
    of_kind messages.Response is = no_records plain (ap answers_in is) some
    of_kind messages.Query is = of_operation request.metadata.op_code refl is

    of_version : PlainParts chains asks request plain → Transfers request zone plain
    of_version is = by (has_other_version request.edns) refl
      where
        by : (b : Bool) → has_other_version request.edns ≡ b → Transfers request zone plain
        by true e = no_records plain (ap answers_in (is.other_version e)) some
        by false e = of_kind request.metadata.message_type (is.answered e)

  with_options : (nsid : Option (List ℕ)) (parts : ReplyParts) → PartsOf chains nsid asks request parts → 0 < length parts.answers → Sends request zone parts
  with_options nsid parts is some =
      let there : 0 < length is.plain.answers = subst (λ (rs : List Record). 0 < length rs) (ap answers_in is.whole) some in
      let transfers = of_version is.plain there is.gives in
      let code : is.plain.metadata.response_code ≡ codes.NoError = ap (λ (p : ReplyParts). p.metadata.response_code) transfers.is in
      record {
        operation = transfers.operation;
        is = is.whole ∙ ap (with_edns parts.edns) transfers.is;
        high = high_of request.edns _ parts.edns (subst (λ (c : ResponseCode). AnswersEdns request.edns _ c parts.edns) code is.edns);
      }

module _ (world : World) (received : Received) (request : Message) where
  -- ---- an update gets no records
  chain_none : (q : Query) (found : Option (DomainName × List View)) (given : Given) → ChainUpdates world.keys request received.source received.message received.now world.chains q found given → answers_in given.plain ≡ []
  chain_none q None given is = ap (λ (g : Given). answers_in g.plain) is
  chain_none q (Some (zone, [])) given is = ap (λ (g : Given). answers_in g.plain) is
  chain_none q (Some (zone, view ∷ views)) given (code, left, handles, plain, after) = ap answers_in plain

  zone_none : (b : Bool) (q : Query) (given : Given) → ZoneUpdates world.keys request received.source received.message received.now b world.chains q given → answers_in given.plain ≡ []
  zone_none true q given is = chain_none q (entry_for world.chains q.name) given is
  zone_none false q given is = ap (λ (g : Given). answers_in g.plain) is

  update_none : (qs : List Query) (given : Given) → GivesUpdate world.keys request received.source received.message received.now world.chains qs given → answers_in given.plain ≡ []
  update_none [] given is = ap (λ (g : Given). answers_in g.plain) is
  update_none (q ∷ []) given is = zone_none (same_record_type q.query_type SOA) q given is
  update_none (q ∷ r ∷ qs) given is = ap (λ (g : Given). answers_in g.plain) is

  -- ---- what the request got
  given_sends : (zone : Zone) (given : Given) → AsksZone world.chains request zone → Gives world received request given → 0 < length given.plain.answers → Sends request zone given.plain
  given_sends zone given q gives some = allowed (is_allowed world.access (socket_ip received.source)) refl
    where
      served : (b : Bool) → is_served_update request ≡ b → GivesOf world.chains world.nsid world.keys request received.source received.message received.now given → Sends request zone given.plain
      served true e is =
          let (bare, updates, options, whole) = is.update e in
          no_records given.plain (ap (λ (g : Given). answers_in g.plain) whole ∙ update_none request.asked.questions bare updates) some
      served false e is =
          let (parts, of, whole) = is.other e in
          let same : given.plain ≡ parts = ap (λ (g : Given). g.plain) whole in
          let asks = asked_of_transfer world.keys request received.source received.message received.now in
          subst (Sends request zone) (sym same) (with_options world.chains request zone q asks world.nsid parts of (subst (λ (p : ReplyParts). 0 < length p.answers) same some))

      allowed : (b : Bool) → is_allowed world.access (socket_ip received.source) ≡ b → Sends request zone given.plain
      allowed true e = served (is_served_update request) refl (gives.answered e)
      allowed false e = no_records given.plain (ap (λ (g : Given). answers_in g.plain) (gives.refused e)) some

  -- What is sent without a signature, and has records, is what the request got.
  sent_given : (given : Given) (context : Option SigningContext) (parts : ReplyParts) → SendsGiven world received request given context parts → parts.signature ≡ None → 0 < length parts.answers → parts ≡ given.plain
  sent_given given None parts is unsigned some = is
  sent_given given (Some context) parts (octets, over, signs) unsigned some = by (world.keys.signature context octets) signs
    where
      by : (signature : Option Signature) → HasSignature signature given.plain (failure_of request given) parts → parts ≡ given.plain
      by None is = no_records parts (ap answers_in is) some
      by (Some signature) (tsig, same, back, is) =
          let signed : None ≡ Some tsig = sym unsigned ∙ ap (λ (p : ReplyParts). p.signature) is in
          absurd (cc signed)

-- ---- what is read of the reply
-- The header that a transfer has.
abbrev transfer_metadata : Metadata → Metadata
transfer_metadata m = record (reply_metadata m true codes.NoError) { response_code = joined_code 0 (low_bits codes.NoError) }

joined_truncation : (m : Metadata) (edns : Option Edns) → (joined_metadata m edns).truncation ≡ m.truncation
joined_truncation m None = refl
joined_truncation m (Some edns) = refl

reads_answer : (m : Metadata) (o : Option Edns) → m.op_code ≡ operations.Query → ((edns : Edns) → o ≡ Some edns → edns.rcode_high ≡ 0) → is_answer (joined_metadata (transfer_metadata m) o) ≡ true
reads_answer m None operation high = ap (λ (x : OpCode). same_op_code x operations.Query && same_response_code (joined_code 0 (low_bits codes.NoError)) codes.NoError) operation
reads_answer m (Some edns) operation high = λ i. same_op_code (operation i) operations.Query && same_response_code (joined_code (high edns refl i) (low_bits (joined_code 0 (low_bits codes.NoError)))) codes.NoError

-- The lists of a transfer.
abbrev additionals_in : ReplyParts → List Record
additionals_in parts = parts.additionals

pub handed_over : (zone : Zone) (dnssec_ok : Bool) (reply : List ℕ) → SendsZone zone dnssec_ok reply → HandsOverAll zone dnssec_ok reply
handed_over zone dnssec_ok reply h =
    let parts = h.answers.parts in
    let m = h.request.metadata in
    let back = h.answers.back h.reads_back in
    let r = h.answers.holds back in
    let limit = limit_of h.received.transport parts.edns in
    let holds = reply_holds_all h.received.message reply parts h.request.asked m.id limit (header_of h.received.message).counts.queries h.there.questions_end back h.there.questions h.avoids_header r
    (more_than_header h.received.message reply parts h.request.asked m.id limit r h.some) h.whole in
    let some : 0 < length parts.answers = subst (λ (n : ℕ). 0 < n) (ap (λ (x : Header). x.counts.answers) holds.header) h.some in
    let same = sent_given h.world h.received h.request h.given h.given.context parts h.answers.sent h.unsigned some in
    let there : Zone = record zone { guard = h.guard } in
    let asks : AsksZone h.world.chains h.request there = record { question = h.question; one = h.one; axfr = h.axfr; chain = h.chain; nearest = h.nearest; first = h.first } in
    let sends = subst (Sends h.request there) (sym same) (given_sends h.world h.received h.request there h.given asks h.answers.gives (subst (λ (p : ReplyParts). 0 < length p.answers) same some)) in
    let said : (header_of reply).metadata ≡ transfer_metadata m = ap (λ (x : Header). x.metadata) holds.header
    ∙ ap (λ (p : ReplyParts). (header_of_reply p.metadata false 0 0 0 0).metadata) sends.is in
    let nothing : additionals_in parts ≡ [] = ap additionals_in sends.is in
    record {
      message = message_with reply h.request.asked parts;
      there = holds.there;
      reply = ap (λ (x : Metadata). is_answer (joined_metadata x parts.edns)) said ∙ reads_answer m parts.edns sends.operation sends.high;
      whole = joined_truncation (header_of reply).metadata parts.edns ∙ h.whole;
      unsigned = λ i. is_some (h.unsigned i) || list_any is_sig (nothing i);
      answers = ap answers_in sends.is ∙ ap (transfer_of zone) h.dnssec;
      some = some;
    }
