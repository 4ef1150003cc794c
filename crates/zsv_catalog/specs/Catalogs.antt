-- What a catalog of zones answers to a request: RFC 1034, section 4.3.2; RFC 2136, section 3; RFC
-- 6891, section 6.
use Rattle.std.specs.Prelude.{◌≡◌, ℕ, Bool, true, false, if◌then◌else◌, not, ◌&&◌, List, [], ◌∷◌, Option, Some, None, unwrap_or, option_map}
use Rattle.std.specs.declared.net.SocketAddr.{SocketAddr}
use Rattle.zsv_answer.specs.Parts.{ChainParts}
use Rattle.zsv_answer.specs.Transferring.{transferring, zone_context, zone_parts}
use Rattle.zsv_answer.specs.zst_request.Updating.{Asked, SigningContext}
use Rattle.zsv_answer.specs.zst_request.Views.{View}
use Rattle.zsv_answer.specs.zst_request.dnw_codes.declared.record_type.RecordType.TheVariants.{AXFR}
use Rattle.zsv_answer.specs.zst_request.dnw_codes.RecordType.{same_record_type}
use Rattle.zsv_answer.specs.zst_request.dnw_name.DomainName.{DomainName}
use Rattle.zsv_answer.specs.zst_request.zst_codes.declared.response_code.ResponseCode.TheVariants as responses
use Rattle.zsv_answer.specs.zst_request.zst_codes.declared.settings.TsigVerdict.TheVariants as verdicts
use Rattle.zsv_answer.specs.zsv_reply.Replies.{ReplyParts}
use Rattle.zsv_answer.specs.zsv_reply.Writing.{AllReadBack, Sends, SendsParts, error_parts, with_edns}
use Rattle.zsv_answer.specs.zsv_reply.zsv_message.Messages.{Message, is_update}
use Rattle.zsv_answer.specs.zsv_reply.zsv_message.zst_edns.declared.edns.Edns.{Edns}
use Rattle.zsv_answer.specs.zsv_reply.zsv_message.zsv_parts.declared.header.Header.{Header}
use Rattle.zsv_answer.specs.zsv_reply.zsv_message.zsv_parts.declared.header.Metadata.{Metadata}
use Rattle.zsv_answer.specs.zsv_reply.zsv_message.zsv_parts.declared.header.MessageType.{MessageType}
use Rattle.zsv_answer.specs.zsv_reply.zsv_message.zsv_parts.declared.header.MessageType.TheVariants as messages
use Rattle.zsv_answer.specs.zsv_reply.zsv_message.zsv_parts.declared.header.OpCode.{OpCode}
use Rattle.zsv_answer.specs.zsv_reply.zsv_message.zsv_parts.declared.header.OpCode.TheVariants as operations
use Rattle.zsv_answer.specs.zsv_reply.zsv_message.zsv_parts.declared.question.Query.{Query}
use Rattle.zsv_answer.specs.zsv_request.declared.protocol.Protocol.{Protocol}
use Rattle.zsv_update.specs.zsv_chains.Chains.{chain_for, entry_for}
use Rattle.zsv_update.specs.Keys.{Keys}
use Rattle.zsv_update.specs.Options.{AnswersEdns, has_other_version, nsid_for}
use Rattle.zsv_update.specs.Replying.{RefusesUpdate}
use Rattle.zsv_update.specs.Signing.{SignsParts}
use Rattle.zsv_update.specs.Updates.{Given, GivesUpdate, only, signer_of, verdict_on}
use Rattle.zsv_update.specs.declared.update.ServiceFault.{ServiceFault}
use Rattle.zsv_update.specs.declared.update.ServiceFault.TheVariants.{OutOfMemory}
use Rattle.zsv_catalog.specs.ReadingBack.{ChainsReadBack}

-- ---- what handlers are asked
-- A question of a query, which changes nothing. Its signature isn't tested.
abbrev pub asked_of_query : Message → SocketAddr → Query → Asked
asked_of_query request source q = record {
  name = q.name;
  query_type = q.query_type;
  id = request.metadata.id;
  source = source;
  signed = option_map signer_of request.signature;
  verdict = verdicts.UnknownKey;
  prerequisites = [];
  updates = [];
}

-- A question for a transfer, to the handlers of the zone registered under a name: its signature is
-- tested for that zone, over all octets of the message, at a moment.
abbrev pub asked_of_transfer : Keys → Message → SocketAddr → List ℕ → ℕ → Query → DomainName → Asked
asked_of_transfer keys request source octets moment q zone =
    record (asked_of_query request source q) {
      verdict = verdict_on keys zone octets moment request.signature;
    }

-- ---- transfers (RFC 5936)
-- The question of a query for a transfer.
abbrev pub transfer_question : List Query → Option Query
transfer_question (q ∷ []) = if same_record_type q.query_type AXFR then Some q else None
transfer_question other = None

-- What the reply holds, by the zone registered under the nearest name from the question's up.
abbrev pub entry_parts : Metadata → Bool → (DomainName → Asked) → Option (DomainName × List View)
    → ReplyParts
entry_parts m dnssec_ok asks None = error_parts m responses.Refused
entry_parts m dnssec_ok asks (Some (zone, chain)) =
    zone_parts m dnssec_ok (asks zone) (transferring chain)

-- What it is signed with.
abbrev pub entry_context : (DomainName → Asked) → ℕ → Option (DomainName × List View)
    → Option SigningContext
entry_context asks moment None = None
entry_context asks moment (Some (zone, chain)) =
    zone_context (asks zone) moment (transferring chain)

abbrev pub question_context : List (DomainName × List View) → (Query → DomainName → Asked) → ℕ
    → Option Query → Option SigningContext
question_context chains asks moment None = None
question_context chains asks moment (Some q) =
    entry_context (asks q) moment (entry_for chains q.name)

-- ---- what a reply holds
-- One question: refused where there is no chain for the name.
pub record QuestionParts (chains : List (DomainName × List View)) (m : Metadata) (dnssec_ok : Bool)
    (asks : DomainName → Asked) (q : Query) (parts : ReplyParts) : Type 0 where
  pub no_chain : chain_for chains q.name ≡ None → parts ≡ error_parts m responses.Refused
  pub transfer : same_record_type q.query_type AXFR ≡ true
      → parts ≡ entry_parts m dnssec_ok asks (entry_for chains q.name)
  pub looked_up : (chain : List View) → chain_for chains q.name ≡ Some chain
      → same_record_type q.query_type AXFR ≡ false
      → ChainParts chain m dnssec_ok q.name q.query_type parts

-- A query asks one question.
abbrev pub QueryParts : List (DomainName × List View) → Metadata → Bool
    → (Query → DomainName → Asked) → List Query → ReplyParts → Type 0
QueryParts chains m dnssec_ok asks [] parts = parts ≡ error_parts m responses.FormErr
QueryParts chains m dnssec_ok asks (q ∷ []) parts =
    QuestionParts chains m dnssec_ok (asks q) q parts
QueryParts chains m dnssec_ok asks (q ∷ r ∷ qs) parts = parts ≡ error_parts m responses.FormErr

-- Other operations are not implemented.
abbrev pub OperationParts : List (DomainName × List View) → Metadata → Bool
    → (Query → DomainName → Asked) → OpCode → List Query → ReplyParts → Type 0
OperationParts chains m dnssec_ok asks operations.Query qs parts =
    QueryParts chains m dnssec_ok asks qs parts
OperationParts chains m dnssec_ok asks other qs parts = parts ≡ error_parts m responses.NotImp

-- A reply sent as a request is a format error.
abbrev pub KindParts : List (DomainName × List View) → Metadata → Bool
    → (Query → DomainName → Asked) → MessageType → List Query → ReplyParts → Type 0
KindParts chains m dnssec_ok asks messages.Response qs parts =
    parts ≡ error_parts m responses.FormErr
KindParts chains m dnssec_ok asks messages.Query qs parts =
    OperationParts chains m dnssec_ok asks m.op_code qs parts

-- Signatures are asked for by the flag DO (RFC 3225, section 3).
abbrev pub asks_for_dnssec : Option Edns → Bool
asks_for_dnssec edns = unwrap_or (option_map (λ e. e.flags.dnssec_ok) edns) false

-- What a full reply to a request holds beside its options. The version of EDNS is tested first.
pub record PlainParts (chains : List (DomainName × List View)) (asks : Query → DomainName → Asked)
    (request : Message) (parts : ReplyParts) : Type 0 where
  pub other_version : has_other_version request.edns ≡ true
      → parts ≡ error_parts request.metadata responses.BADVERS
  pub answered : has_other_version request.edns ≡ false
      → KindParts chains request.metadata (asks_for_dnssec request.edns) asks
      request.metadata.message_type request.asked.questions parts

-- What a full reply to a request holds.
pub record PartsOf (chains : List (DomainName × List View)) (nsid : Option (List ℕ))
    (asks : Query → DomainName → Asked) (request : Message) (parts : ReplyParts) : Type 0 where
  pub plain : ReplyParts
  pub gives : PlainParts chains asks request plain
  pub edns : AnswersEdns request.edns (nsid_for request.edns nsid) plain.metadata.response_code
      parts.edns
  pub whole : parts ≡ with_edns parts.edns plain

-- The octets of a reply of these parts, with the options that answer those of a request, and its
-- header.
abbrev pub SendsWith : ReplyParts → Option (List ℕ) → Message → Protocol → Header → List ℕ → Type 0
SendsWith plain nsid request transport info reply =
    (edns : Option Edns)
    × AnswersEdns request.edns (nsid_for request.edns nsid) plain.metadata.response_code edns
    × Sends plain edns request.asked transport info reply

-- ---- what a message gives
-- A message is served as an update if its version of EDNS is served, it is no reply, and its opcode
-- is Update (RFC 2136, section 2.2).
abbrev pub is_query_type : MessageType → Bool
is_query_type messages.Query = true
is_query_type messages.Response = false

abbrev pub is_served_update : Message → Bool
is_served_update request =
    not (has_other_version request.edns)
    && (is_query_type request.metadata.message_type && is_update request.metadata.op_code)

-- A message is served as a query if its version of EDNS is served, it is no reply, and its opcode
-- is Query (RFC 1035, section 4.1.1).
abbrev pub is_query : OpCode → Bool
is_query operations.Query = true
is_query other = false

abbrev pub is_kind_of_query : Message → Bool
is_kind_of_query request =
    is_query_type request.metadata.message_type && is_query request.metadata.op_code

abbrev pub is_served_query : Message → Bool
is_served_query request = not (has_other_version request.edns) && is_kind_of_query request

-- The question of a message that is served as a query for a transfer. Of replies to queries, its
-- reply alone may be signed.
abbrev pub served_transfer : Message → Option Query
served_transfer request =
    if is_served_query request then transfer_question request.asked.questions else None

-- A message after it was served: the records of an update are taken out.
abbrev pub left_of : Message → Message
left_of request =
    if is_served_update request then record request { authorities = [] } else request

-- The outcome of an update, with the options of its reply.
abbrev pub UpdatesOf : List (DomainName × List View) → Option (List ℕ) → Keys → Message → SocketAddr
    → List ℕ → ℕ → Given → Type 0
UpdatesOf chains nsid keys request source octets moment given =
    (bare : Given)
    × GivesUpdate keys request source octets moment chains request.asked.questions bare
    × AnswersEdns request.edns (nsid_for request.edns nsid) bare.plain.metadata.response_code
    given.plain.edns
    × (given ≡ record bare { plain = with_edns given.plain.edns bare.plain })

-- The same of a message that is no update, which leaves the chains as they were.
abbrev pub GivesPlain : List (DomainName × List View) → Option (List ℕ) → Keys → Message
    → SocketAddr → List ℕ → ℕ → Given → Type 0
GivesPlain chains nsid keys request source octets moment given =
    (parts : ReplyParts)
    × PartsOf chains nsid (asked_of_transfer keys request source octets moment) request parts
    × (given ≡ record (only chains parts) {
      context = question_context chains (asked_of_transfer keys request source octets moment) moment
          (served_transfer request);
    })

-- A message from a source, in these octets, at a moment: the full reply, the context to sign it
-- with, if any, and the chains after it. Updates alone change them.
pub record GivesOf (chains : List (DomainName × List View)) (nsid : Option (List ℕ)) (keys : Keys)
    (request : Message) (source : SocketAddr) (octets : List ℕ) (moment : ℕ) (given : Given) : Type
    0 where
  pub update : is_served_update request ≡ true
      → UpdatesOf chains nsid keys request source octets moment given
  pub other : is_served_update request ≡ false
      → GivesPlain chains nsid keys request source octets moment given

-- The parts in place of a reply that no key signs: the server failed, with the same options.
abbrev pub failure_of : Message → Given → ReplyParts
failure_of request given =
    with_edns given.plain.edns (error_parts request.metadata responses.ServFail)

-- The octets of a reply to a message that is no update, and its header: of the parts that the
-- chains give, signed if they are to be, which read back if the chains do.
abbrev pub RepliesPlain : List (DomainName × List View) → Option (List ℕ) → Keys → Message
    → SocketAddr → List ℕ → ℕ → Protocol → Header → List ℕ → Type 0
RepliesPlain chains nsid keys request source octets moment transport info reply =
    (given : Given) × GivesPlain chains nsid keys request source octets moment given
    × (parts : ReplyParts)
    × SignsParts keys request.asked given.plain (failure_of request given) given.context parts
    × SendsParts parts request.asked transport info reply
    × (ChainsReadBack chains → AllReadBack parts)

-- The octets of a reply to a message, its header, and the chains after it: of the parts that the
-- chains give, signed if they are to be, which read back if the chains do.
abbrev pub RepliesBy : List (DomainName × List View) → Option (List ℕ) → Keys → Message → SocketAddr
    → List ℕ → ℕ → Protocol → Header → List ℕ → List (DomainName × List View) → Type 0
RepliesBy chains nsid keys request source octets moment transport info reply new =
    (given : Given) × GivesOf chains nsid keys request source octets moment given
    × (parts : ReplyParts)
    × SignsParts keys request.asked given.plain (failure_of request given) given.context parts
    × SendsParts parts request.asked transport info reply
    × (ChainsReadBack chains → AllReadBack parts) × (new ≡ given.chains)

-- No reply is sent. Nothing changed; or an update was accepted, and the chains are those after it.
abbrev pub RefusesBy : List (DomainName × List View) → Keys → Message → SocketAddr → List ℕ → ℕ
    → ServiceFault → List (DomainName × List View) → Type 0
RefusesBy chains keys request source octets moment (OutOfMemory false) new = new ≡ chains
RefusesBy chains keys request source octets moment (OutOfMemory true) new =
    (is_served_update request ≡ true)
    × RefusesUpdate keys request source octets moment chains (OutOfMemory true) new

-- A reply of these parts is sent with these options, signed if there is a context; if no key signs
-- it, the server failed. What is sent reads back if the parts and options do.
abbrev pub SendsSigned : Keys → Message → ReplyParts → Option SigningContext → Option Edns
    → Protocol → Header → List ℕ → Type 0
SendsSigned keys request plain context edns transport info reply =
    (parts : ReplyParts)
    × SignsParts keys request.asked (with_edns edns plain)
    (with_edns edns (error_parts request.metadata responses.ServFail)) context parts
    × SendsParts parts request.asked transport info reply
    × (AllReadBack (with_edns edns plain) → AllReadBack parts)

-- The octets of a reply to a query with these options, and its header: of the parts that the chains
-- give to its question, whatever its opcode, signed if they are to be.
abbrev pub AnswersQuery : List (DomainName × List View) → Keys → Message → SocketAddr → List ℕ → ℕ
    → Option Edns → Protocol → Header → List ℕ → Type 0
AnswersQuery chains keys request source octets moment edns transport info reply =
    (plain : ReplyParts)
    × QueryParts chains request.metadata (asks_for_dnssec request.edns)
    (asked_of_transfer keys request source octets moment) request.asked.questions plain
    × SendsSigned keys request plain
    (question_context chains (asked_of_transfer keys request source octets moment) moment
    (transfer_question request.asked.questions)) edns transport info reply
    × (ChainsReadBack chains → AllReadBack plain)
