-- A reply has the identifier and the opcode of its request.
use Rattle.std.proofs.Common.{◌≡◌, ◌∙◌, refl, sym, ap}
use Rattle.std.proofs.lemmas.Bool.{true≢false}
use Rattle.std.specs.Prelude.{ℕ, Bool, true, false, not, ◌&&◌, List, [], ◌∷◌, Option, Some, None}
use Rattle.std.specs.declared.net.SocketAddr.{SocketAddr}
use Rattle.zsv_answer.specs.Forwarding.{ForwardedParts, resolved_parts}
use Rattle.zsv_answer.specs.Parts.{AuthoritativeParts, ChainParts, PartsAs}
use Rattle.zsv_answer.specs.Resolution.{Resolution, answering, no_such_name, no_such_type, not_here, resolved}
use Rattle.zsv_answer.specs.Transferring.{transfer_parts, transferring, zone_parts}
use Rattle.zsv_answer.specs.zst_request.Transfers.{transfer_of, transfer_refused}
use Rattle.zsv_answer.specs.zst_request.Updating.{Asked, SigningContext}
use Rattle.zsv_answer.specs.zst_request.zst_codes.declared.response_code.ResponseCode.{ResponseCode}
use Rattle.zsv_answer.specs.zst_request.zst_handler.Zones.{Zone}
use Rattle.zsv_answer.specs.zsv_reply.zst_record.declared.records.Record.{Record}
use Rattle.zsv_answer.specs.zst_request.Views.{View, zone_type_of}
use Rattle.zsv_answer.specs.zst_request.dnw_codes.declared.record_type.RecordType.{RecordType}
use Rattle.zsv_answer.specs.zst_request.dnw_codes.declared.record_type.RecordType.TheVariants.{AXFR, SOA}
use Rattle.zsv_answer.specs.zst_request.dnw_codes.RecordType.{same_record_type}
use Rattle.zsv_answer.specs.zst_request.dnw_name.DomainName.{DomainName}
use Rattle.zsv_answer.specs.zst_request.zst_codes.declared.settings.ZoneType.{ZoneType}
use Rattle.zsv_answer.specs.zst_request.zst_codes.declared.settings.ZoneType.TheVariants as zones
use Rattle.zsv_answer.specs.zsv_reply.Replies.{ReplyParts}
use Rattle.zsv_answer.specs.zsv_reply.zsv_message.Messages.{Message, is_update}
use Rattle.zsv_answer.specs.zsv_reply.zsv_message.zsv_parts.declared.header.MessageType.{MessageType}
use Rattle.zsv_answer.specs.zsv_reply.zsv_message.zsv_parts.declared.header.MessageType.TheVariants as messages
use Rattle.zsv_answer.specs.zsv_reply.zsv_message.zsv_parts.declared.header.Metadata.{Metadata}
use Rattle.zsv_answer.specs.zsv_reply.zsv_message.zsv_parts.declared.header.OpCode.{OpCode}
use Rattle.zsv_answer.specs.zsv_reply.zsv_message.zsv_parts.declared.header.OpCode.TheVariants as operations
use Rattle.zsv_answer.specs.zsv_reply.zsv_message.zsv_parts.declared.question.Query.{Query}
use Rattle.zsv_catalog.specs.Catalogs.{GivesOf, KindParts, OperationParts, PartsOf, PlainParts, QueryParts, QuestionParts, asked_of_transfer, asks_for_dnssec, entry_parts, failure_of, is_query_type, is_served_update}
use Rattle.zsv_update.specs.Keys.{Keys, Signature}
use Rattle.zsv_update.specs.Options.{has_other_version}
use Rattle.zsv_update.specs.Signing.{HasSignature, SignsParts}
use Rattle.zsv_update.specs.Updates.{ChainUpdates, Given, GivesUpdate, ZoneUpdates}
use Rattle.zsv_update.specs.zsv_chains.Chains.{chain_for, entry_for}

-- What a reply repeats of its request.
abbrev pub Repeated : Type 0
Repeated = ℕ × OpCode

abbrev pub repeated_of : ReplyParts → Repeated
repeated_of parts = (parts.metadata.id, parts.metadata.op_code)

abbrev pub own : Metadata → Repeated
own m = (m.id, m.op_code)

authoritative_id : (view : View) (m : Metadata) (d : Bool) (name : DomainName) (t : RecordType) (resolution : Resolution) (parts : ReplyParts) → AuthoritativeParts view m d name t resolution parts → repeated_of parts ≡ own m
authoritative_id view m d name t (resolved answers additionals) parts is = ap repeated_of is.2
authoritative_id view m d name t no_such_type parts is = ap repeated_of is.4
authoritative_id view m d name t no_such_name parts is = ap repeated_of is.4
authoritative_id view m d name t (not_here code) parts is = ap repeated_of is

resolved_id : (m : Metadata) (d : Bool) (t : RecordType) (resolution : Resolution) (parts : ReplyParts) → parts ≡ resolved_parts m d t resolution → repeated_of parts ≡ own m
resolved_id m d t (resolved answers additionals) parts is = ap repeated_of is
resolved_id m d t no_such_type parts is = ap repeated_of is
resolved_id m d t no_such_name parts is = ap repeated_of is
resolved_id m d t (not_here code) parts is = ap repeated_of is

forwarded_id : (m : Metadata) (d : Bool) (t : RecordType) (resolution : Resolution) (parts : ReplyParts) → ForwardedParts m d t resolution parts → repeated_of parts ≡ own m
forwarded_id m d t resolution parts is = by m.recursion_desired refl
  where
    by : (b : Bool) → m.recursion_desired ≡ b → repeated_of parts ≡ own m
    by false e = ap repeated_of (is.0 e)
    by true e = resolved_id m d t resolution parts (is.1 e)

as_id : (kind : ZoneType) (view : View) (m : Metadata) (d : Bool) (name : DomainName) (t : RecordType) (resolution : Resolution) (parts : ReplyParts) → PartsAs kind view m d name t resolution parts → repeated_of parts ≡ own m
as_id zones.Primary view m d name t resolution parts is = authoritative_id view m d name t resolution parts is
as_id zones.Secondary view m d name t resolution parts is = authoritative_id view m d name t resolution parts is
as_id zones.External view m d name t resolution parts is = forwarded_id m d t resolution parts is

chain_id : (chain : List View) (m : Metadata) (d : Bool) (name : DomainName) (t : RecordType) (parts : ReplyParts) → ChainParts chain m d name t parts → repeated_of parts ≡ own m
chain_id chain m d name t parts is = by (answering chain name) refl
  where
    by : (o : Option View) → answering chain name ≡ o → repeated_of parts ≡ own m
    by None e = ap repeated_of (is.nobody e)
    by (Some view) e =
        let (resolution, resolves, shown) = is.somebody view e in
        as_id (zone_type_of view) view m d name t resolution parts shown

transfer_id : (m : Metadata) (refused : Option ResponseCode) (rs : List Record) → repeated_of (transfer_parts m refused rs) ≡ own m
transfer_id m None rs = refl
transfer_id m (Some code) rs = refl

zone_id : (m : Metadata) (d : Bool) (asked : Asked) (zone : Option Zone) → repeated_of (zone_parts m d asked zone) ≡ own m
zone_id m d asked None = refl
zone_id m d asked (Some zone) = transfer_id m (transfer_refused zone asked) (transfer_of zone d)

entry_id : (m : Metadata) (d : Bool) (asks : DomainName → Asked) (entry : Option (DomainName × List View)) → repeated_of (entry_parts m d asks entry) ≡ own m
entry_id m d asks None = refl
entry_id m d asks (Some (zone, chain)) = zone_id m d (asks zone) (transferring chain)

question_id : (chains : List (DomainName × List View)) (m : Metadata) (d : Bool) (asks : DomainName → Asked) (q : Query) (parts : ReplyParts) → QuestionParts chains m d asks q parts → repeated_of parts ≡ own m
question_id chains m d asks q parts is = by (same_record_type q.query_type AXFR) refl (chain_for chains q.name) refl
  where
    by : (b : Bool) → same_record_type q.query_type AXFR ≡ b → (o : Option (List View)) → chain_for chains q.name ≡ o → repeated_of parts ≡ own m
    by true e o at = ap repeated_of (is.transfer e) ∙ entry_id m d asks (entry_for chains q.name)
    by false e None at = ap repeated_of (is.no_chain at)
    by false e (Some chain) at = chain_id chain m d q.name q.query_type parts (is.looked_up chain at e)

query_id : (chains : List (DomainName × List View)) (m : Metadata) (d : Bool) (asks : Query → DomainName → Asked) (qs : List Query) (parts : ReplyParts) → QueryParts chains m d asks qs parts → repeated_of parts ≡ own m
query_id chains m d asks [] parts is = ap repeated_of is
query_id chains m d asks (q ∷ []) parts is = question_id chains m d (asks q) q parts is
query_id chains m d asks (q ∷ r ∷ qs) parts is = ap repeated_of is

operation_id : (chains : List (DomainName × List View)) (m : Metadata) (d : Bool) (asks : Query → DomainName → Asked) (operation : OpCode) (qs : List Query) (parts : ReplyParts) → OperationParts chains m d asks operation qs parts → repeated_of parts ≡ own m
operation_id chains m d asks operations.Query qs parts is = query_id chains m d asks qs parts is
operation_id chains m d asks other qs parts is = ap repeated_of is

kind_id : (chains : List (DomainName × List View)) (m : Metadata) (d : Bool) (asks : Query → DomainName → Asked) (kind : MessageType) (qs : List Query) (parts : ReplyParts) → KindParts chains m d asks kind qs parts → repeated_of parts ≡ own m
kind_id chains m d asks messages.Response qs parts is = ap repeated_of is
kind_id chains m d asks messages.Query qs parts is = operation_id chains m d asks m.op_code qs parts is

pub plain_id : (chains : List (DomainName × List View)) (asks : Query → DomainName → Asked) (request : Message) (parts : ReplyParts) → PlainParts chains asks request parts → repeated_of parts ≡ own request.metadata
plain_id chains asks request parts is = by (has_other_version request.edns) refl
  where
    by : (b : Bool) → has_other_version request.edns ≡ b → repeated_of parts ≡ own request.metadata
    by true e = ap repeated_of (is.other_version e)
    by false e = kind_id chains request.metadata (asks_for_dnssec request.edns) asks request.metadata.message_type request.asked.questions parts (is.answered e)

parts_id : (chains : List (DomainName × List View)) (nsid : Option (List ℕ)) (asks : Query → DomainName → Asked) (request : Message) (parts : ReplyParts) → PartsOf chains nsid asks request parts → repeated_of parts ≡ own request.metadata
parts_id chains nsid asks request parts is = ap repeated_of is.whole ∙ plain_id chains asks request is.plain is.gives

-- ---- updates
third : (a b c : Bool) → (not a && (b && c)) ≡ true → c ≡ true
third true b c is = absurd (true≢false (sym is))
third false true c is = is
third false false c is = absurd (true≢false (sym is))

update_code : (operation : OpCode) → is_update operation ≡ true → operation ≡ operations.Update
update_code operations.Update is = refl
update_code other is = absurd (true≢false (sym is))

pub update_operation : (request : Message) → is_served_update request ≡ true → request.metadata.op_code ≡ operations.Update
update_operation request served = update_code request.metadata.op_code (third (has_other_version request.edns) (is_query_type request.metadata.message_type) (is_update request.metadata.op_code) served)

module _ (keys : Keys) (request : Message) (source : SocketAddr) (octets : List ℕ) (moment : ℕ) (chains : List (DomainName × List View)) (given : Given) (served : is_served_update request ≡ true) where
  chain_update_id : (q : Query) (found : Option (DomainName × List View)) → ChainUpdates keys request source octets moment chains q found given → repeated_of given.plain ≡ own request.metadata
  chain_update_id q None is = ap (λ (g : Given). repeated_of g.plain) is
  chain_update_id q (Some (zone, [])) is = ap (λ (g : Given). repeated_of g.plain) is
  chain_update_id q (Some (zone, view ∷ views)) (code, left, handles, plain, after) =
      ap repeated_of plain ∙ ap (λ (operation : OpCode). (request.metadata.id, operation)) (sym (update_operation request served))

  zone_update_id : (b : Bool) (q : Query) → ZoneUpdates keys request source octets moment b chains q given → repeated_of given.plain ≡ own request.metadata
  zone_update_id true q is = chain_update_id q (entry_for chains q.name) is
  zone_update_id false q is = ap (λ (g : Given). repeated_of g.plain) is

  update_id : (qs : List Query) → GivesUpdate keys request source octets moment chains qs given → repeated_of given.plain ≡ own request.metadata
  update_id [] is = ap (λ (g : Given). repeated_of g.plain) is
  update_id (q ∷ []) is = zone_update_id (same_record_type q.query_type SOA) q is
  update_id (q ∷ r ∷ qs) is = ap (λ (g : Given). repeated_of g.plain) is

-- ---- all messages
pub given_id : (chains : List (DomainName × List View)) (nsid : Option (List ℕ)) (keys : Keys) (request : Message) (source : SocketAddr) (octets : List ℕ) (moment : ℕ) (given : Given) → GivesOf chains nsid keys request source octets moment given
    → repeated_of given.plain ≡ own request.metadata
given_id chains nsid keys request source octets moment given gives = by (is_served_update request) refl
  where
    by : (b : Bool) → is_served_update request ≡ b → repeated_of given.plain ≡ own request.metadata
    by true e =
        let (bare, updates, answers, whole) = gives.update e in
        ap (λ (g : Given). repeated_of g.plain) whole ∙ update_id keys request source octets moment chains bare e request.asked.questions updates
    by false e =
        let (parts, is, whole) = gives.other e in
        ap (λ (g : Given). repeated_of g.plain) whole ∙ parts_id chains nsid (asked_of_transfer keys request source octets moment) request parts is

-- A signature changes nothing of what a reply repeats.
signed_id : (found : Option Signature) (plain failure parts : ReplyParts) (m : Metadata) → repeated_of plain ≡ own m → repeated_of failure ≡ own m → HasSignature found plain failure parts → repeated_of parts ≡ own m
signed_id None plain failure parts m first second is = ap repeated_of is ∙ second
signed_id (Some signature) plain failure parts m first second (tsig, same, back, is) = ap repeated_of is ∙ first

pub sent_id : (keys : Keys) (request : Message) (given : Given) (context : Option SigningContext) (parts : ReplyParts) → repeated_of given.plain ≡ own request.metadata
    → SignsParts keys request.asked given.plain (failure_of request given) context parts → repeated_of parts ≡ own request.metadata
sent_id keys request given None parts repeated is = ap repeated_of is ∙ repeated
sent_id keys request given (Some context) parts repeated (info, unsigned, over, is) =
    signed_id (keys.signature context unsigned) given.plain (failure_of request given) parts request.metadata repeated refl is
