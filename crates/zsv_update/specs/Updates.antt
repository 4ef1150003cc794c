-- What a server makes of an update: RFC 2136, sections 3.1 and 3.8.
use Rattle.std.specs.Prelude.{◌≡◌, ℕ, Bool, true, false, List, [], ◌∷◌, Option, Some, None, Result, Ok, Err, option_map}
use Rattle.std.specs.declared.net.SocketAddr.{SocketAddr}
use Rattle.zsv_chains.specs.Chains.{entry_for, with_chain_at}
use Rattle.zsv_chains.specs.zst_request.Updating.{Asked, SignedBy, SigningContext, UpdatesView, update_context}
use Rattle.zsv_chains.specs.zst_request.Views.{View, zone_type_of}
use Rattle.zsv_chains.specs.zst_request.dnw_codes.RecordType.{same_record_type}
use Rattle.zsv_chains.specs.zst_request.dnw_codes.declared.record_type.RecordType.TheVariants as types
use Rattle.zsv_chains.specs.zst_request.dnw_name.DomainName.{DomainName}
use Rattle.zsv_chains.specs.zst_request.zst_codes.declared.response_code.ResponseCode.{ResponseCode}
use Rattle.zsv_chains.specs.zst_request.zst_codes.declared.response_code.ResponseCode.TheVariants as responses
use Rattle.zsv_chains.specs.zst_request.zst_codes.declared.settings.TsigVerdict.{TsigVerdict}
use Rattle.zsv_chains.specs.zst_request.zst_codes.declared.settings.TsigVerdict.TheVariants as verdicts
use Rattle.zsv_chains.specs.zst_request.zst_codes.declared.settings.ZoneType.{ZoneType}
use Rattle.zsv_chains.specs.zst_request.zst_codes.declared.settings.ZoneType.TheVariants as zones
use Rattle.zsv_reply.specs.Replies.{ReplyParts}
use Rattle.zsv_reply.specs.Writing.{bare_parts, error_parts}
use Rattle.zsv_reply.specs.zsv_message.Messages.{Message}
use Rattle.zsv_reply.specs.zst_record.declared.records.Record.{Record}
use Rattle.zsv_reply.specs.zsv_message.zsv_parts.Headers.{plain_metadata}
use Rattle.zsv_reply.specs.zsv_message.zsv_parts.declared.header.Metadata.{Metadata}
use Rattle.zsv_reply.specs.zsv_message.zsv_parts.declared.header.MessageType.TheVariants as messages
use Rattle.zsv_reply.specs.zsv_message.zsv_parts.declared.header.OpCode.TheVariants as operations
use Rattle.zsv_reply.specs.zsv_message.zsv_parts.declared.question.Query.{Query}
use Rattle.zsv_reply.specs.zsv_message.zsv_parts.declared.tsig.TsigRecord.{TsigRecord}
use Rattle.zsv_update.specs.Keys.{Keys, signature_of}

-- ---- the question to the first handler
-- The zone section names one zone, with type SOA (RFC 2136, section 2.3).
abbrev pub names_zone : List Query → Bool
names_zone (q ∷ []) = same_record_type q.query_type types.SOA
names_zone other = false

-- A message with these records in its update section (RFC 2136, section 2.5).
abbrev pub with_updates : Message → List Record → Message
with_updates request updates = record request { authorities = updates }

-- Who signed a message, by its TSIG (RFC 8945, section 4.2).
abbrev pub signer_of : TsigRecord → SignedBy
signer_of r = record { key_name = r.name; algorithm = r.rdata.algorithm; mac = r.rdata.mac.items }

-- Of an unsigned message the keys are asked nothing.
abbrev pub verdict_on : Keys → DomainName → List ℕ → ℕ → Option TsigRecord → TsigVerdict
verdict_on keys zone octets moment None = verdicts.UnknownKey
verdict_on keys zone octets moment (Some r) = keys.verdict zone (signature_of r) octets moment

-- ---- the outcome
-- The full reply to a message, the context to sign it with, if any, and the chains after it.
pub record Given : Type 0 where
  pub plain : ReplyParts
  pub context : Option SigningContext
  pub chains : List (DomainName × List View)

-- Unsigned parts, and nothing changed.
abbrev pub only : List (DomainName × List View) → ReplyParts → Given
only chains parts = record { plain = parts; context = None; chains = chains }

abbrev pub outcome_code : Result Bool ResponseCode → ResponseCode
outcome_code (Ok changed) = responses.NoError
outcome_code (Err code) = code

-- The reply to an update that its zone decides repeats the identifier alone (RFC 2136, section
-- 3.8).
abbrev pub outcome_metadata : Metadata → ResponseCode → Metadata
outcome_metadata m code = record (plain_metadata m.id messages.Response operations.Update) {
  response_code = code;
}

abbrev pub outcome_parts : Metadata → ResponseCode → ReplyParts
outcome_parts m code = bare_parts (outcome_metadata m code)

-- A primary zone's handler alone is asked (RFC 2136, section 3.1.2).
abbrev pub HandlesUpdate : ZoneType → View → Asked → ℕ → ResponseCode → Option SigningContext → View
    → Type 0
HandlesUpdate zones.Primary view asked moment code context left =
    (outcome : Result Bool ResponseCode) × UpdatesView view asked outcome left
    × (code ≡ outcome_code outcome) × (context ≡ update_context view asked moment)
HandlesUpdate zones.Secondary view asked moment code context left =
    (code ≡ responses.NotImp) × (context ≡ None) × (left ≡ view)
HandlesUpdate zones.External view asked moment code context left =
    (code ≡ responses.NotAuth) × (context ≡ None) × (left ≡ view)

-- A message, its source, its octets as they arrived, and the moment.
module _ (keys : Keys) (request : Message) (source : SocketAddr) (octets : List ℕ) (moment : ℕ)
  where
    -- The question to a handler. The keys are asked with the registered name of the zone, the TSIG,
    -- all octets of the message, and the moment.
    abbrev pub asked_of_update : Query → DomainName → Asked
    asked_of_update q zone = record {
      name = q.name;
      query_type = q.query_type;
      id = request.metadata.id;
      source = source;
      signed = option_map signer_of request.signature;
      verdict = verdict_on keys zone octets moment request.signature;
      prerequisites = request.answers;
      updates = request.authorities;
    }

    -- The first handler of the chain found decides; without one the server fails.
    abbrev pub ChainUpdates : List (DomainName × List View) → Query
        → Option (DomainName × List View) → Given → Type 0
    ChainUpdates chains q None given =
        given ≡ only chains (error_parts request.metadata responses.ServFail)
    ChainUpdates chains q (Some (zone, [])) given =
        given ≡ only chains (error_parts request.metadata responses.ServFail)
    ChainUpdates chains q (Some (zone, view ∷ views)) given =
        (code : ResponseCode) × (left : View)
        × HandlesUpdate (zone_type_of view) view (asked_of_update q zone) moment code given.context
        left
        × (given.plain ≡ outcome_parts request.metadata code)
        × (given.chains ≡ with_chain_at chains zone (left ∷ views))

    -- The zone section names the zone with type SOA, or is a format error (RFC 2136, section 2.3).
    abbrev pub ZoneUpdates : Bool → List (DomainName × List View) → Query → Given → Type 0
    ZoneUpdates true chains q given = ChainUpdates chains q (entry_for chains q.name) given
    ZoneUpdates false chains q given =
        given ≡ only chains (error_parts request.metadata responses.FormErr)

    -- It names one zone.
    abbrev pub GivesUpdate : List (DomainName × List View) → List Query → Given → Type 0
    GivesUpdate chains [] given =
        given ≡ only chains (error_parts request.metadata responses.FormErr)
    GivesUpdate chains (q ∷ []) given =
        ZoneUpdates (same_record_type q.query_type types.SOA) chains q given
    GivesUpdate chains (q ∷ r ∷ qs) given =
        given ≡ only chains (error_parts request.metadata responses.FormErr)
