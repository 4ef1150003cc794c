-- Requests, as they came: RFC 1035, section 4.2; RFC 6891, section 6.2.5.
use Rattle.std.specs.Prelude.{◌≡◌, ℕ, List, [], ◌∷◌, length, Option, Result, Ok, Err}
use Rattle.std.specs.declared.net.SocketAddr.{SocketAddr}
use Rattle.zsv_message.specs.zst_edns.declared.edns.Edns.{Edns}
use Rattle.zsv_message.specs.zst_edns.zst_codes.declared.lookup_error.LookupError.{LookupError}
use Rattle.zsv_message.specs.zst_edns.zst_codes.declared.lookup_error.LookupError.TheVariants.{BadQueryCount}
use Rattle.zsv_message.specs.zst_record.dnw_codes.declared.error.DecodeError.TheVariants as causes
use Rattle.zsv_message.specs.zst_record.dnw_codes.declared.error.ProtoError.{ProtoError}
use Rattle.zsv_message.specs.zst_record.dnw_codes.declared.error.ProtoError.TheVariants as failures
use Rattle.zsv_message.specs.zst_record.dnw_decoder.Reading.{IsWantOfMemory}
use Rattle.zsv_message.specs.zsv_parts.declared.question.Query.{Query}
use Rattle.zsv_message.specs.Messages.{Message, ReadsMessage, payload_taken}
use Rattle.zsv_request.specs.declared.protocol.Protocol.{Protocol}
use Rattle.zsv_request.specs.declared.protocol.Protocol.TheVariants as protocols
use Rattle.zsv_request.specs.declared.request_info.RequestInfo.{RequestInfo}

-- How long a reply may be (RFC 1035, sections 4.2.1 and 4.2.2): of a datagram as long as the sender
-- says that it takes (RFC 6891, section 6.2.5).
abbrev pub limit_of : Protocol → Option Edns → ℕ
limit_of protocols.Udp edns = payload_taken edns
limit_of protocols.Tcp edns = 65535

-- A message with its octets, who sent it and how.
pub record Requested : Type 0 where
  pub message : Message
  pub octets : List ℕ
  pub source : SocketAddr
  pub transport : Protocol

abbrev pub requested : Message → List ℕ → SocketAddr → Protocol → Requested
requested message octets source transport = record {
  message = message;
  octets = octets;
  source = source;
  transport = transport;
}

-- What reading a request answers, both ways: as its octets are read, want of memory apart.
abbrev pub ReadsRequest : List ℕ → SocketAddr → Protocol → Result Requested ProtoError → Type 0
ReadsRequest octets source transport (Ok request) =
    ReadsMessage octets (Ok request.message)
    × (request ≡ requested request.message octets source transport)
ReadsRequest octets source transport (Err (failures.Decode e)) =
    ReadsMessage octets (Err e) × (IsWantOfMemory e → ⊥)
ReadsRequest octets source transport (Err (failures.Memory cause)) =
    ReadsMessage octets (Err causes.Memory)
ReadsRequest octets source transport (Err other) = ⊥

-- One question is asked.
abbrev pub AsksOne : List Query → Query → Type 0
AsksOne questions query = questions ≡ query ∷ []

-- Another number of them, as the error says.
abbrev pub CountsQueries : List Query → LookupError → Type 0
CountsQueries questions e =
    (e ≡ BadQueryCount (length questions)) × (length questions ≡ 1 → ⊥)

-- What is told of a request with one question.
pub record InformsOf (request : Requested) (info : RequestInfo) : Type 0 where
  pub src : info.src ≡ request.source
  pub protocol : info.protocol ≡ request.transport
  pub metadata : info.metadata ≡ request.message.metadata
  pub query : AsksOne request.message.asked.questions info.query.now
