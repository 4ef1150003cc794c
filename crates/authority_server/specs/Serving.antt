-- What a server answers: one message, and a list of them (RFC 1034, section 4.3.2; RFC 1035,
-- section 4.1; RFC 2136, section 3).
use Rattle.std.specs.Prelude.{◌≡◌, ℕ, ◌≤◌, true, false, List, [], ◌∷◌, length, Option, Some, None}
use Rattle.std.specs.Net.Socket.{socket_ip}
use Rattle.std.specs.declared.net.SocketAddr.{SocketAddr}
use Rattle.zsv_access.specs.Access.{is_allowed}
use Rattle.zsv_access.specs.declared.access.AccessControl.{AccessControl}
use Rattle.zsv_catalog.specs.Catalogs.{GivesOf, failure_of, is_served_update}
use Rattle.zsv_catalog.specs.ReadingBack.{ChainsReadBack}
use Rattle.zsv_catalog.specs.zsv_answer.zst_request.Updating.{SigningContext}
use Rattle.zsv_catalog.specs.zsv_answer.zst_request.Views.{View}
use Rattle.zsv_catalog.specs.zsv_answer.zst_request.dnw_name.DomainName.{DomainName}
use Rattle.zsv_catalog.specs.zsv_answer.zst_request.zst_codes.declared.response_code.ResponseCode.TheVariants as responses
use Rattle.zsv_catalog.specs.zsv_answer.zsv_reply.Replies.{IsReply, ReplyParts}
use Rattle.zsv_catalog.specs.zsv_answer.zsv_reply.Writing.{AllReadBack, error_parts}
use Rattle.zsv_catalog.specs.zsv_answer.zsv_reply.zsv_message.Messages.{IsMessage, Message}
use Rattle.zsv_catalog.specs.zsv_answer.zsv_request.Requests.{limit_of}
use Rattle.zsv_catalog.specs.zsv_answer.zsv_request.declared.protocol.Protocol.{Protocol}
use Rattle.zsv_catalog.specs.zsv_update.Keys.{Keys}
use Rattle.zsv_catalog.specs.zsv_update.Signing.{HasSignature}
use Rattle.zsv_catalog.specs.zsv_update.Updates.{Given, GivesUpdate, only}
use Rattle.authority_server.specs.declared.server.ServeError.{ServeError}
use Rattle.authority_server.specs.declared.server.ServeError.TheVariants as errors

-- What a server is: its access list, the keys that it shares with those who sign, its NSID, and its
-- zones: chains of what handlers mean, each registered under a name.
pub record World : Type 0 where
  pub access : AccessControl
  pub keys : Keys
  pub nsid : Option (List ℕ)
  pub chains : List (DomainName × List View)

-- A message as it arrived: its octets, its source, its transport and the time.
pub record Received : Type 0 where
  pub message : List ℕ
  pub source : SocketAddr
  pub transport : Protocol
  pub now : ℕ

-- Every record that the server holds reads back, and so what its replies hold.
pub record WorldReadsBack (world : World) : Type 0 where
  pub chains : ChainsReadBack world.chains

-- What a request gets: who isn't allowed to ask is refused, without options; all others get what
-- the zones give.
pub record Gives (world : World) (received : Received) (request : Message) (given : Given) : Type 0
  where
    pub refused : is_allowed world.access (socket_ip received.source) ≡ false
        → given ≡ only world.chains (error_parts request.metadata responses.Refused)
    pub answered : is_allowed world.access (socket_ip received.source) ≡ true
        → GivesOf world.chains world.nsid world.keys request received.source received.message
        received.now given

-- The octets are the reply of these parts within a limit. Only if the parts can't be read back, no
-- more is said of them.
abbrev pub IsReplyOf : Received → Message → ReplyParts → ℕ → List ℕ → Type 0
IsReplyOf received request parts limit reply =
    AllReadBack parts
    → IsReply received.message reply parts request.asked request.metadata.id limit

-- The parts that are sent: those that the request gets; if they are to be signed, with the
-- signature of the reply as it is without one in 65,535 octets (RFC 8945, section 5.3), or a
-- failure if no key signs it.
abbrev pub SendsGiven : World → Received → Message → Given → Option SigningContext → ReplyParts
    → Type 0
SendsGiven world received request given None parts = parts ≡ given.plain
SendsGiven world received request given (Some context) parts =
    (unsigned : List ℕ) × IsReplyOf received request given.plain 65535 unsigned
    × HasSignature (world.keys.signature context unsigned) given.plain (failure_of request given)
    parts

-- A reply to a request, of what it gets: within the limit of its transport. If all that the server
-- holds can be read back, so can all that the reply holds, and all that the server holds after it.
pub record Answers (world : World) (received : Received) (request : Message) (given : Given)
    (reply : List ℕ) : Type 0 where
  pub parts : ReplyParts
  pub gives : Gives world received request given
  pub sent : SendsGiven world received request given given.context parts
  pub within : length reply ≤ limit_of received.transport parts.edns
  pub back : WorldReadsBack world → AllReadBack parts
  pub kept : WorldReadsBack world → ChainsReadBack given.chains
  pub holds : IsReplyOf received request parts (limit_of received.transport parts.edns) reply

-- One message served: outside the request grammar there is no answer, and nothing changes; inside
-- it there is one reply, and of the server its zones may be others, by an update that was accepted.
abbrev pub Serves : World → Received → Option (List ℕ) → World → Type 0
Serves old received None new =
    ((request : Message) → IsMessage received.message request → ⊥) × (new ≡ old)
Serves old received (Some reply) new =
    (request : Message) × IsMessage received.message request
    × (given : Given) × Answers old received request given reply
    × (new ≡ record old { chains = given.chains })

-- Memory ran out: before an update was accepted nothing has changed; after that the zones are those
-- that it leaves, and the reply alone is missing.
abbrev pub Refuses : World → Received → ServeError → World → Type 0
Refuses old received (errors.OutOfMemory false) new =
    (12 ≤ length received.message) × (new ≡ old)
Refuses old received (errors.OutOfMemory true) new =
    (request : Message) × IsMessage received.message request
    × (is_allowed old.access (socket_ip received.source) ≡ true)
    × (is_served_update request ≡ true)
    × (given : Given)
    × GivesUpdate old.keys request received.source received.message received.now old.chains
    request.asked.questions given
    × (given.plain.metadata.response_code ≡ responses.NoError)
    × (new ≡ record old { chains = given.chains })

-- A list of messages served, one after the other.
abbrev pub ServesAll : World → List Received → List (Option (List ℕ)) → World → Type 0
ServesAll old [] [] new = new ≡ old
ServesAll old (received ∷ later) (answer ∷ answers) new =
    (middle : World) × Serves old received answer middle × ServesAll middle later answers new
ServesAll old [] (answer ∷ answers) new = ⊥
ServesAll old (received ∷ later) [] new = ⊥
