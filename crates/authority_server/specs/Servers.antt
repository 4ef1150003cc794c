-- The server's own values, as the definitions of serving see them.
use Rattle.std.specs.Prelude.{◌≡◌, ℕ, true, false, List, [], None}
use Rattle.std.specs.List.{AllByRecursion}
use Rattle.std.specs.Net.Socket.{socket_ip}
use Rattle.std.proofs.Common.{Vec, Global}
use Rattle.authority_server.specs.declared.server.Authority.{Authority}
use Rattle.authority_server.specs.declared.server.ServeError.{ServeError}
use Rattle.authority_server.specs.declared.server.ServeError.TheVariants as errors
use Rattle.authority_server.specs.Serving.{Gives, Received, World, WorldReadsBack}
use Rattle.zsv_access.specs.Access.{is_allowed, no_networks}
use Rattle.zsv_catalog.specs.Catalogs.{RefusesBy, failure_of}
use Rattle.zsv_catalog.specs.Chains.{views_of, with_chain, without_chain}
use Rattle.zsv_catalog.specs.zsv_answer.zst_request.Views.{Blocked, Stored, View}
use Rattle.zsv_catalog.specs.zsv_answer.zst_request.dnw_name.DomainName.{DomainName}
use Rattle.zsv_catalog.specs.zsv_answer.zsv_reply.Replies.{ReplyParts}
use Rattle.zsv_catalog.specs.zsv_answer.zsv_reply.Writing.{AllReadBack, SendsParts}
use Rattle.zsv_catalog.specs.zsv_answer.zsv_reply.zsv_message.Messages.{Message}
use Rattle.zsv_catalog.specs.zsv_answer.zsv_reply.zsv_message.zsv_parts.declared.header.Header.{Header}
use Rattle.zsv_catalog.specs.zsv_update.Keys.{Keys}
use Rattle.zsv_catalog.specs.zsv_update.Signing.{SignsParts}
use Rattle.zsv_catalog.specs.zsv_update.Updates.{Given}
use Rattle.zsv_catalog.specs.zsv_update.declared.received.Received.{Received as Arrived}
use Rattle.zsv_catalog.specs.zsv_update.declared.update.ServiceFault.{ServiceFault}
use Rattle.zsv_catalog.specs.zsv_update.declared.update.ServiceFault.TheVariants as faults

-- The chains of a server, each under its name.
abbrev pub chains_of : {S H : Type 0} → Authority S H → List (DomainName × Vec H Global)
chains_of server = server.catalog.chains.chains

-- What a server is, by what its handlers mean.
abbrev pub world_of : {S H : Type 0} → (S → Keys) → (H → View) → Authority S H → World
world_of keys view server = record {
  access = server.access;
  keys = keys server.catalog.suite;
  nsid = server.catalog.nsid;
  chains = views_of view (chains_of server);
}

-- A server that every address may ask, without an identifier and without zones.
abbrev pub no_zones : Keys → World
no_zones keys = record { access = no_networks; keys = keys; nsid = None; chains = [] }

-- A chain in place of the one under a name.
abbrev pub with_zones : World → DomainName → List View → World
with_zones world name chain = record world { chains = with_chain world.chains name chain }

-- All chains but the one under a name.
abbrev pub without_zones : World → DomainName → World
without_zones world name = record world { chains = without_chain world.chains name }

-- The octets of a reply to a request, its header, and the server after it: of what the request
-- gets, signed if it is to be, which reads back if the server's zones do.
abbrev pub SendsReply : World → Received → Message → Header → List ℕ → World → Type 0
SendsReply old received request info reply new =
    (given : Given) × Gives old received request given
    × (parts : ReplyParts)
    × SignsParts old.keys request.asked given.plain (failure_of request given) given.context parts
    × SendsParts parts request.asked received.transport info reply
    × (WorldReadsBack old → AllReadBack parts) × (new ≡ record old { chains = given.chains })

-- No reply is sent to a request that isn't refused: nothing changed, or an update was accepted.
abbrev pub RefusesReply : World → Received → Message → ServiceFault → World → Type 0
RefusesReply old received request (faults.OutOfMemory false) new = new ≡ old
RefusesReply old received request (faults.OutOfMemory true) new =
    (is_allowed old.access (socket_ip received.source) ≡ true)
    × (chains : List (DomainName × List View))
    × RefusesBy old.chains old.keys request received.source received.message received.now
    (faults.OutOfMemory true) chains
    × (new ≡ record old { chains = chains })

abbrev pub error_of : ServiceFault → ServeError
error_of (faults.OutOfMemory applied) = errors.OutOfMemory applied

-- A message as the catalog gets it, without its loans.
abbrev pub arrived : Arrived → Received
arrived a = record {
  message = a.octets.now;
  source = a.source;
  transport = a.protocol;
  now = a.now;
}

-- No zone takes updates.
abbrev pub IsUnguarded : View → Type 0
IsUnguarded (Stored zone) = zone.guard ≡ None
IsUnguarded (Blocked blocklist) = Unit {0}

abbrev pub AreUnguarded : List (DomainName × List View) → Type 0
AreUnguarded chains = AllByRecursion (λ entry. AllByRecursion IsUnguarded entry.1) chains
