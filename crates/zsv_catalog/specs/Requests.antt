-- Requests that are lent: their updates apply copies of the records (RFC 2136, section 3.4.2).
use Rattle.std.specs.Prelude.{◌≡◌, ℕ, true, false, List, [], ◌∷◌, Option}
use Rattle.zsv_answer.specs.zst_request.Views.{View}
use Rattle.zsv_answer.specs.zsv_reply.drd_rdata.Order.{rdata_eq}
use Rattle.zsv_answer.specs.zst_request.dnw_name.DomainName.{DomainName}
use Rattle.zsv_answer.specs.zsv_reply.Replies.{ReplyParts}
use Rattle.zsv_answer.specs.zsv_reply.Writing.{SendsParts}
use Rattle.zsv_answer.specs.zsv_reply.zsv_message.zst_edns.declared.edns.Edns.{Edns}
use Rattle.zsv_answer.specs.zsv_reply.zst_record.Records.{IsServable}
use Rattle.zsv_answer.specs.zsv_reply.zst_record.declared.records.Record.{Record}
use Rattle.zsv_answer.specs.zsv_reply.zsv_message.zsv_parts.declared.header.Header.{Header}
use Rattle.zsv_answer.specs.zsv_request.Requests.{Requested}
use Rattle.zsv_update.specs.Keys.{Keys}
use Rattle.zsv_update.specs.Replying.{RefusesUpdate, RepliesWith}
use Rattle.zsv_update.specs.Updates.{with_updates}
use Rattle.zsv_update.specs.declared.update.ServiceFault.{ServiceFault}
use Rattle.zsv_update.specs.declared.update.ServiceFault.TheVariants.{OutOfMemory}
use Rattle.zsv_catalog.specs.Catalogs.{RefusesBy, RepliesBy, is_served_update}

-- A copy of a record: the same owner, class and time to live, and equal RDATA; it can be served if
-- the record can.
pub record IsCopy (r copy : Record) : Type 0 where
  pub name : copy.name ≡ r.name
  pub dns_class : copy.dns_class ≡ r.dns_class
  pub ttl : copy.ttl ≡ r.ttl
  pub rdata : rdata_eq copy.rdata r.rdata ≡ true
  pub servable : IsServable r → IsServable copy

abbrev pub AreCopies : List Record → List Record → Type 0
AreCopies [] [] = Unit {0}
AreCopies (r ∷ rs) (copy ∷ copies) = IsCopy r copy × AreCopies rs copies
AreCopies rs copies = ⊥

-- A request at a moment: its reply, the header of it, and the chains after it.
abbrev pub RepliesToRequest : List (DomainName × List View) → Option (List ℕ) → Keys → Requested → ℕ
    → Header → List ℕ → List (DomainName × List View) → Type 0
RepliesToRequest chains nsid keys request moment info reply new =
    (updates : List Record)
    × (is_served_update request.message ≡ true → AreCopies request.message.authorities updates)
    × RepliesBy chains nsid keys (with_updates request.message updates) request.source
    request.octets moment request.transport info reply new

-- No reply is sent. Nothing changed; or an update was accepted.
abbrev pub RefusesRequest : List (DomainName × List View) → Keys → Requested → ℕ → ServiceFault
    → List (DomainName × List View) → Type 0
RefusesRequest chains keys request moment (OutOfMemory false) new = new ≡ chains
RefusesRequest chains keys request moment (OutOfMemory true) new =
    (updates : List Record) × AreCopies request.message.authorities updates
    × RefusesBy chains keys (with_updates request.message updates) request.source request.octets
    moment (OutOfMemory true) new

-- The same, of a request that is served as an update whatever its opcode, with these options.
abbrev pub AnswersUpdate : List (DomainName × List View) → Keys → Requested → Option Edns → ℕ
    → Header → List ℕ → List (DomainName × List View) → Type 0
AnswersUpdate chains keys request edns moment info reply new =
    (updates : List Record) × AreCopies request.message.authorities updates
    × (parts : ReplyParts)
    × RepliesWith keys (with_updates request.message updates) request.source request.octets moment
    chains edns parts new
    × SendsParts parts request.message.asked request.transport info reply

abbrev pub RefusesAsUpdate : List (DomainName × List View) → Keys → Requested → ℕ → ServiceFault
    → List (DomainName × List View) → Type 0
RefusesAsUpdate chains keys request moment (OutOfMemory false) new = new ≡ chains
RefusesAsUpdate chains keys request moment (OutOfMemory true) new =
    (updates : List Record) × AreCopies request.message.authorities updates
    × RefusesUpdate keys (with_updates request.message updates) request.source request.octets moment
    chains (OutOfMemory true) new
