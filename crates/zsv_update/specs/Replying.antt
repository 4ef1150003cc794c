-- The reply to an update, and the chains after it: RFC 2136, section 3; RFC 8945, section 5.3.
use Rattle.std.specs.Prelude.{◌≡◌, ℕ, true, false, List, Option, option_to_list}
use Rattle.std.specs.List.{AllByRecursion}
use Rattle.std.specs.declared.net.SocketAddr.{SocketAddr}
use Rattle.zsv_chains.specs.zst_request.Updating.{SigningContext}
use Rattle.zsv_chains.specs.zst_request.Views.{View}
use Rattle.zsv_chains.specs.zst_request.dnw_name.DomainName.{DomainName}
use Rattle.zsv_chains.specs.zst_request.zst_codes.declared.response_code.ResponseCode.TheVariants as responses
use Rattle.zsv_reply.specs.Replies.{ReplyParts}
use Rattle.zsv_reply.specs.Writing.{AllReadBack, error_parts, with_edns}
use Rattle.zsv_reply.specs.zsv_message.Messages.{Message}
use Rattle.zsv_reply.specs.zsv_message.zst_edns.Writing.{EdnsReadsBack}
use Rattle.zsv_reply.specs.zsv_message.zst_edns.declared.edns.Edns.{Edns}
use Rattle.zsv_update.specs.Keys.{Keys}
use Rattle.zsv_update.specs.Options.{AnswersEdns, nsid_for}
use Rattle.zsv_update.specs.Signing.{SignsParts}
use Rattle.zsv_update.specs.Updates.{Given, GivesUpdate}
use Rattle.zsv_update.specs.declared.update.ServiceFault.{ServiceFault}
use Rattle.zsv_update.specs.declared.update.ServiceFault.TheVariants.{OutOfMemory}

-- The parts that are sent, by the outcome of a request and with these options: signed where the
-- outcome has a context; if no key signs them, those of a failed server with the same options. They
-- read back if the options do.
pub record SendsOutcome (keys : Keys) (request : Message) (plain : ReplyParts)
    (context : Option SigningContext) (edns : Option Edns) (parts : ReplyParts) : Type 0 where
  pub signed : SignsParts keys request.asked (with_edns edns plain)
      (with_edns edns (error_parts request.metadata responses.ServFail)) context parts
  pub back : AllByRecursion EdnsReadsBack (option_to_list edns) → AllReadBack parts

-- The same, with the options that answer those of the request, which read back.
abbrev pub AnswersOutcome : Keys → Message → ReplyParts → Option SigningContext → Option (List ℕ)
    → ReplyParts → Type 0
AnswersOutcome keys request plain context nsid parts =
    (edns : Option Edns) × SendsOutcome keys request plain context edns parts
    × AnswersEdns request.edns (nsid_for request.edns nsid) plain.metadata.response_code edns
    × AllReadBack parts

-- An update from a source, in these octets, at a moment.
module _ (keys : Keys) (request : Message) (source : SocketAddr) (octets : List ℕ) (moment : ℕ)
    (old : List (DomainName × List View)) where
  abbrev Gives : Given → Type 0
  Gives given = GivesUpdate keys request source octets moment old request.asked.questions given

  -- These parts are sent, with these options, and the chains are these afterwards.
  abbrev pub RepliesWith : Option Edns → ReplyParts → List (DomainName × List View) → Type 0
  RepliesWith edns parts new =
      (given : Given) × Gives given × SendsOutcome keys request given.plain given.context edns parts
      × (new ≡ given.chains)

  -- The same, with the options that answer those of the request.
  abbrev pub RepliesUpdate : Option (List ℕ) → ReplyParts → List (DomainName × List View) → Type 0
  RepliesUpdate nsid parts new =
      (given : Given) × Gives given
      × AnswersOutcome keys request given.plain given.context nsid parts
      × (new ≡ given.chains)

  -- No reply is sent. Nothing changed; or the update was accepted, and has changed its zone.
  abbrev pub RefusesUpdate : ServiceFault → List (DomainName × List View) → Type 0
  RefusesUpdate (OutOfMemory false) new = new ≡ old
  RefusesUpdate (OutOfMemory true) new =
      (given : Given) × Gives given
      × (given.plain.metadata.response_code ≡ responses.NoError) × (new ≡ given.chains)
