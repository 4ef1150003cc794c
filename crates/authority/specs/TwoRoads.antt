-- Two roads to a zone: its text, and a server's transfer of it: RFC 5936.
use Rattle.std.specs.Prelude.{◌≡◌, ℕ, ◌<◌, Bool, true, false, List, [], ◌∷◌, Option, Some, None}
use Rattle.authority_denial.specs.zsv_reply.zsv_message.Messages.{IsMessage, Message}
use Rattle.authority_denial.specs.zsv_reply.zsv_message.zsv_parts.Headers.{header_of}
use Rattle.authority_denial.specs.zsv_reply.zsv_message.zsv_parts.Questions.{AvoidsHeader}
use Rattle.authority_denial.specs.zsv_reply.zsv_message.zsv_parts.declared.question.Query.{Query}
use Rattle.authority_server.specs.Serving.{Answers, Received, World, WorldReadsBack}
use Rattle.authority_server.specs.zsv_catalog.Catalogs.{asks_for_dnssec}
use Rattle.authority_server.specs.zsv_catalog.Chains.{chain_for}
use Rattle.authority_server.specs.zsv_catalog.zsv_answer.Transferring.{transferring}
use Rattle.authority_server.specs.zsv_catalog.zsv_answer.zst_request.Views.{View}
use Rattle.authority_server.specs.zsv_catalog.zsv_answer.zst_request.dnw_codes.RecordType.{same_record_type}
use Rattle.authority_server.specs.zsv_catalog.zsv_answer.zst_request.dnw_codes.declared.record_type.RecordType.TheVariants.{AXFR}
use Rattle.authority_server.specs.zsv_catalog.zsv_answer.zst_request.zst_handler.Zones.{Guard, Zone}
use Rattle.authority_server.specs.zsv_catalog.zsv_update.Updates.{Given}

-- A server whose records read back transferred a zone, whole: its reply to a question of type AXFR
-- is neither truncated nor signed, and has answers (RFC 5936, section 2.2).
pub record SendsZone (zone : Zone) (dnssec_ok : Bool) (reply : List ℕ) : Type 0 where
  pub world : World
  pub received : Received
  pub request : Message
  pub given : Given
  pub reads_back : WorldReadsBack world
  pub there : IsMessage received.message request
  pub answers : Answers world received request given reply
  -- The request asks one question, and no pointer of its name has its target in the header.
  pub question : Query
  pub one : request.asked.questions ≡ question ∷ []
  pub axfr : same_record_type question.query_type AXFR ≡ true
  pub avoids_header : AvoidsHeader received.message 12 request.asked.questions there.questions_end
      there.questions.questions.0
  pub dnssec : asks_for_dnssec request.edns ≡ dnssec_ok
  -- The zone is the first of the chain for that name, with a guard or without.
  pub chain : List View
  pub nearest : chain_for world.chains question.name ≡ Some chain
  pub guard : Option Guard
  pub first : transferring chain ≡ Some (record zone { guard = guard })
  -- The reply has no TSIG, isn't truncated, and has answers.
  pub unsigned : answers.parts.signature ≡ None
  pub whole : (header_of reply).metadata.truncation ≡ false
  pub some : 0 < (header_of reply).counts.answers
