-- What the replies of a server prove of a zone that is secured by NSEC (RFC 4035, sections 3.1.3
-- and 5.4).
use Rattle.std.specs.Prelude.{◌≡◌, ℕ, ◌<◌, ◌^◌, Bool, true, false, List, [], ◌∷◌, Some}
use Rattle.authority_denial.specs.zsv_reply.zsv_message.Messages.{IsMessage, Message}
use Rattle.authority_denial.specs.zsv_reply.zsv_message.zsv_parts.Headers.{header_of}
use Rattle.authority_denial.specs.zsv_reply.zsv_message.zsv_parts.Questions.{AvoidsHeader}
use Rattle.authority_denial.specs.zsv_reply.zsv_message.zsv_parts.declared.question.Query.{Query}
use Rattle.authority_denial.specs.zsv_reply.zsv_message.zsv_parts.zst_codes.declared.response_code.ResponseCode.{ResponseCode}
use Rattle.authority_denial.specs.zsv_reply.zsv_message.zsv_parts.zst_codes.declared.response_code.ResponseCode.TheVariants as responses
use Rattle.authority_server.specs.Serving.{Answers, Received, World, WorldReadsBack}
use Rattle.authority_server.specs.zsv_catalog.Catalogs.{asks_for_dnssec, is_served_query}
use Rattle.authority_server.specs.zsv_catalog.Chains.{chain_for}
use Rattle.authority_server.specs.zsv_catalog.zsv_answer.zst_request.Views.{Stored}
use Rattle.authority_server.specs.zsv_catalog.zsv_answer.zst_request.dnw_codes.RecordType.{record_type_number, same_record_type}
use Rattle.authority_server.specs.zsv_catalog.zsv_answer.zst_request.dnw_codes.declared.record_type.RecordType.{RecordType}
use Rattle.authority_server.specs.zsv_catalog.zsv_answer.zst_request.dnw_codes.declared.record_type.RecordType.TheVariants as types
use Rattle.authority_server.specs.zsv_catalog.zsv_answer.zst_request.dnw_name.DomainName.{DomainName, name_eq}
use Rattle.authority_server.specs.zsv_catalog.zsv_answer.zst_request.zst_codes.declared.nx_proof.NxProofKind.TheVariants.{Nsec}
use Rattle.authority_server.specs.zsv_catalog.zsv_answer.zst_request.zst_codes.declared.settings.ZoneType.TheVariants.{External}
use Rattle.authority_server.specs.zsv_catalog.zsv_answer.zst_request.zst_denial.Circles.{IsAuthoritativeName, IsSecured, is_delegation, is_owned}
use Rattle.authority_server.specs.zsv_catalog.zsv_answer.zst_request.zst_handler.Lookups.{IsLookup, name_exists}
use Rattle.authority_server.specs.zsv_catalog.zsv_answer.zst_request.zst_handler.Zones.{Zone}
use Rattle.authority_server.specs.zsv_catalog.zsv_update.Updates.{Given}

-- A zone that the server is primary or secondary for alone answers for a name. It is secured by
-- NSEC, and its origin is an authoritative name.
pub record IsSecuredFor (world : World) (name : DomainName) (zone : Zone) : Type 0 where
  pub alone : chain_for world.chains name ≡ Some (Stored zone ∷ [])
  pub own : zone.zone_type ≡ External → ⊥
  pub kind : zone.nx_proof_kind ≡ Some Nsec
  pub secured : IsSecured zone
  pub origin : IsAuthoritativeName types.NSEC zone zone.origin

-- A reply of a server whose records read back to a query of one question, which asks for proofs
-- (RFC 3225, section 3) and for no transfer.
pub record Replied (world : World) (received : Received) (request : Message) (question : Query)
    (reply : List ℕ) : Type 0 where
  pub reads_back : WorldReadsBack world
  pub there : IsMessage received.message request
  pub query : is_served_query request ≡ true
  pub one : request.asked.questions ≡ question ∷ []
  pub ordinary : same_record_type question.query_type types.AXFR ≡ false
  pub dnssec : asks_for_dnssec request.edns ≡ true
  -- No pointer of the question's name has its target in the header.
  pub avoids_header : AvoidsHeader received.message 12 request.asked.questions there.questions_end
      there.questions.questions.0
  pub given : Given
  pub answers : Answers world received request given reply

-- A reply isn't truncated, and has this code.
pub record IsWholeOf (code : ResponseCode) (reply : List ℕ) : Type 0 where
  pub whole : (header_of reply).metadata.truncation ≡ false
  pub says : (header_of reply).metadata.response_code ≡ code

-- Whether a reply denies a name, for whoever knows that a server sent it whose zone is secured: yes
-- of each whole name error for that name; no of each reply where the name is authoritative.
abbrev pub Certifies : List ℕ → DomainName → Bool → Type 0
Certifies reply name answer =
    (world : World) (received : Received) (request : Message) (question : Query) (zone : Zone)
    → Replied world received request question reply → IsSecuredFor world question.name zone
    → (name_eq question.name name ≡ true → IsWholeOf responses.NXDomain reply → answer ≡ true)
    × (IsAuthoritativeName types.NSEC zone name → answer ≡ false)

-- A question is for a name, which is authoritative in the zone, and for a type other than RRSIG,
-- which a lookup doesn't find there.
pub record AsksForNone (zone : Zone) (question : Query) (name : DomainName)
    (record_type : RecordType) : Type 0 where
  pub for_name : name_eq question.name name ≡ true
  pub for_type : same_record_type question.query_type record_type ≡ true
  pub other : same_record_type record_type types.RRSIG ≡ false
  pub authoritative : IsAuthoritativeName types.NSEC zone question.name
  pub none : IsLookup zone question.name question.query_type name_exists

-- Whether a reply denies a type of a name: yes of each whole reply without an error to the question
-- for both, where a lookup finds nothing of the type at an authoritative name; no of each reply
-- where an authoritative name that isn't delegated owns a set of the type, whose number has 16 bits
-- (RFC 1035, section 3.2.2).
abbrev pub CertifiesType : List ℕ → DomainName → RecordType → Bool → Type 0
CertifiesType reply name record_type answer =
    (world : World) (received : Received) (request : Message) (question : Query) (zone : Zone)
    → Replied world received request question reply → IsSecuredFor world question.name zone
    → (AsksForNone zone question name record_type → IsWholeOf responses.NoError reply
    → answer ≡ true)
    × (IsAuthoritativeName types.NSEC zone name → is_delegation zone name ≡ false
    → record_type_number record_type < 2 ^ 16 → is_owned zone name record_type ≡ true
    → answer ≡ false)
