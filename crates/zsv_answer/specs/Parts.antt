-- What the reply to a question holds: RFC 1034, section 4.3.2; RFC 2308; RFC 4035, section 3.1.
use Rattle.std.specs.Prelude.{◌≡◌, Bool, true, false, not, ◌&&◌, ◌||◌, List, [], ◌∷◌, ◌++◌, Some, None}
use Rattle.zsv_reply.specs.Replies.{ReplyParts}
use Rattle.zsv_reply.specs.drd_rdata.Types.{type_of}
use Rattle.zsv_reply.specs.zst_record.declared.records.Record.{Record}
use Rattle.zsv_reply.specs.zsv_message.zsv_parts.declared.header.Metadata.{Metadata}
use Rattle.zst_request.specs.Views.{Blocked, Stored, View, zone_type_of}
use Rattle.zst_request.specs.dnw_codes.declared.record_type.RecordType.{RecordType}
use Rattle.zst_request.specs.dnw_codes.declared.record_type.RecordType.TheVariants as types
use Rattle.zst_request.specs.dnw_codes.RecordType.{same_record_type}
use Rattle.zst_request.specs.dnw_name.DomainName.{DomainName}
use Rattle.zst_request.specs.zst_codes.declared.response_code.ResponseCode.{ResponseCode}
use Rattle.zst_request.specs.zst_codes.declared.response_code.ResponseCode.TheVariants as responses
use Rattle.zst_request.specs.zst_codes.declared.settings.ZoneType.{ZoneType}
use Rattle.zst_request.specs.zst_codes.declared.settings.ZoneType.TheVariants as zones
use Rattle.zst_request.specs.zst_handler.Answers.{sets_shown}
use Rattle.zst_request.specs.zst_handler.Lookups.{IsLookup, Outcome, answered}
use Rattle.zsv_answer.specs.DenialRecords.{AnswerDenial, DenialRecords}
use Rattle.zsv_answer.specs.Forwarding.{ForwardedParts}
use Rattle.zsv_answer.specs.Resolution.{Resolution, Resolves, answering, no_such_name, no_such_type, not_here, resolved}
use Rattle.zsv_answer.specs.Responses.{parts_with}
use Rattle.zsv_reply.specs.Writing.{error_parts, reply_metadata}

-- ---- what stands as authority
-- The records that a lookup answers with, signatures only where they are asked for (RFC 4035,
-- section 3.1.1).
abbrev pub answer_records : Bool → Outcome → List Record
answer_records dnssec_ok (answered answer) = sets_shown dnssec_ok answer.answers
answer_records dnssec_ok denied = []

-- What a zone answers at its origin to a type; a list of blocked names has nothing there.
abbrev pub AtOrigin : View → Bool → RecordType → List Record → Type 0
AtOrigin (Stored zone) dnssec_ok record_type records =
    (outcome : Outcome) × IsLookup zone zone.origin record_type outcome
    × (records ≡ answer_records dnssec_ok outcome)
AtOrigin (Blocked blocklist) dnssec_ok record_type records = records ≡ []

-- With an answer to a question for the zone's start come its name servers; with another what
-- denies.
abbrev pub BesideAnswer : View → Bool → DomainName → RecordType → List Record → List Record → Type 0
BesideAnswer view dnssec_ok name record_type answers beside =
    (same_record_type record_type types.SOA ≡ true → AtOrigin view dnssec_ok types.NS beside)
    × (same_record_type record_type types.SOA ≡ false
    → AnswerDenial view dnssec_ok name record_type answers beside)

-- The first record is one of name servers.
abbrev pub begins_with_ns : List Record → Bool
begins_with_ns [] = false
begins_with_ns (r ∷ rs) = same_record_type (type_of r.rdata) types.NS

-- Name servers that weren't asked for are a referral (RFC 1034, section 4.3.2, step 3b).
abbrev pub is_referral : RecordType → List Record → Bool
is_referral record_type records =
    begins_with_ns records
    && not (same_record_type record_type types.NS || same_record_type record_type types.ANY)

-- ---- authoritative replies
-- A denial has as authority what denies, and the zone's start (RFC 2308, section 3; RFC 4035,
-- section 3.1.3).
abbrev pub DeniedParts : View → Metadata → Bool → DomainName → RecordType → ResponseCode
    → ReplyParts → Type 0
DeniedParts view m dnssec_ok name record_type code parts =
    (denial : List Record) × (start : List Record)
    × DenialRecords view dnssec_ok name record_type false denial
    × AtOrigin view dnssec_ok types.SOA start
    × (parts ≡ parts_with (reply_metadata m true code) false [] [] (denial ++ start))

-- What was found; or a denial, with or without a name error; or a response code alone.
abbrev pub AuthoritativeParts : View → Metadata → Bool → DomainName → RecordType → Resolution
    → ReplyParts → Type 0
AuthoritativeParts view m dnssec_ok name record_type (resolved answers additionals) parts =
    (beside : List Record) × BesideAnswer view dnssec_ok name record_type answers beside
    × (parts
    ≡ parts_with (reply_metadata m true responses.NoError) (is_referral record_type answers) answers
    additionals beside)
AuthoritativeParts view m dnssec_ok name record_type no_such_type parts =
    DeniedParts view m dnssec_ok name record_type responses.NoError parts
AuthoritativeParts view m dnssec_ok name record_type no_such_name parts =
    DeniedParts view m dnssec_ok name record_type responses.NXDomain parts
AuthoritativeParts view m dnssec_ok name record_type (not_here code) parts =
    parts ≡ parts_with (reply_metadata m true code) false [] [] []

-- ---- by what the server is to the zone
-- A zone that another server answers for is forwarded.
abbrev pub PartsAs : ZoneType → View → Metadata → Bool → DomainName → RecordType → Resolution
    → ReplyParts → Type 0
PartsAs zones.Primary view m dnssec_ok name record_type resolution parts =
    AuthoritativeParts view m dnssec_ok name record_type resolution parts
PartsAs zones.Secondary view m dnssec_ok name record_type resolution parts =
    AuthoritativeParts view m dnssec_ok name record_type resolution parts
PartsAs zones.External view m dnssec_ok name record_type resolution parts =
    ForwardedParts m dnssec_ok record_type resolution parts

-- What a chain of handlers answers to a question: the first one that answers says what the server
-- is to the name. Where none does, the server fails.
pub record ChainParts (chain : List View) (m : Metadata) (dnssec_ok : Bool) (name : DomainName)
    (record_type : RecordType) (parts : ReplyParts) : Type 0 where
  pub nobody : answering chain name ≡ None → parts ≡ error_parts m responses.ServFail
  pub somebody : (view : View) → answering chain name ≡ Some view
      → (resolution : Resolution) × Resolves chain view name record_type dnssec_ok resolution
      × PartsAs (zone_type_of view) view m dnssec_ok name record_type resolution parts
