-- What the reply to a question for a transfer holds: RFC 5936, sections 2.2 and 5.
use Rattle.std.specs.Prelude.{◌≡◌, ℕ, Bool, true, false, List, [], ◌∷◌, Option, Some, None, Result, Ok, Err, option_copied}
use Rattle.zsv_reply.specs.Replies.{ReplyParts}
use Rattle.zsv_reply.specs.Writing.{error_parts, reply_metadata}
use Rattle.zsv_reply.specs.zst_record.declared.records.Record.{Record}
use Rattle.zsv_reply.specs.zsv_message.zsv_parts.declared.header.Metadata.{Metadata}
use Rattle.zst_request.specs.Handed.{TransfersView, transfer_records}
use Rattle.zst_request.specs.Transfers.{transfer_context, transfer_of, transfer_refused}
use Rattle.zst_request.specs.Updating.{Asked, SigningContext}
use Rattle.zst_request.specs.Views.{Blocked, Stored, View}
use Rattle.zst_request.specs.declared.request.TSigResponseContext.{TSigResponseContext}
use Rattle.zst_request.specs.declared.transfer.ZoneTransfer.{ZoneTransfer}
use Rattle.zst_request.specs.zst_codes.declared.lookup_error.LookupError.{LookupError}
use Rattle.zst_request.specs.zst_codes.declared.lookup_error.LookupError.TheVariants as errors
use Rattle.zst_request.specs.zst_codes.declared.response_code.ResponseCode.{ResponseCode}
use Rattle.zst_request.specs.zst_codes.declared.response_code.ResponseCode.TheVariants as codes
use Rattle.zst_request.specs.zst_handler.Zones.{Zone}
use Rattle.zsv_answer.specs.Responses.{parts_with}
use Rattle.zsv_answer.specs.declared.transfer.TransferResponse.{TransferResponse}

-- ---- the zone
-- The zone of a chain: that of its first handler that has one. Blocklists are passed over.
abbrev pub transferring : List View → Option Zone
transferring [] = None
transferring (Stored zone ∷ views) = Some zone
transferring (Blocked blocklist ∷ views) = transferring views

-- ---- the reply
-- The whole zone with AA; or a response code alone, without AA.
abbrev pub transfer_parts : Metadata → Option ResponseCode → List Record → ReplyParts
transfer_parts m None rs = parts_with (reply_metadata m true codes.NoError) false rs [] []
transfer_parts m (Some code) rs = error_parts m code

-- Where no handler has a zone the server fails.
abbrev pub zone_parts : Metadata → Bool → Asked → Option Zone → ReplyParts
zone_parts m dnssec_ok asked None = error_parts m codes.ServFail
zone_parts m dnssec_ok asked (Some zone) =
    transfer_parts m (transfer_refused zone asked) (transfer_of zone dnssec_ok)

-- What it is signed with.
abbrev pub zone_context : Asked → ℕ → Option Zone → Option SigningContext
zone_context asked moment None = None
zone_context asked moment (Some zone) = transfer_context zone asked moment

-- ---- as the server holds it
-- The answer of the first handler of a chain that has a zone.
abbrev pub TransfersFound : Option Zone → Asked → Bool → ℕ
    → Option (Result ZoneTransfer LookupError × Option TSigResponseContext) → Type 0
TransfersFound None asked dnssec_ok moment given = given ≡ None
TransfersFound (Some zone) asked dnssec_ok moment given =
    TransfersView (Stored zone) asked dnssec_ok moment given

-- The response code where no zone is transferred.
abbrev pub failure_code : LookupError → ResponseCode
failure_code (errors.ResponseCode codes.Refused) = codes.Refused
failure_code (errors.ResponseCode codes.NotAuth) = codes.NotAuth
failure_code (errors.ResponseCode codes.NXDomain) = codes.NXDomain
failure_code other = codes.NoError

abbrev pub answer_parts : Metadata → Result ZoneTransfer LookupError → ReplyParts
answer_parts m (Ok transfer) = transfer_parts m None (transfer_records transfer)
answer_parts m (Err why) = error_parts m (failure_code why)

-- What a response holds: the zone, if it has one.
abbrev pub records_if : Option ZoneTransfer → List Record
records_if None = []
records_if (Some transfer) = transfer_records transfer

abbrev pub response_parts : TransferResponse → ReplyParts
response_parts r = parts_with r.metadata false (records_if r.transfer) [] []
