-- What is answered for zones of another server: RFC 1035, section 4.1.1 (RA, RD); RFC 4035, section
-- 3.2.1.
use Rattle.std.specs.Prelude.{◌≡◌, Bool, true, false, []}
use Rattle.zsv_reply.specs.Replies.{ReplyParts}
use Rattle.zsv_reply.specs.zsv_message.zsv_parts.declared.header.Metadata.{Metadata}
use Rattle.zst_request.specs.dnw_codes.declared.record_type.RecordType.{RecordType}
use Rattle.zst_request.specs.zst_codes.declared.response_code.ResponseCode.{ResponseCode}
use Rattle.zst_request.specs.zst_codes.declared.response_code.ResponseCode.TheVariants as responses
use Rattle.zsv_answer.specs.Resolution.{Resolution, no_such_name, no_such_type, not_here, resolved}
use Rattle.zsv_answer.specs.Responses.{parts_with}
use Rattle.zsv_reply.specs.Writing.{reply_metadata}
use Rattle.zsv_answer.specs.Shown.{hidden_but, shown_if}

-- The header says that recursion is available.
abbrev pub forwarded_metadata : Metadata → ResponseCode → Metadata
forwarded_metadata m code = record (reply_metadata m false code) { recursion_available = true }

abbrev pub forwarded_error : Metadata → ResponseCode → ReplyParts
forwarded_error m code = parts_with (forwarded_metadata m code) false [] [] []

-- What was found, without additional records; a name error stays one, and any other error is the
-- server's failure.
abbrev pub resolved_parts : Metadata → Bool → RecordType → Resolution → ReplyParts
resolved_parts m dnssec_ok record_type (resolved answers additionals) =
    parts_with (forwarded_metadata m responses.NoError) false
    (shown_if (hidden_but dnssec_ok record_type) answers) [] []
resolved_parts m dnssec_ok record_type no_such_type = forwarded_error m responses.ServFail
resolved_parts m dnssec_ok record_type no_such_name = forwarded_error m responses.NXDomain
resolved_parts m dnssec_ok record_type (not_here code) = forwarded_error m responses.ServFail

-- It is refused where recursion isn't desired.
abbrev pub ForwardedParts : Metadata → Bool → RecordType → Resolution → ReplyParts → Type 0
ForwardedParts m dnssec_ok record_type resolution parts =
    (m.recursion_desired ≡ false → parts ≡ forwarded_error m responses.Refused)
    × (m.recursion_desired ≡ true → parts ≡ resolved_parts m dnssec_ok record_type resolution)
