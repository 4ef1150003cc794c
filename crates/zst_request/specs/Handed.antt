-- What handlers of zones answer to a transfer: RFC 5936, sections 2.2 and 5.
use Rattle.std.specs.Prelude.{◌≡◌, ℕ, Bool, List, ◌++◌, Option, None, Result, Err, IsOkAnd, IsSomeAnd, MatchOption, option_map}
use Rattle.zst_codes.specs.declared.lookup_error.LookupError.{LookupError}
use Rattle.zst_codes.specs.declared.lookup_error.LookupError.TheVariants as errors
use Rattle.zst_denial.specs.zst_handler.Answers.{records_in}
use Rattle.zst_denial.specs.zst_handler.Zones.{Zone}
use Rattle.zst_denial.specs.zst_record.declared.records.Record.{Record}
use Rattle.zst_request.specs.Requested.{context_of}
use Rattle.zst_request.specs.Transfers.{transfer_context, transfer_of, transfer_refused}
use Rattle.zst_request.specs.Updating.{Asked, SigningContext}
use Rattle.zst_request.specs.Views.{Blocked, Stored, View}
use Rattle.zst_request.specs.declared.request.TSigResponseContext.{TSigResponseContext}
use Rattle.zst_request.specs.declared.transfer.ZoneTransfer.{ZoneTransfer}

-- The records of a transfer, in order.
abbrev pub transfer_records : ZoneTransfer → List Record
transfer_records transfer =
    records_in transfer.start_soa ++ (transfer.records ++ records_in transfer.end_soa)

-- The whole zone, or the code by which the request is refused.
abbrev pub TransfersZone : Zone → Asked → Bool → Result ZoneTransfer LookupError → Type 0
TransfersZone zone asked dnssec_ok answer =
    MatchOption (transfer_refused zone asked)
    (IsOkAnd answer (λ transfer. transfer_records transfer ≡ transfer_of zone dnssec_ok))
    (λ code. answer ≡ Err (errors.ResponseCode code))

-- What a handler answers: a blocklist has no zone to transfer.
abbrev pub TransfersView : View → Asked → Bool → ℕ
    → Option (Result ZoneTransfer LookupError × Option TSigResponseContext) → Type 0
TransfersView (Blocked blocklist) asked dnssec_ok moment given = given ≡ None
TransfersView (Stored zone) asked dnssec_ok moment given =
    IsSomeAnd given
    (λ answer. TransfersZone zone asked dnssec_ok answer.0
    × (option_map context_of answer.1 ≡ transfer_context zone asked moment))

-- What the reply is signed with.
abbrev pub view_context : View → Asked → ℕ → Option SigningContext
view_context (Blocked blocklist) asked moment = None
view_context (Stored zone) asked moment = transfer_context zone asked moment
