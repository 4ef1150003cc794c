-- What the handlers of a chain answer in turn.
use Rattle.std.specs.Borrow.{Bor}
use Rattle.std.specs.Prelude.{◌≡◌, ℕ, List, [], map, Option, Some, None, Result, Ok, Err, slice_get}
use Rattle.zsv_reply.specs.zst_record.declared.records.Record.{Record}
use Rattle.zst_request.specs.Blocking.{BlockedAnswer}
use Rattle.zst_request.specs.Handling.{AnswersQuestion, Flow, ShowsBlocked}
use Rattle.zst_request.specs.Views.{View}
use Rattle.zst_request.specs.dnw_codes.declared.record_type.RecordType.{RecordType}
use Rattle.zst_request.specs.dnw_name.DomainName.{DomainName}
use Rattle.zst_request.specs.zst_codes.declared.lookup_control_flow.LookupControlFlow.TheVariants as flows
use Rattle.zst_request.specs.zst_codes.declared.lookup_error.LookupError.{LookupError}
use Rattle.zst_request.specs.zst_handler.Answers.{answers_in}
use Rattle.zst_request.specs.zst_handler.declared.auth_lookup.AuthLookup.{AuthLookup}
use Rattle.zst_request.specs.zst_handler.declared.lookup_options.LookupOptions.{LookupOptions}
use Rattle.zsv_answer.specs.Resolution.{Resolves, answering, resolution_in}

-- What a handler found that continues.
abbrev pub found_by : Flow → List Record
found_by (flows.Continue (Ok found)) = answers_in found
found_by (flows.Continue (Err why)) = []
found_by (flows.Break told) = []
found_by flows.Skip = []

-- A zone's answer stands, unless a list that is enforced takes its place.
abbrev pub Settles : Option BlockedAnswer → Result AuthLookup LookupError
    → Result AuthLookup LookupError → Type 0
Settles None told last = last ≡ told
Settles (Some answer) told last =
    (found : AuthLookup) × (last ≡ Ok found) × ShowsBlocked answer found

module _ {H : Type 0} (view : H → View) (handlers : List H) (name : DomainName)
    (record_type : RecordType) (options : LookupOptions) where
  -- The first handler that answers, its place and its answer.
  abbrev pub FirstAnswers : Option (ℕ × Bor H × Flow) → Type 0
  FirstAnswers None = answering (map view handlers) name ≡ None
  FirstAnswers (Some (place, handler, flow)) =
      (slice_get handlers place ≡ Some handler.now)
      × (answering (map view handlers) name ≡ Some (view handler.now))
      × AnswersQuestion (view handler.now) name record_type options flow × (flow ≡ flows.Skip → ⊥)

  -- The first handler that answers, and what is answered at last.
  abbrev pub ChainAnswers : Option (Bor H × Result AuthLookup LookupError) → Type 0
  ChainAnswers None = answering (map view handlers) name ≡ None
  ChainAnswers (Some (handler, told)) =
      (answering (map view handlers) name ≡ Some (view handler.now))
      × Resolves (map view handlers) (view handler.now) name record_type options.dnssec_ok
      (resolution_in told)
