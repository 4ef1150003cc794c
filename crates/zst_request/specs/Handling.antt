-- What handlers answer, by what they mean.
use Rattle.std.specs.Prelude.{◌≡◌, Bool, true, false, [], Option, Some, None, Ok, Err, if◌then◌else◌}
use Rattle.std.specs.declared.io.Error.{Error}
use Rattle.zst_codes.specs.declared.lookup_control_flow.LookupControlFlow.{LookupControlFlow}
use Rattle.zst_codes.specs.declared.lookup_control_flow.LookupControlFlow.TheVariants as flows
use Rattle.zst_codes.specs.declared.lookup_error.LookupError.{LookupError}
use Rattle.zst_codes.specs.declared.lookup_error.LookupError.TheVariants as errors
use Rattle.zst_denial.specs.zst_handler.Answers.{LookupAnswers, additionals_in, answers_in, authorities_in}
use Rattle.zst_denial.specs.zst_handler.declared.auth_lookup.AuthLookup.{AuthLookup}
use Rattle.zst_denial.specs.zst_handler.declared.lookup_options.LookupOptions.{LookupOptions}
use Rattle.zst_denial.specs.dnw_codes.declared.record_type.RecordType.{RecordType}
use Rattle.zst_denial.specs.dnw_codes.declared.record_type.RecordType.TheVariants.{AXFR}
use Rattle.zst_denial.specs.dnw_codes.RecordType.{same_record_type}
use Rattle.zst_denial.specs.dnw_name.DomainName.{DomainName}
use Rattle.zst_request.specs.Blocking.{AreBlocked, BlockedAnswer, blocked_answer}
use Rattle.zst_request.specs.Views.{Blocked, Blocklist, Stored, View}
use Rattle.zst_request.specs.declared.blocklist.BlocklistConsultAction.{BlocklistConsultAction}
use Rattle.zst_request.specs.declared.blocklist.BlocklistConsultAction.TheVariants as actions

-- What a handler answers, and whether those behind it in a chain are asked.
abbrev pub Flow : Type 0
Flow = LookupControlFlow AuthLookup LookupError

-- The records of a blocked name, and nothing beside them.
pub record ShowsBlocked (answer : BlockedAnswer) (found : AuthLookup) : Type 0 where
  pub answers : AreBlocked answer (answers_in found)
  pub additionals : additionals_in found ≡ []
  pub authorities : authorities_in found ≡ []

-- No handler is asked behind a list that blocks a name; the next one is where none is blocked.
abbrev pub Blocks : Option BlockedAnswer → Flow → Type 0
Blocks None flow = flow ≡ flows.Skip
Blocks (Some answer) flow =
    (found : AuthLookup) × (flow ≡ flows.Break (Ok found)) × ShowsBlocked answer found

-- What a handler answers to a name and a type.
abbrev pub HandlerAnswers : View → DomainName → RecordType → LookupOptions → Flow → Type 0
HandlerAnswers (Stored zone) name record_type options flow =
    LookupAnswers zone name record_type options flow
HandlerAnswers (Blocked blocklist) name record_type options flow =
    Blocks (blocked_answer blocklist name record_type) flow

-- What a handler answers to a question. Of a stored zone none for a transfer is answered (RFC 5936,
-- section 2.1).
abbrev pub AnswersQuestion : View → DomainName → RecordType → LookupOptions → Flow → Type 0
AnswersQuestion (Stored zone) name record_type options flow =
    (same_record_type record_type AXFR ≡ true → flow ≡ flows.Break (Err errors.NetError))
    × (same_record_type record_type AXFR ≡ false
    → LookupAnswers zone name record_type options flow)
AnswersQuestion (Blocked blocklist) name record_type options flow =
    Blocks (blocked_answer blocklist name record_type) flow

-- What a list answers in place of other handlers' results: what it blocks, where it is enforced.
abbrev pub is_enforced : BlocklistConsultAction → Bool
is_enforced actions.Enforce = true
is_enforced other = false

abbrev pub enforced_answer : Blocklist → DomainName → RecordType → Option BlockedAnswer
enforced_answer blocklist name record_type =
    if is_enforced blocklist.consult_action then blocked_answer blocklist name record_type else None

-- It replaces another handler's result, or leaves it.
abbrev pub GivesWay : Option BlockedAnswer → Flow → Flow → Type 0
GivesWay None last flow = flow ≡ last
GivesWay (Some answer) last flow = Blocks (Some answer) flow

-- What a handler makes of another's result.
abbrev pub Consults : View → DomainName → RecordType → Flow → Flow → Type 0
Consults (Stored zone) name record_type last flow = flow ≡ last
Consults (Blocked blocklist) name record_type last flow =
    GivesWay (enforced_answer blocklist name record_type) last flow

-- There are no proofs of absence here: reading them fails.
abbrev pub LacksProof : Flow → Type 0
LacksProof flow = (cause : Error) × (flow ≡ flows.Continue (Err (errors.Io cause)))
