-- Which handler of a chain answers a question, and what.
use Rattle.std.specs.Prelude.{◌≡◌, Bool, true, List, [], ◌∷◌, Option, Some, None, Result, Ok, Err}
use Rattle.std.specs.List.{find}
use Rattle.zsv_reply.specs.zst_record.declared.records.Record.{Record}
use Rattle.zst_request.specs.Blocking.{AreBlocked, BlockedAnswer, blocked_answer, is_blocked}
use Rattle.zst_request.specs.Handling.{enforced_answer}
use Rattle.zst_request.specs.Views.{Blocked, Stored, View}
use Rattle.zst_request.specs.dnw_codes.declared.record_type.RecordType.{RecordType}
use Rattle.zst_request.specs.dnw_name.DomainName.{DomainName}
use Rattle.zst_request.specs.zst_codes.declared.lookup_error.LookupError.{LookupError}
use Rattle.zst_request.specs.zst_codes.declared.lookup_error.LookupError.TheVariants as errors
use Rattle.zst_request.specs.zst_codes.declared.response_code.ResponseCode.{ResponseCode}
use Rattle.zst_request.specs.zst_codes.declared.response_code.ResponseCode.TheVariants as codes
use Rattle.zst_request.specs.zst_handler.Answers.{additionals_in, answers_in, sets_shown}
use Rattle.zst_request.specs.zst_handler.Lookups.{IsLookup, Outcome, answered, name_error, name_exists, out_of_zone}
use Rattle.zst_request.specs.zst_handler.Zones.{Zone}
use Rattle.zst_request.specs.zst_handler.declared.auth_lookup.AuthLookup.{AuthLookup}

-- What is answered: records, and the additional ones; or why there are none: the name has no record
-- of the type, or doesn't exist; or a response code alone.
pub data Resolution : Type 0 where
  resolved : List Record → List Record → Resolution
  no_such_type no_such_name : Resolution
  not_here : ResponseCode → Resolution

-- ---- who answers
-- A stored zone answers for every name, a list of blocked names for those that it blocks.
abbrev pub answers_name : DomainName → View → Bool
answers_name name (Stored zone) = true
answers_name name (Blocked blocklist) = is_blocked blocklist name

-- The first handler of a chain that answers.
abbrev pub answering : List View → DomainName → Option View
answering chain name = find (answers_name name) chain

-- ---- what a list that is enforced answers in place of a zone
-- What a handler answers so: a list that is enforced its own, a stored zone nothing.
abbrev pub enforced_by : View → DomainName → RecordType → Option BlockedAnswer
enforced_by (Stored zone) name record_type = None
enforced_by (Blocked blocklist) name record_type = enforced_answer blocklist name record_type

abbrev pub last_of : {X : Type 0} → Option X → Option X → Option X
last_of first (Some x) = Some x
last_of first None = first

-- The last list of a chain that blocks the name and is enforced.
abbrev pub enforced : List View → DomainName → RecordType → Option BlockedAnswer
enforced [] name record_type = None
enforced (view ∷ views) name record_type =
    last_of (enforced_by view name record_type) (enforced views name record_type)

-- ---- what is answered
-- What a zone's lookup found, signatures only where they are asked for (RFC 4035, section 3.1.1).
abbrev pub outcome_shown : Bool → Outcome → Resolution
outcome_shown dnssec_ok (answered answer) =
    resolved (sets_shown dnssec_ok answer.answers) (sets_shown dnssec_ok answer.additionals)
outcome_shown dnssec_ok name_exists = no_such_type
outcome_shown dnssec_ok name_error = no_such_name
outcome_shown dnssec_ok out_of_zone = not_here codes.Refused

abbrev pub LooksUp : Zone → DomainName → RecordType → Bool → Resolution → Type 0
LooksUp zone name record_type dnssec_ok resolution =
    (outcome : Outcome) × IsLookup zone name record_type outcome
    × (resolution ≡ outcome_shown dnssec_ok outcome)

-- The records of a blocked name.
abbrev pub GivesBlocked : BlockedAnswer → Resolution → Type 0
GivesBlocked answer resolution =
    (rs : List Record) × AreBlocked answer rs × (resolution ≡ resolved rs [])

-- A zone's own answer, unless a list that is enforced takes its place.
abbrev pub ZoneResolves : Zone → Option BlockedAnswer → DomainName → RecordType → Bool
    → Resolution → Type 0
ZoneResolves zone None name record_type dnssec_ok resolution =
    LooksUp zone name record_type dnssec_ok resolution
ZoneResolves zone (Some answer) name record_type dnssec_ok resolution =
    GivesBlocked answer resolution

abbrev pub ListResolves : Option BlockedAnswer → Resolution → Type 0
ListResolves None resolution = ⊥
ListResolves (Some answer) resolution = GivesBlocked answer resolution

-- What a chain answers in which this handler does.
abbrev pub Resolves : List View → View → DomainName → RecordType → Bool → Resolution → Type 0
Resolves chain (Stored zone) name record_type dnssec_ok resolution =
    ZoneResolves zone (enforced chain name record_type) name record_type dnssec_ok resolution
Resolves chain (Blocked blocklist) name record_type dnssec_ok resolution =
    ListResolves (blocked_answer blocklist name record_type) resolution

-- ---- results of handlers
-- Why there are no records: Refused and NotAuth are response codes of the reply; any error but these
-- and a name error is answered as a name without records of the type.
abbrev pub reason_in : LookupError → Resolution
reason_in (errors.ResponseCode codes.NXDomain) = no_such_name
reason_in (errors.ResponseCode codes.Refused) = not_here codes.Refused
reason_in (errors.ResponseCode codes.NotAuth) = not_here codes.NotAuth
reason_in other = no_such_type

-- A handler's result.
abbrev pub resolution_in : Result AuthLookup LookupError → Resolution
resolution_in (Ok found) = resolved (answers_in found) (additionals_in found)
resolution_in (Err why) = reason_in why
