-- A guard changes no look-up, and it stays when the zone is changed.
use Rattle.std.proofs.Common.{◌≡◌, refl, ap, sym, subst, ◌∙◌}
use Rattle.std.specs.Prelude.{ℕ, Bool, true, List, [], ◌∷◌, Option, Some, None, Result, Ok, Err, IsOkAnd, MatchOption, option_map}
use Rattle.zst_draft.specs.declared.InMemoryZoneHandler.{InMemoryZoneHandler}
use Rattle.zst_map.specs.dnw_codes.declared.record_type.RecordType.{RecordType}
use Rattle.zst_map.specs.dnw_name.DomainName.{DomainName}
use Rattle.zst_map.specs.zst_key.Ancestors.{or_else}
use Rattle.zst_map.specs.zst_handler.Answers.{LookupAnswers}
use Rattle.zst_map.specs.zst_handler.Found.{found}
use Rattle.zst_map.specs.zst_handler.Lookups.{LookupFrom, Outcome, all_outcome, sets_of_name}
use Rattle.zst_map.specs.zst_handler.Zones.{Guard, Zone}
use Rattle.zst_map.specs.zst_handler.declared.lookup_options.LookupOptions.{LookupOptions}
use Rattle.zst_map.specs.zst_record.RecordSets.{RRset}
use Rattle.zst_map.specs.zst_record.declared.records.Record.{Record}
use Rattle.zst_request.specs.Applied.{LeavesZone, Owned}
use Rattle.zst_request.specs.Handed.{TransfersView, transfer_records}
use Rattle.zst_request.specs.Handling.{AnswersQuestion, Flow}
use Rattle.zst_request.specs.Prerequisites.{first_refused, prerequisites_refused, prescan_refused}
use Rattle.zst_request.specs.Requested.{context_of}
use Rattle.zst_request.specs.Transfers.{guard_refused, own_refused, transfer_context, transfer_of}
use Rattle.zst_request.specs.declared.request.TSigResponseContext.{TSigResponseContext}
use Rattle.zst_request.specs.declared.transfer.ZoneTransfer.{ZoneTransfer}
use Rattle.zst_request.specs.zst_codes.declared.lookup_error.LookupError.{LookupError}
use Rattle.zst_request.specs.zst_codes.declared.lookup_error.LookupError.TheVariants as errors
use Rattle.zst_request.specs.Updating.{Asked, ChangesBy, UpdatesView, permission_refused, soa_refused, update_refused}
use Rattle.zst_request.specs.Views.{Stored}
use Rattle.zst_request.specs.zst_codes.declared.response_code.ResponseCode.{ResponseCode}
use Rattle.zsv_sqlite.specs.Guarded.{guarded_zone, unless_refused}
use Rattle.zsv_sqlite.specs.declared.handler.SqliteZoneHandler.{SqliteZoneHandler}

abbrev guarded : Option Guard → Zone → Zone
guarded guard zone = record zone { guard = guard }

-- ---- look-ups
module _ (guard : Option Guard) (zone : Zone) (name : DomainName) (t : RecordType) where
  all_alike : (sets : List RRset) → all_outcome zone name sets ≡ all_outcome (guarded guard zone) name sets
  all_alike [] = refl
  all_alike (set ∷ sets) = refl

  from_alike : (first : Option RRset) (outcome : Outcome) → LookupFrom zone name t first outcome → LookupFrom (guarded guard zone) name t first outcome
  from_alike None outcome is = is
  from_alike (Some first) outcome is = is

  pub guarded_lookup : (options : LookupOptions) (flow : Flow) → LookupAnswers zone name t options flow → LookupAnswers (guarded guard zone) name t options flow
  guarded_lookup options flow is = record {
    outcome = is.outcome;
    is = record {
      any = λ e. is.is.any e ∙ all_alike (sets_of_name zone.sets name);
      one = λ e. from_alike (found zone.sets name t) is.outcome (is.is.one e);
    };
    told = is.told;
  }

  pub guarded_question : (options : LookupOptions) (flow : Flow) → AnswersQuestion (Stored zone) name t options flow → AnswersQuestion (Stored (guarded guard zone)) name t options flow
  guarded_question options flow is = (is.0, λ e. guarded_lookup options flow (is.1 e))

abbrev pub guard_of : {K : Type 0} → SqliteZoneHandler K → Option Guard
guard_of handler = Some (record { axfr_policy = handler.axfr_policy; allow_update = handler.allow_update })

module _ {K : Type 0} (handler : SqliteZoneHandler K) (kept : InMemoryZoneHandler K) (same : kept ≡ handler.in_memory) (t : RecordType) (options : LookupOptions) (flow : Flow) where
  pub handler_lookup : (name : DomainName) → LookupAnswers kept.zone name t options flow → LookupAnswers (guarded_zone handler) name t options flow
  handler_lookup name is = guarded_lookup (guard_of handler) handler.in_memory.zone name t options flow (subst (λ (k : InMemoryZoneHandler K). LookupAnswers k.zone name t options flow) same is)

  pub handler_origin : LookupAnswers kept.zone kept.zone.origin t options flow → LookupAnswers (guarded_zone handler) handler.in_memory.zone.origin t options flow
  handler_origin is = guarded_lookup (guard_of handler) handler.in_memory.zone handler.in_memory.zone.origin t options flow (subst (λ (k : InMemoryZoneHandler K). LookupAnswers k.zone k.zone.origin t options flow) same is)

  pub handler_question : (name : DomainName) → AnswersQuestion (Stored kept.zone) name t options flow → AnswersQuestion (Stored (guarded_zone handler)) name t options flow
  handler_question name is = guarded_question (guard_of handler) handler.in_memory.zone name t options flow (subst (λ (k : InMemoryZoneHandler K). AnswersQuestion (Stored k.zone) name t options flow) same is)

-- ---- changes
guarded_leaves : (guard : Option Guard) (old new : Zone) (at : Owned) → LeavesZone old at new → LeavesZone (guarded guard old) at (guarded guard new)
guarded_leaves guard old new at leaves = record {
  sets = leaves.sets;
  ordered = leaves.ordered;
  stored = leaves.stored;
  rest = ap (guarded guard) leaves.rest;
}

pub guarded_changes : (guard : Option Guard) (refused : Option ResponseCode) (increment : Bool) (old : Zone) (rs : List Record) (answer : Result Bool ResponseCode) (new : Zone)
    → ChangesBy refused increment old rs answer new → ChangesBy refused increment (guarded guard old) rs answer (guarded guard new)
guarded_changes guard (Some code) increment old rs answer new is = (is.0, ap (guarded guard) is.1)
guarded_changes guard None increment old rs answer new is = (is.0, guarded_leaves guard old new _ is.1)

-- ---- what a test returns
pub refused_as : (o : Option ResponseCode) (code : ResponseCode) → Err code ≡ unless_refused o → o ≡ Some code
refused_as None code e = let h : ⊥ = cc in absurd h
refused_as (Some other) code e = let g : other ≡ code = cc in ap Some g

pub passed_as : (o : Option ResponseCode) (u : Unit {0}) → Ok u ≡ unless_refused o → o ≡ None
passed_as None u e = refl
passed_as (Some other) u e = let h : ⊥ = cc in absurd h

-- ---- the answer
abbrev asked_first : Zone → Asked → Option ResponseCode
asked_first zone asked = or_else (prerequisites_refused zone asked.prerequisites) (first_refused (prescan_refused zone.origin) asked.updates)

-- Prerequisites and prescan come between permission and the SOA.
between : (first second third fourth : Option ResponseCode) → first ≡ None → or_else second third ≡ None → or_else first (or_else second (or_else third fourth)) ≡ fourth
between (Some code) second third fourth e f = let h : ⊥ = cc in absurd h
between None (Some code) third fourth e f = let h : ⊥ = cc in absurd h
between None None (Some code) fourth e f = let h : ⊥ = cc in absurd h
between None None None fourth e f = refl

refused_then : (first second third fourth : Option ResponseCode) (code : ResponseCode) → first ≡ None → or_else second third ≡ Some code → or_else first (or_else second (or_else third fourth)) ≡ Some code
refused_then (Some other) second third fourth code e f = let h : ⊥ = cc in absurd h
refused_then None (Some other) third fourth code e f = f
refused_then None None (Some other) fourth code e f = f
refused_then None None None fourth code e f = let h : ⊥ = cc in absurd h

refused_first : (first rest : Option ResponseCode) (code : ResponseCode) → first ≡ Some code → or_else first rest ≡ Some code
refused_first (Some other) rest code e = e
refused_first None rest code e = let h : ⊥ = cc in absurd h

refused_view : (zone : Zone) (asked : Asked) (code : ResponseCode) → update_refused zone asked ≡ Some code → UpdatesView (Stored zone) asked (Err code) (Stored zone)
refused_view zone asked code e =
    (zone, subst (λ (o : Option ResponseCode). ChangesBy o true zone asked.updates (Err code) zone) (sym e) (refl, refl), refl)

-- By permission, by prerequisites or form, or not at all before the SOA is asked for.
pub forbidden_view : (zone : Zone) (asked : Asked) (code : ResponseCode) → permission_refused zone.guard asked.signed asked.verdict ≡ Some code → UpdatesView (Stored zone) asked (Err code) (Stored zone)
forbidden_view zone asked code e = refused_view zone asked code (refused_first (permission_refused zone.guard asked.signed asked.verdict) _ code e)

pub unmet_view : (zone : Zone) (asked : Asked) (code : ResponseCode) → permission_refused zone.guard asked.signed asked.verdict ≡ None → asked_first zone asked ≡ Some code
    → UpdatesView (Stored zone) asked (Err code) (Stored zone)
unmet_view zone asked code permitted e =
    refused_view zone asked code
    (refused_then (permission_refused zone.guard asked.signed asked.verdict) (prerequisites_refused zone asked.prerequisites) (first_refused (prescan_refused zone.origin) asked.updates)
    (soa_refused zone asked.updates) code permitted e)

pub applied_view : (old new : Zone) (asked : Asked) (answer : Result Bool ResponseCode) → permission_refused old.guard asked.signed asked.verdict ≡ None → asked_first old asked ≡ None
    → ChangesBy (soa_refused old asked.updates) true old asked.updates answer new → UpdatesView (Stored old) asked answer (Stored new)
applied_view old new asked answer permitted e changes = (
  new,
  subst (λ (o : Option ResponseCode). ChangesBy o true old asked.updates answer new)
      (sym (between (permission_refused old.guard asked.signed asked.verdict) (prerequisites_refused old asked.prerequisites) (first_refused (prescan_refused old.origin) asked.updates)
      (soa_refused old asked.updates) permitted e))
      changes,
  refl,
)

-- Records that pass the prescan, where prerequisites and prescan refuse nothing.
pub second_none : (first second : Option ResponseCode) → or_else first second ≡ None → second ≡ None
second_none None second e = e
second_none (Some code) second e = let h : ⊥ = cc in absurd h

-- ---- transfers
-- The records, or the code of a refusal.
abbrev Answered : Option ResponseCode → List Record → Result ZoneTransfer LookupError → Type 0
Answered refused rs answer = MatchOption refused (IsOkAnd answer (λ transfer. transfer_records transfer ≡ rs)) (λ code. answer ≡ Err (errors.ResponseCode code))

module _ (zone : Zone) (asked : Asked) (dnssec_ok : Bool) (moment : ℕ) (context : Option TSigResponseContext) (signs : option_map context_of context ≡ transfer_context zone asked moment) where
  -- The guard refuses; or the zone's own policy decides.
  pub guard_refuses : (code : ResponseCode) → guard_refused zone.guard asked ≡ Some code → TransfersView (Stored zone) asked dnssec_ok moment (Some (Err (errors.ResponseCode code), context))
  guard_refuses code e =
      (subst (λ (o : Option ResponseCode). Answered (or_else o (own_refused zone.axfr_policy)) (transfer_of zone dnssec_ok) (Err (errors.ResponseCode code))) (sym e) refl, signs)

  pub guard_passes : (answer : Result ZoneTransfer LookupError) → guard_refused zone.guard asked ≡ None → Answered (own_refused zone.axfr_policy) (transfer_of zone dnssec_ok) answer → TransfersView (Stored zone) asked dnssec_ok moment (Some (answer, context))
  guard_passes answer e is = (subst (λ (o : Option ResponseCode). Answered (or_else o (own_refused zone.axfr_policy)) (transfer_of zone dnssec_ok) answer) (sym e) is, signs)

pub handler_transfer : {K : Type 0} (handler : SqliteZoneHandler K) (kept : InMemoryZoneHandler K) → kept ≡ handler.in_memory → (dnssec_ok : Bool) (answer : Result ZoneTransfer LookupError)
    → Answered (own_refused kept.zone.axfr_policy) (transfer_of kept.zone dnssec_ok) answer → Answered (own_refused (guarded_zone handler).axfr_policy) (transfer_of (guarded_zone handler) dnssec_ok) answer
handler_transfer {K} handler kept same dnssec_ok answer is = subst (λ (k : InMemoryZoneHandler K). Answered (own_refused k.zone.axfr_policy) (transfer_of k.zone dnssec_ok) answer) same is
