-- What the answers of handlers come to: which handler answers, what a chain resolves a question to.
use Rattle.std.proofs.Common.{◌≡◌, ◌∙◌, ◌+◌, ◌<◌, ℕ, zero, suc, refl, sym, subst, ap, arith, drop, length, map, IsSomeAnd, slice_get, slice_index_or}
use Rattle.std.proofs.lemmas.Bool.{true≢false}
use Rattle.std.proofs.lemmas.List.{drop_more}
use Rattle.std.specs.Prelude.{Bool, true, false, cond, List, [], ◌∷◌, Option, Some, None, Result, Ok}
use Rattle.zst_request.specs.zst_record.declared.records.Record.{Record}
use Rattle.zst_request.specs.Blocking.{BlockedAnswer, blocked_answer, is_blocked}
use Rattle.zst_request.specs.Handling.{AnswersQuestion, Blocks, Consults, Flow, GivesWay, HandlerAnswers, ShowsBlocked}
use Rattle.zst_request.specs.Views.{Blocked, Stored, View, origin_of}
use Rattle.zst_request.specs.dnw_codes.declared.record_type.RecordType.{RecordType}
use Rattle.zst_request.specs.dnw_codes.declared.record_type.RecordType.TheVariants.{AXFR}
use Rattle.zst_request.specs.dnw_codes.RecordType.{same_record_type}
use Rattle.zst_request.specs.dnw_name.DomainName.{DomainName}
use Rattle.zst_request.specs.zst_codes.declared.lookup_control_flow.LookupControlFlow.TheVariants as flows
use Rattle.zst_request.specs.zst_codes.declared.lookup_error.LookupError.{LookupError}
use Rattle.zst_request.specs.zst_handler.Answers.{Tells, additionals_in, answers_in, sets_shown}
use Rattle.zst_request.specs.zst_handler.Lookups.{IsLookup, Outcome, answered, name_error, name_exists, out_of_zone}
use Rattle.zst_request.specs.zst_handler.Zones.{Zone}
use Rattle.zst_request.specs.zst_handler.declared.auth_lookup.AuthLookup.{AuthLookup}
use Rattle.zst_request.specs.zst_handler.declared.lookup_options.LookupOptions.{LookupOptions}
use Rattle.zsv_answer.specs.Consulting.{Settles, found_by}
use Rattle.zsv_answer.specs.Parts.{AtOrigin}
use Rattle.zsv_answer.specs.Resolution.{GivesBlocked, ListResolves, LooksUp, Resolves, ZoneResolves, answering, answers_name, enforced, enforced_by, last_of, resolution_in, resolved}

-- ---- what a flow holds
abbrev pub is_skip : Flow → Bool
is_skip (flows.Continue told) = false
is_skip (flows.Break told) = false
is_skip flows.Skip = true

abbrev pub is_break : Flow → Bool
is_break (flows.Continue told) = false
is_break (flows.Break told) = true
is_break flows.Skip = false

abbrev pub told_in : Result AuthLookup LookupError → Flow → Result AuthLookup LookupError
told_in other (flows.Continue told) = told
told_in other (flows.Break told) = told
told_in other flows.Skip = other

-- ---- a zone always continues
zone_skips_not : (o : LookupOptions) (outcome : Outcome) → Tells o outcome flows.Skip → ⊥
zone_skips_not o (answered answer) (found, is, shows) = true≢false (ap is_skip is)
zone_skips_not o name_exists is = true≢false (ap is_skip is)
zone_skips_not o name_error is = true≢false (ap is_skip is)
zone_skips_not o out_of_zone is = true≢false (ap is_skip is)

zone_breaks_not : (o : LookupOptions) (outcome : Outcome) (told : Result AuthLookup LookupError) → Tells o outcome (flows.Break told) → ⊥
zone_breaks_not o (answered answer) told (found, is, shows) = true≢false (ap is_break is)
zone_breaks_not o name_exists told is = true≢false (ap is_break is)
zone_breaks_not o name_error told is = true≢false (ap is_break is)
zone_breaks_not o out_of_zone told is = true≢false (ap is_break is)

-- ---- who answers
-- A handler that skips doesn't answer for the name.
pub skips : (view : View) (name : DomainName) (t : RecordType) (o : LookupOptions) → AnswersQuestion view name t o flows.Skip → answers_name name view ≡ false
skips (Stored zone) name t o asks = by (same_record_type t AXFR) refl
  where
    by : (b : Bool) → same_record_type t AXFR ≡ b → true ≡ false
    by true e = absurd (true≢false (ap is_skip (asks.0 e)))
    by false e = absurd (zone_skips_not o (asks.1 e).outcome (asks.1 e).told)
skips (Blocked blocklist) name t o asks = by (is_blocked blocklist name) _ asks
  where
    by : (b : Bool) (answer : BlockedAnswer) → Blocks (cond b (Some answer) None) flows.Skip → b ≡ false
    by true answer (found, is, shows) = absurd (true≢false (ap is_skip is))
    by false answer is = refl

-- One that doesn't skip does.
pub answers : (view : View) (name : DomainName) (t : RecordType) (o : LookupOptions) (flow : Flow) → is_skip flow ≡ false → AnswersQuestion view name t o flow → answers_name name view ≡ true
answers (Stored zone) name t o flow told asks = refl
answers (Blocked blocklist) name t o flow told asks = by (is_blocked blocklist name) _ asks
  where
    by : (b : Bool) (answer : BlockedAnswer) → Blocks (cond b (Some answer) None) flow → b ≡ true
    by true answer blocks = refl
    by false answer is = absurd (true≢false (sym (ap is_skip is) ∙ told))

-- ---- what is resolved
gives : (answer : BlockedAnswer) (found : AuthLookup) (told : Result AuthLookup LookupError) → told ≡ Ok found → ShowsBlocked answer found → GivesBlocked answer (resolution_in told)
gives answer found told is shows =
    subst (λ (r : Result AuthLookup LookupError). GivesBlocked answer (resolution_in r)) (sym is)
    (answers_in found, shows.answers, ap (resolved (answers_in found)) shows.additionals)

blocks_resolve : (answer : Option BlockedAnswer) (told : Result AuthLookup LookupError) → Blocks answer (flows.Break told) → ListResolves answer (resolution_in told)
blocks_resolve None told is = absurd (true≢false (sym (ap is_skip is)))
blocks_resolve (Some answer) told (found, is, shows) = gives answer found told (ap (told_in told) is) shows

-- A handler that breaks off gives what the chain answers.
pub breaks_resolve : (chain : List View) (view : View) (name : DomainName) (t : RecordType) (o : LookupOptions) (told : Result AuthLookup LookupError) → same_record_type t AXFR ≡ false
    → AnswersQuestion view name t o (flows.Break told) → Resolves chain view name t o.dnssec_ok (resolution_in told)
breaks_resolve chain (Stored zone) name t o told other asks = absurd (zone_breaks_not o (asks.1 other).outcome told (asks.1 other).told)
breaks_resolve chain (Blocked blocklist) name t o told other asks = blocks_resolve (blocked_answer blocklist name t) told asks

looked : (zone : Zone) (name : DomainName) (t : RecordType) (o : LookupOptions) (told : Result AuthLookup LookupError) (outcome : Outcome) → IsLookup zone name t outcome → Tells o outcome (flows.Continue told)
    → LooksUp zone name t o.dnssec_ok (resolution_in told)
looked zone name t o told (answered answer) is (found, e, shows) =
    let told_found = ap (λ (flow : Flow). resolution_in (told_in told flow)) e in
    let answers_shown = ap (λ (rs : List Record). resolved rs (additionals_in found)) shows.answers in
    (answered answer, is, told_found ∙ answers_shown ∙ ap (resolved (sets_shown o.dnssec_ok answer.answers)) shows.additionals)
looked zone name t o told name_exists is e = (name_exists, is, ap resolution_in (ap (told_in told) e))
looked zone name t o told name_error is e = (name_error, is, ap resolution_in (ap (told_in told) e))
looked zone name t o told out_of_zone is e = (out_of_zone, is, ap resolution_in (ap (told_in told) e))

-- A zone's answer, unless a list that is enforced takes its place.
zone_settles : (zone : Zone) (name : DomainName) (t : RecordType) (d : Bool) (answer : Option BlockedAnswer) (told last : Result AuthLookup LookupError) → LooksUp zone name t d (resolution_in told)
    → Settles answer told last → ZoneResolves zone answer name t d (resolution_in last)
zone_settles zone name t d None told last found is = subst (λ (r : Result AuthLookup LookupError). LooksUp zone name t d (resolution_in r)) (sym is) found
zone_settles zone name t d (Some answer) told last found (records, is, shows) = gives answer records last is shows

continues_not : (answer : Option BlockedAnswer) (told : Result AuthLookup LookupError) → Blocks answer (flows.Continue told) → ⊥
continues_not None told is = true≢false (sym (ap is_skip is))
continues_not (Some answer) told (found, is, shows) = true≢false (sym (ap is_break is))

-- A handler that continues is a zone, and the others may change what it tells.
pub continues_resolve : (chain : List View) (view : View) (name : DomainName) (t : RecordType) (o : LookupOptions) (told last : Result AuthLookup LookupError) → same_record_type t AXFR ≡ false
    → AnswersQuestion view name t o (flows.Continue told) → Settles (enforced chain name t) told last → Resolves chain view name t o.dnssec_ok (resolution_in last)
continues_resolve chain (Stored zone) name t o told last other asks settles =
    zone_settles zone name t o.dnssec_ok (enforced chain name t) told last (looked zone name t o told (asks.1 other).outcome (asks.1 other).is (asks.1 other).told) settles
continues_resolve chain (Blocked blocklist) name t o told last other asks settles = absurd (continues_not (blocked_answer blocklist name t) told asks)

-- It enforces nothing.
pub continues_enforce : (view : View) (name : DomainName) (t : RecordType) (o : LookupOptions) (told : Result AuthLookup LookupError) → AnswersQuestion view name t o (flows.Continue told) → enforced_by view name t ≡ None
continues_enforce (Stored zone) name t o told asks = refl
continues_enforce (Blocked blocklist) name t o told asks = absurd (continues_not (blocked_answer blocklist name t) told asks)

-- What is left of a flow that was consulted.
pub way_settles : (answer : Option BlockedAnswer) (told last : Result AuthLookup LookupError) (flow : Flow) → told_in last flow ≡ last → GivesWay answer (flows.Continue told) flow → Settles answer told last
way_settles None told last flow at is = sym at ∙ ap (told_in last) is
way_settles (Some answer) told last flow at (found, is, shows) = (found, sym at ∙ ap (told_in last) is, shows)

too_few : (n : ℕ) → suc (suc n) < 2 → ⊥
too_few n few = omega arith

-- One handler alone enforces nothing where it enforces nothing.
pub alone_settles : {H : Type 0} (view : H → View) (hs : List H) (place : ℕ) (name : DomainName) (t : RecordType) (told : Result AuthLookup LookupError) → length hs < 2
    → IsSomeAnd (slice_get hs place) (λ h. enforced_by (view h) name t ≡ None) → Settles (enforced (map view hs) name t) told told
alone_settles view [] place name t told few at = refl
alone_settles view (x ∷ []) zero name t told few none = subst (λ (o : Option BlockedAnswer). Settles (last_of o None) told told) (sym none) refl
alone_settles view (x ∷ []) (suc place) name t told few at = absurd at
alone_settles view (x ∷ y ∷ hs) place name t told few at = absurd (too_few (length hs) few)

-- ---- those that are consulted
-- What is left when those from here on are consulted of one flow is left of another too.
abbrev pub Ahead : List View → List View → DomainName → RecordType → Flow → Flow → Type 0
Ahead chain rest name t first flow = (last : Flow) → GivesWay (enforced rest name t) flow last → GivesWay (enforced chain name t) first last

pub ahead_starts : (chain : List View) (name : DomainName) (t : RecordType) (first : Flow) → Ahead chain chain name t first first
ahead_starts chain name t first last way = way

way_over : (by rest : Option BlockedAnswer) (flow next last : Flow) → GivesWay by flow next → GivesWay rest next last → GivesWay (last_of by rest) flow last
way_over by (Some answer) flow next last here later = later
way_over by None flow next last here later = subst (GivesWay by flow) (sym later) here

consult_way : (view : View) (name : DomainName) (t : RecordType) (flow next : Flow) → Consults view name t flow next → GivesWay (enforced_by view name t) flow next
consult_way (Stored zone) name t flow next consults = consults
consult_way (Blocked blocklist) name t flow next consults = consults

pub ahead_goes : (chain rest : List View) (view : View) (name : DomainName) (t : RecordType) (first flow next : Flow) → Ahead chain (view ∷ rest) name t first flow → Consults view name t flow next → Ahead chain rest name t first next
ahead_goes chain rest view name t first flow next ahead consults last way =
    ahead last (way_over (enforced_by view name t) (enforced rest name t) flow next last (consult_way view name t flow next consults) way)

pub ahead_passes : (chain rest : List View) (view : View) (name : DomainName) (t : RecordType) (first flow : Flow) → Ahead chain (view ∷ rest) name t first flow → enforced_by view name t ≡ None → Ahead chain rest name t first flow
ahead_passes chain rest view name t first flow ahead none last way =
    ahead last (way_over (enforced_by view name t) (enforced rest name t) flow flow last (subst (λ (o : Option BlockedAnswer). GivesWay o flow flow) (sym none) refl) way)

-- ---- handlers in their places
pub views_more : {H : Type 0} (view : H → View) (hs : List H) (i : ℕ) (h : H) → i < length hs → h ≡ slice_index_or hs i h → map view (drop i hs) ≡ view h ∷ map view (drop (i + 1) hs)
views_more view hs i h within is = ap (map view) (drop_more hs i h within) ∙ ap (λ (x : _). view x ∷ map view (drop (i + 1) hs)) (sym is)

pub no_skip : (flow : Flow) → (flow ≡ flows.Skip → ⊥) → is_skip flow ≡ false
no_skip (flows.Continue told) other = refl
no_skip (flows.Break told) other = refl
no_skip flows.Skip other = absurd (other refl)

-- A handler that answers is the first where it stands first.
pub first_answers : (chain : List View) (name : DomainName) (view : View) → answers_name name view ≡ true → answering (view ∷ chain) name ≡ Some view
first_answers chain name view e = ap (λ (b : Bool). cond b (Some view) (answering chain name)) e

-- ---- at the origin
pub origin_answers : (view : View) (o : LookupOptions) (t : RecordType) (flow : Flow) → HandlerAnswers view (origin_of view) t o flow → AtOrigin view o.dnssec_ok t (found_by flow)
origin_answers (Stored zone) o t flow answers = by answers.outcome answers.is answers.told
  where
    by : (outcome : Outcome) → IsLookup zone zone.origin t outcome → Tells o outcome flow → AtOrigin (Stored zone) o.dnssec_ok t (found_by flow)
    by (answered answer) is (found, e, shows) = (answered answer, is, ap found_by e ∙ shows.answers)
    by name_exists is e = (name_exists, is, ap found_by e)
    by name_error is e = (name_error, is, ap found_by e)
    by out_of_zone is e = (out_of_zone, is, ap found_by e)
origin_answers (Blocked blocklist) o t flow answers = by (blocked_answer blocklist (origin_of (Blocked blocklist)) t) answers
  where
    by : (answer : Option BlockedAnswer) → Blocks answer flow → found_by flow ≡ []
    by None is = ap found_by is
    by (Some answer) (found, is, shows) = ap found_by is
