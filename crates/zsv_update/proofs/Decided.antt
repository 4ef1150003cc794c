-- The outcome of an update, by its chain and its first handler.
use Rattle.std.proofs.Common.{◌≡◌, ◌∙◌, ◌<◌, ◌≤◌, ℕ, List, [], ◌∷◌, Vec, Global, Bool, true, false, ap, get_or, length, map, refl, subst, sym, arith}
use Rattle.std.proofs.lemmas.Bool.{true≢false}
use Rattle.std.proofs.lemmas.Map.Steps.{set_value_same}
use Rattle.std.specs.Ordering.{is_eq}
use Rattle.std.specs.Prelude.{Option, Some, None, Result, Ok, Err, is_ok, not, option_map, slice_get}
use Rattle.std.specs.declared.net.SocketAddr.{SocketAddr}
use Rattle.zsv_chains.proofs.Chained.{entry_views}
use Rattle.zsv_chains.specs.Chains.{Answer, UpdatesFirst, UpdatesFound, chain_at, entry_for, views_of, with_chain_at}
use Rattle.zsv_chains.specs.zst_key.dnw_name.DomainName.{name_cmp}
use Rattle.zsv_chains.specs.zst_request.Requested.{context_of}
use Rattle.zsv_chains.specs.zst_request.Updating.{Asked, ChangesBy, UpdatesView, update_refused}
use Rattle.zsv_chains.specs.zst_request.Views.{Blocked, Stored, View, zone_type_of}
use Rattle.zsv_chains.specs.zst_request.declared.request.TSigResponseContext.{TSigResponseContext}
use Rattle.zsv_chains.specs.zst_request.dnw_codes.RecordType.{same_record_type}
use Rattle.zsv_chains.specs.zst_request.dnw_codes.declared.record_type.RecordType.TheVariants as types
use Rattle.zsv_chains.specs.zst_request.dnw_name.DomainName.{DomainName}
use Rattle.zsv_chains.specs.zst_request.zst_codes.declared.response_code.ResponseCode.{ResponseCode}
use Rattle.zsv_chains.specs.zst_request.zst_codes.declared.response_code.ResponseCode.TheVariants as responses
use Rattle.zsv_chains.specs.zst_request.zst_codes.declared.settings.ZoneType.{ZoneType}
use Rattle.zsv_chains.specs.zst_request.zst_codes.declared.settings.ZoneType.TheVariants as zones
use Rattle.zsv_reply.specs.Writing.{bare_parts, error_parts}
use Rattle.zsv_reply.specs.zsv_message.Messages.{Message}
use Rattle.zsv_reply.specs.zsv_message.zsv_parts.declared.header.Metadata.{Metadata}
use Rattle.zsv_reply.specs.zsv_message.zsv_parts.declared.question.Query.{Query}
use Rattle.zsv_update.specs.Deciding.{DecidesFirst, IsApplied, IsOutcome, first_zone_type, given_of}
use Rattle.zsv_update.specs.Keys.{Keys}
use Rattle.zsv_update.specs.Updates.{ChainUpdates, Given, GivesUpdate, HandlesUpdate, ZoneUpdates, asked_of_update, only, outcome_code, outcome_parts}
use Rattle.zsv_update.specs.declared.decide.Decided.{Decided}

abbrev Chained : Type 0
Chained = List (DomainName × List View)

-- ---- the first handler
pub first_kind : {H : Type 0} (view : H → View) (handlers : List H) → first_zone_type (map view handlers) ≡ option_map (λ h. zone_type_of (view h)) (slice_get handlers 0)
first_kind view [] = refl
first_kind view (h ∷ hs) = refl

pub some_same : {X : Type 0} (x y : X) → Some x ≡ Some y → x ≡ y
some_same x y e = cc e

-- ---- the question and the chain found
pub one_question : (qs : List Query) (q : Query) → 1 ≤ length qs → length qs < 2 → q ≡ get_or qs 0 q → qs ≡ q ∷ []
one_question [] q some few is = absurd (omega (arith, some))
one_question (x ∷ []) q some few is = ap (λ (y : Query). y ∷ []) (sym is)
one_question (x ∷ y ∷ ys) q some few is = absurd (omega (arith, few))

pub is_true : (b : Bool) → not b ≡ false → b ≡ true
is_true true e = refl
is_true false e = absurd (true≢false e)

module _ {H : Type 0} (view : H → View) (chains : List (DomainName × Vec H Global)) (name : DomainName) where
  pub found_entry : (key : DomainName) → Some key ≡ option_map (λ entry. entry.0) (entry_for chains name) → (chain : List View) × (entry_for (views_of view chains) name ≡ Some (key, chain))
  found_entry key is = by (entry_for chains name) is (entry_views view chains name)
    where
      by : (o : Option (DomainName × Vec H Global)) → Some key ≡ option_map (λ entry. entry.0) o
          → entry_for (views_of view chains) name ≡ option_map (λ (entry : DomainName × Vec H Global). (entry.0, map view entry.1.items)) o
          → (chain : List View) × (entry_for (views_of view chains) name ≡ Some (key, chain))
      by None none found = absurd (cc none)
      by (Some e) some found = (map view e.1.items, found ∙ ap (λ (n : DomainName). Some (n, map view e.1.items)) (sym (some_same key e.0 some)))

  pub no_entry : None ≡ option_map (λ entry. entry.0) (entry_for chains name) → entry_for (views_of view chains) name ≡ None
  no_entry is = by (entry_for chains name) is (entry_views view chains name)
    where
      by : (o : Option (DomainName × Vec H Global)) → None ≡ option_map (λ entry. entry.0) o
          → entry_for (views_of view chains) name ≡ option_map (λ (entry : DomainName × Vec H Global). (entry.0, map view entry.1.items)) o
          → entry_for (views_of view chains) name ≡ None
      by None none found = found
      by (Some e) some found = absurd (cc some)

-- ---- unsigned refusals
abbrev given_with : Metadata → Option TSigResponseContext → Chained → Given
given_with m context chains = record { plain = bare_parts m; context = option_map context_of context; chains = chains }

pub refused_given : (decided : Decided) (old new : Chained) (m : Metadata) → decided.metadata ≡ m → decided.context ≡ None → new ≡ old → given_of decided new ≡ only old (bare_parts m)
refused_given decided old new m metadata context same =
    ap (λ (n : Metadata). given_with n decided.context new) metadata
    ∙ ap (λ (c : Option TSigResponseContext). given_with m c new) context
    ∙ ap (given_with m None) same

pub not_applied : (decided : Decided) (old new : Chained) → decided.applied ≡ false → new ≡ old → IsApplied old decided new
not_applied decided old new refused same = record { accepted = λ applied. absurd (true≢false (sym applied ∙ refused)); unchanged = λ none. same }

-- ---- the handler's answer
-- A refused update leaves the view.
refused_view : (view : View) (asked : Asked) (code : ResponseCode) (left : View) → UpdatesView view asked (Err code) left → left ≡ view
refused_view (Blocked blocklist) asked code left is = is.1
refused_view (Stored zone) asked code left (after, changes, is) = is ∙ ap Stored (by (update_refused zone asked) changes)
  where
    by : (o : Option ResponseCode) → ChangesBy o true zone asked.updates (Err code) after → after ≡ zone
    by (Some other) refused = refused.1
    by None accepted = absurd (cc accepted.0)

module _ (chains : Chained) (zone : DomainName) where
  same_chain : (chain : List View) → chain_at chains zone ≡ Some chain → with_chain_at chains zone chain ≡ chains
  same_chain chain there = set_value_same (λ other. is_eq (name_cmp zone other)) chains chain there

  -- By the answer of the first handler of a chain an update is accepted, or nothing changed.
  module _ (m : Metadata) (asked : Asked) (moment : ℕ) (decided : Decided) (new : Chained) where
    answered : (view : View) (views : List View) (outcome : Result Bool ResponseCode) (left : View) → chain_at chains zone ≡ Some (view ∷ views) → UpdatesView view asked outcome left
        → new ≡ with_chain_at chains zone (left ∷ views) → decided.metadata.response_code ≡ outcome_code outcome → decided.applied ≡ is_ok outcome → IsApplied chains decided new
    answered view views (Ok changed) left there updates after code applied = record { accepted = λ yes. code; unchanged = λ no. absurd (true≢false (sym applied ∙ no)) }
    answered view views (Err refusal) left there updates after code applied = record {
      accepted = λ yes. absurd (true≢false (sym yes ∙ applied));
      unchanged = λ no. after ∙ ap (λ (v : View). with_chain_at chains zone (v ∷ views)) (refused_view view asked refusal left updates) ∙ same_chain (view ∷ views) there;
    }

    by_first : (chain left : List View) (answer : Option Answer) → chain_at chains zone ≡ Some chain → UpdatesFirst chain asked moment answer left → new ≡ with_chain_at chains zone left → IsOutcome m answer decided
        → IsApplied chains decided new
    by_first [] left None there updates after is = not_applied decided chains new is.2 (after ∙ ap (with_chain_at chains zone) updates ∙ same_chain [] there)
    by_first [] left (Some answer) there updates after is = absurd updates
    by_first (view ∷ views) left None there updates after is = absurd updates
    by_first (view ∷ views) left (Some answer) there (changed, updates, context, first) after is =
        answered view views answer.0 changed there updates (after ∙ ap (with_chain_at chains zone) first) (ap (λ (n : Metadata). n.response_code) is.0) is.2

    pub first_applied : DecidesFirst m chains zone asked moment decided new → IsApplied chains decided new
    first_applied (answer, updates, is) = by (chain_at chains zone) refl updates
      where
        none : (a : Option Answer) → a ≡ None → IsOutcome m a decided → decided.applied ≡ false
        none None e given = given.2
        none (Some other) e given = absurd (cc e)

        by : (o : Option (List View)) → chain_at chains zone ≡ o → UpdatesFound chains zone o asked moment answer new → IsApplied chains decided new
        by None there found = not_applied decided chains new (none answer found.0 is) found.1
        by (Some chain) there (left, first, after) = by_first chain left answer there first after is

-- ---- the chain found
module _ (keys : Keys) (request : Message) (source : SocketAddr) (octets : List ℕ) (moment : ℕ) (chains : Chained) (q : Query) where
  abbrev Gives : Option (DomainName × List View) → Given → Type 0
  Gives found given = ChainUpdates keys request source octets moment chains q found given

  -- A question of another type.
  pub by_type : (given : Given) → same_record_type q.query_type types.SOA ≡ false → given ≡ only chains (error_parts request.metadata responses.FormErr)
      → GivesUpdate keys request source octets moment chains (q ∷ []) given
  by_type given other is = subst (λ (b : Bool). ZoneUpdates keys request source octets moment b chains q given) (sym other) is

  -- The zone's chain, or none.
  pub by_entry : (found : Option (DomainName × List View)) (given : Given) → same_record_type q.query_type types.SOA ≡ true → entry_for chains q.name ≡ found → Gives found given
      → GivesUpdate keys request source octets moment chains (q ∷ []) given
  by_entry found given soa entry gives =
      subst (λ (b : Bool). ZoneUpdates keys request source octets moment b chains q given) (sym soa) (subst (λ (o : Option (DomainName × List View)). Gives o given) (sym entry) gives)

  -- An empty chain.
  pub by_none : (zone : DomainName) (chain : List View) (given : Given) → first_zone_type chain ≡ None → given ≡ only chains (error_parts request.metadata responses.ServFail) → Gives (Some (zone, chain)) given
  by_none zone [] given none is = is
  by_none zone (view ∷ views) given none is = absurd (cc none)

  -- Zones of other kinds.
  unasked : (zone : DomainName) (view : View) (views : List View) (kind : ZoneType) (code : ResponseCode) (given : Given) → chain_at chains zone ≡ Some (view ∷ views) → zone_type_of view ≡ kind
      → HandlesUpdate kind view (asked_of_update keys request source octets moment q zone) moment code None view → given ≡ only chains (outcome_parts request.metadata code)
      → Gives (Some (zone, view ∷ views)) given
  unasked zone view views kind code given there is handles gives =
      subst (Gives (Some (zone, view ∷ views))) (sym gives) (
        code,
        view,
        subst (λ (t : ZoneType). HandlesUpdate t view (asked_of_update keys request source octets moment q zone) moment code None view) (sym is) handles,
        refl,
        sym (same_chain chains zone (view ∷ views) there),
      )

  pub by_secondary : (zone : DomainName) (chain : List View) (given : Given) → chain_at chains zone ≡ Some chain → first_zone_type chain ≡ Some zones.Secondary
      → given ≡ only chains (outcome_parts request.metadata responses.NotImp) → Gives (Some (zone, chain)) given
  by_secondary zone [] given there kind is = absurd (cc kind)
  by_secondary zone (view ∷ views) given there kind is = unasked zone view views zones.Secondary responses.NotImp given there (some_same (zone_type_of view) zones.Secondary kind) (refl, refl, refl) is

  pub by_external : (zone : DomainName) (chain : List View) (given : Given) → chain_at chains zone ≡ Some chain → first_zone_type chain ≡ Some zones.External
      → given ≡ only chains (outcome_parts request.metadata responses.NotAuth) → Gives (Some (zone, chain)) given
  by_external zone [] given there kind is = absurd (cc kind)
  by_external zone (view ∷ views) given there kind is = unasked zone view views zones.External responses.NotAuth given there (some_same (zone_type_of view) zones.External kind) (refl, refl, refl) is

  -- A primary zone's first handler was asked.
  pub by_primary : (zone : DomainName) (chain : List View) (decided : Decided) (new : Chained) → chain_at chains zone ≡ Some chain → first_zone_type chain ≡ Some zones.Primary
      → DecidesFirst request.metadata chains zone (asked_of_update keys request source octets moment q zone) moment decided new → Gives (Some (zone, chain)) (given_of decided new)
  by_primary zone [] decided new there kind decides = absurd (cc kind)
  by_primary zone (view ∷ views) decided new there kind (answer, updates, is) =
      by answer (subst (λ (o : Option (List View)). UpdatesFound chains zone o asked moment answer new) there updates) is
    where
      asked : Asked
      asked = asked_of_update keys request source octets moment q zone

      by : (a : Option Answer) → UpdatesFound chains zone (Some (view ∷ views)) asked moment a new → IsOutcome request.metadata a decided → Gives (Some (zone, view ∷ views)) (given_of decided new)
      by None (left, first, after) given = absurd first
      by (Some told) (chain, (left, changes, context, first), after) given = (
        outcome_code told.0,
        left,
        subst (λ (t : ZoneType). HandlesUpdate t view asked moment (outcome_code told.0) (option_map context_of decided.context) left) (sym (some_same (zone_type_of view) zones.Primary kind))
            (told.0, changes, refl, given.1 ∙ context),
        ap bare_parts given.0,
        after ∙ ap (with_chain_at chains zone) first,
      )
