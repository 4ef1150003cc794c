-- Zones that take no updates stay as they are.
use Rattle.std.proofs.Common.{◌≡◌, ◌∙◌, ap, refl, subst, sym}
use Rattle.std.proofs.lemmas.Map.Steps.{set_value_same}
use Rattle.std.specs.Ordering.{is_eq}
use Rattle.std.specs.Prelude.{ℕ, Bool, true, false, cond, List, [], ◌∷◌, Option, Some, None, IfSome, Result, Ok, Err, option_map}
use Rattle.std.specs.List.{AllByRecursion}
use Rattle.std.specs.declared.net.SocketAddr.{SocketAddr}
use Rattle.zsv_catalog.specs.Catalogs.{GivesOf, is_served_update}
use Rattle.zsv_catalog.specs.Chains.{chain_at, entry_for, with_chain_at}
use Rattle.zsv_catalog.specs.zsv_answer.zst_request.Updating.{Asked, ChangesBy, SigningContext, UpdatesView, update_refused}
use Rattle.zsv_catalog.specs.zsv_answer.zst_request.Views.{Blocked, Stored, View, zone_type_of}
use Rattle.zsv_catalog.specs.zsv_answer.zst_request.dnw_codes.RecordType.{same_record_type}
use Rattle.zsv_catalog.specs.zsv_answer.zst_request.dnw_codes.declared.record_type.RecordType.TheVariants.{SOA}
use Rattle.zsv_catalog.specs.zsv_answer.zst_request.dnw_name.DomainName.{DomainName, domain_name, lowercase_name, name_cmp}
use Rattle.zsv_catalog.specs.zsv_answer.zst_request.zst_codes.declared.response_code.ResponseCode.{ResponseCode}
use Rattle.zsv_catalog.specs.zsv_answer.zst_request.zst_codes.declared.response_code.ResponseCode.TheVariants as responses
use Rattle.zsv_catalog.specs.zsv_answer.zst_request.zst_codes.declared.settings.ZoneType.{ZoneType}
use Rattle.zsv_catalog.specs.zsv_answer.zst_request.zst_codes.declared.settings.ZoneType.TheVariants as zones
use Rattle.zsv_catalog.specs.zsv_answer.zst_request.zst_handler.Zones.{Guard, Zone}
use Rattle.zsv_catalog.specs.zsv_update.zsv_chains.zst_key.Ancestors.{nearest_from, or_else}
use Rattle.zsv_catalog.specs.zsv_answer.zsv_reply.zsv_message.Messages.{Message}
use Rattle.zsv_catalog.specs.zsv_answer.zsv_reply.zsv_message.zsv_parts.declared.question.Query.{Query}
use Rattle.zsv_catalog.specs.zsv_update.Keys.{Keys}
use Rattle.zsv_catalog.specs.zsv_update.Updates.{ChainUpdates, Given, GivesUpdate, HandlesUpdate, ZoneUpdates, asked_of_update}
use Rattle.authority_server.specs.Servers.{AreUnguarded, IsUnguarded}

-- ---- one view
-- Without a guard every update is refused.
guardless : (zone : Zone) (asked : Asked) → zone.guard ≡ None → update_refused zone asked ≡ Some responses.NotImp
guardless zone asked none = subst (λ (guard : Option Guard). update_refused (record zone { guard = guard }) asked ≡ Some responses.NotImp) (sym none) refl

changes_nothing : (o : Option ResponseCode) (code : ResponseCode) (zone left : Zone) (asked : Asked) (outcome : Result Bool ResponseCode) → o ≡ Some code → ChangesBy o true zone asked.updates outcome left → left ≡ zone
changes_nothing (Some other) code zone left asked outcome is changes = changes.1
changes_nothing None code zone left asked outcome is changes = absurd (cc is)

view_fixed : (view : View) (asked : Asked) (outcome : Result Bool ResponseCode) (left : View) → IsUnguarded view → UpdatesView view asked outcome left → left ≡ view
view_fixed (Stored zone) asked outcome left none (after, changes, is) =
    is ∙ ap Stored (changes_nothing (update_refused zone asked) responses.NotImp zone after asked outcome (guardless zone asked none) changes)
view_fixed (Blocked blocklist) asked outcome left none is = is.1

handled_fixed : (kind : ZoneType) (view left : View) (asked : Asked) (moment : ℕ) (code : ResponseCode) (context : Option SigningContext) → IsUnguarded view → HandlesUpdate kind view asked moment code context left → left ≡ view
handled_fixed zones.Primary view left asked moment code context none (outcome, updates, is, signs) = view_fixed view asked outcome left none updates
handled_fixed zones.Secondary view left asked moment code context none handles = handles.2
handled_fixed zones.External view left asked moment code context none handles = handles.2

-- ---- the chain found
abbrev IsFixed : List View → Type 0
IsFixed chain = AllByRecursion IsUnguarded chain

module _ (chains : List (DomainName × List View)) (all : AreUnguarded chains) where
  at_name : (name : DomainName) (chain : List View) → chain_at chains name ≡ Some chain → IsFixed chain
  at_name name chain there = subst (λ (o : Option (List View)). IfSome o IsFixed) there (by chains all)
    where
      by : (es : List (DomainName × List View)) → AreUnguarded es → IfSome (chain_at es name) IsFixed
      by [] each = tt
      by (e ∷ es) each = one (is_eq (name_cmp name e.0)) (by es each.1)
        where
          one : (b : Bool) → IfSome (chain_at es name) IsFixed → IfSome (cond b (Some e.1) (chain_at es name)) IsFixed
          one true more = each.0
          one false more = more

  -- It is under the name with which it is found.
  found_there : (fqdn : Bool) (labels : List (List ℕ)) (e : DomainName × List View) → nearest_from (chain_at chains) fqdn labels ≡ Some e → chain_at chains e.0 ≡ Some e.1
  found_there fqdn [] e near = by (chain_at chains (domain_name fqdn [])) refl near
    where
      by : (o : Option (List View)) → chain_at chains (domain_name fqdn []) ≡ o → option_map (λ (x : List View). (domain_name fqdn [], x)) o ≡ Some e → chain_at chains e.0 ≡ Some e.1
      by None there is = absurd (cc is)
      by (Some x) there is = let same : (domain_name fqdn [], x) ≡ e = cc is in subst (λ (p : DomainName × List View). chain_at chains p.0 ≡ Some p.1) same there
  found_there fqdn (label ∷ labels) e near = by (chain_at chains (domain_name fqdn (label ∷ labels))) refl near (found_there fqdn labels e)
    where
      by : (o : Option (List View)) → chain_at chains (domain_name fqdn (label ∷ labels)) ≡ o
          → or_else (option_map (λ (x : List View). (domain_name fqdn (label ∷ labels), x)) o) (nearest_from (chain_at chains) fqdn labels) ≡ Some e
          → (nearest_from (chain_at chains) fqdn labels ≡ Some e → chain_at chains e.0 ≡ Some e.1) → chain_at chains e.0 ≡ Some e.1
      by None there is more = more is
      by (Some x) there is more = let same : (domain_name fqdn (label ∷ labels), x) ≡ e = cc is in subst (λ (p : DomainName × List View). chain_at chains p.0 ≡ Some p.1) same there

-- ---- all chains
module _ (keys : Keys) (request : Message) (source : SocketAddr) (octets : List ℕ) (moment : ℕ) (chains : List (DomainName × List View)) (all : AreUnguarded chains) where
  by_chain : (q : Query) (found : Option (DomainName × List View)) (given : Given) → entry_for chains q.name ≡ found → ChainUpdates keys request source octets moment chains q found given → given.chains ≡ chains
  by_chain q None given found is = ap (λ (g : Given). g.chains) is
  by_chain q (Some (zone, [])) given found is = ap (λ (g : Given). g.chains) is
  by_chain q (Some (zone, view ∷ views)) given found (code, left, handles, parts, after) =
      let there = found_there chains all (lowercase_name q.name).fqdn (lowercase_name q.name).labels (zone, view ∷ views) found in
      let unguarded = at_name chains all zone (view ∷ views) there in
      let same = handled_fixed (zone_type_of view) view left (asked_of_update keys request source octets moment q zone) moment code given.context unguarded.0 handles in
      after ∙ ap (λ (v : View). with_chain_at chains zone (v ∷ views)) same ∙ set_value_same (λ other. is_eq (name_cmp zone other)) chains (view ∷ views) there

  by_zone : (b : Bool) (q : Query) (given : Given) → ZoneUpdates keys request source octets moment b chains q given → given.chains ≡ chains
  by_zone true q given updates = by_chain q (entry_for chains q.name) given refl updates
  by_zone false q given is = ap (λ (g : Given). g.chains) is

  by_questions : (qs : List Query) (given : Given) → GivesUpdate keys request source octets moment chains qs given → given.chains ≡ chains
  by_questions [] given is = ap (λ (g : Given). g.chains) is
  by_questions (q ∷ []) given updates = by_zone (same_record_type q.query_type SOA) q given updates
  by_questions (q ∷ r ∷ qs) given is = ap (λ (g : Given). g.chains) is

  pub update_fixed : (given : Given) → GivesUpdate keys request source octets moment chains request.asked.questions given → given.chains ≡ chains
  update_fixed given gives = by_questions request.asked.questions given gives

  pub given_fixed : (nsid : Option (List ℕ)) (given : Given) → GivesOf chains nsid keys request source octets moment given → given.chains ≡ chains
  given_fixed nsid given gives = by (is_served_update request) refl
    where
      by : (b : Bool) → is_served_update request ≡ b → given.chains ≡ chains
      by true e =
          let (bare, updates, answers, whole) = gives.update e in
          ap (λ (g : Given). g.chains) whole ∙ update_fixed bare updates
      by false e =
          let (parts, plain, whole) = gives.other e in
          ap (λ (g : Given). g.chains) whole
