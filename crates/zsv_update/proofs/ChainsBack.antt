-- An update whose additions are servable leaves chains that can be served.
use Rattle.std.proofs.Common.{◌≡◌, ap, subst, sym, ℕ}
use Rattle.std.specs.Prelude.{Bool, true, false, cond, List, [], ◌∷◌, Option, Some, None, IfSome, option_map}
use Rattle.std.specs.List.{AllByRecursion}
use Rattle.std.specs.Ordering.{is_eq}
use Rattle.std.specs.declared.net.SocketAddr.{SocketAddr}
use Rattle.zsv_chains.specs.Chains.{chain_at, entry_for, with_chain_at}
use Rattle.zsv_chains.specs.zst_key.Ancestors.{nearest_from, or_else}
use Rattle.zsv_chains.specs.zst_key.dnw_name.DomainName.{domain_name, lowercase_name, name_cmp}
use Rattle.zsv_chains.specs.zst_request.Updating.{Asked, SigningContext}
use Rattle.zsv_chains.specs.zst_request.Views.{View, zone_type_of}
use Rattle.zsv_chains.specs.zst_request.dnw_codes.RecordType.{same_record_type}
use Rattle.zsv_chains.specs.zst_request.dnw_codes.declared.record_type.RecordType.TheVariants as types
use Rattle.zsv_chains.specs.zst_request.dnw_name.DomainName.{DomainName}
use Rattle.zsv_chains.specs.zst_request.zst_codes.declared.response_code.ResponseCode.{ResponseCode}
use Rattle.zsv_chains.specs.zst_request.zst_codes.declared.settings.ZoneType.{ZoneType}
use Rattle.zsv_chains.specs.zst_request.zst_codes.declared.settings.ZoneType.TheVariants as zones
use Rattle.zsv_reply.specs.Replies.{ReplyParts}
use Rattle.zsv_reply.specs.zsv_message.Messages.{Message}
use Rattle.zsv_reply.specs.zsv_message.zsv_parts.declared.question.Query.{Query}
use Rattle.zsv_update.specs.Keys.{Keys}
use Rattle.zsv_update.specs.ReadingBack.{AdditionsAreServable, ChainReadsBack, ChainsReadBack, ViewReadsBack}
use Rattle.zsv_update.specs.Updates.{ChainUpdates, Given, GivesUpdate, HandlesUpdate, ZoneUpdates, asked_of_update, only}
use Rattle.zsv_update.proofs.AppliedBack.{view_back}

-- ---- what holds of each chain
module _ {X : Type 0} (P : X → Type 0) (chains : List (DomainName × X)) (all : AllByRecursion (λ (e : DomainName × X). P e.1) chains) where
  at_name : (name : DomainName) → IfSome (chain_at chains name) P
  at_name name = by chains all
    where
      by : (es : List (DomainName × X)) → AllByRecursion (λ (e : DomainName × X). P e.1) es → IfSome (chain_at es name) P
      by [] each = tt
      by (e ∷ es) each = one (is_eq (name_cmp name e.0)) (by es each.1)
        where
          one : (b : Bool) → IfSome (chain_at es name) P → IfSome (cond b (Some e.1) (chain_at es name)) P
          one true more = each.0
          one false more = more

  named : (name : DomainName) (o : Option X) → IfSome o P → IfSome (option_map (λ (x : X). (name, x)) o) (λ (e : DomainName × X). P e.1)
  named name None holds = tt
  named name (Some x) holds = holds

  one_or_other : (a b : Option (DomainName × X)) → IfSome a (λ (e : DomainName × X). P e.1) → IfSome b (λ (e : DomainName × X). P e.1) → IfSome (or_else a b) (λ (e : DomainName × X). P e.1)
  one_or_other None b first second = second
  one_or_other (Some e) b first second = first

  nearest : (fqdn : Bool) (labels : List (List ℕ)) → IfSome (nearest_from (chain_at chains) fqdn labels) (λ (e : DomainName × X). P e.1)
  nearest fqdn [] = named (domain_name fqdn []) (chain_at chains (domain_name fqdn [])) (at_name (domain_name fqdn []))
  nearest fqdn (label ∷ labels) =
      let name = domain_name fqdn (label ∷ labels) in
      one_or_other (option_map (λ (x : X). (name, x)) (chain_at chains name)) (nearest_from (chain_at chains) fqdn labels)
      (named name (chain_at chains name) (at_name name)) (nearest fqdn labels)

  -- The chain found for a name is one of them.
  entry_holds : (name : DomainName) → IfSome (entry_for chains name) (λ (e : DomainName × X). P e.1)
  entry_holds name = nearest (lowercase_name name).fqdn (lowercase_name name).labels

  all_with : (name : DomainName) (chain : X) → P chain → AllByRecursion (λ (e : DomainName × X). P e.1) (with_chain_at chains name chain)
  all_with name chain new = by chains all
    where
      by : (es : List (DomainName × X)) → AllByRecursion (λ (e : DomainName × X). P e.1) es → AllByRecursion (λ (e : DomainName × X). P e.1) (with_chain_at es name chain)
      by [] each = tt
      by (e ∷ es) each = one (is_eq (name_cmp name e.0)) (by es each.1)
        where
          one : (b : Bool) → AllByRecursion (λ (d : DomainName × X). P d.1) (with_chain_at es name chain) → AllByRecursion (λ (d : DomainName × X). P d.1) (cond b ((e.0, chain) ∷ es) (e ∷ with_chain_at es name chain))
          one true more = (new, each.1)
          one false more = (each.0, more)

-- ---- the first handler
handled_back : (kind : ZoneType) (view left : View) (asked : Asked) (moment : ℕ) (code : ResponseCode) (context : Option SigningContext) → ViewReadsBack view → AdditionsAreServable asked.updates
    → HandlesUpdate kind view asked moment code context left → ViewReadsBack left
handled_back zones.Primary view left asked moment code context back servable (outcome, updates, is, signs) = view_back view left asked outcome back servable updates
handled_back zones.Secondary view left asked moment code context back servable handles = subst ViewReadsBack (sym handles.2) back
handled_back zones.External view left asked moment code context back servable handles = subst ViewReadsBack (sym handles.2) back

-- ---- all chains
module _ (keys : Keys) (request : Message) (source : SocketAddr) (octets : List ℕ) (moment : ℕ) (old : List (DomainName × List View)) (given : Given) (back : ChainsReadBack old)
    (servable : AdditionsAreServable request.authorities) where
  unchanged : (parts : ReplyParts) → given ≡ only old parts → ChainsReadBack given.chains
  unchanged parts is = subst ChainsReadBack (sym (ap (λ (g : Given). g.chains) is)) back

  by_chain : (q : Query) (found : Option (DomainName × List View)) → IfSome found (λ (e : DomainName × List View). ChainReadsBack e.1) → ChainUpdates keys request source octets moment old q found given → ChainsReadBack given.chains
  by_chain q None reads is = unchanged _ is
  by_chain q (Some (zone, [])) reads is = unchanged _ is
  by_chain q (Some (zone, view ∷ views)) reads (code, left, handles, parts, after) =
      subst ChainsReadBack (sym after)
      (all_with ChainReadsBack old back zone (left ∷ views)
      (handled_back (zone_type_of view) view left (asked_of_update keys request source octets moment q zone) moment code given.context reads.0 servable handles, reads.1))

  by_zone : (b : Bool) (q : Query) → ZoneUpdates keys request source octets moment b old q given → ChainsReadBack given.chains
  by_zone true q updates = by_chain q (entry_for old q.name) (entry_holds ChainReadsBack old back q.name) updates
  by_zone false q is = unchanged _ is

  by_questions : (qs : List Query) → GivesUpdate keys request source octets moment old qs given → ChainsReadBack given.chains
  by_questions [] is = unchanged _ is
  by_questions (q ∷ []) updates = by_zone (same_record_type q.query_type types.SOA) q updates
  by_questions (q ∷ r ∷ qs) is = unchanged _ is

-- Chains that can be served are served after an update too, if its additions are servable.
pub chains_back : (keys : Keys) (request : Message) (source : SocketAddr) (octets : List ℕ) (moment : ℕ) (old : List (DomainName × List View)) (given : Given) → ChainsReadBack old → AdditionsAreServable request.authorities
    → GivesUpdate keys request source octets moment old request.asked.questions given → ChainsReadBack given.chains
chains_back keys request source octets moment old given back servable updates = by_questions keys request source octets moment old given back servable request.asked.questions updates
