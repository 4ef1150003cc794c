-- An update has one outcome: its reply and what that is signed with are functions of the chains, the keys and the request.
use Rattle.std.proofs.Common.{◌≡◌, ◌∙◌, ℕ, List, [], ◌∷◌, Bool, true, false, ap, refl, sym}
use Rattle.std.specs.Prelude.{Option, Some, None, Result, Ok, Err}
use Rattle.std.specs.declared.net.SocketAddr.{SocketAddr}
use Rattle.zsv_chains.specs.Chains.{entry_for}
use Rattle.zsv_chains.specs.zst_request.Updating.{Asked, ChangesBy, SigningContext, UpdatesView, update_refused}
use Rattle.zsv_chains.specs.zst_request.Views.{Blocked, Stored, View, zone_type_of}
use Rattle.zsv_chains.specs.zst_request.dnw_codes.RecordType.{same_record_type}
use Rattle.zsv_chains.specs.zst_request.dnw_codes.declared.record_type.RecordType.TheVariants as types
use Rattle.zsv_chains.specs.zst_request.dnw_name.DomainName.{DomainName}
use Rattle.zsv_chains.specs.zst_request.zst_codes.declared.response_code.ResponseCode.{ResponseCode}
use Rattle.zsv_chains.specs.zst_request.zst_codes.declared.settings.ZoneType.{ZoneType}
use Rattle.zsv_chains.specs.zst_request.zst_codes.declared.settings.ZoneType.TheVariants as zones
use Rattle.zsv_reply.specs.Replies.{ReplyParts}
use Rattle.zsv_reply.specs.zsv_message.Messages.{Message}
use Rattle.zsv_reply.specs.zsv_message.zsv_parts.declared.question.Query.{Query}
use Rattle.zsv_update.specs.Keys.{Keys}
use Rattle.zsv_update.specs.Updates.{ChainUpdates, Given, GivesUpdate, HandlesUpdate, ZoneUpdates, asked_of_update, outcome_code, outcome_parts}

-- Two outcomes have the same reply, and what it is signed with.
pub record SameOutcome (a b : Given) : Type 0 where
  pub plain : a.plain ≡ b.plain
  pub context : a.context ≡ b.context

same_given : (a b given : Given) → a ≡ given → b ≡ given → SameOutcome a b
same_given a b given is also = record {
  plain = ap (λ (g : Given). g.plain) (is ∙ sym also);
  context = ap (λ (g : Given). g.context) (is ∙ sym also);
}

-- ---- one handler
one_answer : (view : View) (asked : Asked) (a b : Result Bool ResponseCode) (left other : View) → UpdatesView view asked a left → UpdatesView view asked b other → a ≡ b
one_answer (Blocked blocklist) asked a b left other is also = is.0 ∙ sym also.0
one_answer (Stored zone) asked a b left other (first, is, x) (second, also, y) = by (update_refused zone asked) is also
  where
    by : (o : Option ResponseCode) → ChangesBy o true zone asked.updates a first → ChangesBy o true zone asked.updates b second → a ≡ b
    by (Some code) refused too = refused.0 ∙ sym too.0
    by None accepted too = accepted.0 ∙ sym too.0

one_handler : (kind : ZoneType) (view : View) (asked : Asked) (moment : ℕ) (code other : ResponseCode) (context also : Option SigningContext) (left right : View)
    → HandlesUpdate kind view asked moment code context left → HandlesUpdate kind view asked moment other also right → (code ≡ other) × (context ≡ also)
one_handler zones.Primary view asked moment code other context also left right (a, updates, is, signed) (b, too, gives, signs) =
    (is ∙ ap outcome_code (one_answer view asked a b left right updates too) ∙ sym gives, signed ∙ sym signs)
one_handler zones.Secondary view asked moment code other context also left right is gives = (is.0 ∙ sym gives.0, is.1 ∙ sym gives.1)
one_handler zones.External view asked moment code other context also left right is gives = (is.0 ∙ sym gives.0, is.1 ∙ sym gives.1)

-- ---- one message
module _ (keys : Keys) (request : Message) (source : SocketAddr) (octets : List ℕ) (moment : ℕ) (chains : List (DomainName × List View)) where
  one_chain : (q : Query) (found : Option (DomainName × List View)) (a b : Given) → ChainUpdates keys request source octets moment chains q found a → ChainUpdates keys request source octets moment chains q found b → SameOutcome a b
  one_chain q None a b is also = same_given a b _ is also
  one_chain q (Some (zone, [])) a b is also = same_given a b _ is also
  one_chain q (Some (zone, view ∷ views)) a b (code, left, handles, parts, after) (other, right, too, gives, later) =
      let same = one_handler (zone_type_of view) view (asked_of_update keys request source octets moment q zone) moment code other a.context b.context left right handles too in
      record { plain = parts ∙ ap (outcome_parts request.metadata) same.0 ∙ sym gives; context = same.1 }

  one_zone : (soa : Bool) (q : Query) (a b : Given) → ZoneUpdates keys request source octets moment soa chains q a → ZoneUpdates keys request source octets moment soa chains q b → SameOutcome a b
  one_zone true q a b is also = one_chain q (entry_for chains q.name) a b is also
  one_zone false q a b is also = same_given a b _ is also

  pub one_update : (qs : List Query) (a b : Given) → GivesUpdate keys request source octets moment chains qs a → GivesUpdate keys request source octets moment chains qs b → SameOutcome a b
  one_update [] a b is also = same_given a b _ is also
  one_update (q ∷ []) a b is also = one_zone (same_record_type q.query_type types.SOA) q a b is also
  one_update (q ∷ r ∷ qs) a b is also = same_given a b _ is also
