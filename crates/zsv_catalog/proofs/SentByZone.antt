-- The reply to a query of one question that one stored zone answers: what the server sends is what the zone gives, and it reads back.
use Rattle.std.proofs.Common.{◌≡◌, ◌∙◌, ap, refl, subst, sym}
use Rattle.std.specs.Prelude.{ℕ, Bool, true, false, not, ◌&&◌, List, [], ◌∷◌, Option, Some, None, IfSome, if◌then◌else◌}
use Rattle.std.specs.declared.net.SocketAddr.{SocketAddr}
use Rattle.zsv_answer.specs.zst_request.Updating.{SigningContext}
use Rattle.zsv_answer.specs.zst_request.Views.{Stored, View}
use Rattle.zsv_answer.specs.zst_request.dnw_name.DomainName.{DomainName}
use Rattle.zsv_answer.specs.zst_request.zst_handler.Zones.{Zone}
use Rattle.zsv_answer.specs.zsv_reply.Replies.{ReplyParts}
use Rattle.zsv_answer.specs.zsv_reply.Writing.{AllReadBack, SendsParts}
use Rattle.zsv_answer.specs.zsv_reply.zsv_message.Messages.{Message, is_update}
use Rattle.zsv_answer.specs.zsv_reply.zsv_message.zsv_parts.declared.header.Header.{Header}
use Rattle.zsv_answer.specs.zsv_reply.zsv_message.zsv_parts.declared.question.Query.{Query}
use Rattle.zsv_answer.specs.zsv_request.declared.protocol.Protocol.{Protocol}
use Rattle.zsv_catalog.specs.Catalogs.{GivesOf, RepliesBy, asked_of_transfer, failure_of, is_query_type, is_served_query, is_served_update, question_context, served_transfer, transfer_question}
use Rattle.zsv_catalog.specs.ReadingBack.{ChainReadsBack, ChainsReadBack, ViewReadsBack}
use Rattle.zsv_update.specs.Keys.{Keys}
use Rattle.zsv_update.specs.Options.{has_other_version}
use Rattle.zsv_update.specs.Signing.{SignsParts}
use Rattle.zsv_update.specs.Updates.{Given}
use Rattle.zsv_update.specs.zsv_chains.Chains.{chain_for}
use Rattle.zsv_catalog.proofs.Denied.{AsksZone, FromZone, from_zone}
use Rattle.zsv_catalog.proofs.ResolvedBack.{for_back}

-- What the chains hold reads back, so the zone does.
pub zone_reads_back : (chains : List (DomainName × List View)) (name : DomainName) (zone : Zone) → ChainsReadBack chains → chain_for chains name ≡ Some (Stored zone ∷ []) → ViewReadsBack (Stored zone)
zone_reads_back chains name zone back alone =
    let all : ChainReadsBack (Stored zone ∷ []) = subst (λ (o : Option (List View)). IfSome o ChainReadsBack) alone (for_back chains name back) in
    all.0

third_false : (a b c : Bool) → c ≡ false → (a && (b && c)) ≡ false
third_false false b c e = refl
third_false true false c e = refl
third_false true true c e = e

nothing : (b : Bool) (o : Option Query) → o ≡ None → (if b then o else None) ≡ None
nothing true o e = e
nothing false o e = refl

-- What was sent.
pub record Sent (chains : List (DomainName × List View)) (request : Message) (q : Query) (zone : Zone) (transport : Protocol) (info : Header) (reply : List ℕ) : Type 0 where
  pub parts : ReplyParts
  pub from : FromZone request q zone parts
  pub sends : SendsParts parts request.asked transport info reply
  pub back : ChainsReadBack chains → AllReadBack parts

module _ (chains : List (DomainName × List View)) (nsid : Option (List ℕ)) (keys : Keys) (request : Message) (source : SocketAddr) (octets : List ℕ) (moment : ℕ)
    (q : Query) (zone : Zone) (asked : AsksZone chains request q zone) where
  no_update : is_served_update request ≡ false
  no_update = third_false (not (has_other_version request.edns)) (is_query_type request.metadata.message_type) (is_update request.metadata.op_code) (ap is_update asked.operation)

  no_transfer : served_transfer request ≡ None
  no_transfer =
      nothing (is_served_query request) (transfer_question request.asked.questions)
      (ap transfer_question asked.one ∙ ap (λ (b : Bool). if b then Some q else None) asked.ordinary)

  -- Nothing is signed but transfers.
  given_from_zone : (given : Given) → GivesOf chains nsid keys request source octets moment given → FromZone request q zone given.plain × (given.context ≡ None)
  given_from_zone given gives =
      let asks = asked_of_transfer keys request source octets moment in
      let (parts, is, whole) = gives.other no_update in (
        subst (λ (g : Given). FromZone request q zone g.plain) (sym whole) (from_zone chains asks request q zone asked nsid parts is),
        ap (λ (g : Given). g.context) whole ∙ ap (question_context chains asks moment) no_transfer,
      )

  pub sent_from_zone : (transport : Protocol) (info : Header) (reply : List ℕ) (new : List (DomainName × List View)) → RepliesBy chains nsid keys request source octets moment transport info reply new
      → Sent chains request q zone transport info reply
  sent_from_zone transport info reply new (given, gives, parts, signs, sends, back, left) =
      let (from, none) = given_from_zone given gives in
      let same : parts ≡ given.plain = subst (λ (o : Option SigningContext). SignsParts keys request.asked given.plain (failure_of request given) o parts) none signs in
      record { parts = parts; from = subst (FromZone request q zone) (sym same) from; sends = sends; back = back }
