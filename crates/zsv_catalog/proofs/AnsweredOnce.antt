-- The full reply is a function of the zones, the NSID, the keys, the request and how it arrived.
use Rattle.std.proofs.Common.{◌≡◌, ◌∙◌, ℕ, Bool, true, false, List, [], ◌∷◌, ◌++◌, ap, length, refl, subst, sym}
use Rattle.std.specs.Prelude.{Option, Some, None, option_map}
use Rattle.std.specs.declared.net.SocketAddr.{SocketAddr}
use Rattle.drd_types.specs.dnw_decoder.Octets.{octets_16, octets_32}
use Rattle.drd_types.specs.drd_opt.Entries.{entries_octets}
use Rattle.zsv_catalog.proofs.PartsOnce.{SameParts, equal-parts, one-chain-parts}
use Rattle.zsv_answer.specs.zsv_reply.Writing.{with_edns}
use Rattle.zsv_answer.specs.zst_request.Updating.{Asked}
use Rattle.zsv_answer.specs.zst_request.Views.{View}
use Rattle.zsv_answer.specs.zst_request.dnw_codes.declared.record_type.RecordType.TheVariants.{AXFR}
use Rattle.zsv_answer.specs.zst_request.dnw_codes.declared.record_type.RecordType.TheVariants as kind
use Rattle.zsv_answer.specs.zst_request.dnw_codes.RecordType.{record_type_number, same_record_type}
use Rattle.zsv_answer.specs.zst_request.dnw_name.DomainName.{DomainName}
use Rattle.zsv_answer.specs.zst_request.zst_codes.declared.response_code.ResponseCode.{ResponseCode}
use Rattle.zsv_answer.specs.zsv_reply.Replies.{ReplyParts}
use Rattle.zsv_answer.specs.zsv_reply.zsv_message.Messages.{Message}
use Rattle.zsv_answer.specs.zsv_reply.zsv_message.zst_edns.Edns.{edns_ttl}
use Rattle.zsv_answer.specs.zsv_reply.zsv_message.zst_edns.Writing.{edns_data, opt_octets}
use Rattle.zsv_answer.specs.zsv_reply.zsv_message.zst_edns.declared.edns.Edns.{Edns}
use Rattle.zsv_answer.specs.zsv_reply.zsv_message.zsv_parts.declared.header.Metadata.{Metadata}
use Rattle.zsv_answer.specs.zsv_reply.zsv_message.zsv_parts.declared.header.MessageType.{MessageType}
use Rattle.zsv_answer.specs.zsv_reply.zsv_message.zsv_parts.declared.header.MessageType.TheVariants as messages
use Rattle.zsv_answer.specs.zsv_reply.zsv_message.zsv_parts.declared.header.OpCode.{OpCode}
use Rattle.zsv_answer.specs.zsv_reply.zsv_message.zsv_parts.declared.header.OpCode.TheVariants as operations
use Rattle.zsv_answer.specs.zsv_reply.zsv_message.zsv_parts.declared.question.Query.{Query}
use Rattle.zsv_catalog.specs.Catalogs.{GivesOf, KindParts, OperationParts, PartsOf, PlainParts, QueryParts, QuestionParts, asked_of_transfer, asks_for_dnssec, is_served_update}
use Rattle.zsv_update.proofs.Once.{one_update}
use Rattle.zsv_update.specs.Keys.{Keys}
use Rattle.zsv_update.specs.Options.{AnswersEdns, IsReplyEdns, has_other_version, nsid_for}
use Rattle.zsv_update.specs.Updates.{Given}
use Rattle.zsv_update.specs.zsv_chains.Chains.{chain_for}

module _ (chains : List (DomainName × List View)) (m : Metadata) (dnssec_ok : Bool) (asks : Query → DomainName → Asked) where
  one-question : (q : Query) (a b : ReplyParts) → QuestionParts chains m dnssec_ok (asks q) q a → QuestionParts chains m dnssec_ok (asks q) q b → SameParts a b
  one-question q a b is also = by (same_record_type q.query_type AXFR) refl (chain_for chains q.name) refl
    where
      by : (transfer : Bool) → same_record_type q.query_type AXFR ≡ transfer → (chain : Option (List View)) → chain_for chains q.name ≡ chain → SameParts a b
      by true t chain there = equal-parts a b (is.transfer t ∙ sym (also.transfer t))
      by false t None none = equal-parts a b (is.no_chain none ∙ sym (also.no_chain none))
      by false t (Some chain) some = one-chain-parts chain m dnssec_ok q.name q.query_type a b (is.looked_up chain some t) (also.looked_up chain some t)

  one-query : (qs : List Query) (a b : ReplyParts) → QueryParts chains m dnssec_ok asks qs a → QueryParts chains m dnssec_ok asks qs b → SameParts a b
  one-query [] a b is also = equal-parts a b (is ∙ sym also)
  one-query (q ∷ []) a b is also = one-question q a b is also
  one-query (q ∷ r ∷ qs) a b is also = equal-parts a b (is ∙ sym also)

  one-operation : (operation : OpCode) (qs : List Query) (a b : ReplyParts) → OperationParts chains m dnssec_ok asks operation qs a → OperationParts chains m dnssec_ok asks operation qs b → SameParts a b
  one-operation operations.Query qs a b is also = one-query qs a b is also
  one-operation other qs a b is also = equal-parts a b (is ∙ sym also)

  one-kind : (kind : MessageType) (qs : List Query) (a b : ReplyParts) → KindParts chains m dnssec_ok asks kind qs a → KindParts chains m dnssec_ok asks kind qs b → SameParts a b
  one-kind messages.Response qs a b is also = equal-parts a b (is ∙ sym also)
  one-kind messages.Query qs a b is also = one-operation m.op_code qs a b is also

one-plain : (chains : List (DomainName × List View)) (asks : Query → DomainName → Asked) (request : Message) (a b : ReplyParts) → PlainParts chains asks request a → PlainParts chains asks request b → SameParts a b
one-plain chains asks request a b is also = by (has_other_version request.edns) refl
  where
    by : (other : Bool) → has_other_version request.edns ≡ other → SameParts a b
    by true e = equal-parts a b (is.other_version e ∙ sym (also.other_version e))
    by false e = one-kind chains request.metadata (asks_for_dnssec request.edns) asks request.metadata.message_type request.asked.questions a b (is.answered e) (also.answered e)

-- ---- the options
abbrev octets-of : ℕ → ℕ → List ℕ → List ℕ
octets-of ttl payload octets = (0 ∷ (octets_16 (record_type_number kind.OPT) ++ (octets_16 payload ++ (octets_32 ttl ++ octets_16 (length octets))))) ++ octets

same-octets : (e f : Edns) → edns_ttl e ≡ edns_ttl f → e.max_payload ≡ f.max_payload → edns_data e ≡ edns_data f → opt_octets e ≡ opt_octets f
same-octets e f ttl payload octets =
    ap (λ (n : ℕ). octets-of n e.max_payload (edns_data e)) ttl
    ∙ ap (λ (n : ℕ). octets-of (edns_ttl f) n (edns_data e)) payload
    ∙ ap (octets-of (edns_ttl f) f.max_payload) octets

one-edns : (asked : Edns) (nsid : Option (List ℕ)) (code : ResponseCode) (e f : Edns) → IsReplyEdns asked nsid code e → IsReplyEdns asked nsid code f → opt_octets e ≡ opt_octets f
one-edns asked nsid code e f is also =
    let high : e.rcode_high ≡ f.rcode_high = is.rcode_high ∙ sym also.rcode_high in
    let version : e.version ≡ f.version = is.version ∙ sym also.version in
    let dnssec : e.flags.dnssec_ok ≡ f.flags.dnssec_ok = is.dnssec_ok ∙ sym also.dnssec_ok in
    let other : e.flags.z ≡ f.flags.z = is.other_flags ∙ sym also.other_flags in
    same-octets e f (cc (high, version, dnssec, other)) (is.max_payload ∙ sym also.max_payload) (ap entries_octets (is.options ∙ sym also.options))

one-answer : (asked : Option Edns) (nsid : Option (List ℕ)) (code : ResponseCode) (e f : Option Edns) → AnswersEdns asked nsid code e → AnswersEdns asked nsid code f → option_map opt_octets e ≡ option_map opt_octets f
one-answer None nsid code None None is also = refl
one-answer None nsid code (Some e) f is also = absurd is
one-answer None nsid code e (Some f) is also = absurd also
one-answer (Some asked) nsid code (Some e) (Some f) is also = ap Some (one-edns asked nsid code e f is also)
one-answer (Some asked) nsid code None f is also = absurd is
one-answer (Some asked) nsid code e None is also = absurd also

-- Two replies with the same parts beside their options have the same options.
same-whole : (request : Message) (nsid : Option (List ℕ)) (a b p q : ReplyParts) → SameParts p q → AnswersEdns request.edns (nsid_for request.edns nsid) p.metadata.response_code a.edns
    → AnswersEdns request.edns (nsid_for request.edns nsid) q.metadata.response_code b.edns → a ≡ with_edns a.edns p → b ≡ with_edns b.edns q → SameParts a b
same-whole request nsid a b p q same is also whole all =
    let code : p.metadata.response_code ≡ q.metadata.response_code = ap (λ (m : Metadata). m.response_code) same.metadata in
    subst (λ (r : ReplyParts). SameParts r b) (sym whole)
    (subst (SameParts (with_edns a.edns p)) (sym all)
    (record {
      metadata = same.metadata;
      answers = same.answers;
      authorities = same.authorities;
      additionals = same.additionals;
      edns = one-answer request.edns (nsid_for request.edns nsid) p.metadata.response_code a.edns b.edns is
          (subst (λ (c : ResponseCode). AnswersEdns request.edns (nsid_for request.edns nsid) c b.edns) (sym code) also);
      signature = same.signature;
    }))

-- A request that is no update has one full reply.
pub one-parts : (chains : List (DomainName × List View)) (nsid : Option (List ℕ)) (asks : Query → DomainName → Asked) (request : Message) (a b : ReplyParts) → PartsOf chains nsid asks request a → PartsOf chains nsid asks request b → SameParts a b
one-parts chains nsid asks request a b is also =
    same-whole request nsid a b is.plain also.plain (one-plain chains asks request is.plain also.plain is.gives also.gives) is.edns also.edns is.whole also.whole

-- A message has one full reply, signed with one context.
module _ (chains : List (DomainName × List View)) (nsid : Option (List ℕ)) (keys : Keys) (request : Message) (source : SocketAddr) (octets : List ℕ) (moment : ℕ) where
  pub one-given : (a b : Given) → GivesOf chains nsid keys request source octets moment a → GivesOf chains nsid keys request source octets moment b → SameParts a.plain b.plain × (a.context ≡ b.context)
  one-given a b is also = by (is_served_update request) refl
    where
      by : (update : Bool) → is_served_update request ≡ update → SameParts a.plain b.plain × (a.context ≡ b.context)
      by true e =
          let (first, updates, options, whole) = is.update e in
          let (second, changes, choices, all) = also.update e in
          let outcome = one_update keys request source octets moment chains request.asked.questions first second updates changes in (
            same-whole request nsid a.plain b.plain first.plain second.plain (equal-parts first.plain second.plain outcome.plain) options choices
                (ap (λ (g : Given). g.plain) whole) (ap (λ (g : Given). g.plain) all),
            ap (λ (g : Given). g.context) whole ∙ outcome.context ∙ sym (ap (λ (g : Given). g.context) all),
          )
      by false e =
          let (first, gives, whole) = is.other e in
          let (second, more, all) = also.other e in (
            subst (λ (p : ReplyParts). SameParts p b.plain) (sym (ap (λ (g : Given). g.plain) whole))
                (subst (λ (p : ReplyParts). SameParts first p) (sym (ap (λ (g : Given). g.plain) all)) (one-parts chains nsid (asked_of_transfer keys request source octets moment) request first second gives more)),
            ap (λ (g : Given). g.context) whole ∙ sym (ap (λ (g : Given). g.context) all),
          )
