-- What the replies of a server prove of a zone that is secured by NSEC.
use Rattle.std.proofs.Common.{◌≡◌, ◌∙◌, ℕ, ◌<◌, ◌^◌, ◌==◌, Bool, true, false, not, ◌&&◌, List, [], ◌∷◌, inl, inr, refl, sym, ap, subst, cond, true≢false}
use Rattle.std.proofs.lemmas.Bool.{and_parts, eqb-true}
use Rattle.std.specs.Prelude.{Option, Some, None, Result, Ok, Err, IfOk, IfSome, MatchBool, find, option_map, unwrap_or}
use Rattle.std.specs.List.{AllByRecursion}
use Rattle.std.specs.Net.Socket.{socket_ip}
use Rattle.std.specs.Ordering.{is_eq}
use Rattle.authority_denial.proofs.EqualNames.{covers_same, lacks_same, some_turned}
use Rattle.authority_denial.proofs.Whole.{covered_in_parts, header_code, lacked_in_parts, whole_denies_name, whole_denies_type}
use Rattle.authority_denial.specs.Denials.{DeniesName, DeniesType}
use Rattle.authority_denial.specs.zsv_reply.Replies.{IsReply, ReplyParts}
use Rattle.authority_denial.specs.zsv_reply.Writing.{AllReadBack, error_parts}
use Rattle.authority_denial.specs.zsv_reply.zsv_message.Messages.{Message, is_update}
use Rattle.authority_denial.specs.zsv_reply.zsv_message.zst_edns.declared.edns.Edns.{Edns}
use Rattle.authority_denial.specs.zsv_reply.zsv_message.zsv_parts.Headers.{header_of}
use Rattle.authority_denial.specs.zsv_reply.zsv_message.zsv_parts.Questions.{QuestionAt}
use Rattle.authority_denial.specs.zsv_reply.zsv_message.zsv_parts.Wire.{Entries}
use Rattle.authority_denial.specs.zsv_reply.zsv_message.zsv_parts.declared.header.MessageType.{MessageType}
use Rattle.authority_denial.specs.zsv_reply.zsv_message.zsv_parts.declared.header.MessageType.TheVariants as messages
use Rattle.authority_denial.specs.zsv_reply.zsv_message.zsv_parts.declared.header.Metadata.{Metadata}
use Rattle.authority_denial.specs.zsv_reply.zsv_message.zsv_parts.declared.header.OpCode.{OpCode}
use Rattle.authority_denial.specs.zsv_reply.zsv_message.zsv_parts.declared.header.OpCode.TheVariants as operations
use Rattle.authority_denial.specs.zsv_reply.zsv_message.zsv_parts.declared.question.Query.{Query}
use Rattle.authority_denial.specs.zsv_reply.zsv_message.zsv_parts.zst_codes.ResponseCode.{high_bits, joined_code, low_bits}
use Rattle.authority_denial.specs.zsv_reply.zsv_message.zsv_parts.zst_codes.declared.response_code.ResponseCode.{ResponseCode}
use Rattle.authority_denial.specs.zsv_reply.zsv_message.zsv_parts.zst_codes.declared.response_code.ResponseCode.TheVariants as codes
use Rattle.authority_server.specs.Serving.{Received, SendsGiven, World}
use Rattle.authority_server.specs.zsv_access.Access.{is_allowed}
use Rattle.authority_server.specs.zsv_catalog.Catalogs.{PartsOf, asked_of_transfer, is_kind_of_query, is_query, is_query_type, is_served_query, is_served_update, question_context, served_transfer, transfer_question}
use Rattle.authority_server.specs.zsv_catalog.Chains.{chain_at, chain_for, entry_for}
use Rattle.authority_server.specs.zsv_catalog.ReadingBack.{ChainReadsBack, ChainsReadBack}
use Rattle.authority_server.specs.zsv_catalog.zsv_answer.zst_request.Updating.{Asked, SigningContext}
use Rattle.authority_server.specs.zsv_catalog.zsv_answer.zst_request.Views.{Stored, View}
use Rattle.authority_server.specs.zsv_catalog.zsv_answer.zst_request.dnw_codes.RecordType.{named_record_types, record_type_number, same_record_type}
use Rattle.authority_server.specs.zsv_catalog.zsv_answer.zst_request.dnw_codes.declared.record_type.RecordType.{RecordType}
use Rattle.authority_server.specs.zsv_catalog.zsv_answer.zst_request.dnw_codes.declared.record_type.RecordType.TheVariants as types
use Rattle.authority_server.specs.zsv_catalog.zsv_answer.zst_request.dnw_name.DomainName.{DomainName, domain_name, lowercase_name, name_cmp, name_eq}
use Rattle.authority_server.specs.zsv_catalog.zsv_answer.zst_request.zst_denial.Circles.{IsAuthoritativeName, is_delegation, is_owned}
use Rattle.authority_server.specs.zsv_catalog.zsv_answer.zst_request.zst_denial.Denials.{Covers, Lacks, SomeOf}
use Rattle.authority_server.specs.zsv_catalog.zsv_answer.zst_request.zst_handler.Lookups.{IsLookup, name_exists}
use Rattle.authority_server.specs.zsv_catalog.zsv_answer.zst_request.zst_handler.Zones.{AreStored, Zone, ZoneReadsBack}
use Rattle.authority_server.specs.zsv_catalog.zsv_answer.zsv_request.Requests.{limit_of}
use Rattle.authority_server.specs.zsv_catalog.zsv_update.Options.{AnswersEdns, has_other_version, nsid_for}
use Rattle.authority_server.specs.zsv_catalog.zsv_update.Updates.{Given}
use Rattle.authority_server.specs.zsv_catalog.zsv_update.zsv_chains.zst_key.Ancestors.{nearest_from, or_else}
use Rattle.authority.specs.Certificates.{AsksForNone, Certifies, CertifiesType, IsSecuredFor, IsWholeOf, Replied}
use Rattle.authority_server.proofs.zsv_catalog_lemmas.Certified.{name_covered, none_covered, none_lacked, type_lacked}
use Rattle.authority_server.proofs.zsv_catalog_lemmas.Denied.{AsksZone, FromZone, IsOwnCode, from_zone, own_codes, types_denied}

-- ---- the chain for a name reads back
held : {X : Type 0} (P : X → Type 0) (o : Option X) (x : X) → o ≡ Some x → IfSome o P → P x
held P None x e all = absurd (cc e)
held P (Some y) x e all = let same : y ≡ x = cc e in subst P same all

mapped : {X Y : Type 0} (P : Y → Type 0) (f : X → Y) (o : Option X) → IfSome o (λ x. P (f x)) → IfSome (option_map f o) P
mapped P f None all = tt
mapped P f (Some x) all = all

either : {X : Type 0} (P : X → Type 0) (a b : Option X) → IfSome a P → IfSome b P → IfSome (or_else a b) P
either P (Some x) b first second = first
either P None b first second = second

at_holds : {X : Type 0} (P : X → Type 0) (chains : List (DomainName × X)) (name : DomainName) → AllByRecursion (λ entry. P entry.1) chains → IfSome (chain_at chains name) P
at_holds P [] name all = tt
at_holds {X} P (entry ∷ chains) name all = by (is_eq (name_cmp name entry.0)) (at_holds P chains name all.1)
  where
    by : (b : Bool) → IfSome (chain_at chains name) P → IfSome (cond b (Some entry.1) (chain_at chains name)) P
    by true later = all.0
    by false later = later

abbrev with_name : {X : Type 0} → DomainName → X → DomainName × X
with_name name x = (name, x)

module _ {X : Type 0} (P : X → Type 0) (chains : List (DomainName × X)) (all : AllByRecursion (λ entry. P entry.1) chains) (fqdn : Bool) where
  found_holds : (labels : List (List ℕ)) → IfSome (option_map (with_name (domain_name fqdn labels)) (chain_at chains (domain_name fqdn labels))) (λ entry. P entry.1)
  found_holds labels = mapped (λ entry. P entry.1) (with_name (domain_name fqdn labels)) (chain_at chains (domain_name fqdn labels)) (at_holds P chains (domain_name fqdn labels) all)

  nearest_holds : (labels : List (List ℕ)) → IfSome (nearest_from (chain_at chains) fqdn labels) (λ entry. P entry.1)
  nearest_holds [] = found_holds []
  nearest_holds (label ∷ labels) = either (λ entry. P entry.1) _ (nearest_from (chain_at chains) fqdn labels) (found_holds (label ∷ labels)) (nearest_holds labels)

chain_back : (chains : List (DomainName × List View)) (name : DomainName) (chain : List View) → ChainsReadBack chains → chain_for chains name ≡ Some chain → ChainReadsBack chain
chain_back chains name chain all found =
    let lower = lowercase_name name in
    held ChainReadsBack (chain_for chains name) chain found
    (mapped ChainReadsBack (λ (entry : DomainName × List View). entry.1) (entry_for chains name) (nearest_holds ChainReadsBack chains all lower.fqdn lower.labels))

-- ---- the type of a question has 16 bits
number_back : (named : List RecordType) (n : ℕ) → record_type_number (unwrap_or (find (λ t. record_type_number t == n) named) (types.Unknown n)) ≡ n
number_back [] n = refl
number_back (x ∷ xs) n = by (record_type_number x == n) refl (number_back xs n)
  where
    by : (b : Bool) → (record_type_number x == n) ≡ b → record_type_number (unwrap_or (find (λ t. record_type_number t == n) xs) (types.Unknown n)) ≡ n → record_type_number (unwrap_or (cond b (Some x) (find (λ t. record_type_number t == n) xs)) (types.Unknown n)) ≡ n
    by true e later = eqb-true (record_type_number x) n e
    by false e later = later

question_small : (message : List ℕ) (place end : ℕ) (qs : List Query) (q : Query) → qs ≡ q ∷ [] → Entries (QuestionAt message) place qs end → record_type_number q.query_type < 2 ^ 16
question_small message place end qs q one there =
    let entries : (behind : ℕ) × QuestionAt message place q behind × (end ≡ behind) = subst (λ (l : List Query). Entries (QuestionAt message) place l end) one there in
    let (behind, at, more) = entries in
    let number : record_type_number q.query_type ≡ at.query_type.number = ap record_type_number at.query_type.means ∙ number_back named_record_types at.query_type.number in
    subst (λ (n : ℕ). n < 2 ^ 16) (sym number) at.query_type.small

-- ---- a query
record IsQuery (request : Message) : Type 0 where
  version : has_other_version request.edns ≡ false
  kind : request.metadata.message_type ≡ messages.Query
  operation : request.metadata.op_code ≡ operations.Query

is_false : (b : Bool) → not b ≡ true → b ≡ false
is_false true e = absurd (true≢false (sym e))
is_false false e = refl

kind_of : (kind : MessageType) → is_query_type kind ≡ true → kind ≡ messages.Query
kind_of messages.Query e = refl
kind_of messages.Response e = absurd (true≢false (sym e))

operation_of : (operation : OpCode) → is_query operation ≡ true → operation ≡ operations.Query
operation_of operations.Query e = refl
operation_of other e = absurd (true≢false (sym e))

query_of : (request : Message) → is_served_query request ≡ true → IsQuery request
query_of request served =
    let (version, rest) = and_parts (not (has_other_version request.edns)) (is_kind_of_query request) served in
    let (kind, operation) = and_parts (is_query_type request.metadata.message_type) (is_query request.metadata.op_code) rest in
    record {
      version = is_false (has_other_version request.edns) version;
      kind = kind_of request.metadata.message_type kind;
      operation = operation_of request.metadata.op_code operation;
    }

-- ---- the codes of a zone's replies, of which a header holds all bits
whole_code : (code : ResponseCode) → IsOwnCode code → joined_code 0 (low_bits code) ≡ code
whole_code code (inl e) = ap (λ (c : ResponseCode). joined_code 0 (low_bits c)) e ∙ sym e
whole_code code (inr (inl e)) = ap (λ (c : ResponseCode). joined_code 0 (low_bits c)) e ∙ sym e
whole_code code (inr (inr e)) = ap (λ (c : ResponseCode). joined_code 0 (low_bits c)) e ∙ sym e

no_high : (code : ResponseCode) → IsOwnCode code → high_bits code ≡ 0
no_high code (inl e) = ap high_bits e
no_high code (inr (inl e)) = ap high_bits e
no_high code (inr (inr e)) = ap high_bits e

high_of : (asked : Option Edns) (nsid : Option (List ℕ)) (code : ResponseCode) (edns : Option Edns) → IsOwnCode code → AnswersEdns asked nsid code edns → IfSome edns (λ e. e.rcode_high ≡ 0)
high_of asked nsid code None own is = tt
high_of None nsid code (Some given) own is = absurd is
high_of (Some asked) nsid code (Some given) own is = is.rcode_high ∙ no_high code own

-- ---- what the authorities of a reply to a question deny
record Denies (zone : Zone) (question : Query) (parts : ReplyParts) : Type 0 where
  high : IfSome parts.edns (λ e. e.rcode_high ≡ 0)
  own : joined_code 0 (low_bits parts.metadata.response_code) ≡ parts.metadata.response_code
  covered : parts.metadata.response_code ≡ codes.NXDomain → SomeOf (Covers question.name) parts.authorities
  lacked : parts.metadata.response_code ≡ codes.NoError → IsAuthoritativeName types.NSEC zone question.name → record_type_number question.query_type < 2 ^ 16 → same_record_type question.query_type types.RRSIG ≡ false
      → IsLookup zone question.name question.query_type name_exists → (parts.answers ≡ []) × SomeOf (Lacks question.name question.query_type) parts.authorities
  uncovered : (name : DomainName) → IsAuthoritativeName types.NSEC zone name → SomeOf (Covers name) parts.authorities → ⊥
  unlacked : (name : DomainName) (t : RecordType) → IsAuthoritativeName types.NSEC zone name → record_type_number t < 2 ^ 16 → is_delegation zone name ≡ false → is_owned zone name t ≡ true → SomeOf (Lacks name t) parts.authorities → ⊥

refused_denies : (zone : Zone) (question : Query) (m : Metadata) (parts : ReplyParts) → parts ≡ error_parts m codes.Refused → Denies zone question parts
refused_denies zone question m parts is =
    subst (Denies zone question) (sym is) (record {
      high = tt;
      own = refl;
      covered = λ other. let e : codes.Refused ≡ codes.NXDomain = other in absurd (cc e);
      lacked = λ none on small other lookup. let e : codes.Refused ≡ codes.NoError = none in absurd (cc e);
      uncovered = λ name on some. some;
      unlacked = λ name t on small whole owned some. some;
    })

-- ---- what the query got
module _ (world : World) (received : Received) (request : Message) (question : Query) (reply : List ℕ) (h : Replied world received request question reply) where
  abbrev asks : Query → DomainName → Asked
  asks = asked_of_transfer world.keys request received.source received.message received.now

  data Got (parts : ReplyParts) : Type 0 where
    refused : parts ≡ error_parts request.metadata codes.Refused → Got parts
    answered : PartsOf world.chains world.nsid asks request parts → Got parts

  record IsGot (given : Given) : Type 0 where
    context : given.context ≡ None
    plain : Got given.plain

  query : IsQuery request
  query = query_of request h.query

  no_update : is_served_update request ≡ false
  no_update = λ i. not (query.version i) && (is_query_type (query.kind i) && is_update (query.operation i))

  no_transfer : served_transfer request ≡ None
  no_transfer =
      ap (λ (b : Bool). cond b (transfer_question request.asked.questions) None) h.query ∙ ap transfer_question h.one ∙ ap (λ (b : Bool). cond b (Some question) None) h.ordinary

  got : IsGot h.given
  got = allowed (is_allowed world.access (socket_ip received.source)) refl
    where
      allowed : (b : Bool) → is_allowed world.access (socket_ip received.source) ≡ b → IsGot h.given
      allowed false e =
          let is = h.answers.gives.refused e in
          record { context = ap (λ (g : Given). g.context) is; plain = refused (ap (λ (g : Given). g.plain) is) }
      allowed true e =
          let (parts, of, whole) = (h.answers.gives.answered e).other no_update in
          record {
            context = ap (λ (g : Given). g.context) whole ∙ ap (question_context world.chains asks received.now) no_transfer;
            plain = answered (subst (λ (p : ReplyParts). PartsOf world.chains world.nsid asks request p) (sym (ap (λ (g : Given). g.plain) whole)) of);
          }

  -- The reply isn't signed.
  sent : h.answers.parts ≡ h.given.plain
  sent = subst (λ (c : Option SigningContext). SendsGiven world received request h.given c h.answers.parts) got.context h.answers.sent

  back : AllReadBack h.answers.parts
  back = h.answers.back h.reads_back

  abbrev limit : ℕ
  limit = limit_of received.transport h.answers.parts.edns

  is_reply : IsReply received.message reply h.answers.parts request.asked request.metadata.id limit
  is_reply = h.answers.holds back

  abbrev count : ℕ
  count = (header_of received.message).counts.queries

  -- ---- of a secured zone
  module _ (zone : Zone) (s : IsSecuredFor world question.name zone) where
    reads_back : AreStored zone.sets × ZoneReadsBack zone
    reads_back = (chain_back world.chains question.name (Stored zone ∷ []) h.reads_back.chains s.alone).0

    asks_zone : AsksZone world.chains request question zone
    asks_zone = record { alone = s.alone; own = s.own; version = query.version; kind = query.kind; operation = query.operation; one = h.one; ordinary = h.ordinary }

    got_denies : (parts : ReplyParts) → Got parts → Denies zone question parts
    got_denies parts (refused is) = refused_denies zone question request.metadata parts is
    got_denies parts (answered is) =
        let from : FromZone request question zone parts = from_zone world.chains asks request question zone asks_zone world.nsid parts is in
        let own = own_codes request question zone parts from in
        let same : is.plain.metadata.response_code ≡ parts.metadata.response_code = sym (ap (λ (p : ReplyParts). p.metadata.response_code) is.whole) in
        let (stored, reads) = reads_back in
        record {
          high = high_of request.edns _ parts.metadata.response_code parts.edns own (subst (λ (c : ResponseCode). AnswersEdns request.edns (nsid_for request.edns world.nsid) c parts.edns) same is.edns);
          own = whole_code parts.metadata.response_code own;
          covered = name_covered request question zone parts h.dnssec from s.kind s.secured stored reads s.origin;
          lacked = λ code on small other lookup. (
            (types_denied request question zone parts h.dnssec from lookup).0.answers,
            type_lacked request question zone parts h.dnssec from s.kind s.secured stored reads s.origin on small other lookup,
          );
          uncovered = λ name on some. none_covered zone s.secured stored reads request question parts name from on some;
          unlacked = λ name t on small whole owned some. none_lacked zone s.secured stored reads request question parts name t from on small whole owned some;
        }

    denies : Denies zone question h.answers.parts
    denies = subst (Denies zone question) (sym sent) (got_denies h.given.plain got.plain)

    -- The code of the parts is the one that the header says.
    code_of : (code : ResponseCode) → (header_of reply).metadata.response_code ≡ code → (code ≡ codes.ServFail → ⊥) → h.answers.parts.metadata.response_code ≡ code
    code_of code says other =
        sym denies.own
        ∙ sym (header_code received.message reply h.answers.parts request.asked request.metadata.id limit is_reply (λ failed. other (sym says ∙ failed))) ∙ says

    denies_name : (name : DomainName) → name_eq question.name name ≡ true → IsWholeOf codes.NXDomain reply → DeniesName reply name
    denies_name name same w =
        let code = code_of codes.NXDomain w.says (λ failed. absurd (cc failed)) in
        whole_denies_name received.message reply h.answers.parts request.asked request.metadata.id limit count h.there.questions_end back h.there.questions h.avoids_header is_reply name w.whole w.says denies.high
        (some_turned (Covers question.name) (Covers name) (covers_same question.name name same) h.answers.parts.authorities (denies.covered code))

    covers_none : (name : DomainName) → DeniesName reply name → IsAuthoritativeName types.NSEC zone name → ⊥
    covers_none name d on =
        denies.uncovered name on
        (covered_in_parts received.message reply h.answers.parts request.asked request.metadata.id limit count h.there.questions_end back h.there.questions h.avoids_header is_reply name d)

    denies_type : (name : DomainName) (t : RecordType) → AsksForNone zone question name t → IsWholeOf codes.NoError reply → DeniesType reply name t
    denies_type name t a w =
        let code = code_of codes.NoError w.says (λ failed. absurd (cc failed)) in
        let number : record_type_number question.query_type ≡ record_type_number t = eqb-true (record_type_number question.query_type) (record_type_number t) a.for_type in
        let small = question_small received.message 12 h.there.questions_end request.asked.questions question h.one h.there.questions.questions.0 in
        let other : same_record_type question.query_type types.RRSIG ≡ false = ap (λ (n : ℕ). n == 46) number ∙ a.other in
        let (none, some) = denies.lacked code a.authoritative small other a.none in
        whole_denies_type received.message reply h.answers.parts request.asked request.metadata.id limit count h.there.questions_end back h.there.questions h.avoids_header is_reply name t w.whole w.says denies.high none
        (some_turned (Lacks question.name question.query_type) (Lacks name t) (λ r. lacks_same question.name name a.for_name question.query_type t r number) h.answers.parts.authorities some)

    lacks_none : (name : DomainName) (t : RecordType) → record_type_number t < 2 ^ 16 → DeniesType reply name t → IsAuthoritativeName types.NSEC zone name → is_delegation zone name ≡ false → is_owned zone name t ≡ true → ⊥
    lacks_none name t small d on whole owned =
        denies.unlacked name t on small whole owned
        (lacked_in_parts received.message reply h.answers.parts request.asked request.metadata.id limit count h.there.questions_end back h.there.questions h.avoids_header is_reply name t d)

-- ---- both checkers
by_name : (reply : List ℕ) (name : DomainName) (answer : Bool) → MatchBool answer (DeniesName reply name) (DeniesName reply name → ⊥) → Certifies reply name answer
by_name reply name true d = λ world received request question zone h s. (
  λ same whole. refl,
  λ on. absurd (covers_none world received request question reply h zone s name d on),
)
by_name reply name false none = λ world received request question zone h s. (
  λ same whole. absurd (none (denies_name world received request question reply h zone s name same whole)),
  λ on. refl,
)

by_type : (reply : List ℕ) (name : DomainName) (t : RecordType) (answer : Bool) → MatchBool answer (DeniesType reply name t) (DeniesType reply name t → ⊥) → CertifiesType reply name t answer
by_type reply name t true d = λ world received request question zone h s. (
  λ asked whole. refl,
  λ on undelegated small owned. absurd (lacks_none world received request question reply h zone s name t small d on undelegated owned),
)
by_type reply name t false none = λ world received request question zone h s. (
  λ asked whole. absurd (none (denies_type world received request question reply h zone s name t asked whole)),
  λ on undelegated small owned. refl,
)

pub certified_name : {E : Type 0} (r : Result Bool E) (reply : List ℕ) (name : DomainName) → IfOk r (λ yes. MatchBool yes (DeniesName reply name) (DeniesName reply name → ⊥)) → IfOk r (Certifies reply name)
certified_name (Err e) reply name is = tt
certified_name (Ok answer) reply name is = by_name reply name answer is

pub certified_type : {E : Type 0} (r : Result Bool E) (reply : List ℕ) (name : DomainName) (t : RecordType) → IfOk r (λ yes. MatchBool yes (DeniesType reply name t) (DeniesType reply name t → ⊥)) → IfOk r (CertifiesType reply name t)
certified_type (Err e) reply name t is = tt
certified_type (Ok answer) reply name t is = by_type reply name t answer is
