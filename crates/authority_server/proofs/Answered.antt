-- What was sent answers the request.
use Rattle.std.proofs.Common.{◌≡◌, ◌∙◌, ap, refl, subst, sym}
use Rattle.std.proofs.lemmas.Bool.{true≢false}
use Rattle.std.specs.Prelude.{ℕ, Bool, true, false, List, Option, Some, None, Result, Ok, Err, IfOk, IfErr, OnErr}
use Rattle.std.specs.Net.Socket.{socket_ip}
use Rattle.zsv_access.specs.Access.{is_allowed}
use Rattle.zsv_access.specs.declared.access.AccessControl.{AccessControl}
use Rattle.zsv_catalog.specs.Catalogs.{RefusesBy, RepliesBy, failure_of}
use Rattle.zsv_catalog.specs.Chains.{views_of}
use Rattle.zsv_catalog.specs.ReadingBack.{ChainsReadBack}
use Rattle.zsv_catalog.specs.declared.catalog.Catalog.{Catalog}
use Rattle.zsv_catalog.proofs.GivenBack.{given_back}
use Rattle.zsv_catalog.proofs.PartsBack.{error_back}
use Rattle.zsv_catalog.proofs.zsv_answer_lemmas.zsv_reply_lemmas.Fits.{fits_request}
use Rattle.zsv_catalog.proofs.Replied.{Repeated, given_id, own, repeated_of, sent_id}
use Rattle.zsv_catalog.proofs.zsv_answer_lemmas.zsv_reply_lemmas.HeaderLaws.{fits_same}
use Rattle.zsv_catalog.proofs.zsv_answer_lemmas.zsv_reply_lemmas.Written.{reply_of_encoded}
use Rattle.zsv_catalog.specs.zsv_answer.zst_request.Updating.{SigningContext}
use Rattle.zsv_catalog.specs.zsv_answer.zst_request.Views.{View}
use Rattle.zsv_catalog.specs.zsv_answer.zst_request.dnw_name.DomainName.{DomainName}
use Rattle.zsv_catalog.specs.zsv_answer.zst_request.zst_codes.declared.response_code.ResponseCode.TheVariants as responses
use Rattle.zsv_catalog.specs.zsv_answer.zsv_reply.Replies.{IsReply, ReplyParts}
use Rattle.zsv_catalog.specs.zsv_answer.zsv_reply.Writing.{AllReadBack, IsEncoded, error_parts}
use Rattle.zsv_catalog.specs.zsv_answer.zsv_reply.zsv_message.Messages.{IsMessage, Message}
use Rattle.zsv_catalog.specs.zsv_answer.zsv_reply.zsv_message.zsv_parts.declared.header.Header.{Header}
use Rattle.zsv_catalog.specs.zsv_answer.zsv_request.Requests.{limit_of}
use Rattle.zsv_catalog.proofs.ReadAdditions.{authorities_servable}
use Rattle.zsv_catalog.specs.zsv_update.Keys.{Keys}
use Rattle.zsv_catalog.specs.zsv_update.Signing.{SignsParts}
use Rattle.zsv_catalog.specs.zsv_update.Updates.{Given, only}
use Rattle.zsv_catalog.specs.zsv_update.declared.update.ServiceFault.{ServiceFault}
use Rattle.zsv_catalog.specs.zsv_update.declared.update.ServiceFault.TheVariants as faults
use Rattle.authority_server.specs.Servers.{RefusesReply, SendsReply, error_of}
use Rattle.authority_server.specs.Serving.{Answers, Gives, IsReplyOf, Received, Refuses, SendsGiven, Serves, World, WorldReadsBack}

-- ---- the server after a request
abbrev of_catalog : {S H : Type 0} → (S → Keys) → (H → View) → AccessControl → Catalog S H → World
of_catalog keys view access catalog = record { access = access; keys = keys catalog.suite; nsid = catalog.nsid; chains = views_of view catalog.chains.chains }

abbrev pub with_chains : World → List (DomainName × List View) → World
with_chains world chains = record world { chains = chains }

-- A catalog whose chains alone are others.
pub chains_alone : {S H : Type 0} (keys : S → Keys) (view : H → View) (access : AccessControl) (old new : Catalog S H) → new ≡ record old { chains = new.chains }
    → of_catalog keys view access new ≡ with_chains (of_catalog keys view access old) (views_of view new.chains.chains)
chains_alone keys view access old new others = ap (of_catalog keys view access) others

-- ---- what is sent
module _ (world : World) (received : Received) (request : Message) where
  pub zones_sent : (info : Header) (reply : List ℕ) (chains : List (DomainName × List View)) (new : World) → is_allowed world.access (socket_ip received.source) ≡ true → new ≡ with_chains world chains
      → RepliesBy world.chains world.nsid world.keys request received.source received.message received.now received.transport info reply chains → SendsReply world received request info reply new
  zones_sent info reply chains new allowed after (given, gives, parts, signs, sent, back, is) =
      (given, record { refused = λ no. absurd (true≢false (sym allowed ∙ no)); answered = λ _. gives }, parts, signs, sent, λ reads. back reads.chains, after ∙ ap (with_chains world) is)

  pub zones_refused : (fault : ServiceFault) (chains : List (DomainName × List View)) (new : World) → is_allowed world.access (socket_ip received.source) ≡ true → new ≡ with_chains world chains
      → RefusesBy world.chains world.keys request received.source received.message received.now fault chains → RefusesReply world received request fault new
  zones_refused (faults.OutOfMemory false) chains new allowed after is = after ∙ ap (with_chains world) is
  zones_refused (faults.OutOfMemory true) chains new allowed after is = (allowed, chains, is, after)

  pub refusal_sent : (info : Header) (reply : List ℕ) → is_allowed world.access (socket_ip received.source) ≡ false → IsEncoded info reply (error_parts request.metadata responses.Refused) request.asked (limit_of received.transport None)
      → SendsReply world received request info reply world
  refusal_sent info reply denied encoded =
      let given : Given = only world.chains (error_parts request.metadata responses.Refused) in (
        given,
        record { refused = λ _. refl; answered = λ yes. absurd (true≢false (sym yes ∙ denied)) },
        error_parts request.metadata responses.Refused,
        refl,
        record { within = encoded.within; stands = λ _. encoded },
        λ _. error_back request.metadata responses.Refused (error_parts request.metadata responses.Refused) refl,
        refl,
      )

  -- ---- what was sent
  -- A reply has the identifier and the opcode of its request.
  same_repeated : (given : Given) → Gives world received request given → repeated_of given.plain ≡ own request.metadata
  same_repeated given gives = by (is_allowed world.access (socket_ip received.source)) refl
    where
      by : (b : Bool) → is_allowed world.access (socket_ip received.source) ≡ b → repeated_of given.plain ≡ own request.metadata
      by true e = given_id world.chains world.nsid world.keys request received.source received.message received.now given (gives.answered e)
      by false e = ap (λ (g : Given). repeated_of g.plain) (gives.refused e)

  encoded_reply : (parts : ReplyParts) (info : Header) (reply : List ℕ) (limit : ℕ) → IsMessage received.message request → repeated_of parts ≡ own request.metadata → (AllReadBack parts → IsEncoded info reply parts request.asked limit)
      → IsReplyOf received request parts limit reply
  encoded_reply parts info reply limit is same encoded = λ back.
      let fits = fits_same request.metadata parts.metadata (ap (λ (r : Repeated). r.1) same) (fits_request received.message request is) in
      let stands = reply_of_encoded received.message reply info parts request.asked limit _ _ is.questions fits (encoded back) in
      subst (λ (id : ℕ). IsReply received.message reply parts request.asked id limit) (ap (λ (r : Repeated). r.0) same) stands

  sends_given : (given : Given) (context : Option SigningContext) (parts : ReplyParts) → IsMessage received.message request → repeated_of given.plain ≡ own request.metadata
      → SignsParts world.keys request.asked given.plain (failure_of request given) context parts → SendsGiven world received request given context parts
  sends_given given None parts is same signs = signs
  sends_given given (Some context) parts is same (info, unsigned, over, signs) = (unsigned, encoded_reply given.plain info unsigned 65535 is same over.whole, signs)

  -- The zones after a message that was read can be read back if those before it can.
  gives_back : (given : Given) → IsMessage received.message request → WorldReadsBack world → Gives world received request given → ChainsReadBack given.chains
  gives_back given is back gives = by (is_allowed world.access (socket_ip received.source)) refl
    where
      by : (b : Bool) → is_allowed world.access (socket_ip received.source) ≡ b → ChainsReadBack given.chains
      by true e =
          given_back world.keys request received.source received.message received.now world.chains (λ _. authorities_servable received.message request is) back.chains world.nsid given
          (gives.answered e)
      by false e = subst ChainsReadBack (sym (ap (λ (g : Given). g.chains) (gives.refused e))) back.chains

  pub sent_answers : (info : Header) (reply : List ℕ) (new : World) → IsMessage received.message request → SendsReply world received request info reply new → Serves world received (Some reply) new
  sent_answers info reply new is (given, gives, parts, signs, sent, reads, after) =
      let same = same_repeated given gives in
      let answers : Answers world received request given reply = record {
        parts = parts;
        gives = gives;
        sent = sends_given given given.context parts is same signs;
        within = sent.within;
        back = reads;
        kept = λ back. gives_back given is back gives;
        holds = encoded_reply parts info reply (limit_of received.transport parts.edns) is (sent_id world.keys request given given.context parts same signs) sent.stands;
      } in
      (request, is, given, answers, after)

  pub sent_refuses : (fault : ServiceFault) (new : World) → IsMessage received.message request → RefusesReply world received request fault new → Refuses world received (error_of fault) new
  sent_refuses (faults.OutOfMemory false) new is same = (is.long, same)
  sent_refuses (faults.OutOfMemory true) new is (allowed, chains, (served, (given, gives, code, left)), after) = (request, is, allowed, served, given, gives, code, after ∙ ap (with_chains world) left)

-- ---- what a message gets to which a reply was written
module _ {A V E F : Type 0} (error : E → F) (sent : Result (A × V) E) (result : Result (Option V) F) (ok : IfOk sent (λ s. result ≡ Ok (Some s.1))) (err : IfErr sent (λ e. result ≡ Err (error e))) where
  -- What is said of a reply that was written is said of the answer.
  pub answer_of : (P : Option V → Type 0) (Q : A × V → Type 0) → IfOk sent Q → ((s : A × V) → Q s → P (Some s.1)) → IfOk result P
  answer_of P Q told turn = by sent ok err told
    where
      by : (r : Result (A × V) E) → IfOk r (λ s. result ≡ Ok (Some s.1)) → IfErr r (λ e. result ≡ Err (error e)) → IfOk r Q → IfOk result P
      by (Ok s) is none holds = subst (λ (r : Result (Option V) F). IfOk r P) (sym is) (turn s holds)
      by (Err e) none is holds = subst (λ (r : Result (Option V) F). IfOk r P) (sym is) tt

  -- So is what is said of a fault.
  pub refusal_of : (P : F → Type 0) (Q : E → Type 0) → IfErr sent Q → ((e : E) → Q e → P (error e)) → IfErr result P
  refusal_of P Q told turn = by sent ok err told
    where
      by : (r : Result (A × V) E) → IfOk r (λ s. result ≡ Ok (Some s.1)) → IfErr r (λ e. result ≡ Err (error e)) → IfErr r Q → IfErr result P
      by (Ok s) is none holds = subst (λ (r : Result (Option V) F). IfErr r P) (sym is) tt
      by (Err e) none is holds = subst (λ (r : Result (Option V) F). IfErr r P) (sym is) (turn e holds)

-- ---- a reply that needs no zone
module _ {X E F : Type 0} (sent : Result X E) (result : Result X F) (fault : F) (ok : IfOk sent (λ s. result ≡ Ok s)) (err : OnErr sent (result ≡ Err fault)) where
  pub unserved_ok : (P : X → Type 0) → IfOk sent P → IfOk result P
  unserved_ok P told = by sent ok err told
    where
      by : (r : Result X E) → IfOk r (λ s. result ≡ Ok s) → OnErr r (result ≡ Err fault) → IfOk r P → IfOk result P
      by (Ok s) is none holds = subst (λ (r : Result X F). IfOk r P) (sym is) holds
      by (Err e) none is holds = subst (λ (r : Result X F). IfOk r P) (sym is) tt

  pub unserved_err : (Q : F → Type 0) → Q fault → IfErr result Q
  unserved_err Q holds = by sent ok err
    where
      by : (r : Result X E) → IfOk r (λ s. result ≡ Ok s) → OnErr r (result ≡ Err fault) → IfErr result Q
      by (Ok s) is none = subst (λ (r : Result X F). IfErr r Q) (sym is) tt
      by (Err e) none is = subst (λ (r : Result X F). IfErr r Q) (sym is) holds
