-- What is sent in reply to an update, or to another message, is what the chains reply.
use Rattle.std.proofs.Common.{◌≡◌, ◌∙◌, ℕ, true, false, List, [], Option, ap, refl, subst, sym}
use Rattle.std.proofs.lemmas.Bool.{true≢false}
use Rattle.std.specs.declared.net.SocketAddr.{SocketAddr}
use Rattle.zsv_answer.specs.zst_request.Views.{View}
use Rattle.zsv_answer.specs.zst_request.dnw_name.DomainName.{DomainName}
use Rattle.zsv_answer.specs.zsv_reply.Replies.{ReplyParts}
use Rattle.zsv_answer.specs.zsv_reply.Writing.{SendsParts, with_edns}
use Rattle.zsv_answer.specs.zsv_reply.zst_record.declared.records.Record.{Record}
use Rattle.zsv_answer.specs.zsv_reply.zsv_message.Messages.{Message}
use Rattle.zsv_answer.specs.zsv_reply.zsv_message.zsv_parts.declared.header.Header.{Header}
use Rattle.zsv_answer.specs.zsv_request.Requests.{Requested}
use Rattle.zsv_answer.specs.zsv_request.declared.protocol.Protocol.{Protocol}
use Rattle.zsv_update.specs.Keys.{Keys}
use Rattle.zsv_update.specs.Replying.{RefusesUpdate, RepliesUpdate}
use Rattle.zsv_update.specs.Updates.{Given, with_updates}
use Rattle.zsv_update.specs.declared.update.ServiceFault.{ServiceFault}
use Rattle.zsv_update.specs.declared.update.ServiceFault.TheVariants.{OutOfMemory}
use Rattle.zsv_catalog.specs.Catalogs.{GivesOf, RefusesBy, RepliesBy, RepliesPlain, is_served_update}
use Rattle.zsv_catalog.specs.Requests.{AreCopies, RefusesRequest, RepliesToRequest}

-- ---- messages
module _ (chains : List (DomainName × List View)) (nsid : Option (List ℕ)) (keys : Keys) (request : Message) (source : SocketAddr) (octets : List ℕ) (moment : ℕ) where
  pub update_replied : (parts : ReplyParts) (transport : Protocol) (info : Header) (reply : List ℕ) (new : List (DomainName × List View)) → is_served_update request ≡ true → RepliesUpdate keys request source octets moment chains nsid parts new
      → SendsParts parts request.asked transport info reply → RepliesBy chains nsid keys request source octets moment transport info reply new
  update_replied parts transport info reply new served (bare, gives, (edns, sends, answers, back), is) sent =
      let given : Given = record bare { plain = with_edns edns bare.plain } in
      let all : GivesOf chains nsid keys request source octets moment given = record {
        update = λ _. (bare, gives, answers, refl);
        other = λ no. absurd (true≢false (sym served ∙ no));
      } in
      (given, all, parts, sends.signed, sent, λ _. back, is)

  pub plain_replied : (transport : Protocol) (info : Header) (reply : List ℕ) → is_served_update request ≡ false → RepliesPlain chains nsid keys request source octets moment transport info reply
      → RepliesBy chains nsid keys request source octets moment transport info reply chains
  plain_replied transport info reply other (given, gives, parts, signs, sent, back) =
      let all : GivesOf chains nsid keys request source octets moment given = record {
        update = λ yes. absurd (true≢false (sym yes ∙ other));
        other = λ _. gives;
      } in
      (given, all, parts, signs, sent, back, sym (ap (λ (g : Given). g.chains) gives.2))

  pub update_refused : (fault : ServiceFault) (new : List (DomainName × List View)) → is_served_update request ≡ true → RefusesUpdate keys request source octets moment chains fault new → RefusesBy chains keys request source octets moment fault new
  update_refused (OutOfMemory false) new served is = is
  update_refused (OutOfMemory true) new served is = (served, is)

-- The records of an update that were taken out are those of the message as it was.
module _ (chains : List (DomainName × List View)) (nsid : Option (List ℕ)) (keys : Keys) (old new : Message) (updates : List Record) (after : new ≡ record old { authorities = [] }) (taken : updates ≡ old.authorities) (served : is_served_update old ≡ true) where
  whole : with_updates new updates ≡ old
  whole = ap (λ (m : Message). with_updates m updates) after ∙ ap (with_updates old) taken

  pub taken_replied : (source : SocketAddr) (octets : List ℕ) (moment : ℕ) (parts : ReplyParts) (transport : Protocol) (info : Header) (reply : List ℕ) (left : List (DomainName × List View))
      → RepliesUpdate keys (with_updates new updates) source octets moment chains nsid parts left → SendsParts parts new.asked transport info reply → RepliesBy chains nsid keys old source octets moment transport info reply left
  taken_replied source octets moment parts transport info reply left replied sent =
      update_replied chains nsid keys old source octets moment parts transport info reply left served
      (subst (λ (m : Message). RepliesUpdate keys m source octets moment chains nsid parts left) whole replied)
      (subst (λ (m : Message). SendsParts parts m.asked transport info reply) after sent)

  pub taken_refused : (source : SocketAddr) (octets : List ℕ) (moment : ℕ) (fault : ServiceFault) (left : List (DomainName × List View))
      → RefusesUpdate keys (with_updates new updates) source octets moment chains fault left → RefusesBy chains keys old source octets moment fault left
  taken_refused source octets moment fault left refused =
      update_refused chains nsid keys old source octets moment fault left served (subst (λ (m : Message). RefusesUpdate keys m source octets moment chains fault left) whole refused)

-- ---- requests that are lent
module _ (chains : List (DomainName × List View)) (nsid : Option (List ℕ)) (keys : Keys) (request : Requested) (moment : ℕ) where
  pub request_replied : (updates : List Record) (parts : ReplyParts) (info : Header) (reply : List ℕ) (new : List (DomainName × List View)) → is_served_update request.message ≡ true → AreCopies request.message.authorities updates
      → RepliesUpdate keys (with_updates request.message updates) request.source request.octets moment chains nsid parts new → SendsParts parts request.message.asked request.transport info reply
      → RepliesToRequest chains nsid keys request moment info reply new
  request_replied updates parts info reply new served copies replied sent =
      (updates, λ _. copies, update_replied chains nsid keys (with_updates request.message updates) request.source request.octets moment parts request.transport info reply new served replied sent)

  pub request_plain : (info : Header) (reply : List ℕ) → is_served_update request.message ≡ false
      → RepliesPlain chains nsid keys request.message request.source request.octets moment request.transport info reply
      → RepliesToRequest chains nsid keys request moment info reply chains
  request_plain info reply other replied =
      (request.message.authorities, λ yes. absurd (true≢false (sym yes ∙ other)), plain_replied chains nsid keys request.message request.source request.octets moment request.transport info reply other replied)

  pub request_refused : (updates : List Record) (fault : ServiceFault) (new : List (DomainName × List View)) → is_served_update request.message ≡ true → AreCopies request.message.authorities updates
      → RefusesUpdate keys (with_updates request.message updates) request.source request.octets moment chains fault new → RefusesRequest chains keys request moment fault new
  request_refused updates (OutOfMemory false) new served copies is = is
  request_refused updates (OutOfMemory true) new served copies is = (updates, copies, (served, is))

  -- The same, of the message and the arrival as they are read from the request.
  pub read_replied : (m : Message) (source : SocketAddr) (octets : List ℕ) (transport : Protocol) (now : ℕ) → m ≡ request.message → source ≡ request.source → octets ≡ request.octets → transport ≡ request.transport → now ≡ moment
      → (copied updates : List Record) (parts : ReplyParts) (info : Header) (reply : List ℕ) (new : List (DomainName × List View)) → is_served_update m ≡ true → copied ≡ m.authorities → AreCopies copied updates
      → RepliesUpdate keys (with_updates m updates) source octets now chains nsid parts new → SendsParts parts m.asked transport info reply → RepliesToRequest chains nsid keys request moment info reply new
  read_replied m source octets transport now same from arrived by at copied updates parts info reply new served all copies replied sent =
      let first = subst (λ (x : Message). RepliesUpdate keys (with_updates x updates) source octets now chains nsid parts new) same replied in
      let second = subst (λ (x : SocketAddr). RepliesUpdate keys (with_updates request.message updates) x octets now chains nsid parts new) from first in
      let third = subst (λ (x : List ℕ). RepliesUpdate keys (with_updates request.message updates) request.source x now chains nsid parts new) arrived second in
      let last = subst (λ (x : ℕ). RepliesUpdate keys (with_updates request.message updates) request.source request.octets x chains nsid parts new) at third in
      let written = subst (λ (x : Protocol). SendsParts parts request.message.asked x info reply) by (subst (λ (x : Message). SendsParts parts x.asked transport info reply) same sent) in
      request_replied updates parts info reply new (subst (λ (x : Message). is_served_update x ≡ true) same served)
      (subst (λ (rs : List Record). AreCopies rs updates) (all ∙ ap (λ (x : Message). x.authorities) same) copies) last written

  pub read_plain : (m : Message) (source : SocketAddr) (octets : List ℕ) (transport : Protocol) (now : ℕ) → m ≡ request.message → source ≡ request.source → octets ≡ request.octets → transport ≡ request.transport → now ≡ moment
      → (info : Header) (reply : List ℕ) → is_served_update m ≡ false → RepliesPlain chains nsid keys m source octets now transport info reply → RepliesToRequest chains nsid keys request moment info reply chains
  read_plain m source octets transport now same from arrived by at info reply other replied =
      let first = subst (λ (x : Message). RepliesPlain chains nsid keys x source octets now transport info reply) same replied in
      let second = subst (λ (x : SocketAddr). RepliesPlain chains nsid keys request.message x octets now transport info reply) from first in
      let third = subst (λ (x : List ℕ). RepliesPlain chains nsid keys request.message request.source x now transport info reply) arrived second in
      let last = subst (λ (x : ℕ). RepliesPlain chains nsid keys request.message request.source request.octets x transport info reply) at third in
      request_plain info reply (subst (λ (x : Message). is_served_update x ≡ false) same other)
      (subst (λ (x : Protocol). RepliesPlain chains nsid keys request.message request.source request.octets moment x info reply) by last)
