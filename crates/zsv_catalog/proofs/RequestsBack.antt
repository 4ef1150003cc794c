-- Requests that are lent leave chains that can be served: copies of records that can be served can be served too.
use Rattle.std.proofs.Common.{◌≡◌, ◌∙◌, ℕ, Bool, true, false, not, List, [], ◌∷◌, ap, refl, subst, sym}
use Rattle.std.proofs.lemmas.Bool.{and_parts, eqb-true, true≢false}
use Rattle.std.specs.Prelude.{◌&&◌, ◌==◌, cond, nat_lt, Option, Result, Ok, Err, IfOk, IfErr}
use Rattle.std.specs.Ordering.{is_eq, nat_cmp, ordering_then}
use Rattle.std.specs.declared.cmp.Ordering.{Ordering}
use Rattle.std.specs.declared.cmp.Ordering.TheVariants.{Less, Equal, Greater}
use Rattle.std.specs.declared.net.SocketAddr.{SocketAddr}
use Rattle.zsv_answer.specs.zst_request.Views.{View}
use Rattle.zsv_answer.specs.zst_request.dnw_name.DomainName.{DomainName}
use Rattle.zsv_answer.specs.zsv_reply.drd_rdata.Order.{data_cmp, data_form, rdata_eq, type_number}
use Rattle.zsv_answer.specs.zsv_reply.drd_rdata.Types.{is_update0}
use Rattle.zsv_answer.specs.zsv_reply.drd_rdata.declared.rdata.RData.{RData}
use Rattle.zsv_answer.specs.zsv_reply.drd_rdata.declared.rdata.RData.TheVariants as rdata
use Rattle.zsv_answer.specs.zsv_reply.zst_record.declared.records.Record.{Record}
use Rattle.zsv_answer.specs.zsv_reply.zsv_message.Messages.{Message}
use Rattle.zsv_answer.specs.zsv_reply.zsv_message.zst_edns.declared.edns.Edns.{Edns}
use Rattle.zsv_answer.specs.zsv_reply.zsv_message.zsv_parts.declared.header.Header.{Header}
use Rattle.zsv_answer.specs.zsv_request.Requests.{Requested}
use Rattle.zsv_answer.specs.zsv_request.declared.protocol.Protocol.{Protocol}
use Rattle.zsv_update.proofs.ServedBack.{refused_back, replied_with_back}
use Rattle.zsv_update.specs.Keys.{Keys}
use Rattle.zsv_update.specs.ReadingBack.{AdditionsAreServable, ChainsReadBack}
use Rattle.zsv_update.specs.Updates.{with_updates}
use Rattle.zsv_update.specs.declared.update.ServiceFault.{ServiceFault}
use Rattle.zsv_update.specs.declared.update.ServiceFault.TheVariants.{OutOfMemory}
use Rattle.zsv_catalog.specs.Catalogs.{RefusesBy, RepliesBy, is_served_update}
use Rattle.zsv_catalog.specs.Requests.{AnswersUpdate, AreCopies, RefusesAsUpdate, RefusesRequest, RepliesToRequest}
use Rattle.zsv_catalog.proofs.GivenBack.{given_back}

-- ---- copies
then_eq : (a b : Ordering) → is_eq (ordering_then a b) ≡ (is_eq a && is_eq b)
then_eq Less b = refl
then_eq Equal b = refl
then_eq Greater b = refl

same_number : (m n : ℕ) → is_eq (nat_cmp m n) ≡ true → m ≡ n
same_number m n is = by (nat_lt m n) (m == n) refl is
  where
    by : (b c : Bool) → (m == n) ≡ c → is_eq (cond b Less (cond c Equal Greater)) ≡ true → m ≡ n
    by true c alike equal = absurd (true≢false (sym equal))
    by false true alike equal = eqb-true m n alike
    by false false alike equal = absurd (true≢false (sym equal))

by_form : (v : RData) → is_update0 v ≡ (data_form v == 0)
by_form (rdata.Update0 code) = refl
by_form (rdata.Unknown code null) = refl
by_form other = refl

-- Equal RDATA are both absent, or both there.
same_update0 : (a b : RData) → rdata_eq a b ≡ true → is_update0 a ≡ is_update0 b
same_update0 a b equal =
    let later = ordering_then (nat_cmp (data_form a) (data_form b)) (data_cmp a b) in
    let forms : is_eq later ≡ true = (and_parts (is_eq (nat_cmp (type_number a) (type_number b))) (is_eq later) (sym (then_eq (nat_cmp (type_number a) (type_number b)) later) ∙ equal)).1 in
    let form : is_eq (nat_cmp (data_form a) (data_form b)) ≡ true = (and_parts (is_eq (nat_cmp (data_form a) (data_form b))) (is_eq (data_cmp a b)) (sym (then_eq (nat_cmp (data_form a) (data_form b)) (data_cmp a b)) ∙ forms)).0 in
    by_form a ∙ ap (λ (n : ℕ). n == 0) (same_number (data_form a) (data_form b) form) ∙ sym (by_form b)

pub additions_copied : (rs copies : List Record) → AreCopies rs copies → AdditionsAreServable rs → AdditionsAreServable copies
additions_copied [] [] all servable = tt
additions_copied [] (c ∷ cs) all servable = absurd all
additions_copied (r ∷ rs) [] all servable = absurd all
additions_copied (r ∷ rs) (c ∷ cs) all servable = (
  λ class_in there. all.0.servable (servable.0 (sym all.0.dns_class ∙ class_in) (ap not (sym (same_update0 c.rdata r.rdata all.0.rdata)) ∙ there)),
  additions_copied rs cs all.1 servable.1,
)

-- ---- messages
module _ (keys : Keys) (chains new : List (DomainName × List View)) (back : ChainsReadBack chains) where
  pub message_replied : (nsid : Option (List ℕ)) (m : Message) (source : SocketAddr) (octets : List ℕ) (moment : ℕ) (transport : Protocol) (info : Header) (reply : List ℕ) → (is_served_update m ≡ true → AdditionsAreServable m.authorities)
      → RepliesBy chains nsid keys m source octets moment transport info reply new → ChainsReadBack new
  message_replied nsid m source octets moment transport info reply servable (given, gives, parts, signs, sent, reads, is) =
      subst ChainsReadBack (sym is) (given_back keys m source octets moment chains servable back nsid given gives)

  pub message_refused : (m : Message) (source : SocketAddr) (octets : List ℕ) (moment : ℕ) (fault : ServiceFault) → AdditionsAreServable m.authorities → RefusesBy chains keys m source octets moment fault new → ChainsReadBack new
  message_refused m source octets moment (OutOfMemory false) servable is = subst ChainsReadBack (sym is) back
  message_refused m source octets moment (OutOfMemory true) servable told = refused_back keys m source octets moment chains new back servable (OutOfMemory true) told.1

  module _ (request : Requested) (servable : AdditionsAreServable request.message.authorities) (moment : ℕ) where
    copied : (updates : List Record) → AreCopies request.message.authorities updates → AdditionsAreServable updates
    copied updates copies = additions_copied request.message.authorities updates copies servable

    pub request_replied : (nsid : Option (List ℕ)) (info : Header) (reply : List ℕ) → RepliesToRequest chains nsid keys request moment info reply new → ChainsReadBack new
    request_replied nsid info reply told =
        message_replied nsid (with_updates request.message told.0) request.source request.octets moment request.transport info reply (λ served. copied told.0 (told.1 served)) told.2

    pub request_refused : (fault : ServiceFault) → RefusesRequest chains keys request moment fault new → ChainsReadBack new
    request_refused (OutOfMemory false) is = subst ChainsReadBack (sym is) back
    request_refused (OutOfMemory true) told =
        message_refused (with_updates request.message told.0) request.source request.octets moment (OutOfMemory true) (copied told.0 told.1) told.2

    pub update_replied : (edns : Option Edns) (info : Header) (reply : List ℕ) → AnswersUpdate chains keys request edns moment info reply new → ChainsReadBack new
    update_replied edns info reply (updates, copies, parts, replies, sent) =
        replied_with_back keys (with_updates request.message updates) request.source request.octets moment chains new back (copied updates copies) edns parts replies

    pub update_refused : (fault : ServiceFault) → RefusesAsUpdate chains keys request moment fault new → ChainsReadBack new
    update_refused (OutOfMemory false) is = subst ChainsReadBack (sym is) back
    update_refused (OutOfMemory true) told =
        refused_back keys (with_updates request.message told.0) request.source request.octets moment chains new back (copied told.0 told.1) (OutOfMemory true) told.2

-- What is said of a value and of an error holds.
pub either : {X E R : Type 0} (r : Result X E) (P : X → Type 0) (Q : E → Type 0) → IfOk r P → IfErr r Q → ((x : X) → P x → R) → ((e : E) → Q e → R) → R
either (Ok x) P Q ok err first second = first x ok
either (Err e) P Q ok err first second = second e err
