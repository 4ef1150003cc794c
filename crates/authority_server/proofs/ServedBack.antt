-- A message leaves a server whose records read back, and one whose zones take no updates as it was.
use Rattle.std.proofs.Common.{◌≡◌, ◌∙◌, ap, refl, subst, sym}
use Rattle.std.specs.Prelude.{ℕ, Bool, true, false, List, Option, Some, None, Result, Ok, Err, IfOk, IfErr}
use Rattle.std.specs.Net.Socket.{socket_ip}
use Rattle.zsv_access.specs.Access.{is_allowed}
use Rattle.zsv_catalog.proofs.GivenBack.{update_back}
use Rattle.zsv_catalog.proofs.ReadAdditions.{authorities_servable}
use Rattle.zsv_catalog.specs.ReadingBack.{ChainsReadBack}
use Rattle.zsv_catalog.specs.zsv_answer.zst_request.Views.{View}
use Rattle.zsv_catalog.specs.zsv_answer.zst_request.dnw_name.DomainName.{DomainName}
use Rattle.zsv_catalog.specs.zsv_answer.zsv_reply.zsv_message.Messages.{IsMessage, Message}
use Rattle.zsv_catalog.specs.zsv_update.Updates.{Given}
use Rattle.authority_server.specs.declared.server.ServeError.{ServeError}
use Rattle.authority_server.specs.declared.server.ServeError.TheVariants as errors
use Rattle.authority_server.specs.Servers.{AreUnguarded}
use Rattle.authority_server.specs.Serving.{Gives, Received, Refuses, Serves, World, WorldReadsBack}
use Rattle.authority_server.proofs.Answered.{with_chains}
use Rattle.authority_server.proofs.Unguarded.{given_fixed, update_fixed}

module _ (old : World) (received : Received) where
  gives_fixed : (request : Message) (given : Given) → AreUnguarded old.chains → Gives old received request given → given.chains ≡ old.chains
  gives_fixed request given unguarded gives = by (is_allowed old.access (socket_ip received.source)) refl
    where
      by : (b : Bool) → is_allowed old.access (socket_ip received.source) ≡ b → given.chains ≡ old.chains
      by true e = given_fixed old.keys request received.source received.message received.now old.chains unguarded old.nsid given (gives.answered e)
      by false e = ap (λ (g : Given). g.chains) (gives.refused e)

  chains_back : (chains : List (DomainName × List View)) (new : World) → new ≡ with_chains old chains → ChainsReadBack chains → WorldReadsBack new
  chains_back chains new after back = subst WorldReadsBack (sym after) (record { chains = back })

  chains_fixed : (chains : List (DomainName × List View)) (new : World) → new ≡ with_chains old chains → chains ≡ old.chains → new ≡ old
  chains_fixed chains new after same = after ∙ ap (with_chains old) same

  pub serves_back : (answer : Option (List ℕ)) (new : World) → Serves old received answer new → WorldReadsBack old → WorldReadsBack new
  serves_back None new (none, same) back = subst WorldReadsBack (sym same) back
  serves_back (Some reply) new (request, is, given, answers, after) back = chains_back given.chains new after (answers.kept back)

  pub serves_fixed : (answer : Option (List ℕ)) (new : World) → Serves old received answer new → AreUnguarded old.chains → new ≡ old
  serves_fixed None new (none, same) unguarded = same
  serves_fixed (Some reply) new (request, is, given, answers, after) unguarded = chains_fixed given.chains new after (gives_fixed request given unguarded answers.gives)

  pub refuses_back : (e : ServeError) (new : World) → Refuses old received e new → WorldReadsBack old → WorldReadsBack new
  refuses_back (errors.OutOfMemory false) new (long, same) back = subst WorldReadsBack (sym same) back
  refuses_back (errors.OutOfMemory true) new (request, is, allowed, served, given, gives, code, after) back =
      chains_back given.chains new after
      (update_back old.keys request received.source received.message received.now old.chains given (authorities_servable received.message request is) back.chains gives)

  pub refuses_fixed : (e : ServeError) (new : World) → Refuses old received e new → AreUnguarded old.chains → new ≡ old
  refuses_fixed (errors.OutOfMemory false) new (long, same) unguarded = same
  refuses_fixed (errors.OutOfMemory true) new (request, is, allowed, served, given, gives, code, after) unguarded =
      chains_fixed given.chains new after (update_fixed old.keys request received.source received.message received.now old.chains unguarded given gives)

-- What both of a returned value and of an error is said holds.
pub either : {X E R : Type 0} (r : Result X E) (P : X → Type 0) (Q : E → Type 0) → IfOk r P → IfErr r Q → ((x : X) → P x → R) → ((e : E) → Q e → R) → R
either (Ok x) P Q ok err first second = first x ok
either (Err e) P Q ok err first second = second e err

-- A server that takes no updates is as it was after one message more.
pub fixed_more : (old middle new : World) → (AreUnguarded old.chains → middle ≡ old) → (AreUnguarded middle.chains → new ≡ middle) → AreUnguarded old.chains → new ≡ old
fixed_more old middle new first second unguarded =
    let same = first unguarded in
    second (subst (λ (w : World). AreUnguarded w.chains) (sym same) unguarded) ∙ same
