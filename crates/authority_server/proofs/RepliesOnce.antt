-- The full reply to a message, and what it is signed with, is a function of the server, the message and how it arrived, whatever memory its data own.
use Rattle.std.proofs.Common.{◌≡◌, ◌∙◌, Bool, true, false, ap, refl, sym}
use Rattle.std.specs.Net.Socket.{socket_ip}
use Rattle.zsv_access.specs.Access.{is_allowed}
use Rattle.zsv_catalog.proofs.AnsweredOnce.{one-given}
use Rattle.zsv_catalog.proofs.PartsOnce.{SameParts, equal-parts}
use Rattle.zsv_catalog.specs.zsv_answer.zsv_reply.zsv_message.Messages.{Message}
use Rattle.zsv_catalog.specs.zsv_update.Updates.{Given}
use Rattle.authority_server.specs.Serving.{Gives, Received, World}

pub one-reply : (world : World) (received : Received) (request : Message) (a b : Given) → Gives world received request a → Gives world received request b → SameParts a.plain b.plain × (a.context ≡ b.context)
one-reply world received request a b is also = by (is_allowed world.access (socket_ip received.source)) refl
  where
    by : (allowed : Bool) → is_allowed world.access (socket_ip received.source) ≡ allowed → SameParts a.plain b.plain × (a.context ≡ b.context)
    by false e =
        let same : a ≡ b = is.refused e ∙ sym (also.refused e) in
        (equal-parts a.plain b.plain (ap (λ (g : Given). g.plain) same), ap (λ (g : Given). g.context) same)
    by true e = one-given world.chains world.nsid world.keys request received.source received.message received.now a b (is.answered e) (also.answered e)
