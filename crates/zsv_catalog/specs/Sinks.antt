-- Where replies go: sinks, each of which takes a reply or fails to.
use Rattle.std.specs.Prelude.{◌≡◌, ◌⊎◌, ℕ, ◌+◌, List, [], ◌∷◌, ◌++◌}
use Rattle.zsv_answer.specs.zst_request.zst_codes.declared.response_code.ResponseCode.TheVariants as responses
use Rattle.zsv_answer.specs.zsv_reply.zsv_message.zsv_parts.Headers.{plain_metadata}
use Rattle.zsv_answer.specs.zsv_reply.zsv_message.zsv_parts.declared.header.Header.{Header}
use Rattle.zsv_answer.specs.zsv_reply.zsv_message.zsv_parts.declared.header.MessageType.TheVariants as messages
use Rattle.zsv_answer.specs.zsv_reply.zsv_message.zsv_parts.declared.header.Metadata.{Metadata}

-- The replies that a sink took, in order, and how often it failed.
pub record Sink : Type 0 where
  pub taken : List (List ℕ)
  pub faults : ℕ

abbrev pub with_reply : Sink → List ℕ → Sink
with_reply sink reply = record sink { taken = sink.taken ++ reply ∷ [] }

abbrev pub with_fault : Sink → Sink
with_fault sink = record sink { faults = sink.faults + 1 }

-- The header in place of that of a reply that wasn't taken: the server failed.
abbrev pub failed_header : Metadata → Header
failed_header m = record {
  metadata = record (plain_metadata m.id messages.Response m.op_code) {
    response_code = responses.ServFail;
  };
  counts = record { queries = 0; answers = 0; authorities = 0; additionals = 0 };
}

-- A reply with this header was sent: it was taken, and the result is its header, or it wasn't.
abbrev pub HandsOver : Sink → List ℕ → Header → Metadata → Sink → Header → Type 0
HandsOver old reply sent m new told =
    ((new ≡ with_reply old reply) × (told ≡ sent))
    ⊎ ((new ≡ with_fault old) × (told ≡ failed_header m))
