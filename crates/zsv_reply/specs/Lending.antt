-- What the iterators of a response lend.
use Rattle.std.specs.Prelude.{◌≡◌, ◌++◌, List, Option, option_copied}
use Rattle.zsv_request.specs.zsv_message.zst_record.declared.records.Record.{Record}
use Rattle.zsv_reply.specs.declared.message_response.MessageResponse.{MessageResponse}
use Rattle.zsv_reply.specs.Iterators.{Supplies}
use Rattle.zsv_reply.specs.Replies.{ReplyParts}

-- A response holds these parts: each of its iterators supplies the records of that list; the SOA of
-- a zone follows the authorities. Of each iterator this takes its `next_gives`, and which record an
-- item is.
pub record Holds {A W N X S Y D Z : Type 0} (answers_give : A → Option W → A → Type 0)
    (answer : W → Record) (authorities_give : N → Option X → N → Type 0) (authority : X → Record)
    (soa_gives : S → Option Y → S → Type 0) (start : Y → Record)
    (additionals_give : D → Option Z → D → Type 0) (additional : Z → Record)
    (response : MessageResponse A N S D) (parts : ReplyParts) : Type 0 where
  pub above : List Record
  pub behind : List Record
  pub metadata : parts.metadata ≡ response.metadata
  pub answers : Supplies answers_give answer response.answers parts.answers
  pub authorities : Supplies authorities_give authority response.authorities above
  pub soa : Supplies soa_gives start response.soa behind
  pub section : parts.authorities ≡ above ++ behind
  pub additionals : Supplies additionals_give additional response.additionals parts.additionals
  pub edns : parts.edns ≡ option_copied response.edns
  pub signature : parts.signature ≡ option_copied response.signature
