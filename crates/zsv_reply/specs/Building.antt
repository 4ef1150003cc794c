-- Responses that are made of lists.
use Rattle.std.specs.Borrow.{Bor}
use Rattle.std.specs.Prelude.{◌≡◌, Option, None}
use Rattle.std.specs.Iterator.Adapters.{once_item}
use Rattle.std.specs.declared.iter.Once.{Once}
use Rattle.zsv_request.specs.zsv_message.zst_edns.declared.edns.Edns.{Edns}
use Rattle.zsv_request.specs.zsv_message.zst_record.declared.records.Record.{Record}
use Rattle.zsv_request.specs.zsv_message.zsv_parts.Questions.{Asked}
use Rattle.zsv_request.specs.zsv_message.zsv_parts.declared.header.Metadata.{Metadata}
use Rattle.zsv_reply.specs.declared.message_response.MessageResponse.{MessageResponse}

-- The response of these lists, without a signature.
abbrev pub response_with : {A N S D : Type 0} → Metadata → Bor Asked → A → N → S → D
    → Option (Bor Edns) → MessageResponse A N S D
response_with metadata queries answers authorities soa additionals edns = record {
  metadata = metadata;
  queries = queries;
  answers = answers;
  authorities = authorities;
  soa = soa;
  additionals = additionals;
  signature = None;
  edns = edns;
}

-- It was made of lists without records.
pub record BuildsEmpty (metadata : Metadata) (queries : Bor Asked) (edns : Option (Bor Edns))
    (response : MessageResponse (Once (Bor Record)) (Once (Bor Record)) (Once (Bor Record))
    (Once (Bor Record))) : Type 0 where
  pub is : response
      ≡ response_with metadata queries response.answers response.authorities response.soa
      response.additionals edns
  pub answers : once_item response.answers ≡ None
  pub authorities : once_item response.authorities ≡ None
  pub soa : once_item response.soa ≡ None
  pub additionals : once_item response.additionals ≡ None
