use Rattle.std.proofs.Common.{subst, None}
use Rattle.std.specs.Prelude.{IfOk}
use Rattle.zsv_reply.specs.Writing.{IsEncoded, bare_parts}
use Rattle.zsv_reply.specs.zsv_message.zsv_parts.declared.header.Metadata.{Metadata}
use Rattle.zsv_reply.specs.zsv_request.Requests.{limit_of}
use Rattle.zsv_answer.proofs.response.encode_refusal.Goals as goal

pub returns : goal.returns
returns c = λ asked one are.
    subst (λ (m : Metadata). IfOk c.encode_bare.result (λ sent. IsEncoded sent.0 sent.1.items (bare_parts m) asked (limit_of c.args.protocol None))) c.reply_header-header.ensures (c.encode_bare.ensures.ok asked one are)
