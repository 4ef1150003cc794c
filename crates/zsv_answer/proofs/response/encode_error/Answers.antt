use Rattle.std.proofs.Common.{rules, sym, subst, None}
use Rattle.std.specs.Prelude.{IfOk}
use Rattle.zsv_reply.specs.Writing.{IsEncoded, bare_parts}
use Rattle.zsv_reply.specs.zsv_message.zsv_parts.declared.header.Metadata.{Metadata}
use Rattle.zsv_reply.specs.zsv_request.Requests.{limit_of}
use Rattle.zsv_answer.proofs.response.encode_error.Goals as goal

pub returns : goal.returns
returns c =
    let told = c.encode_bare.ensures.ok c.args.queries.now (search rules) (sym c.as_bytes.ensures) in
    subst (λ (m : Metadata). IfOk c.encode_bare.result (λ sent. IsEncoded sent.0 sent.1.items (bare_parts m) c.args.queries.now (limit_of c.args.protocol None))) c.reply_header-header.ensures told
