use Rattle.std.proofs.Common.{◌≡◌, ◌++◌, ◌∙◌, ap, sym, subst, rules}
use Rattle.zsv_request.specs.zsv_message.zsv_parts.declared.header.Header.{Header}
use Rattle.zsv_request.specs.zsv_message.zsv_parts.zst_codes.ResponseCode.{joined_code, low_bits}
use Rattle.zsv_request.specs.zsv_message.zsv_parts.zst_codes.declared.response_code.ResponseCode.{ResponseCode}
use Rattle.zsv_request.specs.zsv_message.zsv_parts.Headers.{header_of, header_octets}
use Rattle.zsv_reply.proofs.HeaderLaws.{reply_header_back}
use Rattle.zsv_reply.proofs.header.header_over.Goals as goal

pub returns-clause-back : goal.returns-clause-back
returns-clause-back c fits rest =
    let m = c.args.metadata in
    let with_code : ResponseCode → Header = λ code. record {
      metadata = record m { truncation = c.is_truncated.result; response_code = code };
      counts = record { queries = c.args.queries; answers = c.args.answers.count; authorities = c.args.authorities.count; additionals = c.args.additionals.count };
    } in
    let code : c.from-metadata.result ≡ joined_code 0 (low_bits m.response_code) = c.from-metadata.ensures.value ∙ ap (joined_code 0) c.low.ensures in
    subst (λ (code : ResponseCode). header_of (header_octets (with_code code) ++ rest) ≡ with_code code) (sym code)
    (reply_header_back m c.is_truncated.result c.args.queries c.args.answers.count c.args.authorities.count c.args.additionals.count rest fits (search rules) (search rules) (search rules) (search rules) (search rules))
