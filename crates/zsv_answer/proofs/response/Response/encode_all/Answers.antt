use Rattle.std.proofs.Common.{◌≡◌, ◌∙◌, ◌≤◌, Bor, List, [], Option, length, refl, sym, ap, subst}
use Rattle.std.specs.Prelude.{option_copied, if◌then◌else◌}
use Rattle.zst_request.specs.zst_handler.Answers.{answers_in, records_in}
use Rattle.zsv_reply.proofs.Lending.{lent_yielded}
use Rattle.zsv_reply.specs.Writing.{IsEncoded, with_edns}
use Rattle.zsv_reply.specs.zst_record.declared.records.Record.{Record}
use Rattle.zsv_reply.specs.zsv_message.zsv_parts.Questions.{Asked}
use Rattle.zsv_reply.specs.zsv_request.Requests.{limit_of}
use Rattle.zsv_reply.specs.zsv_message.zst_edns.declared.edns.Edns.{Edns}
use Rattle.zsv_answer.proofs.Pointing.{both_ok}
use Rattle.zsv_answer.proofs.Shapes.{authority_parts}
use Rattle.zsv_answer.specs.Responses.{parts_of}
use Rattle.zsv_answer.specs.Shown.{shown_if}
use Rattle.zsv_answer.proofs.response.Response.encode_all.Goals as goal

pub returns : goal.returns
returns c =
    let response = c.args.self.now in
    let parts = with_edns (option_copied c.args.edns) (parts_of response) in
    let above = if response.is_referral then shown_if response.asked (answers_in response.found) else records_in response.denial in
    let behind = records_in response.beside in
    let same : c.build.result.queries.now ≡ c.args.queries.now = ap (λ r. r.queries.now) c.build.ensures ∙ ap (λ (q : Bor Asked). q.now) c.new.ensures.queries in
    let options : option_copied c.build.result.edns ≡ option_copied c.args.edns = ap (λ r. option_copied r.edns) c.build.ensures ∙ ap option_copied c.new.ensures.edns in
    both_ok _ _ _ c.encode.result (λ sent told fits. record {
      within = subst (λ (e : Option Edns). length sent.1.items ≤ limit_of c.args.protocol e) options fits;
      stands = λ back. subst (λ (asked : Asked). IsEncoded sent.0 sent.1.items parts asked (limit_of c.args.protocol (option_copied c.args.edns))) same
          (told parts (rw c.build.ensures (record {
            above = above;
            behind = behind;
            metadata = refl;
            answers = lent_yielded (λ (rs : List Record). rs) c.answers.result parts.answers c.answers.ensures;
            authorities = lent_yielded (λ (rs : List Record). rs) c.authorities.result above c.authorities.ensures;
            soa = lent_yielded (λ (rs : List Record). rs) c.iter.result behind c.iter.ensures;
            section = authority_parts response.is_referral (shown_if response.asked (answers_in response.found)) (records_in response.denial) behind;
            additionals = lent_yielded (λ (rs : List Record). rs) c.additionals.result parts.additionals c.additionals.ensures;
            edns = sym (ap option_copied c.new.ensures.edns);
            signature = refl;
          })) back);
    }) c.encode.ensures.ok c.encode.ensures.limit
