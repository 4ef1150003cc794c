use Rattle.std.proofs.Common.{◌≡◌, ◌∙◌, Bor, Option, Some, None, ap, refl, subst, sym}
use Rattle.std.specs.Prelude.{false, [], option_copied}
use Rattle.zst_request.specs.Handed.{transfer_records}
use Rattle.zsv_answer.specs.Responses.{parts_with}
use Rattle.zsv_reply.specs.Replies.{ReplyParts}
use Rattle.zsv_reply.specs.Writing.{SendsParts, with_edns}
use Rattle.zsv_reply.specs.zsv_message.zst_edns.declared.edns.Edns.{Edns}
use Rattle.zsv_reply.specs.zsv_message.zsv_parts.Questions.{Asked}
use Rattle.zsv_reply.specs.zsv_message.zsv_parts.declared.tsig.TsigRecord.{TsigRecord}
use Rattle.zsv_answer.proofs.Pointing.{both_ok}
use Rattle.zsv_answer.proofs.Transferred.{HoldsTransfer, Transfer, transfer_held}
use Rattle.zsv_answer.proofs.transfer.encode_transfer.Goals as goal

pub returns-in_default : goal.returns-in_default
returns-in_default c =
    let rs = transfer_records c.args.transfer.now in
    let m = c.args.metadata in
    let response = c.build-response.result in
    let made = c.build-response.ensures in
    let same : response.queries.now ≡ c.args.queries.now = ap (λ (r : Transfer). r.queries.now) made ∙ ap (λ (q : Bor Asked). q.now) c.new.ensures.queries in
    let options : option_copied response.edns ≡ option_copied c.args.edns = ap (λ (r : Transfer). option_copied r.edns) made ∙ ap option_copied c.new.ensures.edns in
    let parts : Option Edns → Option TsigRecord → ReplyParts = λ edns signature. record (with_edns edns (parts_with m false rs [] [])) { signature = signature } in
    let unsigned : None ≡ option_copied c.args.signature = sym (ap option_copied c.in_default.is) in
    let held : HoldsTransfer response (parts (option_copied response.edns) None) = transfer_held m rs response None
    (ap (λ (r : Transfer). r.metadata) made) (ap (λ (r : Transfer). r.answers) made ∙ c.iter.ensures) (rw made c.empty.ensures.item) (rw made c.empty-2.ensures.item) (rw made c.empty-3.ensures.item)
    (ap (λ (r : Transfer). option_copied r.signature) made) in
    both_ok _ _ _ c.encode.result (λ sent told fits.
    let sends : SendsParts (parts (option_copied response.edns) None) response.queries.now c.args.protocol sent.0 sent.1.items = record { within = fits; stands = λ back. told (parts (option_copied response.edns) None) held back } in
    subst (λ (s : Option TsigRecord). SendsParts (parts (option_copied c.args.edns) s) c.args.queries.now c.args.protocol sent.0 sent.1.items) unsigned
    (subst (λ (e : Option Edns). SendsParts (parts e None) c.args.queries.now c.args.protocol sent.0 sent.1.items) options
    (subst (λ (a : Asked). SendsParts (parts (option_copied response.edns) None) a c.args.protocol sent.0 sent.1.items) same sends)))
    c.encode.ensures.ok c.encode.ensures.limit

pub returns : goal.returns
returns c =
    let rs = transfer_records c.args.transfer.now in
    let m = c.args.metadata in
    let response = c.build-response.result in
    let signed = c.set_signature.new.self in
    let tsig = c.in-Some.signature.now in
    let made = c.build-response.ensures in
    let set : signed ≡ record response { signature = Some c.in-Some.signature } = c.set_signature.ensures in
    let same : signed.queries.now ≡ c.args.queries.now = ap (λ (r : Transfer). r.queries.now) set ∙ ap (λ (r : Transfer). r.queries.now) made ∙ ap (λ (q : Bor Asked). q.now) c.new.ensures.queries in
    let options : option_copied signed.edns ≡ option_copied c.args.edns = ap (λ (r : Transfer). option_copied r.edns) set ∙ ap (λ (r : Transfer). option_copied r.edns) made ∙ ap option_copied c.new.ensures.edns in
    let parts : Option Edns → Option TsigRecord → ReplyParts = λ edns signature. record (with_edns edns (parts_with m false rs [] [])) { signature = signature } in
    let is : Some tsig ≡ option_copied c.args.signature = sym (ap option_copied c.in-Some.is) in
    let held : HoldsTransfer signed (parts (option_copied signed.edns) (Some tsig)) = transfer_held m rs signed (Some tsig)
    (ap (λ (r : Transfer). r.metadata) set ∙ ap (λ (r : Transfer). r.metadata) made) (ap (λ (r : Transfer). r.answers) set ∙ ap (λ (r : Transfer). r.answers) made ∙ c.iter.ensures)
    (rw set (rw made c.empty.ensures.item)) (rw set (rw made c.empty-2.ensures.item)) (rw set (rw made c.empty-3.ensures.item))
    (ap (λ (r : Transfer). option_copied r.signature) set) in
    both_ok _ _ _ c.encode-2.result (λ sent told fits.
    let sends : SendsParts (parts (option_copied signed.edns) (Some tsig)) signed.queries.now c.args.protocol sent.0 sent.1.items = record { within = fits; stands = λ back. told (parts (option_copied signed.edns) (Some tsig)) held back } in
    subst (λ (s : Option TsigRecord). SendsParts (parts (option_copied c.args.edns) s) c.args.queries.now c.args.protocol sent.0 sent.1.items) is
    (subst (λ (e : Option Edns). SendsParts (parts e (Some tsig)) c.args.queries.now c.args.protocol sent.0 sent.1.items) options
    (subst (λ (a : Asked). SendsParts (parts (option_copied signed.edns) (Some tsig)) a c.args.protocol sent.0 sent.1.items) same sends)))
    c.encode-2.ensures.ok c.encode-2.ensures.limit
