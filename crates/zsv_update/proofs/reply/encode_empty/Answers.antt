use Rattle.std.proofs.Common.{◌≡◌, ◌∙◌, Bor, Option, Some, None, ap, subst, sym}
use Rattle.std.specs.Prelude.{option_copied}
use Rattle.zsv_reply.specs.Writing.{SendsParts}
use Rattle.zsv_reply.specs.zsv_message.zst_edns.declared.edns.Edns.{Edns}
use Rattle.zsv_reply.specs.zsv_message.zsv_parts.Questions.{Asked}
use Rattle.zsv_reply.specs.zsv_message.zsv_parts.declared.tsig.TsigRecord.{TsigRecord}
use Rattle.zsv_update.proofs.Signed.{Empties, HoldsEmpty, both_ok, signed_held, signed_parts, unsigned_held}
use Rattle.zsv_update.proofs.reply.encode_empty.Goals as goal

pub returns-in_default : goal.returns-in_default
returns-in_default c =
    let response = c.build_no_records-response.result in
    let made = c.build_no_records-response.ensures in
    let m = c.args.metadata in
    let same : response.queries.now ≡ c.args.queries.now = ap (λ (r : Empties). r.queries.now) made.is ∙ ap (λ (q : Bor Asked). q.now) c.new.ensures.queries in
    let options : option_copied response.edns ≡ option_copied c.args.edns = ap (λ (r : Empties). option_copied r.edns) made.is ∙ ap option_copied c.new.ensures.edns in
    let parts = signed_parts m (option_copied response.edns) None in
    let held : HoldsEmpty response parts =
    subst (λ (e : Option Edns). HoldsEmpty response (signed_parts m e None)) (sym (ap (λ (r : Empties). option_copied r.edns) made.is))
    (unsigned_held m c.new.result.queries c.new.result.edns response made) in
    let unsigned : None ≡ option_copied c.args.signature = sym (ap option_copied c.in_default.is) in
    both_ok _ _ _ c.encode.result (λ sent told fits.
    let sends : SendsParts parts response.queries.now c.args.protocol sent.0 sent.1.items = record { within = fits; stands = λ back. told parts held back } in
    subst (λ (s : Option TsigRecord). SendsParts (signed_parts m (option_copied c.args.edns) s) c.args.queries.now c.args.protocol sent.0 sent.1.items) unsigned
    (subst (λ (e : Option Edns). SendsParts (signed_parts m e None) c.args.queries.now c.args.protocol sent.0 sent.1.items) options
    (subst (λ (a : Asked). SendsParts parts a c.args.protocol sent.0 sent.1.items) same sends)))
    c.encode.ensures.ok c.encode.ensures.limit

pub returns : goal.returns
returns c =
    let response = c.build_no_records-response.result in
    let signed = c.set_signature.new.self in
    let tsig = c.in-Some.signature.now in
    let made = c.build_no_records-response.ensures in
    let m = c.args.metadata in
    let set : signed ≡ record response { signature = Some c.in-Some.signature } = c.set_signature.ensures in
    let same : signed.queries.now ≡ c.args.queries.now = ap (λ (r : Empties). r.queries.now) set ∙ ap (λ (r : Empties). r.queries.now) made.is ∙ ap (λ (q : Bor Asked). q.now) c.new.ensures.queries in
    let kept : option_copied signed.edns ≡ option_copied c.new.result.edns = ap (λ (r : Empties). option_copied r.edns) set ∙ ap (λ (r : Empties). option_copied r.edns) made.is in
    let options : option_copied signed.edns ≡ option_copied c.args.edns = kept ∙ ap option_copied c.new.ensures.edns in
    let parts = signed_parts m (option_copied signed.edns) (Some tsig) in
    let held : HoldsEmpty signed parts =
    subst (λ (e : Option Edns). HoldsEmpty signed (signed_parts m e (Some tsig))) (sym kept)
    (signed_held m c.new.result.queries c.new.result.edns response signed c.in-Some.signature made set) in
    let is : Some tsig ≡ option_copied c.args.signature = sym (ap option_copied c.in-Some.is) in
    both_ok _ _ _ c.encode-2.result (λ sent told fits.
    let sends : SendsParts parts signed.queries.now c.args.protocol sent.0 sent.1.items = record { within = fits; stands = λ back. told parts held back } in
    subst (λ (s : Option TsigRecord). SendsParts (signed_parts m (option_copied c.args.edns) s) c.args.queries.now c.args.protocol sent.0 sent.1.items) is
    (subst (λ (e : Option Edns). SendsParts (signed_parts m e (Some tsig)) c.args.queries.now c.args.protocol sent.0 sent.1.items) options
    (subst (λ (a : Asked). SendsParts parts a c.args.protocol sent.0 sent.1.items) same sends)))
    c.encode-2.ensures.ok c.encode-2.ensures.limit
