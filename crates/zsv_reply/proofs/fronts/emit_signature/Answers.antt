use Rattle.std.proofs.Common.{[], ◌∷◌, Bor, subst, sym}
use Rattle.std.specs.Iterator.Adapters.{once_steps}
use Rattle.std.specs.List.{AllByRecursion}
use Rattle.std.specs.Prelude.{Option, option_copied, option_to_list}
use Rattle.zsv_request.specs.zsv_message.zst_record.dnw_encoder.Encoders.{state}
use Rattle.zsv_request.specs.zsv_message.zsv_parts.SignatureRecords.{EmitsTsigRecord, RefusesTsigRecord, TsigReadsBack, TsigRecordAt}
use Rattle.zsv_request.specs.zsv_message.zsv_parts.declared.tsig.TsigRecord.{TsigRecord}
use Rattle.zsv_reply.specs.Replies.{tsig_plain}
use Rattle.zsv_reply.specs.Writing.{EmitsFront}
use Rattle.zsv_reply.proofs.FrontLaws.{IsSet, front_kept, front_refused}
use Rattle.zsv_reply.proofs.Lending.{once_yielded}
use Rattle.zsv_reply.proofs.OptRecords.{signature_stands}
use Rattle.zsv_reply.proofs.Sections.{if_err, if_ok}
use Rattle.zsv_reply.proofs.fronts.emit_signature.Goals as goal

pub returns-in-Some-clause-ok : goal.returns-in-Some-clause-ok
returns-in-Some-clause-ok c =
    let old = state c.args.encoder.now in
    let new = state c.emit_all.new.self in
    let yields = once_yielded (λ (lender : Bor TsigRecord). lender.now) c.once.result c.in-Some.signature c.once.ensures.item in
    if_ok c.kept_of.result (λ kept emits back. subst (λ (s : Option (Bor TsigRecord)). EmitsFront TsigRecordAt tsig_plain (option_to_list (option_copied s)) kept old new) (sym c.in-Some.is)
    (emits (c.in-Some.signature.now ∷ []) yields (subst (λ (s : Option (Bor TsigRecord)). AllByRecursion TsigReadsBack (option_to_list (option_copied s))) c.in-Some.is back)).0)
    (front_kept IsSet TsigRecordAt tsig_plain TsigReadsBack EmitsTsigRecord RefusesTsigRecord signature_stands once_steps (λ (lender : Bor TsigRecord). lender.now) _ _ (λ s old new one. one) (λ s old e new refused. refused) c.once.result old new c.emit_all.result (record { in_full = c.requires.in_full; small = c.requires.small }) c.emit_all.ensures.ok c.emit_all.ensures.stopped c.kept_of.result c.kept_of.ensures.ok)

pub returns-in-Some-clause-cause : goal.returns-in-Some-clause-cause
returns-in-Some-clause-cause c =
    let old = state c.args.encoder.now in
    let new = state c.emit_all.new.self in
    let yields = once_yielded (λ (lender : Bor TsigRecord). lender.now) c.once.result c.in-Some.signature c.once.ensures.item in
    if_err c.kept_of.result (λ e memory back. memory (c.in-Some.signature.now ∷ []) yields (subst (λ (s : Option (Bor TsigRecord)). AllByRecursion TsigReadsBack (option_to_list (option_copied s))) c.in-Some.is back))
    (front_refused IsSet TsigRecordAt tsig_plain TsigReadsBack EmitsTsigRecord RefusesTsigRecord signature_stands once_steps (λ (lender : Bor TsigRecord). lender.now) _ _ (λ s old new one. one) (λ s old e new refused. refused) c.once.result old new c.emit_all.result (record { in_full = c.requires.in_full; small = c.requires.small }) c.emit_all.ensures.ok c.emit_all.ensures.stopped c.kept_of.result c.kept_of.ensures.cause)
