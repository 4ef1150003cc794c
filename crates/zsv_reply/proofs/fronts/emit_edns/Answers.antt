use Rattle.std.proofs.Common.{[], ◌∷◌, Bor, subst, sym}
use Rattle.std.specs.Iterator.Adapters.{once_steps}
use Rattle.std.specs.List.{AllByRecursion}
use Rattle.std.specs.Prelude.{Option, option_copied, option_to_list}
use Rattle.zsv_request.specs.zsv_message.zst_record.dnw_encoder.Encoders.{state}
use Rattle.zsv_request.specs.zsv_message.Messages.{OptAt}
use Rattle.zsv_request.specs.zsv_message.zst_edns.Writing.{EdnsReadsBack, EmitsEdns, RefusesEdns}
use Rattle.zsv_request.specs.zsv_message.zst_edns.declared.edns.Edns.{Edns}
use Rattle.zsv_reply.specs.Replies.{opt_plain}
use Rattle.zsv_reply.specs.Writing.{EmitsFront}
use Rattle.zsv_reply.proofs.FrontLaws.{IsSet, front_kept, front_refused}
use Rattle.zsv_reply.proofs.Lending.{once_yielded}
use Rattle.zsv_reply.proofs.OptRecords.{options_stand}
use Rattle.zsv_reply.proofs.Sections.{if_err, if_ok}
use Rattle.zsv_reply.proofs.fronts.emit_edns.Goals as goal

pub returns-in-Some-clause-ok : goal.returns-in-Some-clause-ok
returns-in-Some-clause-ok c =
    let old = state c.args.encoder.now in
    let new = state c.emit_all.new.self in
    let yields = once_yielded (λ (lender : Bor Edns). lender.now) c.once.result c.in-Some.edns c.once.ensures.item in
    if_ok c.kept_of.result (λ kept emits back. subst (λ (e : Option (Bor Edns)). EmitsFront OptAt opt_plain (option_to_list (option_copied e)) kept old new) (sym c.in-Some.is)
    (emits (c.in-Some.edns.now ∷ []) yields (subst (λ (e : Option (Bor Edns)). AllByRecursion EdnsReadsBack (option_to_list (option_copied e))) c.in-Some.is back)).0)
    (front_kept IsSet OptAt opt_plain EdnsReadsBack EmitsEdns RefusesEdns options_stand once_steps (λ (lender : Bor Edns). lender.now) _ _ (λ edns old new one. one) (λ edns old e new refused. refused) c.once.result old new c.emit_all.result (record { in_full = c.requires.in_full; small = c.requires.small }) c.emit_all.ensures.ok c.emit_all.ensures.stopped c.kept_of.result c.kept_of.ensures.ok)

pub returns-in-Some-clause-cause : goal.returns-in-Some-clause-cause
returns-in-Some-clause-cause c =
    let old = state c.args.encoder.now in
    let new = state c.emit_all.new.self in
    let yields = once_yielded (λ (lender : Bor Edns). lender.now) c.once.result c.in-Some.edns c.once.ensures.item in
    if_err c.kept_of.result (λ e memory back. memory (c.in-Some.edns.now ∷ []) yields (subst (λ (e : Option (Bor Edns)). AllByRecursion EdnsReadsBack (option_to_list (option_copied e))) c.in-Some.is back))
    (front_refused IsSet OptAt opt_plain EdnsReadsBack EmitsEdns RefusesEdns options_stand once_steps (λ (lender : Bor Edns). lender.now) _ _ (λ edns old new one. one) (λ edns old e new refused. refused) c.once.result old new c.emit_all.result (record { in_full = c.requires.in_full; small = c.requires.small }) c.emit_all.ensures.ok c.emit_all.ensures.stopped c.kept_of.result c.kept_of.ensures.cause)
