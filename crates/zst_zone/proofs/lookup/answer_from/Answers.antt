use Rattle.std.proofs.Common.{◌∙◌, sym}
use Rattle.zst_zone.proofs.Answered.{answers-chain, answers-one}
use Rattle.zst_zone.proofs.lookup.answer_from.Goals as goal

pub returns-in-Some : goal.returns-in-Some
returns-in-Some c =
    answers-chain c.args.options c.args.sets.now c.args.name.now c.args.record_type c.args.first c.requires (sym c.is_flattened.ensures ∙ c.if-is_flattened.false)
    c.in-Some.target.now c.in-Some.ensures c.in_ok-chain.chain.items c.in_ok-chain.ensures c.many.result c.many.ensures

pub returns : goal.returns
returns c =
    answers-one c.args.options c.args.sets.now c.args.name.now c.args.record_type c.args.first c.requires (sym c.is_flattened.ensures ∙ c.if-is_flattened.false)
    c.in_default.ensures c.in_ok-answer.field-0 c.in_ok-answer.ensures c.new-answers.result c.in_ok-additionals.additionals c.new-answers.ensures c.in_ok-additionals.ensures
