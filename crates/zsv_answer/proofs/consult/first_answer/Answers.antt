use Rattle.std.proofs.Common.{◌∙◌, ◌+◌, sym, ap, refl, length, drop, map, List}
use Rattle.std.proofs.lemmas.Option.{slice_get_read}
use Rattle.zst_request.specs.Views.{View}
use Rattle.zsv_answer.specs.Resolution.{answering}
use Rattle.zsv_answer.proofs.Answering.{answers, first_answers, no_skip, views_more}
use Rattle.zsv_answer.proofs.consult.first_answer.Goals as goal

pub returns-in_default : goal.returns-in_default
returns-in_default g c =
    let view = g.H.ZoneHandler.view in
    let handlers = c.args.handlers.now in
    let request = c.args.request.now in
    let name = request.name.now in
    let handler = c.index-handlers-place.result in
    let asks = c.in_ok-flow.ensures in
    let told = no_skip c.in_ok-flow.flow c.in_default.not-Skip in
    let more = views_more view handlers c.handlers.place handler c.handlers-test.true c.index-handlers-place.is in
    let first = first_answers (map view (drop (c.handlers.place + 1) handlers)) name (view handler) (answers (view handler) name request.query_type c.args.options c.in_ok-flow.flow told asks) in (
      slice_get_read handlers (length handlers) c.handlers.place handler refl c.handlers-test.true c.index-handlers-place.is,
      sym c.handlers.invariant ∙ ap (λ (chain : List View). answering chain name) more ∙ first,
      asks,
      c.in_default.not-Skip,
    )
