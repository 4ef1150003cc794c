use Rattle.std.proofs.Common.{◌≡◌, ◌+◌, ℕ, List, Option, Some, None, drop, length, map, refl, subst, sym}
use Rattle.std.proofs.lemmas.Option.{slice_get_read}
use Rattle.std.specs.Prelude.{IsSomeAnd, slice_get}
use Rattle.zst_request.specs.Handling.{Flow}
use Rattle.zst_request.specs.Views.{View}
use Rattle.zsv_answer.specs.Resolution.{enforced_by}
use Rattle.zsv_answer.proofs.Answering.{Ahead, ahead_goes, ahead_passes, views_more}
use Rattle.zsv_answer.proofs.consult.consulted.Goals.{then-at-place+in_ok-last, else-at-place}
use Rattle.zsv_answer.proofs.consult.consulted.Goals as goal

pub handlers-preserved : goal.handlers-preserved
handlers-preserved g c =
    let view = g.H.ZoneHandler.view in
    let handlers = c.args.handlers.now in
    let name = c.args.request.now.name.now in
    let t = c.args.request.now.query_type in
    let all = map view handlers in
    let rest = map view (drop (c.handlers.at + 1) handlers) in
    let handler = c.index-handlers-at.result in
    let ahead = subst (λ (chain : List View). Ahead all chain name t c.args.answer c.handlers.last) (views_more view handlers c.handlers.at handler c.handlers-test.true c.index-handlers-at.is) c.handlers.invariant in
    elim c.if-at-place.branch [
      | then-at-place+in_ok-last w ↦ subst (λ (flow : Flow). Ahead all rest name t c.args.answer flow) (sym w.last-is) (ahead_goes all rest (view handler) name t c.args.answer c.handlers.last _ ahead w.in_ok-last.ensures)
      | else-at-place w ↦
          let placed = slice_get_read handlers (length handlers) c.handlers.at handler refl c.handlers-test.true c.index-handlers-at.is in
          let at_place = subst (λ (place : ℕ). slice_get handlers place ≡ Some handler) w.if-at-place.false placed in
          let none = subst (λ (o : Option _). IsSomeAnd o (λ h. enforced_by (view h) name t ≡ None)) at_place c.requires in
          subst (λ (flow : Flow). Ahead all rest name t c.args.answer flow) (sym w.last-is) (ahead_passes all rest (view handler) name t c.args.answer c.handlers.last ahead none)
    ]
