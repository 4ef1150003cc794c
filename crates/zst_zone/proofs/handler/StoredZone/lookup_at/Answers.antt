use Rattle.std.proofs.Common.{◌∙◌, ap, sym, subst, refl, List, Some, None, Ok, Err, true≢false}
use Rattle.std.specs.Prelude.{Option}
use Rattle.zst_circle.specs.zst_codes.declared.lookup_control_flow.LookupControlFlow.TheVariants as flows
use Rattle.zst_circle.specs.zst_codes.declared.lookup_error.LookupError.{LookupError}
use Rattle.zst_circle.specs.zst_record.RecordSets.{RRset}
use Rattle.zst_circle.specs.zst_handler.Answers.{denial_error}
use Rattle.zst_circle.specs.zst_handler.Found.{found}
use Rattle.zst_circle.specs.zst_handler.Zones.{Zone}
use Rattle.zst_zone.specs.Answering.{AnswersOne}
use Rattle.zst_zone.proofs.LowerNames.{denial-keyed}
use Rattle.zst_zone.proofs.Matches.{found-match, found-none}
use Rattle.zst_zone.proofs.Told.{tells}
use Rattle.zst_zone.proofs.handler.StoredZone.lookup_at.Goals as goal

pub answer_from-requires : goal.answer_from-requires
answer_from-requires c =
    found-match c.self.inside.sets c.args.key.now c.args.name.now c.args.record_type c.in-Found.first c.requires (sym (rw c.in-Found.is at c.in_ok-first.ensures))

pub returns-in_ok-found-in-Found : goal.returns-in_ok-found-in-Found
returns-in_ok-found-in-Found c =
    let there = found-match c.self.inside.sets c.args.key.now c.args.name.now c.args.record_type c.in-Found.first c.requires (sym (rw c.in-Found.is at c.in_ok-first.ensures)) in
    tells c.args.self.now c.args.name.now c.args.record_type c.args.options (Some c.in_ok-found-in-Found.found) (flows.Continue (Ok c.in_ok-found-in-Found.found))
    (λ any. absurd (true≢false (sym any ∙ sym c.eq.ensures ∙ c.if-eq.false)))
    (λ one. subst (λ (ss : List RRset). AnswersOne c.args.options ss c.args.name.now c.args.record_type (found ss c.args.name.now c.args.record_type) (Some c.in_ok-found-in-Found.found)) (ap (λ (z : Zone). z.sets) c.self.view_is)
    (subst (λ (o : Option RRset). AnswersOne c.args.options c.self.inside.sets c.args.name.now c.args.record_type o (Some c.in_ok-found-in-Found.found)) (sym there) c.in_ok-found-in-Found.ensures))
    refl

pub returns-in-Absent : goal.returns-in-Absent
returns-in-Absent c =
    let none = found-none c.self.inside.sets c.args.key.now c.args.name.now c.args.record_type c.requires (sym (rw c.in-Absent.is at c.in_ok-first.ensures).0) in
    tells c.args.self.now c.args.name.now c.args.record_type c.args.options None (flows.Continue (Err c.denied.result))
    (λ any. absurd (true≢false (sym any ∙ sym c.eq.ensures ∙ c.if-eq.false)))
    (λ one. subst (λ (ss : List RRset). AnswersOne c.args.options ss c.args.name.now c.args.record_type (found ss c.args.name.now c.args.record_type) None) (ap (λ (z : Zone). z.sets) c.self.view_is)
    (subst (λ (o : Option RRset). AnswersOne c.args.options c.self.inside.sets c.args.name.now c.args.record_type o None) (sym none) refl))
    (ap (λ (e : LookupError). flows.Continue (Err e)) (c.denied.ensures ∙ ap denial_error (denial-keyed c.args.self.now c.args.key.now c.args.name.now c.requires)))
