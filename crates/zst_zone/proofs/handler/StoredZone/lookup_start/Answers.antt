use Rattle.std.proofs.Common.{sym, subst, refl, Some, Ok, true≢false}
use Rattle.std.specs.Prelude.{Option}
use Rattle.zst_circle.specs.dnw_codes.declared.record_type.RecordType.TheVariants as kind
use Rattle.zst_circle.specs.zst_codes.declared.lookup_control_flow.LookupControlFlow.TheVariants as flows
use Rattle.zst_circle.specs.zst_record.RecordSets.{RRset}
use Rattle.zst_circle.specs.zst_handler.Answers.{LookupAnswers}
use Rattle.zst_circle.specs.zst_handler.Zones.{Zone}
use Rattle.zst_zone.specs.Answering.{AnswersOne}
use Rattle.zst_zone.proofs.Matches.{found-match}
use Rattle.zst_zone.proofs.Told.{tells}
use Rattle.zst_zone.proofs.handler.StoredZone.lookup_start.Goals as goal

pub answer_alone-requires-clause-found : goal.answer_alone-requires-clause-found
answer_alone-requires-clause-found c =
    found-match c.self.inside.sets c.self.inside.origin_key c.self.inside.origin kind.SOA c.in-Found.first c.self.invariant.at (sym (rw c.in-Found.is at c.in_ok-first.ensures))

pub returns-in_ok-found-in-Found : goal.returns-in_ok-found-in-Found
returns-in_ok-found-in-Found c =
    let name = c.self.inside.origin in
    let there = found-match c.self.inside.sets c.self.inside.origin_key name kind.SOA c.in-Found.first c.self.invariant.at (sym (rw c.in-Found.is at c.in_ok-first.ensures)) in
    let told = Some c.in_ok-found-in-Found.found in
    subst (λ (zone : Zone). LookupAnswers zone zone.origin kind.SOA c.args.options (flows.Continue (Ok c.in_ok-found-in-Found.found))) c.self.view_is
    (tells _ name kind.SOA c.args.options told (flows.Continue (Ok c.in_ok-found-in-Found.found))
    (λ any. absurd (true≢false (sym any)))
    (λ one. subst (λ (o : Option RRset). AnswersOne c.args.options c.self.inside.sets name kind.SOA o told) (sym there) c.in_ok-found-in-Found.ensures)
    refl)
