use Rattle.std.proofs.Common.{◌≡◌, ◌∙◌, ap, sym, subst, refl, List, Some, None, Ok, Err, true≢false}
use Rattle.zst_circle.specs.zst_codes.declared.lookup_control_flow.LookupControlFlow.TheVariants as flows
use Rattle.zst_circle.specs.zst_codes.declared.lookup_error.LookupError.{LookupError}
use Rattle.zst_circle.specs.zst_record.RecordSets.{RRset}
use Rattle.zst_circle.specs.zst_handler.Answers.{denial_error}
use Rattle.zst_circle.specs.zst_handler.Lookups.{sets_of_name}
use Rattle.zst_circle.specs.zst_handler.Zones.{Zone}
use Rattle.zst_zone.specs.Answering.{AnswersAll}
use Rattle.zst_zone.proofs.LowerNames.{denial-keyed, sets-keyed}
use Rattle.zst_zone.proofs.Told.{tells}
use Rattle.zst_zone.proofs.handler.StoredZone.lookup_any.Goals as goal

pub returns-in-Some : goal.returns-in-Some
returns-in-Some c =
    let named : c.sets_at.result.now ≡ sets_of_name c.args.self.now.sets c.args.name.now
    = c.sets_at.ensures ∙ sets-keyed c.self.inside.sets c.args.key.now c.args.name.now c.requires.key
    ∙ ap (λ (z : Zone). sets_of_name z.sets c.args.name.now) c.self.view_is in
    tells c.args.self.now c.args.name.now c.args.record_type c.args.options (Some c.in-Some.found) (flows.Continue (Ok c.in-Some.found))
    (λ any. subst (λ (ss : List RRset). AnswersAll c.args.options ss (Some c.in-Some.found)) named (rw c.in-Some.is at c.in_ok-found.ensures))
    (λ one. absurd (true≢false (sym c.requires.any ∙ one)))
    refl

pub returns-in_ok-denial-in-None : goal.returns-in_ok-denial-in-None
returns-in_ok-denial-in-None c =
    let named : c.sets_at.result.now ≡ sets_of_name c.args.self.now.sets c.args.name.now
    = c.sets_at.ensures ∙ sets-keyed c.self.inside.sets c.args.key.now c.args.name.now c.requires.key
    ∙ ap (λ (z : Zone). sets_of_name z.sets c.args.name.now) c.self.view_is in
    tells c.args.self.now c.args.name.now c.args.record_type c.args.options None (flows.Continue (Err c.in_ok-denial-in-None.field-0))
    (λ any. subst (λ (ss : List RRset). AnswersAll c.args.options ss None) named (rw c.in-None.is at c.in_ok-found.ensures))
    (λ one. absurd (true≢false (sym c.requires.any ∙ one)))
    (ap (λ (e : LookupError). flows.Continue (Err e)) (c.in_ok-denial-in-None.ensures ∙ ap denial_error (denial-keyed c.args.self.now c.args.key.now c.args.name.now c.requires.key)))
