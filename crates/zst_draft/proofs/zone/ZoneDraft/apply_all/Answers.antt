use Rattle.std.proofs.Common.{◌∙◌, ap, refl, subst, sym}
use Rattle.std.specs.Prelude.{Bool, List, ◌||◌}
use Rattle.zst_map.specs.zst_record.declared.records.Record.{Record}
use Rattle.zst_request.specs.Applied.{Owned, all_applied, any_changes, applied}
use Rattle.zst_draft.specs.ZoneDrafts.{DraftsZone}
use Rattle.zst_draft.proofs.DraftedZones.{applied_more, changes_more, moved_zone}
use Rattle.zst_draft.proofs.Loops.{all_yielded}
use Rattle.zst_draft.proofs.zone.ZoneDraft.apply_all.Goals as goal

pub loop-change-init : goal.loop-change-init
loop-change-init c =
    record {
      is = (c.requires.0, moved_zone c.args.zone.now c.args.self.now (record { owners = c.reserve.new.self }) c.requires.0 c.reserve.ensures.entries c.requires.1);
      changed = λ at drafts. refl;
      applied = λ at drafts. drafts;
    }

pub loop-change-preserved : goal.loop-change-preserved
loop-change-preserved c =
    let origin = c.args.zone.now.origin in
    let rs = c.loop-change.yielded in
    let r = c.in-Some.change in
    let is = c.loop-change.invariant.is in
    record {
      is = (applied origin is.0 r, c.in_ok-more.ensures.applied is.0 is.1);
      changed = λ at drafts.
          c.either-changed.ensures
          ∙ ap (λ (b : Bool). b || c.in_ok-more.more) (c.loop-change.invariant.changed at drafts)
          ∙ ap (λ (b : Bool). any_changes origin at rs || b) (c.in_ok-more.ensures.changed (all_applied origin at rs) (c.loop-change.invariant.applied at drafts))
          ∙ sym (changes_more origin at rs r);
      applied = λ at drafts.
          subst (λ (after : Owned). DraftsZone c.args.zone.now c.apply.new.self after) (sym (applied_more origin at rs r))
          (c.in_ok-more.ensures.applied (all_applied origin at rs) (c.loop-change.invariant.applied at drafts));
    }

pub returns-clause-changed : goal.returns-clause-changed
returns-clause-changed c = λ at drafts.
    let all = all_yielded c.into_iter-change-iterator.result c.loop-change.change-iterator c.next.new.self c.loop-change.yielded c.args.records.items c.next.result
    c.into_iter-change-iterator.ensures.into_iter_gives.0 (c.into_iter-change-iterator.ensures.into_iter_gives.1 ∙ c.args.records.ok.0) c.loop-change.yielded_by c.in-None.is c.next.ensures.steps in
    c.loop-change.invariant.changed at (moved_zone c.args.zone.now c.args.self.now (record { owners = c.reserve.new.self }) at c.reserve.ensures.entries drafts)
    ∙ ap (any_changes c.args.zone.now.origin at) all

pub returns-clause-applied : goal.returns-clause-applied
returns-clause-applied c = λ at drafts.
    let all = all_yielded c.into_iter-change-iterator.result c.loop-change.change-iterator c.next.new.self c.loop-change.yielded c.args.records.items c.next.result
    c.into_iter-change-iterator.ensures.into_iter_gives.0 (c.into_iter-change-iterator.ensures.into_iter_gives.1 ∙ c.args.records.ok.0) c.loop-change.yielded_by c.in-None.is c.next.ensures.steps in
    subst (λ (rs : List Record). DraftsZone c.args.zone.now c.loop-change.self (all_applied c.args.zone.now.origin at rs)) all
    (c.loop-change.invariant.applied at (moved_zone c.args.zone.now c.args.self.now (record { owners = c.reserve.new.self }) at c.reserve.ensures.entries drafts))
