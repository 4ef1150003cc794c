use Rattle.std.proofs.Common.{◌≡◌}
use Rattle.zst_request.specs.Applied.{Owned, all_applied, any_changes}
use Rattle.zst_draft.specs.ZoneDrafts.{DraftsZone, IsDraftOfZone}
use Rattle.zst_draft.proofs.zone.ZoneDraft.apply_all.Given as goal

abbrev pub invariant-loop-change : goal.invariant-loop-change
invariant-loop-change l = record {
  is : IsDraftOfZone l.zone l.self;
  changed : (at : Owned) → DraftsZone l.zone l.initial.self at → l.changed ≡ any_changes l.zone.origin at l.yielded;
  applied : (at : Owned) → DraftsZone l.zone l.initial.self at → DraftsZone l.zone l.self (all_applied l.zone.origin at l.yielded);
}
