use Rattle.zst_draft.proofs.Committed.{can_commit, leaves_zone}
use Rattle.zst_draft.proofs.zone.ZoneDraft.commit.Goals as goal

pub commit_owners-requires : goal.commit_owners-requires
commit_owners-requires c = can_commit c.args.zone.now c.args.self c.requires.0 c.len-count.ensures.unique c.requires.1

pub returns-clause-ok : goal.returns-clause-ok
returns-clause-ok c = λ at drafts.
    leaves_zone c.args.zone.now c.commit_owners.new.zone c.args.self at c.origin-before.ensures.ordered c.origin-after.ensures.ordered c.origin-after.ensures.stored
    c.in_ok-commit_owners.ensures.rest c.in_ok-commit_owners.ensures.ok drafts
