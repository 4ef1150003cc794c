use Rattle.zst_draft.proofs.commit.commit_owners.Goals as goal

pub returns-in-Err-clause-err : goal.returns-in-Err-clause-err
returns-in-Err-clause-err c = c.take_back.ensures c.args.zone.now (c.put_owners.ensures.back c.args.zone.now (c.new-puts.ensures c.args.zone.now c.origin-origin.ensures.ordered))
