use Rattle.zst_key.proofs.SharedEnds.{ends-shared, share-flag}
use Rattle.zst_key.proofs.octets.shared_end.Goals as goal

pub returns-clause-shared : goal.returns-clause-shared
returns-clause-shared c = λ old other key others_key flags.
    let share = c.same_front.ensures in
    ends-shared c.args.octets.now c.args.others.now c.same_front.result c.last_end.result old other key others_key flags share
    (c.last_end.ensures.some (share-flag c.args.octets.now c.args.others.now c.same_front.result old other key others_key flags share)) c.last_end.ensures
