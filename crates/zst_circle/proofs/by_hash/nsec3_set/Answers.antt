use Rattle.zst_circle.specs.Nsec3Circle.{hashing_of}
use Rattle.zst_circle.proofs.NsecHashed.{nsec3_in}
use Rattle.zst_circle.proofs.NsecHashedTypes.{listed_in}
use Rattle.std.proofs.Common.{◌∙◌}
use Rattle.zst_circle.proofs.by_hash.nsec3_set.Goals as goal

pub returns : goal.returns
returns c =
    let by = c.args.by in
    let it = c.index-hashed-place.result in
    nsec3_in (hashing_of by) by.opt_out c.args.sets.now c.args.key.now c.args.origin.now c.args.hashed.now c.args.ttl c.args.place it c.next_on.result.now c.in_ok-types.types c.in_ok-octets.octets.items
    c.in_ok-owner.owner c.set_with.result c.requires.sorted c.requires.place c.index-hashed-place.is c.next_on.ensures
    (λ zone at t. c.in_ok-types.ensures t ∙ listed_in c.args.sets.now c.args.key.now zone at it.key c.is_delegation-delegated.result (c.is_delegation-delegated.ensures zone at) c.sets_at.result.now c.sets_at.ensures t)
    c.in_ok-octets.ensures c.in_ok-owner.ensures c.set_with.ensures
