use Rattle.std.proofs.Common.{map}
use Rattle.zst_circle.specs.zst_handler.Answers.{set_in}
use Rattle.zst_zone.specs.Answering.{target_addresses}
use Rattle.zst_zone.specs.Seen.{seen_keys}
use Rattle.zst_zone.proofs.Answered.{shows-many}
use Rattle.zst_zone.proofs.Targets.{left-last}
use Rattle.zst_zone.proofs.additional.all_addresses.Goals as goal

pub returns : goal.returns
returns c =
    let all = target_addresses c.args.sets.now c.args.records.now in
    shows-many c.args.options.dnssec_ok all c.targets.found.items _ c.many.ensures
    (left-last c.args.sets.now (seen_keys c.targets.seen) (map set_in c.targets.found.items) all c.args.records.now c.targets.next-index c.targets-test.false c.targets.invariant.1)
