use Rattle.std.proofs.Common.{rules}
use Rattle.std.proofs.lemmas.List.Sorted.{IsPartitionPoint-from_clause}
use Rattle.zst_key.specs.Sorted.{is_up_to}
use Rattle.zst_key.proofs.SortedNames.{passed-once}
use Rattle.zst_key.proofs.sorted.count_up_to.Goals as goal

pub returns : goal.returns
returns g c =
    let es = c.args.entries.now in
    let key = c.args.key.now in
    let point = IsPartitionPoint-from_clause (λ e. is_up_to key e.0) _ _ c.partition_point.ensures.partitioned (passed-once key es c.requires) (λ a r q k. search rules) in
    record { within = c.partition_point.ensures.bound; before = point.0; after = point.1 }
