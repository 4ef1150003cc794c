use Rattle.std.specs.Prelude.{option_copied}
use Rattle.zst_map.proofs.Preceded.{found_after, found_before}
use Rattle.zst_map.proofs.denials.preceding.Goals as goal

pub returns-in-Some : goal.returns-in-Some
returns-in-Some c =
    found_before c.args.sets.now c.args.record_type c.args.names.now c.range.ensures.ordered c.args.key.now c.requires c.range.result c.in-Some.set.now (c.range.ensures.between tt)
    c.in-Some.ensures

pub returns-in-None : goal.returns-in-None
returns-in-None c =
    found_after c.args.sets.now c.args.record_type c.args.names.now c.range.ensures.ordered c.args.key.now c.requires c.range.result c.range-in-None.result (option_copied c.last_owned-in-None.result)
    (c.range.ensures.between tt) (c.range-in-None.ensures.between tt) c.in-None.ensures c.last_owned-in-None.ensures
