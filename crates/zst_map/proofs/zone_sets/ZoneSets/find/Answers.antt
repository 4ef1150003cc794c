use Rattle.zst_map.proofs.zone_sets.ZoneSets.find.Goals as goal

pub find_uncut-requires-clause-uncut : goal.find_uncut-requires-clause-uncut
find_uncut-requires-clause-uncut c = c.is_uncut.ensures c.if-is_uncut.true c.args.key.now c.args.record_type
