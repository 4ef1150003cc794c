use Rattle.std.proofs.Common.{◌∙◌}
use Rattle.zst_map.proofs.Searched.{own_found}
use Rattle.zst_map.proofs.map.ZoneMap.get.Goals as goal

pub returns : goal.returns
returns c = c.find_set.ensures ∙ own_found c.args.self.now c.sets_at.result.now c.args.key.now c.args.record_type c.sets_at.ensures
