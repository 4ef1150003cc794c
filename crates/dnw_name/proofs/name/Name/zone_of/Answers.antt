use Rattle.dnw_name.proofs.Fronts.{ancestor-first, descendants-together}
use Rattle.dnw_name.proofs.name.Name.zone_of.Goals as goal

pub returns-clause-first : goal.returns-clause-first
returns-clause-first c = ancestor-first c.args.name.now c.args.self.now

pub returns-clause-together : goal.returns-clause-together
returns-clause-together c = descendants-together c.args.name.now c.args.self.now
