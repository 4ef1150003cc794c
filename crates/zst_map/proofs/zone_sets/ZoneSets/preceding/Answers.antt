use Rattle.std.proofs.Common.{List, subst}
use Rattle.std.specs.Prelude.{option_copied}
use Rattle.zst_handler.specs.zst_record.RecordSets.{RRset}
use Rattle.zst_map.specs.Preceding.{FindsPreceding}
use Rattle.zst_map.proofs.zone_sets.ZoneSets.preceding.Goals as goal

pub preceding-requires : goal.preceding-requires
preceding-requires c = λ name some. c.self.invariant.denials name c.args.record_type c.requires some

pub returns : goal.returns
returns c = subst (λ (sets : List RRset). FindsPreceding sets c.args.record_type c.args.key.now (option_copied c.preceding.result)) c.self.view_is c.preceding.ensures
