use Rattle.std.proofs.Common.{List, subst, sym}
use Rattle.std.specs.Prelude.{IsSome, Some}
use Rattle.zst_handler.specs.Updates.{Replaces}
use Rattle.zst_handler.specs.zst_record.RecordSets.{RRset}
use Rattle.zst_handler.specs.Zones.{rrset_at}
use Rattle.zst_map.proofs.Indexed.{with_replaced}
use Rattle.zst_map.proofs.zone_sets.ZoneSets.replace.Goals as goal

pub replace-requires-clause-there : goal.replace-requires-clause-there
replace-requires-clause-there c = subst (λ (sets : List RRset). IsSome (rrset_at sets c.args.key.now c.args.set.record_type)) (sym c.self.view_is) c.requires.there

pub invariant_of-self : goal.invariant_of-self
invariant_of-self c =
    with_replaced c.self.inside.index c.self.inside.sets c.replace.new.self c.args.key.now c.args.set.record_type c.args.set
    (subst (λ (sets : List RRset). IsSome (rrset_at sets c.args.key.now c.args.set.record_type)) (sym c.self.view_is) c.requires.there)
    c.replace.ensures.others c.self.invariant

pub returns-clause-others : goal.returns-clause-others
returns-clause-others c = subst (λ (sets : List RRset). Replaces sets c.args.key.now c.args.set.record_type (Some c.args.set) c.replace.new.self) c.self.view_is c.replace.ensures.others
