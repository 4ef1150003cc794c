use Rattle.std.proofs.Common.{◌∙◌, ap, List}
use Rattle.zst_handler.specs.dnw_codes.declared.record_type.RecordType.TheVariants as kind
use Rattle.zst_handler.specs.zst_record.RecordSets.{RRset}
use Rattle.zst_handler.specs.Zones.{rrset_at}
use Rattle.zst_map.proofs.Searched.{own_found}
use Rattle.zst_map.proofs.zone_sets.ZoneSets.addresses.Goals as goal

pub returns-clause-first : goal.returns-clause-first
returns-clause-first c =
    c.find_set.ensures ∙ own_found c.self.inside.sets c.sets_at-sets.result.now c.args.key.now kind.A c.sets_at-sets.ensures
    ∙ ap (λ (sets : List RRset). rrset_at sets c.args.key.now kind.A) c.self.view_is

pub returns-clause-second : goal.returns-clause-second
returns-clause-second c =
    c.find_set-2.ensures ∙ own_found c.self.inside.sets c.sets_at-sets.result.now c.args.key.now kind.AAAA c.sets_at-sets.ensures
    ∙ ap (λ (sets : List RRset). rrset_at sets c.args.key.now kind.AAAA) c.self.view_is
