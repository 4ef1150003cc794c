use Rattle.std.proofs.Common.{◌≡◌, ◌∙◌, ap, sym, List}
use Rattle.std.specs.Prelude.{Option, Some, option_copied}
use Rattle.zst_handler.specs.dnw_codes.declared.record_type.RecordType.{RecordType}
use Rattle.zst_handler.specs.dnw_name.DomainName.{DomainName}
use Rattle.zst_handler.specs.zst_record.RecordSets.{RRset}
use Rattle.zst_key.specs.Ancestors.{or_else}
use Rattle.zst_handler.specs.Found.{delegation, found, here, wildcard_answer}
use Rattle.zst_map.proofs.Owners.{delegation_from, none_here, owner_sets}
use Rattle.zst_map.proofs.zone_sets.ZoneSets.find_below.Goals as goal

pub cut_from-requires : goal.cut_from-requires
cut_from-requires c = owner_sets c.args.self.now c.args.key.now c.args.owner.now c.args.sets.now c.requires.nearest

-- What is found from the owner is what is found from the name.
pub find_unowned-requires-clause-uncut : goal.find_unowned-requires-clause-uncut
find_unowned-requires-clause-uncut c =
    sym (delegation_from c.args.self.now c.args.key.now c.args.owner.now c.args.sets.now c.requires.nearest c.args.record_type c.requires.none)
    ∙ sym c.in_ok-set.ensures ∙ ap option_copied c.in-None.is

pub find_unowned-requires-clause-own : goal.find_unowned-requires-clause-own
find_unowned-requires-clause-own c = none_here c.args.self.now c.args.key.now c.args.record_type c.requires.none

-- A cut at or above a name answers it.
cut_first : (zone : List RRset) (key : DomainName) (t : RecordType) (set : RRset) → delegation zone key t ≡ Some set → found zone key t ≡ Some set
cut_first zone key t set e = ap (λ (o : Option RRset). or_else o (or_else (here zone t key) (wildcard_answer zone key t))) e

pub returns-in-Some : goal.returns-in-Some
returns-in-Some c =
    cut_first c.args.self.now c.args.key.now c.args.record_type c.in-Some.set.now
    (sym (delegation_from c.args.self.now c.args.key.now c.args.owner.now c.args.sets.now c.requires.nearest c.args.record_type c.requires.none)
    ∙ sym c.in_ok-set.ensures ∙ ap option_copied c.in-Some.is)
    ∙ ap Some (sym (c.own.ensures c.args.key.now))
