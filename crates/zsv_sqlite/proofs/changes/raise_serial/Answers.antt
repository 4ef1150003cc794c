use Rattle.std.proofs.Common.{◌∙◌, ap}
use Rattle.std.specs.Prelude.{not}
use Rattle.zst_map.specs.dnw_codes.declared.record_type.RecordType.TheVariants as kind
use Rattle.zst_map.specs.zst_handler.Zones.{rrset_at}
use Rattle.zsv_sqlite.proofs.Alike.{none_there, some_there}
use Rattle.zsv_sqlite.proofs.Raised.{raises, raises_none}
use Rattle.zsv_sqlite.proofs.changes.raise_serial.Goals as goal

pub returns-then-is_none : goal.returns-then-is_none
returns-then-is_none c =
    raises_none c.args.zone.now c.args.apex.now c.requires
    (none_there c.get_at.result (rrset_at c.args.zone.now.sets c.args.apex.now kind.SOA) c.get_at.ensures (c.is_none.ensures ∙ ap not c.if-is_none.true))
    c.origin-before.ensures.ordered c.origin-before.ensures.stored

pub returns : goal.returns
returns c =
    let there = some_there c.get_at.result (rrset_at c.args.zone.now.sets c.args.apex.now kind.SOA) c.get_at.ensures (c.is_none.ensures ∙ ap not c.if-is_none.false) in
    raises c.args.zone.now c.edit_at.new.self c.args.apex.now there.0 c.requires there.1 (c.edit_at.ensures there.0 there.1 tt) c.origin-before.ensures.ordered c.origin-after.ensures.stored
