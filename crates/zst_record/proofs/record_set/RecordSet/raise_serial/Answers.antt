use Rattle.std.proofs.Common.{subst, sym}
use Rattle.std.specs.Prelude.{List, []}
use Rattle.zst_record.specs.OneOrMany.{items_of}
use Rattle.zst_record.specs.RecordSets.{IsHeld}
use Rattle.zst_record.specs.declared.records.Record.{Record}
use Rattle.zst_record.proofs.RaisedRecords.{held_raised}
use Rattle.zst_record.proofs.record_set.RecordSet.raise_serial.Goals as goal

pub invariant_of-self : goal.invariant_of-self
invariant_of-self c =
    let set = c.self.inside in
    subst (λ (ss : List Record). IsHeld set.record_type set.is_empty (items_of c.raise_first.new.records) ss) (sym c.clear.ensures.items)
    (subst (λ (rs : List Record). IsHeld set.record_type set.is_empty rs []) (sym c.raise_first.ensures) (held_raised set.record_type set.is_empty (items_of set.records) set.rrsigs.items c.self.invariant))
