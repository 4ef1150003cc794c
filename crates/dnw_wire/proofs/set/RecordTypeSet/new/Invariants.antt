use Rattle.std.proofs.Common.{◌≡◌, map}
use Rattle.dnw_codes.specs.RecordType.{record_type_number}
use Rattle.dnw_wire.proofs.set.RecordTypeSet.new.Given as goal

abbrev pub invariant-types : goal.invariant-types
invariant-types g l = record {
  can : (goal.iterator-types g).can_next l.record_type-iterator;
  ends : (goal.iterator-types g).is_finite l.record_type-iterator;
  codes : l.codes.items ≡ map record_type_number l.yielded;
}
