use Rattle.std.proofs.Common.{◌≡◌, length}
use Rattle.zsv_sections.specs.Sections.{PlacedRecords}
use Rattle.zsv_sections.proofs.section.read_records.Given as goal

abbrev pub invariant-records : goal.invariant-records
invariant-records l = record {
  there : PlacedRecords l.at l.initial.decoder.octets l.initial.decoder.index l.records.items l.decoder.index;
  counted : length l.records.items ≡ l.counter;
  same : l.decoder.octets ≡ l.initial.decoder.octets;
}
