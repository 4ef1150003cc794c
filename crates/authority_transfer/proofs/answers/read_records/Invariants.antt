use Rattle.std.proofs.Common.{◌≡◌, length}
use Rattle.zsv_message.specs.zst_record.Records.{RecordAt}
use Rattle.zsv_message.specs.zsv_parts.Wire.{Entries}
use Rattle.authority_transfer.specs.Transfers.{AllNumbersFit}
use Rattle.authority_transfer.proofs.answers.read_records.Given as goal

abbrev pub invariant-records : goal.invariant-records
invariant-records l = record {
  there : Entries (RecordAt l.initial.decoder.octets) l.initial.decoder.index l.records.items l.decoder.index;
  counted : length l.records.items ≡ l.counter;
  fits : AllNumbersFit l.records.items;
  same : l.decoder.octets ≡ l.initial.decoder.octets;
}
