use Rattle.std.proofs.Common.{◌≡◌, length, take}
use Rattle.authority_transfer.specs.Transfers.{TakesAll}
use Rattle.authority_transfer.proofs.loader.take_records.Given as goal

abbrev pub invariant-answers : goal.invariant-answers
invariant-answers l = record {
  count : l.index ≡ length l.yielded;
  takes : TakesAll l.fn.zone (take (length l.yielded) l.fn.records.items) l.zone;
}
