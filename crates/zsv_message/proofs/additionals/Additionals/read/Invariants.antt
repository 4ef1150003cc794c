use Rattle.std.proofs.Common.{◌≡◌}
use Rattle.zsv_sections.specs.zsv_parts.declared.header.OpCode.{OpCode}
use Rattle.zsv_message.specs.Gathering.{Gathers}
use Rattle.zsv_message.specs.Messages.{is_update}
use Rattle.zsv_message.proofs.additionals.Additionals.read.Given as goal

abbrev pub invariant-records : goal.invariant-records
invariant-records l = record {
  gathered : (op : OpCode) → l.is_update ≡ is_update op → Gathers op l.initial.decoder.octets l.initial.decoder.index l.counter l.found l.decoder.index;
  same : l.decoder.octets ≡ l.initial.decoder.octets;
}
