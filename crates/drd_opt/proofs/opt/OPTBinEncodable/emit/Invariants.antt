use Rattle.std.proofs.Common.{◌≡◌, List, ◌++◌, length}
use Rattle.drd_fields.specs.dnw_encoder.Encoders.{state}
use Rattle.drd_fields.specs.dnw_encoder.Effects.{Writes, WritesOctets}
use Rattle.drd_fields.specs.Writing.{EndsWithin}
use Rattle.drd_opt.specs.Entries.{Entry, entries_octets, AreCountable}
use Rattle.drd_opt.proofs.opt.OPTBinEncodable.emit.Given as goal

abbrev pub invariant-options : goal.invariant-options
invariant-options l = record {
  same : l.encoder.buffer.ghost_name ≡ l.initial.encoder.buffer.ghost_name;
  writes : Writes (state l.initial.encoder) (state l.encoder);
  within : EndsWithin (state l.initial.encoder) (state l.encoder);
  front : (front : List Entry) × (l.initial.left ≡ front ++ l.left) × WritesOctets (entries_octets front) (state l.initial.encoder) (state l.encoder) × AreCountable front;
}

abbrev pub decreases-options : goal.decreases-options
decreases-options l = length l.left
