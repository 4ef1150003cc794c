use Rattle.std.proofs.Common.{◌≡◌, length, take}
use Rattle.std.specs.Str.Lines.{lines}
use Rattle.authority_load.specs.ZoneText.{Loads}
use Rattle.authority_load.proofs.loader.load_lines.Given as goal

abbrev pub invariant-loop-line : goal.invariant-loop-line
invariant-loop-line l = record {
  count : l.number ≡ length l.yielded;
  loads : Loads l.fn.zone (take (length l.yielded) (lines l.text)) l.zone;
}
