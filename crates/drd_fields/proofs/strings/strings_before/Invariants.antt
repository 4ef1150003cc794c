use Rattle.std.proofs.Common.{◌≡◌, ◌≤◌, ◌-◌, map}
use Rattle.drd_fields.specs.Fields.{StringsAt}
use Rattle.drd_fields.proofs.strings.strings_before.Given as goal

abbrev pub invariant-strings : goal.invariant-strings
invariant-strings l = record {
  read : StringsAt l.initial.decoder.octets l.initial.decoder.index (map (λ s. s.items) l.strings.items) l.decoder.index;
  same : l.decoder.octets ≡ l.initial.decoder.octets;
  below : l.decoder.index ≤ l.end;
}

abbrev pub decreases-strings : goal.decreases-strings
decreases-strings l = l.end - l.decoder.index
