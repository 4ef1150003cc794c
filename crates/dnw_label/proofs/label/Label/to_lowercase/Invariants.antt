use Rattle.std.proofs.Common.{◌≡◌, map, take}
use Rattle.std.specs.Char.{to_ascii_lowercase}
use Rattle.dnw_label.proofs.label.Label.to_lowercase.Given as goal

abbrev pub invariant-octets : goal.invariant-octets
invariant-octets l = l.lower.items ≡ map to_ascii_lowercase (take l.octet-index l.octets)
