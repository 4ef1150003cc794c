use Rattle.std.proofs.Common.{take}
use Rattle.std.specs.List.{flat_map}
use Rattle.std.specs.Fmt.{HasWritten, IsPlainFormatter}
use Rattle.drd_words.specs.Print.{hex_pair}
use Rattle.drd_words.proofs.print.fmt_hex.Given as goal

abbrev pub invariant-octets : goal.invariant-octets
invariant-octets g l =
    IsPlainFormatter l.initial.f → HasWritten g.W.Write.write_str_gives l.initial.f (flat_map hex_pair (take l.octet-index l.octets)) l.f
