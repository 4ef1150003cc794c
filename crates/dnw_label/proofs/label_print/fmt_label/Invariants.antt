use Rattle.std.proofs.Common.{take, false}
use Rattle.std.specs.List.{flat_map}
use Rattle.std.specs.Fmt.{HasWritten, IsPlainFormatter}
use Rattle.dnw_label.specs.LabelPrint.{octet_print}
use Rattle.dnw_label.proofs.label_print.fmt_label.Given as goal

abbrev pub invariant-octets : goal.invariant-octets
invariant-octets g l =
    IsPlainFormatter l.initial.f → HasWritten g.W.Write.write_str_gives l.initial.f (flat_map (octet_print false) (take l.octet-index l.rest)) l.f
