use Rattle.std.proofs.Common.{◌≡◌, drop}
use Rattle.std.specs.Cmp.Lexicographic.{slice_cmp}
use Rattle.dnw_label.proofs.label.cmp_octets.Given as goal

abbrev pub invariant-octets : goal.invariant-octets
invariant-octets g l =
    slice_cmp g.F.LabelCmp.octet_cmp l.l l.r ≡ slice_cmp g.F.LabelCmp.octet_cmp (drop l.i l.l) (drop l.i l.r)
