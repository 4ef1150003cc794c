use Rattle.std.proofs.Common.{take}
use Rattle.std.specs.Fmt.{HasWritten, IsPlainFormatter}
use Rattle.drd_svcb.specs.Print.{params_print}
use Rattle.drd_svcb.proofs.svcb.fmt_params.Given as goal

abbrev pub invariant-params : goal.invariant-params
invariant-params g l =
    IsPlainFormatter l.initial.f → HasWritten g.W.Write.write_str_gives l.initial.f (params_print (take l.param-index l.params)) l.f
