use Rattle.std.proofs.Common.{◌++◌, take, codes}
use Rattle.std.specs.List.{flat_map}
use Rattle.std.specs.Fmt.{HasWritten, IsPlainFormatter}
use Rattle.drd_opt.specs.Entries.{entry_print}
use Rattle.drd_opt.proofs.opt.OPTDisplay.fmt.Given as goal

abbrev pub invariant-options : goal.invariant-options
invariant-options g l =
    IsPlainFormatter l.initial.f → HasWritten g.W.Write.write_str_gives l.initial.f (flat_map (λ next. codes " " ++ entry_print next) (take l.entry-index l.later)) l.f
