use Rattle.std.proofs.Common.{take}
use Rattle.std.specs.Fmt.{HasWritten, IsPlainFormatter}
use Rattle.drd_param_keys.specs.ListTexts.{later_listed}
use Rattle.drd_param_keys.proofs.texts.fmt_later.Given as goal

abbrev pub invariant-entries : goal.invariant-entries
invariant-entries g l =
    IsPlainFormatter l.initial.f → HasWritten g.W.Write.write_str_gives l.initial.f (later_listed g.T.Entry.shown (take l.entry-index l.entries)) l.f
