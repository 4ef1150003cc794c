-- What lent options leave in their record.
use Rattle.std.specs.Borrow.{Lends, MutBor, Fml}
use Rattle.drd_types.specs.contracts.OPT as opt
use Rattle.drd_types.specs.declared.OPT.{OPT}
use Rattle.zst_edns.specs.contracts.edns.Edns.{the_row}
use Rattle.zst_edns.specs.declared.edns.Edns.{Edns}

-- The record ends with the last options behind the reference.
abbrev pub LendsOptions : MutBor Edns → MutBor OPT → Fml
LendsOptions s r = Lends the_row opt.the_row s r (λ w. record s.now { options = w })
