-- What a lent list of entries leaves in its record.
use Rattle.std.proofs.Common.{[], ◌∷◌, Vec, Global}
use Rattle.std.specs.Borrow.{Lends, MutBor, Fml, RattleType}
use denote.Struct.Tuple.{Tuple}
use Rattle.std.specs.contracts.alloc.Global as global
use Rattle.std.specs.contracts.vec.Vec as vec
use Rattle.std.specs.contracts.impls.GlobalAllocator.TheImpl.{ghosts}
use Rattle.drd_opt.specs.contracts.code.EdnsCode as code
use Rattle.drd_opt.specs.contracts.option.EdnsOption as option
use Rattle.drd_opt.specs.Entries.{Entry}
use Rattle.drd_opt.specs.contracts.opt.OPT.{the_row}
use Rattle.drd_opt.specs.declared.opt.OPT.{OPT}

-- A list of entries, as the logic holds it.
abbrev pub entries_row : RattleType
entries_row = vec.the_row (Tuple (code.the_row ∷ option.the_row ∷ [])) global.the_row ghosts

-- The record ends with the last list behind the reference.
abbrev pub LendsOptions : MutBor OPT → MutBor (Vec Entry Global) → Fml
LendsOptions s r = Lends the_row entries_row s r (λ w. record { options = w })
