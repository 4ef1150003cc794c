use Rattle.std.proofs.Common.{arith, inl, inr}
use Rattle.drd_csync.proofs.Reading.{maps_refused, no_types}
use Rattle.drd_csync.proofs.read.read_maps.Goals as goal

pub returns-in-Err-clause-refused : goal.returns-in-Err-clause-refused
returns-in-Err-clause-refused c =
    maps_refused c.args.decoder.now c.read_data.new.decoder _ c.args.end c.in-Err.refused (omega (arith, c.requires, c.if-end-index.false, c.index-index.ensures.value))
    c.in-Err.ensures.cause c.in-Err.ensures.none

pub returns-in-Err-clause-none : goal.returns-in-Err-clause-none
returns-in-Err-clause-none c = elim c.in-Err.ensures.none [
  | inl memory ↦ inl memory
  | inr none ↦ inr (no_types c.args.decoder.now.octets c.args.decoder.now.index _ c.args.end (omega (arith, c.requires, c.if-end-index.false, c.index-index.ensures.value)) none)
]
