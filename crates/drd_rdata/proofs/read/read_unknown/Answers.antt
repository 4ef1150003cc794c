use Rattle.std.proofs.Common.{inl, inr, ◌+◌, sym, subst}
use Rattle.drd_types.specs.dnw_decoder.Reading.{IsWantOfMemory}
use Rattle.drd_rdata.specs.RowsLaws.{StandsIn, kept, to_row}
use Rattle.drd_rdata.specs.declared.rdata.RData.TheVariants as rdata
use Rattle.drd_rdata.proofs.read.read_unknown.Goals as goal

pub returns-in-Err-clause-none : goal.returns-in-Err-clause-none
returns-in-Err-clause-none c = elim (rw c.in-Err.is at c.read_data.ensures.none) [
  | inl memory ↦ inl (subst IsWantOfMemory (sym (c.shown.ensures.memory memory)) memory)
  | inr none ↦ inr (λ value held.
      let message = c.args.decoder.now.octets in
      let place = c.args.decoder.now.index in
      let x : StandsIn (rdata.Unknown c.args.code) message place value (place + c.args.length) =
      rw (kept c.args.code c.requires).row at (to_row c.args.code message place value (place + c.args.length) held) in
      none x.0 (x.2.0, tt))
]
