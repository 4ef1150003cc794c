use Rattle.std.proofs.Common.{◌+◌, ℕ, inl, inr, sym, subst}
use Rattle.drd_opt.specs.Reading.{EntriesAt}
use Rattle.drd_opt.proofs.opt.OPTRecordDataDecodable.read_data.Goals as goal

pub returns-in-Err-clause-none : goal.returns-in-Err-clause-none
returns-in-Err-clause-none c = elim (rw c.in-Err.is at c.read_entries.ensures.none) [
  | inl memory ↦ inl memory
  | inr none ↦ inr (λ value there. none value.options.items (subst (λ (n : ℕ). EntriesAt c.args.decoder.now.octets c.args.decoder.now.index value.options.items (c.args.decoder.now.index + n)) (sym c.unverified.ensures) there))
]
