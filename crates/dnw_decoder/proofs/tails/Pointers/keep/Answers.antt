use Rattle.dnw_decoder.proofs.tails.Pointers.keep.Goals as goal

pub keep-requires-clause-tails : goal.keep-requires-clause-tails
keep-requires-clause-tails c = rw c.deref_mut.ensures.value (rw c.in-Some.is at c.begin.ensures)
