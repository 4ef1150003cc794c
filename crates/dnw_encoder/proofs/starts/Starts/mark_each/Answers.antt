use Rattle.std.proofs.Common.{inl, inr, ◌+◌, ◌<◌, ◌-◌, get_or, slice_range, subst, arith}
use Rattle.dnw_encoder.specs.Starts.{IsMarked}
use Rattle.dnw_encoder.specs.declared.candidates.Entry.{Entry}
use Rattle.dnw_encoder.proofs.CandidateLaws.{blank, in_get, in_more}
use Rattle.dnw_encoder.proofs.starts.Starts.mark_each.Goals as goal

pub mark_entry-requires : goal.mark_entry-requires
mark_entry-requires c = c.requires _ (in_get c.args.entries.now c.entries.entry-index blank (omega arith))

pub entries-preserved : goal.entries-preserved
entries-preserved c = (
  λ e member some. elim (in_more c.args.entries.now c.entries.entry-index blank e c.entries-test.true member) [
    | inl before ↦ c.mark_entry.ensures.others _ (c.entries.invariant.0 e before some)
    | inr same ↦ subst (λ (x : Entry). x.from + 8 < x.to → IsMarked c.mark_entry.new.self.marks (slice_range c.args.octets.now x.from (x.to - 1))) same c.mark_entry.ensures.marked some
  ],
  λ place marked. c.mark_entry.ensures.others place (c.entries.invariant.1 place marked),
)
