use Rattle.std.proofs.Common.{inl, inr, ap, arith}
use Rattle.dnw_encoder.specs.declared.candidates.Entry.{Entry}
use Rattle.dnw_encoder.proofs.CandidateLaws.{blank, in_more, in_all}
use Rattle.dnw_encoder.proofs.candidates.last_octet.Goals as goal
use Rattle.dnw_encoder.proofs.candidates.last_octet.Goals.{then-entry-last, else-entry-last}

pub entries-preserved : goal.entries-preserved
entries-preserved c e found =
    elim (in_more c.args.entries.now c.entries.entry-index blank e (omega arith) found) [
      | inl before ↦ elim c.if-entry-last.branch [
        | then-entry-last w ↦ omega (arith, c.entries.invariant e before, w.if-entry-last, w.last-is)
        | else-entry-last w ↦ omega (arith, c.entries.invariant e before, w.if-entry-last, w.last-is)
      ]
      | inr same ↦ elim c.if-entry-last.branch [
        | then-entry-last w ↦ omega (arith, ap (λ (x : Entry). x.to) same, w.if-entry-last, w.last-is)
        | else-entry-last w ↦ omega (arith, ap (λ (x : Entry). x.to) same, w.if-entry-last, w.last-is)
      ]
    ]

pub returns : goal.returns
returns c e found = c.entries.invariant e (in_all c.args.entries.now c.entries.entry-index e (omega arith) found)
