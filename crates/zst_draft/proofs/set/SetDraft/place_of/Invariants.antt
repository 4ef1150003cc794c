use Rattle.std.proofs.Common.{◌≡◌, ◌+◌, drop}
use Rattle.std.specs.List.{position_or_len}
use Rattle.zst_map.specs.drd_rdata.Order.{rdata_eq}
use Rattle.zst_draft.specs.SetDrafts.{records_in}
use Rattle.zst_draft.proofs.set.SetDraft.place_of.Given as goal

abbrev pub invariant-loop-at : goal.invariant-loop-at
invariant-loop-at l =
    position_or_len (λ s. rdata_eq s.rdata l.rdata) (records_in l.stored l.self.records)
    ≡ l.at + position_or_len (λ s. rdata_eq s.rdata l.rdata) (drop l.at (records_in l.stored l.self.records))
