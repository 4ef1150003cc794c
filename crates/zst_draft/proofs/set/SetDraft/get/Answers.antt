use Rattle.std.proofs.Common.{◌∙◌, ◌<◌, ap, arith, length, subst}
use Rattle.std.specs.Prelude.{Option, slice_get}
use Rattle.zst_draft.specs.SetDrafts.{IsDraftOf, records_in}
use Rattle.zst_draft.specs.declared.records.RecordsDraft.{RecordsDraft}
use Rattle.zst_draft.proofs.DraftedRecords.{length_records}
use Rattle.zst_draft.proofs.Found.{there_at}
use Rattle.zst_draft.proofs.set.SetDraft.get.Goals as goal

pub get-requires-clause-at : goal.get-requires-clause-at
get-requires-clause-at c =
    let long = length_records c.args.stored.now c.in-Some.draft (subst (IsDraftOf c.args.stored.now) c.in-Some.is c.requires.draft) in
    let same = ap (λ (d : Option RecordsDraft). length (records_in c.args.stored.now d)) c.in-Some.is in
    omega (arith, c.requires.at, long, same)

pub returns-in-None : goal.returns-in-None
returns-in-None c =
    let same = ap (λ (d : Option RecordsDraft). length (records_in c.args.stored.now d)) c.in-None.is in
    let small : c.args.at < length c.args.stored.now = omega (arith, c.requires.at, same) in
    ap (λ (d : Option RecordsDraft). slice_get (records_in c.args.stored.now d) c.args.at) c.in-None.is
    ∙ there_at c.args.stored.now c.args.at c.index-stored-at.result small c.index-stored-at.is
