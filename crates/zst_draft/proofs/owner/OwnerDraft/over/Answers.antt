use Rattle.std.proofs.Common.{◌≡◌, ◌∙◌, ◌++◌, ◌+◌, ◌∷◌, [], List, ap, subst, sym, take}
use Rattle.std.proofs.lemmas.List.{take_all, take_more}
use Rattle.zst_map.specs.zst_record.RecordSets.{RRset}
use Rattle.zst_draft.specs.OwnerDrafts.{AreAsStored}
use Rattle.zst_draft.specs.declared.set.SetDraft.{SetDraft}
use Rattle.zst_draft.proofs.DraftedZones.{left_more, over_name}
use Rattle.zst_draft.proofs.owner.OwnerDraft.over.Goals as goal

pub loop-set-preserved : goal.loop-set-preserved
loop-set-preserved c =
    let own = c.sets_at-set-items.result.now in
    let i = c.loop-set.set-index in
    let set = c.set-item.result in
    let more : take i own ++ set ∷ [] ≡ take (i + 1) own =
    ap (λ (s : RRset). take i own ++ s ∷ []) c.set-item.is ∙ sym (take_more own i set c.loop-set-test.true) in
    subst (AreAsStored (take (i + 1) own)) (sym {A = List SetDraft} c.in_ok-push.ensures.ok)
    (subst (λ (l : List RRset). AreAsStored l (c.loop-set.drafts.items ++ c.stored.result ∷ [])) more
    (left_more (take i own) c.loop-set.drafts.items set c.stored.result c.loop-set.invariant (c.stored.ensures.kind ∙ c.record_type.ensures) c.stored.ensures.records))

pub returns-clause-draft : goal.returns-clause-draft
returns-clause-draft c =
    (over_name c.args.sets.now c.args.key.now c.loop-set.drafts.items c.requires.ordered c.requires.stored
    (subst (λ (l : List RRset). AreAsStored l c.loop-set.drafts.items)
    (take_all c.loop-set.set-index c.sets_at-set-items.result.now c.loop-set-test.false ∙ c.sets_at-set-items.ensures) c.loop-set.invariant)).is

pub returns-clause-alike : goal.returns-clause-alike
returns-clause-alike c =
    (over_name c.args.sets.now c.args.key.now c.loop-set.drafts.items c.requires.ordered c.requires.stored
    (subst (λ (l : List RRset). AreAsStored l c.loop-set.drafts.items)
    (take_all c.loop-set.set-index c.sets_at-set-items.result.now c.loop-set-test.false ∙ c.sets_at-set-items.ensures) c.loop-set.invariant)).alike
