use Rattle.std.proofs.Common.{◌≡◌, ◌∙◌, ap, subst, sym}
use Rattle.std.specs.BTreeMap.{insert_entry}
use Rattle.std.specs.Prelude.{Ok, Err, OnErr, slice_set, slice_index_or, ◌++◌, ◌∷◌, take, drop}
use Rattle.std.specs.List.Sorted.{IsStrictlySortedBy}
use Rattle.std.specs.Map.{keys_of}
use Rattle.std.proofs.lemmas.Result.{on_ok_weaker}
use Rattle.dnw_name.specs.DomainName.{DomainName, name_cmp}
use Rattle.zst_key.specs.Sorted.{IsFound}
use Rattle.zst_key.proofs.SortedNames.{either-sorted, inserted-new, inserted-sorted, replaced}
use Rattle.zst_key.proofs.sorted.NameList.insert.Goals as goal

pub returns-in-Ok-clause-ok : goal.returns-in-Ok-clause-ok
returns-in-Ok-clause-ok g c =
    let es = c.args.self.now in
    let key = c.args.key in
    let at = c.in-Ok.at in
    let d : DomainName × g.row.V.Denot = (c.args.key, c.args.value) in
    let sorted = subst (λ es. IsStrictlySortedBy name_cmp (keys_of es)) c.self.view_is c.self.invariant in
    let found : IsFound key es (Ok at) = subst (λ (k : DomainName). IsFound k es (Ok at)) c.borrow.ensures c.in-Ok.ensures in
    c.replace_at.ensures.after d
    ∙ ap (λ es. slice_set es at ((slice_index_or es at d).0, c.args.value)) c.self.view_is
    ∙ replaced key c.args.value es at d sorted found.0 found.1

pub invariant_of-self : goal.invariant_of-self
invariant_of-self g c =
    let es = c.args.self.now in
    let sorted = subst (λ es. IsStrictlySortedBy name_cmp (keys_of es)) c.self.view_is c.self.invariant in
    subst (λ es. IsStrictlySortedBy name_cmp (keys_of es)) (sym (returns-in-Ok-clause-ok g c)) (inserted-sorted c.args.key c.args.value es sorted)

pub returns-in-Err-clause-ok : goal.returns-in-Err-clause-ok
returns-in-Err-clause-ok g c =
    let es = c.args.self.now in
    let key = c.args.key in
    let at = c.in-Err.at in
    let sorted = subst (λ es. IsStrictlySortedBy name_cmp (keys_of es)) c.self.view_is c.self.invariant in
    let found : IsFound key es (Err at) = subst (λ (k : DomainName). IsFound k es (Err at)) c.borrow.ensures c.in-Err.ensures in
    on_ok_weaker c.insert_at.result
    (λ put. put ∙ ap (λ es. take at es ++ (key, c.args.value) ∷ drop at es) c.self.view_is
    ∙ inserted-new key c.args.value es at sorted found.0.before found.0.after found.0.within found.1)
    c.insert_at.ensures.ok

pub invariant_of-self-in-Err : goal.invariant_of-self-in-Err
invariant_of-self-in-Err g c =
    let es = c.args.self.now in
    let sorted = subst (λ es. IsStrictlySortedBy name_cmp (keys_of es)) c.self.view_is c.self.invariant in
    let kept : OnErr c.insert_at.result (c.insert_at.new.items.items ≡ es) = subst (λ es. OnErr c.insert_at.result (c.insert_at.new.items.items ≡ es)) c.self.view_is c.insert_at.ensures.err in
    either-sorted c.insert_at.result es c.insert_at.new.items.items (insert_entry name_cmp es c.args.key c.args.value) (returns-in-Err-clause-ok g c) kept sorted
    (inserted-sorted c.args.key c.args.value es sorted)
