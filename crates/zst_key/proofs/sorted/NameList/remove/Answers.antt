use Rattle.std.proofs.Common.{◌≡◌, ◌∙◌, ap, subst, sym}
use Rattle.std.specs.Prelude.{Some, slice_index_or, ◌++◌, take, drop, suc}
use Rattle.std.specs.List.Sorted.{IsStrictlySortedBy}
use Rattle.std.specs.Map.{keys_of, remove_entry}
use Rattle.std.specs.Ordering.{is_eq}
use Rattle.dnw_name.specs.DomainName.{name_cmp}
use Rattle.zst_key.proofs.SortedNames.{found, kept-without, removed, removed-sorted}
use Rattle.zst_key.proofs.sorted.NameList.remove.Goals as goal

pub returns-in-Ok-clause-after : goal.returns-in-Ok-clause-after
returns-in-Ok-clause-after g c =
    let es = c.args.self.now in
    let sorted = subst (λ es. IsStrictlySortedBy name_cmp (keys_of es)) c.self.view_is c.self.invariant in
    c.remove.ensures.items ∙ ap (λ es. take c.in-Ok.at es ++ drop (suc c.in-Ok.at) es) c.self.view_is
    ∙ removed c.args.key.now es c.in-Ok.at sorted c.in-Ok.ensures.0 c.in-Ok.ensures.1

pub returns-in-Ok-clause-value : goal.returns-in-Ok-clause-value
returns-in-Ok-clause-value g c =
    let es = c.args.self.now in
    let sorted = subst (λ es. IsStrictlySortedBy name_cmp (keys_of es)) c.self.view_is c.self.invariant in
    ap (λ x. Some x) (c.value_of.ensures ∙ ap (λ e. e.1) (c.remove.ensures.value ∙ ap (λ es. slice_index_or es c.in-Ok.at c.remove.result) c.self.view_is))
    ∙ sym (found c.args.key.now es c.in-Ok.at c.remove.result sorted c.in-Ok.ensures.0 c.in-Ok.ensures.1)

pub invariant_of-self : goal.invariant_of-self
invariant_of-self g c =
    let es = c.args.self.now in
    let sorted = subst (λ es. IsStrictlySortedBy name_cmp (keys_of es)) c.self.view_is c.self.invariant in
    let after : c.remove.new.self.items ≡ remove_entry (λ other. is_eq (name_cmp c.args.key.now other)) es = c.remove.ensures.items ∙ ap (λ es. take c.in-Ok.at es ++ drop (suc c.in-Ok.at) es) c.self.view_is
    ∙ removed c.args.key.now es c.in-Ok.at sorted c.in-Ok.ensures.0 c.in-Ok.ensures.1 in
    subst (λ es. IsStrictlySortedBy name_cmp (keys_of es)) (sym after) (removed-sorted (λ other. is_eq (name_cmp c.args.key.now other)) es sorted)

pub returns-in-Err-clause-after : goal.returns-in-Err-clause-after
returns-in-Err-clause-after g c = sym (kept-without c.args.key.now c.args.self.now c.in-Err.ensures.1)
