use Rattle.std.proofs.Common.{◌≡◌, ◌∙◌, ap, subst, sym}
use Rattle.std.specs.Prelude.{Some, slice_set, slice_index_or}
use Rattle.std.specs.List.Sorted.{IsStrictlySortedBy}
use Rattle.std.specs.Map.{keys_of, set_value}
use Rattle.std.specs.Ordering.{is_eq}
use Rattle.dnw_name.specs.DomainName.{DomainName, name_cmp}
use Rattle.zst_key.proofs.SortedNames.{found, kept-unput, put, put-sorted}
use Rattle.zst_key.proofs.sorted.NameList.replace.Goals as goal

pub returns-in-Ok-clause-after : goal.returns-in-Ok-clause-after
returns-in-Ok-clause-after g c =
    let es = c.args.self.now in
    let at = c.in-Ok.at in
    let d : DomainName × g.row.V.Denot = (c.args.key.now, c.args.value) in
    let sorted = subst (λ es. IsStrictlySortedBy name_cmp (keys_of es)) c.self.view_is c.self.invariant in
    c.replace_at.ensures.after d
    ∙ ap (λ es. slice_set es at ((slice_index_or es at d).0, c.args.value)) c.self.view_is
    ∙ put c.args.key.now c.args.value es at d sorted c.in-Ok.ensures.0 c.in-Ok.ensures.1

pub returns-in-Ok-clause-value : goal.returns-in-Ok-clause-value
returns-in-Ok-clause-value g c =
    let es = c.args.self.now in
    let d : DomainName × g.row.V.Denot = (c.args.key.now, c.args.value) in
    let sorted = subst (λ es. IsStrictlySortedBy name_cmp (keys_of es)) c.self.view_is c.self.invariant in
    ap (λ x. Some x) (c.replace_at.ensures.value d ∙ ap (λ es. (slice_index_or es c.in-Ok.at d).1) c.self.view_is)
    ∙ sym (found c.args.key.now es c.in-Ok.at d sorted c.in-Ok.ensures.0 c.in-Ok.ensures.1)

pub invariant_of-self : goal.invariant_of-self
invariant_of-self g c =
    let es = c.args.self.now in
    let sorted = subst (λ es. IsStrictlySortedBy name_cmp (keys_of es)) c.self.view_is c.self.invariant in
    subst (λ es. IsStrictlySortedBy name_cmp (keys_of es)) (sym (returns-in-Ok-clause-after g c))
    (put-sorted (λ other. is_eq (name_cmp c.args.key.now other)) c.args.value es sorted)

pub returns-in-Err-clause-after : goal.returns-in-Err-clause-after
returns-in-Err-clause-after g c = sym (kept-unput c.args.key.now c.args.value c.args.self.now c.in-Err.ensures.1)
