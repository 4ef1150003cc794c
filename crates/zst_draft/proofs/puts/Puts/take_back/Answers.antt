use Rattle.std.proofs.Common.{◌≡◌, ◌∙◌, ◌∷◌, ◌++◌, [], List, ap, reverse, subst, sym}
use Rattle.std.proofs.lemmas.List.{reverse-append}
use Rattle.zst_map.specs.dnw_codes.declared.record_type.RecordType.{RecordType}
use Rattle.zst_map.specs.dnw_name.DomainName.{DomainName}
use Rattle.zst_draft.specs.Settling.{Returns}
use Rattle.zst_draft.proofs.Backing.{empty}
use Rattle.zst_draft.proofs.puts.Puts.take_back.Goals as goal

pub sets-preserved : goal.sets-preserved
sets-preserved c = λ start from.
    let entry : DomainName × RecordType = (c.in-Some.key, c.in-Some.record_type) in
    let left = c.pop.new.self.items in
    let items : c.sets.left.items ≡ left ++ entry ∷ [] = c.in-Some.ensures.items in
    let back : reverse c.sets.left.items ≡ entry ∷ reverse left = ap reverse items ∙ reverse-append left (entry ∷ []) in
    let returns = subst (λ (l : List (DomainName × RecordType)). Returns start l c.sets.zone) back (c.sets.invariant start from) in
    record { ordered = c.remove_at.ensures.set.ordered; back = returns.back c.remove_at.new.self c.remove_at.ensures.set }

pub returns : goal.returns
returns c = λ start from.
    let none : c.sets.left.items ≡ [] = empty c.sets.left.items (sym c.sets.left.ok.0 ∙ c.in_default.ensures.cases.0) in
    (subst (λ (l : List (DomainName × RecordType)). Returns start (reverse l) c.sets.zone) none (c.sets.invariant start from)).back
