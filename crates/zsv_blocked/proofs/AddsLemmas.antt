-- Adding, line by line.
use Rattle.std.proofs.Common.{◌≡◌, refl, sym, subst, ℕ, ◌+◌, ◌<◌, List, [], ◌∷◌, ◌++◌, length, take, get_or}
use Rattle.std.proofs.lemmas.List.{take_more}
use Rattle.dnw_name.specs.DomainName.{DomainName}
use Rattle.zsv_blocked.specs.BlockedNames.{AddsIf, AddsLines}
use Rattle.zsv_blocked.specs.ListText.{name_text_of_line}

adds_push : (names : List DomainName) (xs : List (List ℕ)) (x : List ℕ) (mid end : List DomainName) → AddsLines names xs mid → AddsIf mid (name_text_of_line x) end → AddsLines names (xs ++ x ∷ []) end
adds_push names [] x mid end before more = (end, subst (λ z. AddsIf z (name_text_of_line x) end) before more, refl)
adds_push names (y ∷ ys) x mid end before more = (before.0, before.1, adds_push before.0 ys x mid end before.2 more)

pub adds_more : (names : List DomainName) (all : List (List ℕ)) (k : ℕ) (line : List ℕ) (mid end : List DomainName) → (k < length all) × (line ≡ get_or all k line) → AddsLines names (take k all) mid → AddsIf mid (name_text_of_line line) end → AddsLines names (take (k + 1) all) end
adds_more names all k line mid end at before more =
    let e : take (k + 1) all ≡ take k all ++ get_or all k line ∷ [] = take_more all k line at.0 in
    subst (λ xs. AddsLines names xs end) (sym e) (adds_push names (take k all) (get_or all k line) mid end before (subst (λ x. AddsIf mid (name_text_of_line x) end) at.1 more))
