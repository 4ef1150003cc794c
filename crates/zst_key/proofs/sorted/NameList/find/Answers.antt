use Rattle.std.proofs.Common.{◌≡◌, ◌∙◌, ◌-◌, ◌<◌, false, ap, subst, sym, arith}
use Rattle.std.specs.Prelude.{slice_index_or}
use Rattle.std.specs.List.Sorted.{IsStrictlySortedBy}
use Rattle.std.specs.Map.{keys_of}
use Rattle.std.specs.Ordering.{is_eq}
use Rattle.dnw_name.specs.DomainName.{name_cmp}
use Rattle.zst_key.specs.Sorted.{CountsUpTo}
use Rattle.zst_key.proofs.SortedNames.{index-any, none-found}
use Rattle.zst_key.proofs.sorted.NameList.find.Goals as goal
use Rattle.zst_key.proofs.sorted.NameList.find.Goals.{else-count-gt0-via-then-count-gt0+else-is_eq, else-count-gt0-via-else-count-gt0}

pub returns : goal.returns
returns g c =
    let es = c.args.self.now in
    let key = c.args.key.now in
    let count = c.count_up_to-count.result in
    let sorted = subst (λ es. IsStrictlySortedBy name_cmp (keys_of es)) c.self.view_is c.self.invariant in
    let counts = subst (λ es. CountsUpTo key es count) (c.deref.ensures.value ∙ c.self.view_is) c.count_up_to-count.ensures in
    let apart : 0 < count → (d : _) → is_eq (name_cmp (slice_index_or es (count - 1) d).0 key) ≡ false = elim c.else-count-gt0.branch [
      | else-count-gt0-via-then-count-gt0+else-is_eq w ↦ λ some d.
          let last = w.index.result.now in
          let same : slice_index_or es (count - 1) d ≡ last =
          index-any es (count - 1) d last (omega (arith, counts.within, some)) ∙ sym (w.index.ensures ∙ ap (λ es. slice_index_or es (count - 1) last) c.self.view_is) in
          ap (λ e. is_eq (name_cmp e.0 key)) same ∙ ap is_eq (sym w.order_of.ensures) ∙ sym w.if-is_eq.ensures
      | else-count-gt0-via-else-count-gt0 w ↦ λ some d. absurd (omega (arith, some, w.if-count-gt0.false))
    ] in
    (counts, none-found key es count sorted counts apart)
