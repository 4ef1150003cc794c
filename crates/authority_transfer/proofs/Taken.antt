-- What taking records leaves.
use Rattle.std.proofs.Common.{◌≡◌, ◌∙◌, refl, sym, ap, subst, ℕ, ◌+◌, ◌<◌, zero, suc, length, take, get_or, arith}
use Rattle.std.proofs.lemmas.List.{take_more}
use Rattle.std.specs.Prelude.{List, [], ◌∷◌, ◌++◌, Option, None}
use Rattle.zsv_message.specs.zst_record.declared.records.Record.{Record}
use Rattle.zsv_message.specs.zst_record.RecordSets.{RRset}
use Rattle.authority_load.specs.zst_zone.zst_handler.Zones.{AreInOrder, Zone, rrset_at}
use Rattle.authority_load.specs.Joining.{Joins, joined}
use Rattle.authority_transfer.specs.Transfers.{TakesAll, TakesFrom, record_fault}
use Rattle.authority_transfer.proofs.Keys.{Key, record_of, records_of, set_of_key}
use Rattle.authority_transfer.proofs.Roads.{Runs}

-- What a zone stores under a name and a type.
abbrev pub stored_in : Zone → Key → Option RRset
stored_in zone key = rrset_at zone.sets key.0 key.1

abbrev pub RunsTo : (Key → Option RRset) → List Record → (Key → Option RRset) → Type 0
RunsTo old rs new = Runs {R = Record} {S = RRset} {Q = Key} record_of set_of_key joined records_of old rs new

pub takes_run : (index : ℕ) (zone : Zone) (rs : List Record) (end : Zone) → TakesFrom index zone rs end → RunsTo (stored_in zone) rs (stored_in end)
takes_run index zone [] end same = λ key. ap (λ (z : Zone). stored_in z key) same
takes_run index zone (r ∷ rs) end (none, next, joins, later) =
    (stored_in next, (λ key. joins.joins key.0 key.1), takes_run (index + 1) next rs end later)

pub takes_rest : (index : ℕ) (zone : Zone) (rs : List Record) (end : Zone) → TakesFrom index zone rs end → end ≡ record zone { sets = end.sets }
takes_rest index zone [] end same = subst (λ z. end ≡ record z { sets = end.sets }) same refl
takes_rest index zone (r ∷ rs) end (none, next, joins, later) =
    takes_rest (index + 1) next rs end later ∙ ap (λ (z : Zone). record z { sets = end.sets }) joins.rest

pub takes_ordered : (index : ℕ) (zone : Zone) (rs : List Record) (end : Zone) → TakesFrom index zone rs end → AreInOrder zone.sets → AreInOrder end.sets
takes_ordered index zone [] end same order = subst (λ z. AreInOrder z.sets) (sym same) order
takes_ordered index zone (r ∷ rs) end (none, next, joins, later) order = takes_ordered (index + 1) next rs end later joins.ordered

-- One more after those that were taken.
pub takes_more : (index : ℕ) (zone : Zone) (front : List Record) (r : Record) (mid end : Zone) → TakesFrom index zone front mid → record_fault mid (index + length front) r ≡ None → Joins mid r end
    → TakesFrom index zone (front ++ r ∷ []) end
takes_more index zone [] r mid end same none joins =
    let at : index + 0 ≡ index = omega arith in (
      subst (λ z. record_fault z index r ≡ None) same (subst (λ n. record_fault mid n r ≡ None) at none),
      end,
      subst (λ z. Joins z r end) same joins,
      refl,
    )
takes_more index zone (f ∷ fs) r mid end (first, next, joined_first, later) none joins =
    let at : index + length (f ∷ fs) ≡ (index + 1) + length fs = omega arith in
    (first, next, joined_first, takes_more (index + 1) next fs r mid end later (subst (λ n. record_fault mid n r ≡ None) at none) joins)

take_count : (rs : List Record) (k : ℕ) → k < length rs → length (take k rs) ≡ k
take_count [] k h = absurd (omega (arith, h))
take_count (r ∷ rs) zero h = refl
take_count (r ∷ rs) (suc k) h = let c = take_count rs k (omega (arith, h)) in omega (arith, c)

-- The next one of a list.
pub takes_next : (old : Zone) (rs : List Record) (k index : ℕ) (x : Record) (mid end : Zone) → (k < length rs) × (x ≡ get_or rs k x) → index ≡ k → TakesAll old (take k rs) mid → record_fault mid index x ≡ None → Joins mid x end
    → TakesAll old (take (k + 1) rs) end
takes_next old rs k index x mid end at same takes none joins =
    let e : take (k + 1) rs ≡ take k rs ++ get_or rs k x ∷ [] = take_more rs k x at.0 in
    let count : length (take k rs) ≡ k = take_count rs k at.0 in
    let none_at : record_fault mid (0 + length (take k rs)) x ≡ None = ap (λ (n : ℕ). record_fault mid n x) (omega (arith, count, same)) ∙ none in
    subst (λ (xs : List Record). TakesAll old xs end) (sym e) (takes_more 0 old (take k rs) (get_or rs k x) mid end takes (subst (λ (y : Record). record_fault mid (0 + length (take k rs)) y ≡ None) at.1 none_at) (subst (λ (y : Record). Joins mid y end) at.1 joins))
