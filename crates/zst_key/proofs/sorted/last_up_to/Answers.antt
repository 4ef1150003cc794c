use Rattle.std.proofs.Common.{subst, sym}
use Rattle.zst_key.specs.Ancestors.{IsLastUpTo}
use Rattle.zst_key.specs.Sorted.{entry_at}
use Rattle.zst_key.proofs.SortedNames.{last-before}
use Rattle.zst_key.proofs.sorted.last_up_to.Goals as goal

pub returns : goal.returns
returns g c =
    let es = c.args.entries.now in
    let key = c.args.key.now in
    let counts = c.count_up_to-count.ensures in
    subst (λ found. IsLastUpTo (entry_at es) key found) (sym c.last.ensures.value)
    (last-before key es c.count_up_to-count.result c.requires counts.before counts.after counts.within)
