use Rattle.std.proofs.Common.{◌≡◌, ◌+◌, ◌==◌, ◌&&◌, Bool, true, false, List, drop, map, sym, ap, ◌∙◌, arith}
use Rattle.std.proofs.lemmas.Bool.Decides.{nat_tests}
use Rattle.std.proofs.lemmas.List.{at_drop_more}
use Rattle.std.specs.List.{count_by, list_all}
use Rattle.drd_opt.specs.Entries.{Entry, RawOption, raw_of}
use Rattle.drd_opt.specs.Equality.{same_raw}
use Rattle.drd_opt.proofs.equality.all_as_often.Goals as goal

pub returns-then-count_of : goal.returns-then-count_of
returns-then-count_of c =
    let es = c.args.entries.now in
    let os = c.args.others.now in
    let P : RawOption → Bool = λ x. count_by (same_raw x) (map raw_of es) == count_by (same_raw x) (map raw_of os) in
    let i = c.entries.entry-index in
    let x = c.entry-item.result in
    let next = at_drop_more (λ (t : List Entry). list_all P (map raw_of t)) es i x (omega arith) in
    let here = ap (λ (y : Entry). P (raw_of y) && list_all P (map raw_of (drop (i + 1) es))) (sym c.entry-item.is) in
    let differs : P (raw_of x) ≡ false = grind (arith, nat_tests) in
    sym (c.entries.invariant ∙ next ∙ here ∙ ap (λ (b : Bool). b && list_all P (map raw_of (drop (i + 1) es))) differs)

pub entries-preserved : goal.entries-preserved
entries-preserved c =
    let es = c.args.entries.now in
    let os = c.args.others.now in
    let P : RawOption → Bool = λ x. count_by (same_raw x) (map raw_of es) == count_by (same_raw x) (map raw_of os) in
    let i = c.entries.entry-index in
    let x = c.entry-item.result in
    let next = at_drop_more (λ (t : List Entry). list_all P (map raw_of t)) es i x (omega arith) in
    let here = ap (λ (y : Entry). P (raw_of y) && list_all P (map raw_of (drop (i + 1) es))) (sym c.entry-item.is) in
    let same : P (raw_of x) ≡ true = grind (arith, nat_tests) in
    c.entries.invariant ∙ next ∙ here ∙ ap (λ (b : Bool). b && list_all P (map raw_of (drop (i + 1) es))) same
