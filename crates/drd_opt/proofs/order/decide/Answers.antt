use Rattle.std.proofs.Common.{cond, Bool, Less, Greater, map, sym, ap, ◌∙◌}
use Rattle.std.specs.Ordering.{is_lt}
use Rattle.drd_opt.specs.Entries.{raw_of}
use Rattle.drd_opt.specs.Order.{raw_cmp}
use Rattle.drd_opt.specs.OrderLaws.{raw_ranks}
use Rattle.drd_opt.specs.SortedLaws.{both_decide, first_decides, second_decides, none_decides}
use Rattle.drd_opt.proofs.OrderLemmas.{any_of_map, leads, has_no_more}
use Rattle.drd_opt.proofs.order.decide.Goals as goal

pub returns-in-Some-less : goal.returns-in-Some-less
returns-in-Some-less c =
    let xs = map raw_of c.args.entries.now in
    let ys = map raw_of c.args.others.now in
    let p = raw_of c.in-Some.more.now in
    let q = raw_of c.in-Some-less.less.now in
    c.cmp_entry.ensures
    ∙ sym (both_decide raw_ranks p q xs ys (leads p xs ys (rw c.in-Some.is at c.requires.more)) (leads q ys xs (rw c.in-Some-less.is at c.requires.less)))

pub returns-in-None-less : goal.returns-in-None-less
returns-in-None-less c =
    let xs = map raw_of c.args.entries.now in
    let ys = map raw_of c.args.others.now in
    let p = raw_of c.in-Some.more.now in
    let any = any_of_map (λ y. is_lt (raw_cmp p y)) c.args.others.now ∙ sym c.is_below_any.ensures ∙ c.if-is_below_any.true in
    sym (first_decides raw_ranks p xs ys (leads p xs ys (rw c.in-Some.is at c.requires.more)) (has_no_more ys xs (rw c.in-None-less.is at c.requires.less))
    ∙ ap (λ (b : Bool). cond b Less Greater) any)

pub returns-in-None-2 : goal.returns-in-None-2
returns-in-None-2 c =
    let xs = map raw_of c.args.entries.now in
    let ys = map raw_of c.args.others.now in
    let p = raw_of c.in-Some.more.now in
    let any = any_of_map (λ y. is_lt (raw_cmp p y)) c.args.others.now ∙ sym c.is_below_any.ensures ∙ c.if-is_below_any.false in
    sym (first_decides raw_ranks p xs ys (leads p xs ys (rw c.in-Some.is at c.requires.more)) (has_no_more ys xs (rw c.in-None-2.is at c.requires.less))
    ∙ ap (λ (b : Bool). cond b Less Greater) any)

pub returns-in-Some-less-2 : goal.returns-in-Some-less-2
returns-in-Some-less-2 c =
    let xs = map raw_of c.args.entries.now in
    let ys = map raw_of c.args.others.now in
    let q = raw_of c.in-Some-less-2.less.now in
    let any = any_of_map (λ y. is_lt (raw_cmp q y)) c.args.entries.now ∙ sym c.is_below_any-in-None.ensures ∙ c.if-is_below_any-2.true in
    sym (second_decides raw_ranks q xs ys (has_no_more xs ys (rw c.in-None.is at c.requires.more)) (leads q ys xs (rw c.in-Some-less-2.is at c.requires.less))
    ∙ ap (λ (b : Bool). cond b Greater Less) any)

pub returns-in-Some-2 : goal.returns-in-Some-2
returns-in-Some-2 c =
    let xs = map raw_of c.args.entries.now in
    let ys = map raw_of c.args.others.now in
    let q = raw_of c.in-Some-less-2.less.now in
    let any = any_of_map (λ y. is_lt (raw_cmp q y)) c.args.entries.now ∙ sym c.is_below_any-in-None.ensures ∙ c.if-is_below_any-2.false in
    sym (second_decides raw_ranks q xs ys (has_no_more xs ys (rw c.in-None.is at c.requires.more)) (leads q ys xs (rw c.in-Some-less-2.is at c.requires.less))
    ∙ ap (λ (b : Bool). cond b Greater Less) any)

pub returns-in-None-less-2 : goal.returns-in-None-less-2
returns-in-None-less-2 c =
    let xs = map raw_of c.args.entries.now in
    let ys = map raw_of c.args.others.now in
    sym (none_decides raw_ranks xs ys (has_no_more xs ys (rw c.in-None.is at c.requires.more)) (has_no_more ys xs (rw c.in-None-less-2.is at c.requires.less)))
