use Rattle.std.proofs.Common.{◌≡◌, true, false, List, Bor, map, take, option_map, sym, ap, subst, ◌∙◌, arith}
use Rattle.std.proofs.lemmas.List.{take_all}
use Rattle.drd_opt.specs.Entries.{Entry, raw_of}
use Rattle.drd_opt.specs.Order.{is_below, IsMore, IsLeastMore}
use Rattle.drd_opt.proofs.OrderLemmas.{grown, lower_leads, higher_stays, other_stays}
use Rattle.drd_opt.proofs.order.least_more.Goals as goal
use Rattle.drd_opt.proofs.order.least_more.Goals.{then-is_lower+then-count_of, else-is_lower, else-is_lower-via-then-is_lower+else-count_of, else-is_lower-via-else-is_lower}

pub among-preserved : goal.among-preserved
among-preserved c =
    let es = c.args.among.now in
    let i = c.among.entry-index in
    let x = c.entry-item.result in
    let xs = map raw_of c.args.entries.now in
    let ys = map raw_of c.args.others.now in
    let done = map raw_of (take i es) in
    let f : Bor Entry → _ = λ least. raw_of least.now in
    let o = option_map f c.among.least in
    elim c.if-is_lower.branch [
      | then-is_lower+then-count_of w ↦
          let more : IsMore xs ys (raw_of x) = omega (arith, w.if-count_of.true, w.count_of.ensures, w.count_of-then-is_lower.ensures) in
          let lower : is_below (raw_of x) o ≡ true = sym c.is_lower.ensures ∙ w.if-is_lower.true in
          grown es i x xs ys _ _ c.among-test.true c.entry-item.is (lower_leads done xs ys (raw_of x) o lower more c.among.invariant) (ap (option_map f) w.least-is)
      | else-is_lower w ↦ elim w.else-is_lower.branch [
        | else-is_lower-via-then-is_lower+else-count_of v ↦
            let none : IsMore xs ys (raw_of x) → ⊥ = λ more. omega (arith, more, v.if-count_of.false, v.count_of.ensures, v.count_of-then-is_lower.ensures) in
            grown es i x xs ys o _ c.among-test.true c.entry-item.is (other_stays done xs ys (raw_of x) o none c.among.invariant) (ap (option_map f) w.least-is)
        | else-is_lower-via-else-is_lower v ↦
            let higher : is_below (raw_of x) o ≡ false = sym c.is_lower.ensures ∙ v.if-is_lower.false in
            grown es i x xs ys o _ c.among-test.true c.entry-item.is (higher_stays done xs ys (raw_of x) o higher c.among.invariant) (ap (option_map f) w.least-is)
      ]
    ]

pub returns : goal.returns
returns c =
    let es = c.args.among.now in
    subst (λ (l : List Entry). IsLeastMore (map raw_of l) (map raw_of c.args.entries.now) (map raw_of c.args.others.now) (option_map (λ least. raw_of least.now) c.among.least))
    (take_all c.among.entry-index es c.among-test.false) c.among.invariant
