use Rattle.std.proofs.Common.{◌≡◌, ◌++◌, true, [], ◌∷◌, List, map, take, sym, ap, ◌∙◌, arith, rules}
use Rattle.drd_opt.specs.Entries.{RawOption, raw_of}
use Rattle.drd_opt.specs.Equality.{same_raw}
use Rattle.drd_opt.specs.EqualityLaws.{raw_same}
use Rattle.drd_opt.proofs.OrderLemmas.{one_more}
use Rattle.drd_opt.proofs.order.common_front.Goals as goal

pub front-preserved : goal.front-preserved
front-preserved c =
    let es = c.args.entries.now in
    let os = c.args.others.now in
    let n = c.front.front in
    let x = c.index-entries-front.result in
    let y = c.index-others-front.result in
    let told : same_raw (raw_of x) (raw_of y) ≡ true = search rules in
    let same : raw_of x ≡ raw_of y = raw_same (raw_of x) (raw_of y) told in
    record {
      within = omega arith;
      within_others = omega arith;
      same =
          one_more es n x (omega arith) c.index-entries-front.is
          ∙ ap (λ (rs : List RawOption). rs ++ raw_of x ∷ []) c.front.invariant.same
          ∙ ap (λ (r : RawOption). map raw_of (take n os) ++ r ∷ []) same
          ∙ sym (one_more os n y (omega arith) c.index-others-front.is);
    }
