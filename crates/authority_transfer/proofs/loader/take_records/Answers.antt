use Rattle.std.proofs.Common.{◌∙◌, sym, ap, subst, length, take, arith, rules}
use Rattle.std.proofs.lemmas.List.{length_push}
use Rattle.std.proofs.lemmas.Result.{err_from_is_err_and}
use Rattle.std.proofs.lemmas.Iterator.Adapters.{YieldsList-from_vec}
use Rattle.std.proofs.lemmas.Iterator.Consumers.{YieldsList-turn, YieldsList-end}
use Rattle.std.proofs.Math.Seq.{take-length}
use Rattle.authority_transfer.specs.Transfers.{TakesAll}
use Rattle.authority_transfer.proofs.Splits.{refused_at}
use Rattle.authority_transfer.proofs.Taken.{takes_next}
use Rattle.authority_transfer.proofs.loader.take_records.Goals as goal

pub returns-in_err-take_record-clause-refused : goal.returns-in_err-take_record-clause-refused
returns-in_err-take_record-clause-refused c =
    let p = err_from_is_err_and c.from_residual.result c.from_residual.ensures.1 in
    let t = YieldsList-turn (YieldsList-from_vec {s = c.into_iter-next-iterator.result} c.args.records.items (search rules) (search rules)) c.answers.yielded c.answers.next-iterator c.answers.yielded_by c.next.result c.next.new.self c.in-Some.next c.in-Some.is c.next.ensures.steps in
    rw (p.1, p.2) (refused_at c.args.zone.now c.answers.zone c.args.records.items (length c.answers.yielded) c.answers.index c.in-Some.next _ t c.answers.invariant.count c.answers.invariant.takes c.in_err-take_record.ensures.refused)

pub answers-preserved : goal.answers-preserved
answers-preserved c =
    let t = YieldsList-turn (YieldsList-from_vec {s = c.into_iter-next-iterator.result} c.args.records.items (search rules) (search rules)) c.answers.yielded c.answers.next-iterator c.answers.yielded_by c.next.result c.next.new.self c.in-Some.next c.in-Some.is c.next.ensures.steps in
    let n = length_push c.answers.yielded c.in-Some.next in
    let none = ap (λ i. i) c.in_ok-take_record.ensures.ok.0 in
    record {
      count = omega (arith, c.answers.invariant.count, n);
      takes = subst (λ k. TakesAll c.args.zone.now (take k c.args.records.items) c.take_record.new.zone) (sym n)
          (takes_next c.args.zone.now c.args.records.items (length c.answers.yielded) c.answers.index c.in-Some.next c.answers.zone c.take_record.new.zone t c.answers.invariant.count c.answers.invariant.takes
          c.in_ok-take_record.ensures.ok.0 c.in_ok-take_record.ensures.ok.1);
    }

pub returns-clause-ok : goal.returns-clause-ok
returns-clause-ok c =
    let t = YieldsList-end (YieldsList-from_vec {s = c.into_iter-next-iterator.result} c.args.records.items (search rules) (search rules)) c.answers.yielded c.answers.next-iterator c.answers.yielded_by c.next.result c.next.new.self c.in-None.is c.next.ensures.steps in
    subst (λ xs. TakesAll c.args.zone.now xs c.answers.zone) (ap (λ k. take k c.args.records.items) t.1 ∙ take-length c.args.records.items) c.answers.invariant.takes
