use Rattle.std.proofs.Common.{[], ◌∷◌, ap, arith, length, length-append, ◌∙◌}
use Rattle.std.proofs.lemmas.Result.{err_from_is_err_and}
use Rattle.authority_transfer.proofs.Reread.{entries_push, fits_push, none_as_many}
use Rattle.authority_transfer.proofs.answers.read_records.Goals as goal

pub returns-in_err-next-clause-none : goal.returns-in_err-next-clause-none
returns-in_err-next-clause-none c =
    let p = err_from_is_err_and c.from_residual.result c.from_residual.ensures.1 in
    let none = rw c.records.invariant.same at c.in_err-next.ensures.none in
    rw (p.1, p.2) (none_as_many c.args.decoder.now.octets c.args.decoder.now.index c.args.count _ _ _ c.records.invariant.there (omega arith) none)

pub records-preserved : goal.records-preserved
records-preserved c =
    let here = rw c.records.invariant.same at c.in_ok-next.ensures.ok in
    record {
      there = rw c.in_ok-push.ensures.ok (entries_push c.args.decoder.now.octets c.args.decoder.now.index _ _ _ _ c.records.invariant.there here);
      counted = omega (arith, ap length c.in_ok-push.ensures.ok ∙ length-append c.records.records.items (c.in_ok-next.next ∷ []), c.records.invariant.counted);
      fits = rw c.in_ok-push.ensures.ok (fits_push c.records.records.items c.in_ok-next.next c.records.invariant.fits c.in_ok-next.ensures.fits);
      same = c.in_ok-next.ensures.same ∙ c.records.invariant.same;
    }
