use Rattle.std.proofs.Common.{refl, ◌∙◌, arith}
use Rattle.std.proofs.lemmas.Result.{err_from_is_err_and}
use Rattle.zsv_message.proofs.Gathered.{gathers_none, starts_additionals}
use Rattle.zsv_message.proofs.additionals.Additionals.read.Goals as goal

pub records-init : goal.records-init
records-init c = record {
  gathered = λ op is. gathers_none op c.args.decoder.now.octets c.args.decoder.now.index c.new-found.result (c.new-found.ensures.next ∙ starts_additionals c.args.is_update op is)
      c.new-found.ensures.records c.new-found.ensures.edns c.new-found.ensures.signature;
  same = refl;
}

pub returns-in_err-read_next-clause-refused : goal.returns-in_err-read_next-clause-refused
returns-in_err-read_next-clause-refused c = λ op is.
    let p = err_from_is_err_and c.from_residual.result c.from_residual.ensures.1 in
    let same = c.records.invariant.same in
    let refused = rw same at c.in_err-read_next.ensures.refused in
    rw (p.1, p.2) (refused op c.args.decoder.now.index c.records.counter c.args.count (omega arith) (c.records.invariant.gathered op is))

pub returns-in_err-read_next-clause-none : goal.returns-in_err-read_next-clause-none
returns-in_err-read_next-clause-none c = λ op is.
    let p = err_from_is_err_and c.from_residual.result c.from_residual.ensures.1 in
    let same = c.records.invariant.same in
    let none = rw same at c.in_err-read_next.ensures.none in
    rw (p.1, p.2) (none op c.args.decoder.now.index c.records.counter c.args.count (omega arith) (c.records.invariant.gathered op is))

pub records-preserved : goal.records-preserved
records-preserved c =
    let same = c.records.invariant.same in
    let more = rw same at c.in_ok-read_next.ensures.ok in
    record {
      gathered = λ op is. more op c.args.decoder.now.index c.records.counter (c.records.invariant.gathered op is);
      same = c.in_ok-read_next.ensures.same ∙ same;
    }
