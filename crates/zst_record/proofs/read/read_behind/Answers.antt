use Rattle.std.proofs.Common.{inr}
use Rattle.std.proofs.lemmas.Result.{err_from_is_err_and}
use Rattle.zst_record.proofs.ReadingLaws.{cut_behind, lacks_data, none_behind}
use Rattle.zst_record.proofs.read.read_behind.Goals as goal

pub returns-in_err-head-clause-none : goal.returns-in_err-head-clause-none
returns-in_err-head-clause-none c =
    let p = err_from_is_err_and c.from_residual.result c.from_residual.ensures.1 in
    rw (p.1, p.2) (inr (λ place r end owner found. cut_behind c.args.decoder.now.octets place c.args.decoder.now.index _ r end c.in_err-head.ensures.cut owner found))

pub returns-in_err-rdata-clause-refused : goal.returns-in_err-rdata-clause-refused
returns-in_err-rdata-clause-refused c =
    let p = err_from_is_err_and c.from_residual-in_err-rdata.result c.from_residual-in_err-rdata.ensures.1 in
    rw (p.1, p.2) (lacks_data c.args.decoder.now.octets c.read_head.new.decoder.octets c.args.decoder.now.index c.read_head.new.decoder.index c.new.result c.in_ok-head.head _
    c.in_ok-head.ensures.same c.in_ok-head.ensures.end c.new.ensures c.in_ok-head.ensures.ok c.in_err-rdata.ensures.refused)

pub returns-in_err-rdata-clause-none : goal.returns-in_err-rdata-clause-none
returns-in_err-rdata-clause-none c =
    let p = err_from_is_err_and c.from_residual-in_err-rdata.result c.from_residual-in_err-rdata.ensures.1 in
    rw (p.1, p.2) (none_behind c.args.decoder.now.octets c.read_head.new.decoder.octets c.args.decoder.now.index c.read_head.new.decoder.index c.new.result c.in_ok-head.head _
    c.in_ok-head.ensures.same c.in_ok-head.ensures.end c.new.ensures c.in_ok-head.ensures.ok c.in_err-rdata.ensures.none)
