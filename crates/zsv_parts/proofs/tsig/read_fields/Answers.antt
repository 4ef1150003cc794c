use Rattle.std.proofs.lemmas.Result.{err_from_is_err_and}
use Rattle.zsv_parts.specs.Signatures.{mac_size, code_sizes}
use Rattle.zsv_parts.proofs.TsigLaws.{codes_refused}
use Rattle.std.proofs.Common.{◌+◌}
use Rattle.zsv_parts.proofs.tsig.read_fields.Goals as goal

pub returns-in_err-times-clause-err : goal.returns-in_err-times-clause-err
returns-in_err-times-clause-err c =
    let p = err_from_is_err_and c.from_residual.result c.from_residual.ensures.1 in
    let old = c.args.decoder.now in
    rw (p.1, p.2) (c.in_err-times.ensures.err (code_sizes old.octets (old.index + (10 + mac_size old.octets old.index))))

pub returns-in_err-codes-clause-err : goal.returns-in_err-codes-clause-err
returns-in_err-codes-clause-err c =
    let p = err_from_is_err_and c.from_residual-in_err-codes.result c.from_residual-in_err-codes.ensures.1 in
    let t = c.in_ok-times.times in
    rw (p.1, p.2) (codes_refused c.args.decoder.now t.time t.fudge t.mac.now c.read_times.new.decoder c.args.start c.args.len c.in_err-codes.field-0.0 c.in_ok-times.ensures.fits c.in_ok-times.ensures.ok c.in_ok-times.ensures.end c.in_err-codes.ensures.err)
