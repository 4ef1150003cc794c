use Rattle.std.proofs.Common.{rules, ℕ, ◌∷◌, List, subst}
use Rattle.std.specs.Prelude.{IfErr}
use Rattle.std.proofs.lemmas.Result.{err_from_is_err_and}
use Rattle.dnw_encoder.specs.dnw_decoder.Octets.{number_16}
use Rattle.zsv_parts.specs.Signatures.{RefusesFields}
use Rattle.zsv_parts.proofs.TsigLaws.{counted_refused}
use Rattle.zsv_parts.proofs.tsig.read_counted.Goals as goal

pub returns-in_err-count-clause-err : goal.returns-in_err-count-clause-err
returns-in_err-count-clause-err c =
    let p = err_from_is_err_and c.from_residual.result c.from_residual.ensures.1 in
    rw (p.1, p.2) (λ later. c.in_err-count.ensures.err (number_16 c.args.decoder.now.octets c.args.decoder.now.index ∷ later))

pub returns-clause-err : goal.returns-clause-err
returns-clause-err c =
    counted_refused c.read_octets.result c.args.decoder.now c.in_ok-count.count c.read_number.new.decoder c.args.start c.args.len (search rules) c.in_ok-count.ensures.ok c.in_ok-count.ensures.end
    (subst (λ (n : ℕ). IfErr c.read_octets.result (λ e. (later : List ℕ) → RefusesFields c.read_number.new.decoder.octets c.args.start c.args.len c.read_number.new.decoder.index (n ∷ later) e)) c.from.ensures c.read_octets.ensures.err)
