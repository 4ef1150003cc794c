use Rattle.std.proofs.lemmas.Result.{err_from_is_err_and}
use Rattle.authority_load.proofs.Causes.{text_err}
use Rattle.authority_load.proofs.text.parse_name.Goals as goal

pub returns-in_err-name : goal.returns-in_err-name
returns-in_err-name c =
    let p = err_from_is_err_and c.from_residual.result c.from_residual.ensures.1 in
    rw p.1 (text_err _ c.in_err-name.field-0.0 _ p.2 c.in_err-name.ensures.refused)
