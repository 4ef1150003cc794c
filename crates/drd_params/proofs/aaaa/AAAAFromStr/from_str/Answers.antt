use Rattle.drd_params.proofs.aaaa.AAAAFromStr.from_str.Goals as goal

pub returns-in-Err : goal.returns-in-Err
returns-in-Err c = λ aaaa written. c.in-Err.ensures aaaa.0 written
