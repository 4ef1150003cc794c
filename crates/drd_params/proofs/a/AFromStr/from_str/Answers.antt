use Rattle.drd_params.proofs.a.AFromStr.from_str.Goals as goal

pub returns-in-Err : goal.returns-in-Err
returns-in-Err c = λ a written. c.in-Err.ensures a.0 written
