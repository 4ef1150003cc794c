use Rattle.std.proofs.lemmas.Result.{err_from_is_err_and}
use Rattle.dnw_decoder.proofs.SpellingLaws.{pointers_few}
use Rattle.dnw_decoder.proofs.Refused.{refuses_none}
use Rattle.dnw_decoder.proofs.decoder.BinDecoder.read_name.Goals as goal

pub returns-in_err-name-clause-none : goal.returns-in_err-name-clause-none
returns-in_err-name-clause-none c =
    let p = err_from_is_err_and c.from_residual.result c.from_residual.ensures.1 in
    rw (← c.self.view_is, p.1, p.2) (refuses_none c.self.inside.octets.now c.self.inside.index _ c.in_err-name.ensures.refused)

pub returns-clause-pointers : goal.returns-clause-pointers
returns-clause-pointers c = λ spelled. pointers_few _ _ _ _ _ _ spelled
