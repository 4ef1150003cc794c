use Rattle.std.proofs.Common.{rules}
use Rattle.dnw_encoder.specs.State.{is_other}
use Rattle.dnw_encoder.proofs.KeptLaws.{retained}
use Rattle.dnw_encoder.proofs.open_places.shut.Goals as goal

pub returns : goal.returns
returns c = retained _ (is_other c.args.from c.args.to) _ (λ x b f y h. (search rules, search rules, search rules)) _ _ c.retain.ensures.filtered
