use Rattle.std.proofs.Common.{nat_le, rules}
use Rattle.dnw_encoder.proofs.KeptLaws.{retained}
use Rattle.dnw_encoder.proofs.open_places.drop_behind.Goals as goal

pub returns : goal.returns
returns c = retained _ (λ r. nat_le r.to c.args.offset) _ (λ x b f y h. (search rules, search rules, search rules)) _ _ c.retain.ensures.filtered
