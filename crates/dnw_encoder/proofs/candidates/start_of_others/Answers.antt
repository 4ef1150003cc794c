use Rattle.std.proofs.Common.{arith}
use Rattle.dnw_encoder.proofs.SuffixLaws.{splits_one}
use Rattle.dnw_encoder.proofs.candidates.start_of_others.Goals as goal

pub returns-clause-splits : goal.returns-clause-splits
returns-clause-splits c = splits_one c.args.name.now.labels c.as_octets-labels.result.now _ c.as_octets-labels.ensures.octets c.requires (omega (arith, c.from.ensures))
