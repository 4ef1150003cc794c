use Rattle.std.proofs.Common.{refl, arith}
use Rattle.dnw_encoder.proofs.PlaceLaws.{trims}
use Rattle.dnw_encoder.proofs.encoder.BinEncoder.trim.Goals as goal

pub returns-clause-trims : goal.returns-clause-trims
returns-clause-trims c =
    trims _ _ (omega arith) c.truncate.ensures.items refl c.drop_behind.ensures c.drop_behind-2.ensures (record { maximum = refl; encoding = refl; canonical = refl; points = refl })
