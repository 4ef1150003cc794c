use Rattle.std.proofs.Common.{◌++◌, refl, arith, length-append}
use Rattle.dnw_encoder.proofs.Laws.{puts_writes}
use Rattle.dnw_encoder.proofs.encoder.BinEncoder.write.Goals as goal

pub returns-in-Ok-clause-writes : goal.returns-in-Ok-clause-writes
returns-in-Ok-clause-writes c =
    puts_writes (c.args.front.now ++ c.args.rest.now) _ _ (omega arith) (record {
      octets = c.in-Ok.ensures.ok;
      offset = omega (arith, length-append c.args.front.now c.args.rest.now);
      candidates = refl;
      places = refl;
      modes = record { maximum = refl; encoding = refl; canonical = refl; points = refl };
    })
