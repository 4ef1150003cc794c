use Rattle.std.proofs.Common.{refl, arith}
use Rattle.dnw_encoder.proofs.Laws.{puts_writes}
use Rattle.dnw_encoder.proofs.encoder.BinEncoder.emit_vec.Goals as goal

pub returns-in-Ok-clause-writes : goal.returns-in-Ok-clause-writes
returns-in-Ok-clause-writes c =
    puts_writes c.args.octets.now _ _ (omega arith) (record {
      octets = c.in-Ok.ensures.ok;
      offset = refl;
      candidates = refl;
      places = refl;
      modes = record { maximum = refl; encoding = refl; canonical = refl; points = refl };
    })
