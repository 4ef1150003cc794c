use Rattle.std.proofs.Common.{ap, length, arith}
use Rattle.dnw_encoder.proofs.NameLaws.{length-octets}
use Rattle.dnw_encoder.proofs.name.NameBinEncodable.emit.Goals as goal

pub emit_name-requires : goal.emit_name-requires
emit_name-requires c = omega (arith, c.in_ok-check_size.ensures.fits, ap length c.as_octets.ensures.octets, length-octets c.args.self.now)
