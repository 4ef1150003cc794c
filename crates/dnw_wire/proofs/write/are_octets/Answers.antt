use Rattle.std.proofs.Common.{ℕ, ◌<◌, get_or, rules}
use Rattle.dnw_wire.proofs.Windows.{small_octets}
use Rattle.dnw_wire.proofs.write.are_octets.Goals as goal

pub returns : goal.returns
returns c =
    let fits : (i : ℕ) → get_or c.args.octets.now i 0 < 256 = search rules in
    small_octets c.args.octets.now fits
