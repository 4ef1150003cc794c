use Rattle.std.proofs.Common.{rules, ℕ, ◌<◌, get_or}
use Rattle.zsv_parts.proofs.TsigLaws.{six_octets}
use Rattle.zsv_parts.proofs.tsig.read_time.Goals as goal

pub returns-clause-ok : goal.returns-clause-ok
returns-clause-ok c =
    let octets = c.in_ok-octets.octets.now in
    let bounded : (i : ℕ) → get_or octets i 0 < 256 = search rules in
    let same = six_octets octets c.from.result c.from-2.result c.in_ok-octets.ensures.long bounded (search rules) (search rules) in
    rw same c.in_ok-octets.ensures.ok
