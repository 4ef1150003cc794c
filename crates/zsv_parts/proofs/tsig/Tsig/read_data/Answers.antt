use Rattle.std.proofs.Common.{◌≡◌, ℕ, List, length, ap, arith}
use Rattle.zsv_parts.proofs.TsigLaws.{tsig_within}
use Rattle.zsv_parts.proofs.tsig.Tsig.read_data.Goals as goal

pub returns-in-Ok-clause-within : goal.returns-in-Ok-clause-within
returns-in-Ok-clause-within c =
    let same : length c.read_tsig.new.decoder.octets ≡ length c.args.decoder.now.octets = ap (λ (o : List ℕ). length o) c.in-Ok.ensures.same in
    omega (arith, same, c.in-Ok.ensures.end, tsig_within c.args.decoder.now.octets c.args.decoder.now.index c.args.len c.in-Ok.tsig c.in-Ok.ensures.ok)
