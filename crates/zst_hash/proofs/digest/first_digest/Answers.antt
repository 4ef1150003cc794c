use Rattle.std.proofs.Common.{◌++◌, ◌∷◌, [], ℕ, List, map, ap, ◌∙◌}
use Rattle.std.specs.Char.{to_ascii_lowercase}
use Rattle.sha1.specs.Sha1.{sha1}
use Rattle.zst_hash.proofs.Hashing.{lowered}
use Rattle.zst_hash.proofs.digest.first_digest.Goals as goal

pub returns : goal.returns
returns c =
    let octets = [] ++ map to_ascii_lowercase c.as_octets.result.now in
    c.finalize.ensures ((octets ++ 0 ∷ []) ++ c.args.salt.now)
    (c.update-2.ensures (octets ++ 0 ∷ []) (c.update.ensures octets (c.add_lowercase.ensures [] c.new-hasher.ensures)))
    ∙ ap (λ (o : List ℕ). sha1 (o ++ c.args.salt.now))
    (lowered c.args.name.now c.as_octets.result.now c.as_octets.ensures.name c.as_octets.ensures.octets)
