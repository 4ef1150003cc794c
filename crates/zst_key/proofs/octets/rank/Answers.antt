use Rattle.std.proofs.Common.{◌≡◌, ℕ, ◌<◌, map, get_or, refl, ap, ◌∙◌, arith}
use Rattle.std.proofs.lemmas.List.FromFn.{get_or-map-range_with_len}
use Rattle.std.specs.List.{range_with_len}
use Rattle.zst_key.specs.NameKeys.{rank}
use Rattle.zst_key.specs.declared.octets.TheConstants.{RANKS}
use Rattle.zst_key.proofs.octets.rank.Goals as goal

-- The table has the rank of each octet.
table_is : RANKS ≡ map rank (range_with_len 0 256)
unfolding rank
table_is = refl

rank-at : (octet : ℕ) → octet < 256 → get_or RANKS octet 0 ≡ rank octet
rank-at octet few = ap (λ t. get_or t octet 0) table_is ∙ get_or-map-range_with_len rank 0 256 octet octet 0 few (omega arith)

pub returns : goal.returns
returns c = rw c.from.ensures (rank-at c.args.octet (omega arith))
