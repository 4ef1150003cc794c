use Rattle.std.proofs.Common.{◌≡◌, length}
use Rattle.dnw_wire.specs.BitMaps.{Rises}
use Rattle.dnw_wire.specs.MapOrder.{types_cmp, codes_after}
use Rattle.dnw_wire.proofs.order.cmp_codes.Given as goal

abbrev pub invariant-types : goal.invariant-types
invariant-types l = record {
  same : types_cmp l.codes l.others ≡ types_cmp (codes_after l.common l.left) (codes_after l.common l.right);
  rises : Rises 0 (codes_after l.common l.left) 65536;
  other_rises : Rises 0 (codes_after l.common l.right) 65536;
}

abbrev pub decreases-types : goal.decreases-types
decreases-types l = length l.left
