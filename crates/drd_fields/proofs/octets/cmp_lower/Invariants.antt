use Rattle.std.proofs.Common.{◌≡◌, length}
use Rattle.std.specs.Str.{str_to_ascii_lowercase}
use Rattle.drd_fields.specs.Order.{octets_cmp}
use Rattle.drd_fields.proofs.octets.cmp_lower.Given as goal

abbrev pub invariant-octets : goal.invariant-octets
invariant-octets l =
    octets_cmp (str_to_ascii_lowercase l.s) (str_to_ascii_lowercase l.t)
    ≡ octets_cmp (str_to_ascii_lowercase l.left) (str_to_ascii_lowercase l.right)

abbrev pub decreases-octets : goal.decreases-octets
decreases-octets l = length l.left
