use Rattle.std.proofs.Common.{◌≡◌, length, map}
use Rattle.std.specs.List.{flat_map}
use Rattle.drd_fields.specs.Writing.{string_octets}
use Rattle.drd_fields.specs.Order.{octets_cmp}
use Rattle.drd_fields.proofs.octets.cmp_strings.Given as goal

abbrev pub invariant-strings : goal.invariant-strings
invariant-strings l =
    octets_cmp (flat_map string_octets (map (λ v. v.items) l.s)) (flat_map string_octets (map (λ v. v.items) l.t))
    ≡ octets_cmp (flat_map string_octets (map (λ v. v.items) l.left)) (flat_map string_octets (map (λ v. v.items) l.right))

abbrev pub decreases-strings : goal.decreases-strings
decreases-strings l = length l.left
