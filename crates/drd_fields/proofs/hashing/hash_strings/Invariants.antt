use Rattle.std.proofs.Common.{◌≡◌, take, map}
use Rattle.std.specs.List.{fold, flat_map}
use Rattle.drd_fields.specs.Order.{string_input}
use Rattle.drd_fields.proofs.hashing.hash_strings.Given as goal

abbrev pub invariant-strings : goal.invariant-strings
invariant-strings g l =
    l.state ≡ fold g.H.Hasher.write l.initial.state (flat_map string_input (map (λ s. s.items) (take l.string-index l.strings)))
