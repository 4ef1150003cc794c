use Rattle.std.proofs.Common.{◌≡◌, take, map}
use Rattle.std.specs.List.{fold}
use Rattle.drd_fields.specs.Order.{fields_input}
use Rattle.drd_fields.specs.Seen.{seen}
use Rattle.drd_fields.proofs.list.hash_list.Given as goal

abbrev pub invariant-fields : goal.invariant-fields
invariant-fields g l =
    l.state ≡ fold g.H.Hasher.write l.initial.state (fields_input (map seen (take l.field-index l.fields)))
