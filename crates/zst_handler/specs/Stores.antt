-- How a zone keeps its sets: those of each owner under the owner's key.
use Rattle.std.specs.Prelude.{List, [], Option, Some, None}
use Rattle.std.specs.List.{flat_map}
use Rattle.std.specs.HashMap.{HashMap}
use Rattle.std.specs.HashMap.{get as hashed}
use Rattle.zst_record.specs.dnw_name.DomainName.{DomainName, name_eq}
use Rattle.zst_record.specs.OneOrMany.{items_of}
use Rattle.zst_record.specs.RecordSets.{RRset}
use Rattle.zst_record.specs.declared.one_or_many.OneOrMany.{OneOrMany}

-- The sets of a node, or of none.
abbrev pub held_sets : Option (OneOrMany RRset) → List RRset
held_sets None = []
held_sets (Some node) = items_of node

module _ {S : Type 0} where
  -- The sets under a name's key.
  abbrev pub held : HashMap DomainName (OneOrMany RRset) S → DomainName → List RRset
  held nodes name = held_sets (hashed name_eq nodes name)

  -- The sets of owners, one owner after the other.
  abbrev pub sets_in : HashMap DomainName (OneOrMany RRset) S → List (DomainName × Unit {0})
      → List RRset
  sets_in nodes owners = flat_map (λ owner. held nodes owner.0) owners
