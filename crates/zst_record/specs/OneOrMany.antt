-- Lists of at least one item, of which one stands alone or some in a vector.
use Rattle.std.specs.Prelude.{List, [], ◌∷◌}
use Rattle.zst_record.specs.declared.one_or_many.OneOrMany.{OneOrMany}
use Rattle.zst_record.specs.declared.one_or_many.OneOrMany.TheVariants.{One, Many}

module _ {T : Type 0} where
  abbrev pub items_of : OneOrMany T → List T
  items_of (One item) = item ∷ []
  items_of (Many items) = items.items

  -- One item stands alone.
  abbrev pub is_one : OneOrMany T → Type 0
  is_one (One item) = Unit {0}
  is_one (Many items) = ⊥
