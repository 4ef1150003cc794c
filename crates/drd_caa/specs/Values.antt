-- CAA properties that are made, and values that are put into them.
use Rattle.std.specs.Prelude.{ℕ, ◌≡◌, Bool, List}
use Rattle.drd_caa.specs.declared.caa.CAA.{CAA}

-- A property of these flags, with no reserved ones, of this tag and this value.
abbrev pub IsProperty : CAA → Bool → List ℕ → List ℕ → Type 0
IsProperty caa critical tag value =
    (caa.issuer_critical ≡ critical) × (caa.reserved_flags ≡ 0) × (caa.tag.items ≡ tag)
    × (caa.value.items ≡ value)

-- The same property with this value.
abbrev pub HasValue : CAA → CAA → List ℕ → Type 0
HasValue old new value =
    (new.issuer_critical ≡ old.issuer_critical) × (new.reserved_flags ≡ old.reserved_flags)
    × (new.tag ≡ old.tag)
    × (new.value.items ≡ value)
