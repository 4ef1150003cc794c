-- Where there are no networks, every address may ask.
use Rattle.std.proofs.Common.{◌≡◌, ℕ, List, [], ◌∷◌, refl}
use Rattle.std.proofs.lemmas.Bool.{false≢true}
use Rattle.std.specs.Prelude.{true, ◌&&◌}
use Rattle.zsv_access.specs.Access.{allows}
use Rattle.zsv_access.specs.Prefixes.{is_empty}
use Rattle.zsv_access.specs.declared.access.InnerAccessControl.{InnerAccessControl}
use Rattle.zsv_access.specs.declared.prefix_set.Prefix.{Prefix}

pub none_decide : (networks : InnerAccessControl) (width addr : ℕ) → (is_empty networks.allow && is_empty networks.deny) ≡ true → allows networks width addr ≡ true
none_decide networks width addr none = by networks.allow networks.deny none
  where
    by : (allow deny : List Prefix) → (is_empty allow && is_empty deny) ≡ true → allows (record { allow = allow; deny = deny }) width addr ≡ true
    by [] [] e = refl
    by [] (p ∷ ps) e = absurd (false≢true e)
    by (p ∷ ps) deny e = absurd (false≢true e)
