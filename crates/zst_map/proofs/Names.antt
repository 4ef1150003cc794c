-- Whether a name exists, whether or not it ends at the root; all sets of a name.
use Rattle.std.proofs.Common.{◌≡◌, refl}
use Rattle.std.specs.Prelude.{Bool, true, false, not, ◌&&◌, ◌||◌, List, [], ◌∷◌}
use Rattle.std.specs.Bool.{beq}
use Rattle.zst_handler.specs.dnw_name.DomainName.{DomainName, is_at_or_below}
use Rattle.zst_handler.specs.zst_record.RecordSets.{RRset}
use Rattle.zst_handler.specs.Zones.{exists_in}
use Rattle.zst_key.specs.Ancestors.{other_flag}
use Rattle.zst_map.specs.ZoneMaps.{exists_alike}

step : (f g b x y z : Bool) → z ≡ (x || y) → (b || z) ≡ (((beq f g && b) || x) || ((beq f (not g) && b) || y))
step true true true x y z e = refl
step true false true true y z e = refl
step true false true false y z e = refl
step false true true true y z e = refl
step false true true false y z e = refl
step false false true x y z e = refl
step true true false x y z e = e
step true false false x y z e = e
step false true false x y z e = e
step false false false x y z e = e

pub exists_either : (sets : List RRset) (name : DomainName) → exists_in sets name ≡ (exists_alike sets name || exists_alike sets (other_flag name))
exists_either [] name = refl
exists_either (set ∷ sets) name =
    step set.name.fqdn name.fqdn (is_at_or_below set.name name) (exists_alike sets name) (exists_alike sets (other_flag name)) (exists_in sets name) (exists_either sets name)

pub one_exists : (a b : Bool) → a ≡ true → (a || b) ≡ true
one_exists true b e = refl
one_exists false b e = let g : ⊥ = cc in absurd g

pub other_exists : (a b : Bool) → a ≡ false → (a || b) ≡ b
other_exists false b e = refl
other_exists true b e = let g : ⊥ = cc in absurd g
