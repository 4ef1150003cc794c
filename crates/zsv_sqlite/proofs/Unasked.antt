-- Prerequisites that are refused by their form, before one asks what the zone has.
use Rattle.std.proofs.Common.{◌≡◌, ◌⊎◌, inl, inr, refl}
use Rattle.std.specs.Prelude.{◌==◌, Bool, true, false, not, List, ◌∷◌, Option, Some, None, Ok, Err, if◌then◌else◌}
use Rattle.zst_map.specs.dnw_codes.DNSClass.{same_class}
use Rattle.zst_map.specs.dnw_codes.declared.dns_class.DNSClass.{DNSClass}
use Rattle.zst_map.specs.dnw_codes.declared.dns_class.DNSClass.TheVariants as classes
use Rattle.zst_map.specs.dnw_name.DomainName.{DomainName, is_at_or_below}
use Rattle.zst_map.specs.zst_key.Ancestors.{or_else}
use Rattle.zst_map.specs.zst_record.RecordSets.{RRset}
use Rattle.zst_map.specs.zst_record.declared.records.Record.{Record}
use Rattle.zst_request.specs.Prerequisites.{is_valued, prerequisite_refused, refused_by_class, refused_if}
use Rattle.zst_request.specs.zst_codes.declared.response_code.ResponseCode.{ResponseCode}
use Rattle.zst_request.specs.zst_codes.declared.response_code.ResponseCode.TheVariants as codes
use Rattle.zsv_sqlite.specs.Guarded.{form_by_class, form_refused, refused_unasked}

picks : (own : Option ResponseCode) (valued : Bool) (later : Option ResponseCode) (code : ResponseCode)
    → or_else own (if valued then later else None) ≡ Some code → (own ≡ Some code) ⊎ ((own ≡ None) × (valued ≡ true) × (later ≡ Some code))
picks (Some own) valued later code e = inl e
picks None true later code e = inr (refl, refl, e)
picks None false later code e = let h : ⊥ = cc in absurd h

-- The first one is; or it asks for a set by value, and a later one is.
pub unasked_by : (origin : DomainName) (r : Record) (rs : List Record) (code : ResponseCode) → refused_unasked origin (r ∷ rs) ≡ Some code
    → (form_refused origin r ≡ Some code) ⊎ ((form_refused origin r ≡ None) × (is_valued r ≡ true) × (refused_unasked origin rs ≡ Some code))
unasked_by origin r rs code = picks (form_refused origin r) (is_valued r) (refused_unasked origin rs) code

-- One that asks for a set by value is refused by its form alone.
by_class : (sets : List RRset) (r : Record) (c : DNSClass) → form_by_class r c ≡ None → same_class c classes.IN ≡ true → refused_by_class sets r c ≡ None
by_class sets r classes.IN none valued = refl
by_class sets r classes.CH none valued = let h : ⊥ = cc in absurd h
by_class sets r classes.HS none valued = let h : ⊥ = cc in absurd h
by_class sets r classes.NONE none valued = let h : ⊥ = cc in absurd h
by_class sets r classes.ANY none valued = let h : ⊥ = cc in absurd h
by_class sets r (classes.OPT size) none valued = let h : ⊥ = cc in absurd h
by_class sets r (classes.Unknown number) none valued = let h : ⊥ = cc in absurd h

passes : (first second form asked : Option ResponseCode) → or_else first (or_else second form) ≡ None → (form ≡ None → asked ≡ None) → or_else first (or_else second asked) ≡ None
passes None None form asked none same = same none
passes None (Some code) form asked none same = let h : ⊥ = cc in absurd h
passes (Some code) second form asked none same = let h : ⊥ = cc in absurd h

pub valued_passes : (origin : DomainName) (sets : List RRset) (r : Record) → form_refused origin r ≡ None → is_valued r ≡ true → prerequisite_refused origin sets r ≡ None
valued_passes origin sets r none valued =
    passes (refused_if (not (r.ttl == 0)) codes.FormErr) (refused_if (not (is_at_or_below r.name origin)) codes.NotZone) (form_by_class r r.dns_class) (refused_by_class sets r r.dns_class) none
    (λ form. by_class sets r r.dns_class form valued)

pub err_alone : {X E : Type 0} (refused : E) (x : X) → Err refused ≡ Ok x → ⊥
err_alone refused x e = cc
