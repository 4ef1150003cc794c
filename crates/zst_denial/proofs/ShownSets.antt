-- The sets that a zone shows for a name are stored, and deny it.
use Rattle.std.proofs.Common.{◌≡◌, ◌<◌, ◌^◌, inl, Bool, true, false, not, List, [], ◌∷◌, ◌++◌, refl, sym, ap, subst, ◌∙◌, true≢false, cond}
use Rattle.std.specs.Prelude.{Option, Some, None, IsSome, is_some}
use Rattle.std.specs.List.{AllByRecursion, filter}
use Rattle.zst_handler.specs.Lookups.{listed}
use Rattle.zst_handler.specs.Zones.{AreStored, Zone, ZoneReadsBack, exists_in, rrset_at}
use Rattle.zst_handler.specs.dnw_codes.declared.record_type.RecordType.{RecordType}
use Rattle.zst_handler.specs.dnw_codes.declared.record_type.RecordType.TheVariants as kind
use Rattle.zst_handler.specs.dnw_codes.RecordType.{record_type_number, same_record_type}
use Rattle.zst_handler.specs.dnw_name.DomainName.{DomainName, name_eq}
use Rattle.zst_handler.specs.zst_record.RecordSets.{RRset}
use Rattle.zst_hash.specs.zst_key.Ancestors.{star}
use Rattle.zst_denial.specs.Circles.{IsAuthoritativeName, IsSecured}
use Rattle.zst_denial.specs.Denials.{Covers, HasOne, IsNsecDenial, IsPrecedingSet, IsSetOf, Lacks, Precedes, SomeOf, each_owner_once, encloser}
use Rattle.zst_denial.specs.HashDenials.{IsNsec3Denial, is_denied, next_closer}
use Rattle.zst_denial.specs.Hashed.{Hashing, hashed_name}
use Rattle.zst_denial.proofs.Secured.{absent_covered, owns_nsec, unowned_lacked}

-- ---- each is stored
all_filtered : {X : Type 0} (P : X → Type 0) (keep : X → Bool) (xs : List X) → AllByRecursion P xs → AllByRecursion P (filter keep xs)
all_filtered P keep [] all = tt
all_filtered P keep (x ∷ xs) all = by (keep x) (all_filtered P keep xs all.1) where
  by : (b : Bool) → AllByRecursion P (filter keep xs) → AllByRecursion P (cond b (x ∷ filter keep xs) (filter keep xs))
  by true later = (all.0, later)
  by false later = later

all_once : (P : RRset → Type 0) (sets : List RRset) → AllByRecursion P sets → AllByRecursion P (each_owner_once sets)
all_once P [] all = tt
all_once P (s ∷ ss) all = (all.0, all_filtered P (λ other. not (name_eq s.name other.name)) (each_owner_once ss) (all_once P ss all.1))

all_joined : {X : Type 0} (P : X → Type 0) (xs ys : List X) → AllByRecursion P xs → AllByRecursion P ys → AllByRecursion P (xs ++ ys)
all_joined P [] ys a b = b
all_joined P (x ∷ xs) ys a b = (a.0, all_joined P xs ys a.1 b)

all_listed : (zone : Zone) (t : RecordType) (name : DomainName) (found : Option RRset) → Precedes zone t name found → AllByRecursion (IsSetOf zone t) (listed found)
all_listed zone t name None is = tt
all_listed zone t name (Some set) is = (record { owner = is.0; there = is.1.there }, tt)

none_listed : (zone : Zone) (t : RecordType) (found : Option RRset) → found ≡ None → AllByRecursion (IsSetOf zone t) (listed found)
none_listed zone t None e = tt
none_listed zone t (Some set) e = absurd (cc e)

star_listed : (zone : Zone) (name : DomainName) (found : Option RRset) (e : Option DomainName) → encloser zone name ≡ e
    → ((x : DomainName) → encloser zone name ≡ Some x → Precedes zone kind.NSEC (star x) found) → (encloser zone name ≡ None → found ≡ None)
    → AllByRecursion (IsSetOf zone kind.NSEC) (listed found)
star_listed zone name found None is some none = none_listed zone kind.NSEC found (none is)
star_listed zone name found (Some x) is some none = all_listed zone kind.NSEC (star x) found (some x is)

pub nsec_shown : (zone : Zone) (name : DomainName) (sets : List RRset) → IsNsecDenial zone name sets → AllByRecursion (IsSetOf zone kind.NSEC) sets
nsec_shown zone name sets d =
    subst (λ (ss : List RRset). AllByRecursion (IsSetOf zone kind.NSEC) ss) (sym d.are)
    (all_once (IsSetOf zone kind.NSEC) (listed d.for_name ++ listed d.for_star)
    (all_joined (IsSetOf zone kind.NSEC) (listed d.for_name) (listed d.for_star) (all_listed zone kind.NSEC name d.for_name d.own)
    (star_listed zone name d.for_star (encloser zone name) refl d.wildcard d.no_wildcard)))

none_shown : (zone : Zone) (t : RecordType) (sets : List RRset) → sets ≡ [] → AllByRecursion (IsSetOf zone t) sets
none_shown zone t sets e = subst (λ (ss : List RRset). AllByRecursion (IsSetOf zone t) ss) (sym e) tt

pub nsec3_shown : (by : Hashing) (zone : Zone) (name : DomainName) (t : RecordType) (wild : Bool) (sets : List RRset) → IsNsec3Denial by zone name t wild sets
    → AllByRecursion (IsSetOf zone kind.NSEC3) sets
nsec3_shown by zone name t wild sets d = needed (is_denied zone name t wild) refl where
  above : is_denied zone name t wild ≡ true → rrset_at zone.sets (hashed_name by zone name) kind.NSEC3 ≡ None → (e : Option DomainName) → encloser zone name ≡ e → AllByRecursion (IsSetOf zone kind.NSEC3) sets
  above denied none None is = none_shown zone kind.NSEC3 sets (d.no_ancestor denied none is)
  above denied none (Some e) is =
      let c = d.closest e denied none is in
      subst (λ (ss : List RRset). AllByRecursion (IsSetOf zone kind.NSEC3) ss) (sym c.are)
      (all_once (IsSetOf zone kind.NSEC3) (listed c.for_ancestor ++ listed c.for_closer ++ listed c.for_star)
      (all_joined (IsSetOf zone kind.NSEC3) (listed c.for_ancestor ++ listed c.for_closer) (listed c.for_star)
      (all_joined (IsSetOf zone kind.NSEC3) (listed c.for_ancestor) (listed c.for_closer) (all_listed zone kind.NSEC3 (hashed_name by zone e) c.for_ancestor c.closest)
      (all_listed zone kind.NSEC3 (hashed_name by zone (next_closer name e)) c.for_closer c.closer)) (all_listed zone kind.NSEC3 (hashed_name by zone (star e)) c.for_star c.wildcard)))

  own : is_denied zone name t wild ≡ true → (found : Option RRset) → rrset_at zone.sets (hashed_name by zone name) kind.NSEC3 ≡ found → AllByRecursion (IsSetOf zone kind.NSEC3) sets
  own denied None is = above denied is (encloser zone name) refl
  own denied (Some set) is =
      subst (λ (ss : List RRset). AllByRecursion (IsSetOf zone kind.NSEC3) ss) (sym (d.own set denied is))
      (record { owner = hashed_name by zone name; there = is }, tt)

  needed : (b : Bool) → is_denied zone name t wild ≡ b → AllByRecursion (IsSetOf zone kind.NSEC3) sets
  needed true denied = own denied (rrset_at zone.sets (hashed_name by zone name) kind.NSEC3) refl
  needed false denied = none_shown zone kind.NSEC3 sets (d.needless denied)

-- ---- the first one is the name's
first_shown : (zone : Zone) (name : DomainName) (sets : List RRset) (P : RRset → Type 0) → (d : IsNsecDenial zone name sets)
    → IsSome (rrset_at zone.sets zone.origin kind.NSEC)
    → ((owner : DomainName) (set : RRset) → IsPrecedingSet zone kind.NSEC name owner set → P set) → SomeOf P sets
first_shown zone name sets P d some each = by d.for_name d.own d.are where
  by : (found : Option RRset) → Precedes zone kind.NSEC name found → sets ≡ each_owner_once (listed found ++ listed d.for_star) → SomeOf P sets
  by None none are = absurd (true≢false (sym some ∙ ap is_some (none zone.origin)))
  by (Some set) is are = subst (λ (ss : List RRset). SomeOf P ss) (sym are) (inl (each is.0 set is.1))

pub absent_denied : (zone : Zone) (name : DomainName) (sets : List RRset) → IsSecured zone → AreStored zone.sets → ZoneReadsBack zone
    → IsAuthoritativeName kind.NSEC zone zone.origin → exists_in zone.sets name ≡ false → IsNsecDenial zone name sets → SomeOf (HasOne (Covers name)) sets
absent_denied zone name sets secured stored back origin absent d =
    first_shown zone name sets (HasOne (Covers name)) d (owns_nsec zone zone.origin secured origin)
    (λ owner set pre. let c = absent_covered zone name owner set secured stored back absent pre in record { only = c.0; one = c.1; is = c.2 })

pub unowned_denied : (zone : Zone) (name : DomainName) (t : RecordType) (sets : List RRset) → IsSecured zone → AreStored zone.sets → ZoneReadsBack zone
    → IsAuthoritativeName kind.NSEC zone zone.origin → IsAuthoritativeName kind.NSEC zone name → record_type_number t < 2 ^ 16 → same_record_type t kind.RRSIG ≡ false
    → rrset_at zone.sets name t ≡ None → IsNsecDenial zone name sets → SomeOf (HasOne (Lacks name t)) sets
unowned_denied zone name t sets secured stored back origin on small other none d =
    first_shown zone name sets (HasOne (Lacks name t)) d (owns_nsec zone zone.origin secured origin)
    (λ owner set pre. let c = unowned_lacked zone name owner set t secured stored back on small other none pre in record { only = c.0; one = c.1; is = c.2 })
