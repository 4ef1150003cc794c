-- A zone holds and answers for a name in lower case what it does for the name.
use Rattle.std.proofs.Common.{◌≡◌, ◌∙◌, refl, ap, sym}
use Rattle.std.specs.Prelude.{ℕ, Bool, ◌&&◌, ◌||◌, List, [], ◌∷◌, Option, Some, None, cond, is_some, map, option_map}
use Rattle.std.specs.Option.{option_flatten}
use Rattle.std.specs.Str.{str_to_ascii_lowercase}
use Rattle.zst_circle.specs.dnw_codes.declared.record_type.RecordType.{RecordType}
use Rattle.zst_circle.specs.dnw_codes.declared.record_type.RecordType.TheVariants as kind
use Rattle.zst_circle.specs.dnw_codes.RecordType.{same_record_type}
use Rattle.zst_circle.specs.dnw_name.DomainName.{DomainName, domain_name, is_at_or_below, lowercase_name, name_eq}
use Rattle.zst_circle.specs.zst_record.RecordSets.{RRset, renamed}
use Rattle.zst_key.specs.Ancestors.{nearest_from, nearest_in, or_else, star}
use Rattle.zst_key.proofs.KeyLemmas.{above-lower, below-lower, eq-lower-first, lower-twice}
use Rattle.zst_circle.specs.zst_handler.Found.{above, cut_at, cut_found, delegation, found, found_set, here, is_address, nearest_above, wildcard_answer}
use Rattle.zst_circle.specs.zst_handler.Lookups.{denial, name_error, name_exists, out_of_zone, sets_of_name}
use Rattle.zst_circle.specs.zst_handler.Zones.{Zone, exists_in, rrset_at}

rrset-lower : (sets : List RRset) (name : DomainName) (t : RecordType) → rrset_at sets (lowercase_name name) t ≡ rrset_at sets name t
rrset-lower [] name t = refl
rrset-lower (set ∷ sets) name t =
    ap (λ (b : Bool). cond (b && same_record_type set.record_type t) (Some set) (rrset_at sets (lowercase_name name) t)) (eq-lower-first name set.name)
    ∙ ap (cond (name_eq name set.name && same_record_type set.record_type t) (Some set)) (rrset-lower sets name t)

exists-lower : (sets : List RRset) (name : DomainName) → exists_in sets (lowercase_name name) ≡ exists_in sets name
exists-lower [] name = refl
exists-lower (set ∷ sets) name =
    ap (λ (b : Bool). b || exists_in sets (lowercase_name name)) (above-lower set.name name)
    ∙ ap (λ (b : Bool). is_at_or_below set.name name || b) (exists-lower sets name)

denial-lower : (zone : Zone) (name : DomainName) → denial zone (lowercase_name name) ≡ denial zone name
denial-lower zone name =
    ap (λ (b : Bool). cond b name_exists (cond (is_at_or_below (lowercase_name name) zone.origin) name_error out_of_zone)) (exists-lower zone.sets name)
    ∙ ap (λ (b : Bool). cond (exists_in zone.sets name) name_exists (cond b name_error out_of_zone)) (below-lower name zone.origin)

here-lower : (sets : List RRset) (t : RecordType) (name : DomainName) → here sets t (lowercase_name name) ≡ here sets t name
here-lower sets t name =
    ap (λ (own : Option RRset). or_else own (or_else (rrset_at sets (lowercase_name name) kind.CNAME) (cond (is_address t) (rrset_at sets (lowercase_name name) kind.ANAME) None))) (rrset-lower sets name t)
    ∙ ap (λ (alias : Option RRset). or_else (rrset_at sets name t) (or_else alias (cond (is_address t) (rrset_at sets (lowercase_name name) kind.ANAME) None))) (rrset-lower sets name kind.CNAME)
    ∙ ap (λ (last : Option RRset). or_else (rrset_at sets name t) (or_else (rrset_at sets name kind.CNAME) (cond (is_address t) last None))) (rrset-lower sets name kind.ANAME)

cut-lower : (sets : List RRset) (name : DomainName) → cut_at sets (lowercase_name name) ≡ cut_at sets name
cut-lower sets name =
    ap (λ (start : Option RRset). option_map (λ servers. cond (is_some start) None (Some servers)) (rrset_at sets (lowercase_name name) kind.NS)) (rrset-lower sets name kind.SOA)
    ∙ ap (option_map (λ servers. cond (is_some (rrset_at sets name kind.SOA)) None (Some servers))) (rrset-lower sets name kind.NS)

-- ---- the nearest name above one
-- What was found, without the name.
abbrev what : {X : Type 0} → Option (DomainName × X) → Option X
what found = option_map (λ at. at.1) found

what_first : {X : Type 0} (name : DomainName) (here : Option X) (above : Option (DomainName × X)) → what (or_else (option_map (λ x. (name, x)) here) above) ≡ or_else here (what above)
what_first name None above = refl
what_first name (Some x) above = refl

module _ {X : Type 0} (at : DomainName → Option X) (same : (name : DomainName) → at (lowercase_name name) ≡ at name) where
  nearest-lower : (fqdn : Bool) (labels : List (List ℕ)) → what (nearest_from at fqdn (map str_to_ascii_lowercase labels)) ≡ what (nearest_from at fqdn labels)
  nearest-lower fqdn [] = refl
  nearest-lower fqdn (label ∷ labels) =
      let name = domain_name fqdn (label ∷ labels) in
      what_first (lowercase_name name) (at (lowercase_name name)) (nearest_from at fqdn (map str_to_ascii_lowercase labels))
      ∙ ap (λ (here : Option X). or_else here (what (nearest_from at fqdn (map str_to_ascii_lowercase labels)))) (same name)
      ∙ ap (or_else (at name)) (nearest-lower fqdn labels) ∙ sym (what_first name (at name) (nearest_from at fqdn labels))

  above-lowered : (fqdn : Bool) (labels : List (List ℕ)) → what (nearest_above at fqdn (map str_to_ascii_lowercase labels)) ≡ what (nearest_above at fqdn labels)
  above-lowered fqdn [] = refl
  above-lowered fqdn (label ∷ labels) = nearest-lower fqdn labels

  nearest_in-lower : (name : DomainName) → what (nearest_in at (lowercase_name name)) ≡ what (nearest_in at name)
  nearest_in-lower name = nearest-lower name.fqdn name.labels

  above_of-lower : (name : DomainName) → what (above at (lowercase_name name)) ≡ what (above at name)
  above_of-lower name = above-lowered name.fqdn name.labels

cut_found-what : (found : Option (DomainName × Option RRset)) → cut_found found ≡ option_flatten (what found)
cut_found-what None = refl
cut_found-what (Some found) = refl

found_set-what : (found : Option (DomainName × RRset)) → found_set found ≡ what found
found_set-what None = refl
found_set-what (Some found) = refl

-- ---- what is found
delegation-lower : (sets : List RRset) (name : DomainName) (t : RecordType) → delegation sets (lowercase_name name) t ≡ delegation sets name t
delegation-lower sets name t =
    ap (λ (cut : Option RRset). cond (same_record_type t kind.DS) cut (cut_found (nearest_in (cut_at sets) (lowercase_name name))))
    (cut_found-what (above (cut_at sets) (lowercase_name name)) ∙ ap option_flatten (above_of-lower (cut_at sets) (cut-lower sets) name) ∙ sym (cut_found-what (above (cut_at sets) name)))
    ∙ ap (cond (same_record_type t kind.DS) (cut_found (above (cut_at sets) name)))
    (cut_found-what (nearest_in (cut_at sets) (lowercase_name name)) ∙ ap option_flatten (nearest_in-lower (cut_at sets) (cut-lower sets) name) ∙ sym (cut_found-what (nearest_in (cut_at sets) name)))

wildcard-lower : (sets : List RRset) (name : DomainName) (t : RecordType) → wildcard_answer sets (lowercase_name name) t ≡ wildcard_answer sets name t
wildcard-lower sets name t =
    let at = λ (ancestor : DomainName). here sets t (star ancestor) in
    let same : found_set (above at (lowercase_name name)) ≡ found_set (above at name)
    = found_set-what (above at (lowercase_name name)) ∙ above_of-lower at (λ ancestor. here-lower sets t (star ancestor)) name ∙ sym (found_set-what (above at name)) in
    ap (λ (owner : DomainName). option_map (renamed owner) (found_set (above at (lowercase_name name)))) (lower-twice name)
    ∙ ap (option_map (renamed (lowercase_name name))) same

found-lower : (sets : List RRset) (name : DomainName) (t : RecordType) → found sets (lowercase_name name) t ≡ found sets name t
found-lower sets name t =
    ap (λ (cut : Option RRset). or_else cut (or_else (here sets t (lowercase_name name)) (wildcard_answer sets (lowercase_name name) t))) (delegation-lower sets name t)
    ∙ ap (λ (own : Option RRset). or_else (delegation sets name t) (or_else own (wildcard_answer sets (lowercase_name name) t))) (here-lower sets t name)
    ∙ ap (λ (star : Option RRset). or_else (delegation sets name t) (or_else (here sets t name) star)) (wildcard-lower sets name t)

sets-lower : (sets : List RRset) (name : DomainName) → sets_of_name sets (lowercase_name name) ≡ sets_of_name sets name
sets-lower [] name = refl
sets-lower (set ∷ sets) name =
    ap (λ (b : Bool). cond b (set ∷ sets_of_name sets (lowercase_name name)) (sets_of_name sets (lowercase_name name))) (eq-lower-first name set.name)
    ∙ ap (λ (rest : List RRset). cond (name_eq name set.name) (set ∷ rest) rest) (sets-lower sets name)

-- ---- by the key of a name
pub rrset-keyed : (sets : List RRset) (key name : DomainName) (t : RecordType) → key ≡ lowercase_name name → rrset_at sets key t ≡ rrset_at sets name t
rrset-keyed sets key name t at = ap (λ (k : DomainName). rrset_at sets k t) at ∙ rrset-lower sets name t

pub inside-keyed : (origin key name : DomainName) → key ≡ lowercase_name name → is_at_or_below key origin ≡ is_at_or_below name origin
inside-keyed origin key name at = ap (λ (k : DomainName). is_at_or_below k origin) at ∙ below-lower name origin

pub denial-keyed : (zone : Zone) (key name : DomainName) → key ≡ lowercase_name name → denial zone key ≡ denial zone name
denial-keyed zone key name at = ap (denial zone) at ∙ denial-lower zone name

pub found-keyed : (sets : List RRset) (key name : DomainName) (t : RecordType) → key ≡ lowercase_name name → found sets key t ≡ found sets name t
found-keyed sets key name t at = ap (λ (k : DomainName). found sets k t) at ∙ found-lower sets name t

pub sets-keyed : (sets : List RRset) (key name : DomainName) → key ≡ lowercase_name name → sets_of_name sets key ≡ sets_of_name sets name
sets-keyed sets key name at = ap (sets_of_name sets) at ∙ sets-lower sets name
