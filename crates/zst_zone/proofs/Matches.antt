-- What a set that was found by the key of a name is under the name asked for.
use Rattle.std.proofs.Common.{◌≡◌, ℕ, Bool, true, false, ◌&&◌, not, cond, List, [], ◌∷◌, map, refl, ap, sym, ◌∙◌}
use Rattle.std.specs.Prelude.{Option, Some, None, option_map}
use Rattle.std.specs.List.{cons_option}
use Rattle.zst_circle.specs.dnw_codes.declared.record_type.RecordType.{RecordType}
use Rattle.zst_circle.specs.dnw_codes.declared.record_type.RecordType.TheVariants as kind
use Rattle.zst_circle.specs.dnw_codes.RecordType.{same_record_type}
use Rattle.zst_circle.specs.dnw_name.DomainName.{DomainName, lowercase_name}
use Rattle.zst_circle.specs.zst_record.RecordSets.{RRset, flattened_record, flattened_set, renamed, renamed_record}
use Rattle.zst_circle.specs.zst_record.declared.records.Record.{Record}
use Rattle.zst_circle.specs.zst_handler.Chains.{first_target, leads, target_of}
use Rattle.zst_circle.specs.zst_handler.Found.{found}
use Rattle.zst_circle.specs.zst_handler.Lookups.{alias_ttl, targets}
use Rattle.zst_circle.specs.zst_map.declared.zone_sets.Match.{Match}
use Rattle.zst_circle.specs.zst_map.Searches.{match_set}
use Rattle.zst_key.proofs.KeyLemmas.{lower-twice}
use Rattle.zst_zone.proofs.LowerNames.{found-keyed}

match-keyed : (key name : DomainName) (m : Match) → key ≡ lowercase_name name → match_set key m ≡ match_set name m
match-keyed key name m at = ap (λ (owner : DomainName). cond m.is_wildcard (renamed owner m.set.now) m.set.now) (ap lowercase_name at ∙ lower-twice name)

-- What a search by the key of a name found.
pub found-match : (sets : List RRset) (key name : DomainName) (t : RecordType) (m : Match) → key ≡ lowercase_name name
    → option_map (match_set key) (Some m) ≡ found sets key t → found sets name t ≡ Some (match_set name m)
found-match sets key name t m at f =
    sym (found-keyed sets key name t at) ∙ sym f ∙ ap (λ (set : RRset). Some set) (match-keyed key name m at)

pub found-none : (sets : List RRset) (key name : DomainName) (t : RecordType) → key ≡ lowercase_name name
    → option_map (match_set key) None ≡ found sets key t → found sets name t ≡ None
found-none sets key name t at f = sym (found-keyed sets key name t at) ∙ sym f

-- ---- what renaming leaves as it is
of_match : {X : Type 0} (of : RRset → X) → ((owner : DomainName) (set : RRset) → of (renamed owner set) ≡ of set) → (name : DomainName) (m : Match) → of (match_set name m) ≡ of m.set.now
of_match {X} of same name m = by m.is_wildcard
  where
    by : (b : Bool) → of (cond b (renamed (lowercase_name name) m.set.now) m.set.now) ≡ of m.set.now
    by true = same (lowercase_name name) m.set.now
    by false = refl

target-renamed : (owner : DomainName) (rs : List Record) → first_target (map (renamed_record owner) rs) ≡ first_target rs
target-renamed owner [] = refl
target-renamed owner (r ∷ rs) = refl

targets-renamed : (owner : DomainName) (rs : List Record) → targets (map (renamed_record owner) rs) ≡ targets rs
targets-renamed owner [] = refl
targets-renamed owner (r ∷ rs) = ap (cons_option (target_of r.rdata)) (targets-renamed owner rs)

ttl-renamed : (owner : DomainName) (rs : List Record) → alias_ttl (map (renamed_record owner) rs) ≡ alias_ttl rs
ttl-renamed owner [] = refl
ttl-renamed owner (r ∷ rs) = refl

records-flattened : (owner other : DomainName) (ttl : ℕ) (rs : List Record) → map (flattened_record owner ttl) (map (renamed_record other) rs) ≡ map (flattened_record owner ttl) rs
records-flattened owner other ttl [] = refl
records-flattened owner other ttl (r ∷ rs) = ap (λ (later : List Record). flattened_record owner ttl r ∷ later) (records-flattened owner other ttl rs)

pub match-type : (name : DomainName) (m : Match) → (match_set name m).record_type ≡ m.set.now.record_type
match-type name m = of_match (λ set. set.record_type) (λ owner set. refl) name m

pub match-target : (name : DomainName) (m : Match) → first_target (match_set name m).records ≡ first_target m.set.now.records
match-target name m = of_match (λ set. first_target set.records) (λ owner set. target-renamed owner set.records) name m

pub match-targets : (name : DomainName) (m : Match) → targets (match_set name m).records ≡ targets m.set.now.records
match-targets name m = of_match (λ set. targets set.records) (λ owner set. targets-renamed owner set.records) name m

pub match-ttl : (name : DomainName) (m : Match) → alias_ttl (match_set name m).records ≡ alias_ttl m.set.now.records
match-ttl name m = of_match (λ set. alias_ttl set.records) (λ owner set. ttl-renamed owner set.records) name m

pub match-leads : (t : RecordType) (name : DomainName) (m : Match) → leads t (match_set name m) ≡ leads t m.set.now
match-leads t name m =
    of_match (leads t)
    (λ owner set. ap (λ (to : Option DomainName). cond (same_record_type set.record_type kind.CNAME && not (same_record_type t kind.CNAME)) to None) (target-renamed owner set.records))
    name m

pub match-flattened : (owner : DomainName) (ttl : ℕ) (name : DomainName) (m : Match) → flattened_set owner ttl (match_set name m) ≡ flattened_set owner ttl m.set.now
match-flattened owner ttl name m =
    of_match (flattened_set owner ttl)
    (λ other set. ap (λ (rs : List Record). record set { name = owner; records = rs; signatures = [] }) (records-flattened owner other ttl set.records)) name m
