-- What an update leaves of a zone's sets.
use Rattle.std.proofs.Common.{◌≡◌, ℕ, refl, sym, ◌∙◌, ap}
use Rattle.std.specs.Prelude.{Bool, true, false, not, ◌&&◌, ◌||◌, ◌==◌, List, [], ◌∷◌, Option, Some, None, cond, find}
use Rattle.std.proofs.lemmas.Bool.{and_parts, eqb-true, true≢false}
use Rattle.zst_handler.specs.dnw_codes.declared.record_type.RecordType.{RecordType}
use Rattle.zst_handler.specs.dnw_codes.RecordType.{record_type_number, same_record_type}
use Rattle.zst_handler.specs.dnw_name.DomainName.{DomainName, lowercase_name, name_eq}
use Rattle.zst_handler.specs.drd_rdata.Types.{type_of}
use Rattle.zst_handler.specs.zst_record.declared.records.Record.{Record}
use Rattle.zst_handler.specs.zst_record.RecordSets.{RRset, inserted, set_with}
use Rattle.zst_key.proofs.KeyLemmas.{eq-lower-first}
use Rattle.zst_handler.specs.Lookups.{sets_of_name}
use Rattle.zst_handler.specs.Updates.{Replaces, joins, upserted}
use Rattle.zst_handler.specs.Zones.{Adds, AreInOrder, rrset_at}
use Rattle.zst_map.specs.Changes.{alters, made}
use Rattle.zst_map.specs.declared.change.Change.TheVariants as changes
use Rattle.zst_map.proofs.Indexed.{rrset_same}
use Rattle.zst_map.proofs.ZoneOnce.{sets_once}

-- ---- one name and one type, spelled in two ways
pub sets_named : (zone : List RRset) (name : DomainName) → sets_of_name zone (lowercase_name name) ≡ sets_of_name zone name
sets_named [] name = refl
sets_named (set ∷ sets) name =
    ap (λ (b : Bool). cond b (set ∷ sets_of_name sets (lowercase_name name)) (sets_of_name sets (lowercase_name name))) (eq-lower-first name set.name)
    ∙ ap (λ (ss : List RRset). cond (name_eq name set.name) (set ∷ ss) ss) (sets_named sets name)

same_at : (sets : List RRset) (a b : DomainName) (t u : RecordType) → name_eq a b ≡ true → same_record_type u t ≡ true → rrset_at sets b u ≡ rrset_at sets a t
same_at sets a b t u named kind =
    rrset_same sets a b u named
    ∙ ap (λ (n : ℕ). find (λ set. name_eq a set.name && record_type_number set.record_type == n) sets) (eqb-true (record_type_number u) (record_type_number t) kind)

-- ---- a record that is added
pub adds_of : (old : List RRset) (r : Record) (new : List RRset) → Replaces old r.name (type_of r.rdata) (Some (set_with (rrset_at old r.name (type_of r.rdata)) r)) new → Adds old r new
adds_of old r new replaces = λ name t. replaces name t ∙ by name t (name_eq name r.name && same_record_type (type_of r.rdata) t) refl
  where
    by : (name : DomainName) (t : RecordType) (b : Bool) → (name_eq name r.name && same_record_type (type_of r.rdata) t) ≡ b
        → cond b (Some (set_with (rrset_at old r.name (type_of r.rdata)) r)) (rrset_at old name t) ≡ cond b (Some (set_with (rrset_at old name t) r)) (rrset_at old name t)
    by name t true e =
        let p = and_parts (name_eq name r.name) (same_record_type (type_of r.rdata) t) e in
        ap (λ (o : Option RRset). Some (set_with o r)) (same_at old name r.name t (type_of r.rdata) p.0 p.1)
    by name t false e = refl

-- ---- a record that an update adds
pub kept_out : (a b c : Bool) → (not a || b) ≡ true → false ≡ (a && (not b && c))
kept_out true true c e = refl
kept_out true false c e = absurd (true≢false (sym e))
kept_out false b c e = refl

pub let_in : (a b c : Bool) → (not a || b) ≡ false → c ≡ (a && (not b && c))
let_in true true c e = absurd (true≢false e)
let_in true false c e = refl
let_in false b c e = absurd (true≢false e)

pub alters_joins : (o : Option RRset) (r : Record) → alters (changes.Upsert r) o ≡ joins o r
alters_joins None r = refl
alters_joins (Some set) r = refl

pub made_upserted : (o : Option RRset) (r : Record) → joins o r ≡ true → made (changes.Upsert r) o ≡ upserted o r
made_upserted None r joined = refl
made_upserted (Some set) r joined = ap (λ (b : Bool). cond b (inserted set r) set) joined

made_left : (o : Option RRset) (r : Record) → joins o r ≡ false → Some (made (changes.Upsert r) o) ≡ o
made_left None r joined = absurd (true≢false joined)
made_left (Some set) r joined = ap (λ (b : Bool). Some (cond b (inserted set r) set)) joined

-- where the record is there, the sets are as they were
pub left_alone : (old : List RRset) (r : Record) (new : List RRset) → AreInOrder old → AreInOrder new → joins (rrset_at old r.name (type_of r.rdata)) r ≡ false
    → Replaces old r.name (type_of r.rdata) (Some (made (changes.Upsert r) (rrset_at old r.name (type_of r.rdata)))) new → new ≡ old
left_alone old r new before after joined replaces =
    sets_once new old after before (λ name t. replaces name t ∙ by name t (name_eq name r.name && same_record_type (type_of r.rdata) t) refl)
  where
    by : (name : DomainName) (t : RecordType) (b : Bool) → (name_eq name r.name && same_record_type (type_of r.rdata) t) ≡ b
        → cond b (Some (made (changes.Upsert r) (rrset_at old r.name (type_of r.rdata)))) (rrset_at old name t) ≡ rrset_at old name t
    by name t true e =
        let p = and_parts (name_eq name r.name) (same_record_type (type_of r.rdata) t) e in
        made_left (rrset_at old r.name (type_of r.rdata)) r joined ∙ same_at old name r.name t (type_of r.rdata) p.0 p.1
    by name t false e = refl
