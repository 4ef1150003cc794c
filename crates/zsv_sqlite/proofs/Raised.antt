-- The serial number of the SOA at the apex is raised.
use Rattle.std.proofs.Common.{◌≡◌, ℕ, ◌<◌, refl, ap, sym, subst, ◌∙◌}
use Rattle.std.specs.Prelude.{Bool, true, false, not, ◌&&◌, ◌==◌, List, [], ◌∷◌, Option, Some, None, Ok, Err, cond, find, is_some, map, option_map}
use Rattle.std.specs.List.{AllByRecursion}
use Rattle.std.proofs.lemmas.Bool.{eq-eqb, eqb-true}
use Rattle.std.proofs.lemmas.Cmp.{nat_eq_equiv}
use Rattle.zst_map.specs.dnw_codes.declared.record_type.RecordType.{RecordType}
use Rattle.zst_map.specs.dnw_codes.declared.record_type.RecordType.TheVariants as kind
use Rattle.zst_map.specs.dnw_codes.RecordType.{record_type_number, same_record_type}
use Rattle.zst_map.specs.dnw_name.DomainName.{DomainName, lowercase_name, name_eq}
use Rattle.zst_map.specs.zst_handler.Lookups.{sets_of_name}
use Rattle.zst_map.specs.zst_handler.Updates.{ZoneReplaces, set_of_type}
use Rattle.zst_map.specs.zst_handler.Zones.{AreInOrder, AreStored, Zone, rrset_at}
use Rattle.zst_map.specs.zst_record.RecordLaws.{name_eq_equiv}
use Rattle.zst_map.specs.zst_record.RecordSets.{RRset, raised_set}
use Rattle.zst_map.specs.zst_record.declared.records.Record.{Record}
use Rattle.zst_map.specs.ZoneMaps.{TypesRise}
use Rattle.zst_map.proofs.Indexed.{rrset_same}
use Rattle.zst_map.proofs.NamedSets.{type_among}
use Rattle.zst_map.proofs.NodeSets.{found_type}
use Rattle.zst_draft.proofs.DraftedZones.{name_rises}
use Rattle.zst_draft.proofs.Names.{eq_lower}
use Rattle.zst_draft.proofs.OwnerSets.{owner_once}
use Rattle.zst_request.specs.Applied.{LeavesZone, Owned, all_applied, any_changes, if_soa_raised, raised}
use Rattle.zst_request.specs.Prerequisites.{refused_if}
use Rattle.zst_request.specs.Updating.{ChangesBy, soa_refused}
use Rattle.zst_request.specs.zst_codes.declared.response_code.ResponseCode.{ResponseCode}
use Rattle.zst_request.specs.zst_codes.declared.response_code.ResponseCode.TheVariants as codes

abbrev is_soa : RRset → Bool
is_soa set = same_record_type set.record_type kind.SOA

raised_type : (set : RRset) → (if_soa_raised set).record_type ≡ set.record_type
raised_type set = by (is_soa set)
  where
    by : (b : Bool) → (cond b (raised_set set) set).record_type ≡ set.record_type
    by true = refl
    by false = refl

-- ---- the sets of one owner
above_raised : (n : ℕ) (sets : List RRset) → AllByRecursion (λ later. n < record_type_number later.record_type) sets → AllByRecursion (λ later. n < record_type_number later.record_type) (map if_soa_raised sets)
above_raised n [] all = tt
above_raised n (s ∷ sets) all = (subst (λ (t : RecordType). n < record_type_number t) (sym (raised_type s)) all.0, above_raised n sets all.1)

rise_raised : (sets : List RRset) → TypesRise sets → TypesRise (map if_soa_raised sets)
rise_raised [] rise = tt
rise_raised (s ∷ sets) rise = (
  subst (λ (t : RecordType). AllByRecursion (λ later. record_type_number t < record_type_number later.record_type) (map if_soa_raised sets)) (sym (raised_type s))
      (above_raised (record_type_number s.record_type) sets rise.0),
  rise_raised sets rise.1,
)

pub type_raised : (t : RecordType) (sets : List RRset) → set_of_type t (map if_soa_raised sets) ≡ option_map if_soa_raised (set_of_type t sets)
type_raised t [] = refl
type_raised t (s ∷ sets) =
    ap (λ (u : RecordType). cond (same_record_type u t) (Some (if_soa_raised s)) (set_of_type t (map if_soa_raised sets))) (raised_type s)
    ∙ ap (cond (same_record_type s.record_type t) (Some (if_soa_raised s))) (type_raised t sets)
    ∙ by (same_record_type s.record_type t)
  where
    by : (b : Bool) → cond b (Some (if_soa_raised s)) (option_map if_soa_raised (set_of_type t sets)) ≡ option_map if_soa_raised (cond b (Some s) (set_of_type t sets))
    by true = refl
    by false = refl

none_raised : (sets : List RRset) → set_of_type kind.SOA sets ≡ None → map if_soa_raised sets ≡ sets
none_raised [] none = refl
none_raised (s ∷ sets) none = by (is_soa s) refl none (none_raised sets)
  where
    by : (b : Bool) → is_soa s ≡ b → cond b (Some s) (set_of_type kind.SOA sets) ≡ None → (set_of_type kind.SOA sets ≡ None → map if_soa_raised sets ≡ sets) → map if_soa_raised (s ∷ sets) ≡ s ∷ sets
    by true is e more = let h : ⊥ = cc in absurd h
    by false is e more = ap (λ (b : Bool). cond b (raised_set s) s ∷ map if_soa_raised sets) is ∙ ap (λ (xs : List RRset). s ∷ xs) (more e)

-- ---- the zone, where the apex has an SOA set
module _ (old new : Zone) (key : DomainName) (set : RRset) (keyed : key ≡ lowercase_name old.origin) (found : rrset_at old.sets key kind.SOA ≡ Some set)
    (replaces : ZoneReplaces old key kind.SOA (Some (raised_set set)) new) where
  at_apex : (name : DomainName) → name_eq name key ≡ name_eq old.origin name
  at_apex name = name_eq_equiv.symm name key ∙ ap (λ (n : DomainName). name_eq n name) keyed ∙ eq_lower kind.SOA old.origin name

  of_type : (t : RecordType) (name : DomainName) (s : RRset) → rrset_at old.sets name t ≡ Some s → record_type_number s.record_type ≡ record_type_number t
  of_type t name s e = found_type t (sets_of_name old.sets name) s (sym (type_among old.sets name t) ∙ e)

  -- Of the apex the SOA set alone is raised.
  one_raised : (name : DomainName) (t : RecordType) → name_eq old.origin name ≡ true
      → cond (same_record_type kind.SOA t) (Some (raised_set set)) (rrset_at old.sets name t) ≡ option_map if_soa_raised (rrset_at old.sets name t)
  one_raised name t here = by (same_record_type kind.SOA t) refl
    where
      as_soa : same_record_type kind.SOA t ≡ true → rrset_at old.sets name t ≡ Some set
      as_soa same =
          ap (λ (n : ℕ). find (λ (s : RRset). name_eq name s.name && (record_type_number s.record_type == n)) old.sets) (sym (eqb-true (record_type_number kind.SOA) (record_type_number t) same))
          ∙ rrset_same old.sets key name kind.SOA (name_eq_equiv.symm key name ∙ at_apex name ∙ here)
          ∙ found

      is_raised : if_soa_raised set ≡ raised_set set
      is_raised =
          ap (λ (b : Bool). cond b (raised_set set) set)
          (eq-eqb (record_type_number set.record_type) (record_type_number kind.SOA) (of_type kind.SOA key set found))

      other : same_record_type kind.SOA t ≡ false → (o : Option RRset) → rrset_at old.sets name t ≡ o → o ≡ option_map if_soa_raised o
      other apart None e = refl
      other apart (Some s) e =
          ap (λ (b : Bool). Some (cond b (raised_set s) s))
          (sym (ap (λ (n : ℕ). n == record_type_number kind.SOA) (of_type t name s e) ∙ flipped ∙ apart))
        where
          flipped : (record_type_number t == record_type_number kind.SOA) ≡ same_record_type kind.SOA t
          flipped = turned (record_type_number t) (record_type_number kind.SOA)
            where
              turned : (m n : ℕ) → (m == n) ≡ (n == m)
              turned m n = nat_eq_equiv.symm m n

      by : (b : Bool) → same_record_type kind.SOA t ≡ b → cond b (Some (raised_set set)) (rrset_at old.sets name t) ≡ option_map if_soa_raised (rrset_at old.sets name t)
      by true same = sym (ap (option_map if_soa_raised) (as_soa same) ∙ ap Some is_raised)
      by false apart = other apart (rrset_at old.sets name t) refl

  each_type : (name : DomainName) (t : RecordType) → set_of_type t (sets_of_name new.sets name) ≡ set_of_type t (raised old.origin (sets_of_name old.sets) name)
  each_type name t =
      sym (type_among new.sets name t) ∙ replaces.replaces name t
      ∙ ap (λ (b : Bool). cond (b && same_record_type kind.SOA t) (Some (raised_set set)) (rrset_at old.sets name t)) (at_apex name)
      ∙ by (name_eq old.origin name) refl
    where
      by : (b : Bool) → name_eq old.origin name ≡ b
          → cond (b && same_record_type kind.SOA t) (Some (raised_set set)) (rrset_at old.sets name t) ≡ set_of_type t (cond b (map if_soa_raised (sets_of_name old.sets name)) (sets_of_name old.sets name))
      by true here = one_raised name t here ∙ ap (option_map if_soa_raised) (type_among old.sets name t) ∙ sym (type_raised t (sets_of_name old.sets name))
      by false there = type_among old.sets name t

  rises : AreInOrder old.sets → (name : DomainName) → TypesRise (raised old.origin (sets_of_name old.sets) name)
  rises ordered name = by (name_eq old.origin name)
    where
      by : (b : Bool) → TypesRise (cond b (map if_soa_raised (sets_of_name old.sets name)) (sets_of_name old.sets name))
      by true = rise_raised (sets_of_name old.sets name) (name_rises name old.sets ordered)
      by false = name_rises name old.sets ordered

  pub raises : AreInOrder old.sets → AreStored new.sets → LeavesZone old (raised old.origin (sets_of_name old.sets)) new
  raises ordered stored = record {
    sets = λ name. owner_once (sets_of_name new.sets name) (raised old.origin (sets_of_name old.sets) name) (name_rises name new.sets replaces.ordered) (rises ordered name) (each_type name);
    ordered = replaces.ordered;
    stored = stored;
    rest = replaces.rest;
  }

-- ---- the zone, where it has none
pub raises_none : (zone : Zone) (key : DomainName) → key ≡ lowercase_name zone.origin → rrset_at zone.sets key kind.SOA ≡ None → AreInOrder zone.sets → AreStored zone.sets
    → LeavesZone zone (raised zone.origin (sets_of_name zone.sets)) zone
raises_none zone key keyed none ordered stored = record { sets = λ name. by name (name_eq zone.origin name) refl; ordered = ordered; stored = stored; rest = refl }
  where
    by : (name : DomainName) (b : Bool) → name_eq zone.origin name ≡ b → sets_of_name zone.sets name ≡ cond b (map if_soa_raised (sets_of_name zone.sets name)) (sets_of_name zone.sets name)
    by name true here =
        sym (none_raised (sets_of_name zone.sets name)
        (sym (type_among zone.sets name kind.SOA)
        ∙ rrset_same zone.sets key name kind.SOA (ap (λ (n : DomainName). name_eq n name) keyed ∙ eq_lower kind.SOA zone.origin name ∙ here)
        ∙ none))
    by name false there = refl

-- ---- after the records of an update
pub then_raised : (old between new : Zone) (at : Owned) → LeavesZone old at between → LeavesZone between (raised between.origin (sets_of_name between.sets)) new → LeavesZone old (raised old.origin at) new
then_raised old between new at first second = record {
  sets = λ name. second.sets name
      ∙ ap (λ (o : DomainName). raised o (sets_of_name between.sets) name) (ap (λ (z : Zone). z.origin) first.rest)
      ∙ ap (λ (xs : List RRset). cond (name_eq old.origin name) (map if_soa_raised xs) xs) (first.sets name);
  ordered = second.ordered;
  stored = second.stored;
  rest = second.rest ∙ ap (λ (z : Zone). record z { sets = new.sets }) first.rest;
}

abbrev changed : Zone → List Record → Bool
changed zone rs = any_changes zone.origin (sets_of_name zone.sets) rs

abbrev pub has_soa : Zone → Bool
has_soa zone = is_some (rrset_at zone.sets zone.origin kind.SOA)

pub changes_raised : (old between new : Zone) (rs : List Record) → changed old rs ≡ true → has_soa old ≡ true → LeavesZone old (all_applied old.origin (sets_of_name old.sets) rs) between
    → LeavesZone between (raised between.origin (sets_of_name between.sets)) new → ChangesBy (soa_refused old rs) true old rs (Ok true) new
changes_raised old between new rs some soa first second =
    subst (λ (o : Option ResponseCode). ChangesBy o true old rs (Ok true) new) (sym accepted) (
      ap Ok (sym some),
      subst (λ (b : Bool). LeavesZone old (cond b (raised old.origin (all_applied old.origin (sets_of_name old.sets) rs)) (all_applied old.origin (sets_of_name old.sets) rs)) new) (sym some)
          (then_raised old between new (all_applied old.origin (sets_of_name old.sets) rs) first second),
    )
  where
    accepted : soa_refused old rs ≡ None
    accepted =
        ap (λ (b : Bool). refused_if (b && not (has_soa old)) codes.ServFail) some
        ∙ ap (λ (b : Bool). refused_if (not b) codes.ServFail) soa

pub changes_refused : (old : Zone) (rs : List Record) → changed old rs ≡ true → has_soa old ≡ false → ChangesBy (soa_refused old rs) true old rs (Err codes.ServFail) old
changes_refused old rs some soa =
    subst (λ (o : Option ResponseCode). ChangesBy o true old rs (Err codes.ServFail) old)
    (sym (ap (λ (b : Bool). refused_if (b && not (has_soa old)) codes.ServFail) some ∙ ap (λ (b : Bool). refused_if (not b) codes.ServFail) soa))
    (refl, refl)
