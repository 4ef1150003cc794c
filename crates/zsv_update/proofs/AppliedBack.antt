-- What an update that adds servable records leaves of a zone whose records are servable.
use Rattle.std.proofs.Common.{◌≡◌, ◌++◌, refl, subst, sym}
use Rattle.std.specs.Prelude.{Bool, true, false, not, ◌&&◌, cond, nat_lt, List, [], ◌∷◌, Option, Some, None, IfSome, Result, find, filter, map}
use Rattle.std.specs.List.{AllByRecursion, flat_map}
use Rattle.zsv_chains.specs.zst_key.Ancestors.{or_else}
use Rattle.zsv_chains.specs.zst_request.Applied.{LeavesZone, Owned, all_applied, any_changes, applied, if_filled, if_soa_raised, is_added, is_deleted, is_taken_from, left_by, raised, taken_from, updated}
use Rattle.zsv_chains.specs.zst_request.Prerequisites.{first_refused, has_data, is_well_formed, prerequisites_refused, prescan_refused, refused_if}
use Rattle.zsv_chains.specs.zst_request.Updating.{Asked, ChangesBy, UpdatesView, permission_refused, soa_refused, update_refused}
use Rattle.zsv_chains.specs.zst_request.Views.{Blocked, Stored, View}
use Rattle.zsv_chains.specs.zst_request.dnw_codes.RecordType.{record_type_number, same_record_type}
use Rattle.zsv_chains.specs.zst_request.dnw_codes.declared.dns_class.DNSClass.{DNSClass}
use Rattle.zsv_chains.specs.zst_request.dnw_codes.declared.dns_class.DNSClass.TheVariants as classes
use Rattle.zsv_chains.specs.zst_request.dnw_codes.declared.record_type.RecordType.TheVariants as kind
use Rattle.zsv_chains.specs.zst_request.dnw_name.DomainName.{DomainName, name_eq}
use Rattle.zsv_chains.specs.zst_request.drd_rdata.Order.{rdata_eq}
use Rattle.zsv_chains.specs.zst_request.drd_rdata.Types.{type_of}
use Rattle.zsv_chains.specs.zst_request.drd_rdata.declared.rdata.RData.{RData}
use Rattle.zsv_chains.specs.zst_request.zst_codes.declared.response_code.ResponseCode.{ResponseCode}
use Rattle.zsv_chains.specs.zst_request.zst_codes.declared.response_code.ResponseCode.TheVariants as codes
use Rattle.zsv_chains.specs.zst_request.zst_handler.Lookups.{sets_of_name}
use Rattle.zsv_chains.specs.zst_request.zst_handler.Updates.{set_of_type, upserted, with_set}
use Rattle.zsv_chains.specs.zst_request.zst_handler.Zones.{SetReadsBack, Zone, ZoneReadsBack}
use Rattle.zsv_chains.specs.zst_request.zst_record.RecordLaws.{name_eq_equiv}
use Rattle.zsv_chains.specs.zst_request.zst_record.RecordSets.{RRset, is_single, left_of, none_left, put_record, raised_set, removed, without}
use Rattle.zsv_chains.specs.zst_request.zst_record.Records.{IsServable}
use Rattle.zsv_chains.specs.zst_request.zst_record.declared.records.Record.{Record}
use Rattle.zsv_update.specs.ReadingBack.{AdditionsAreServable, IsServableIfAdded, ViewReadsBack}
use Rattle.zsv_update.proofs.RaisedBack.{raised_back}

-- ---- lists
module _ {X : Type 0} (P : X → Type 0) where
  all_joined : (xs ys : List X) → AllByRecursion P xs → AllByRecursion P ys → AllByRecursion P (xs ++ ys)
  all_joined [] ys first second = second
  all_joined (x ∷ xs) ys first second = (first.0, all_joined xs ys first.1 second)

  all_filtered : (test : X → Bool) (xs : List X) → AllByRecursion P xs → AllByRecursion P (filter test xs)
  all_filtered test [] all = tt
  all_filtered test (x ∷ xs) all = by (test x) (all_filtered test xs all.1)
    where
      by : (b : Bool) → AllByRecursion P (filter test xs) → AllByRecursion P (cond b (x ∷ filter test xs) (filter test xs))
      by true more = (all.0, more)
      by false more = more

  if_found : (test : X → Bool) (xs : List X) → AllByRecursion P xs → IfSome (find test xs) P
  if_found test [] all = tt
  if_found test (x ∷ xs) all = by (test x) (if_found test xs all.1)
    where
      by : (b : Bool) → IfSome (find test xs) P → IfSome (cond b (Some x) (find test xs)) P
      by true more = all.0
      by false more = more

-- ---- one set
one_or_put : (b : Bool) (rs : List Record) (r : Record) → AllByRecursion IsServable rs → IsServable r → AllByRecursion IsServable (cond b (r ∷ []) (put_record rs r))
one_or_put true rs r all new = (new, tt)
one_or_put false [] r all new = (new, tt)
one_or_put false (s ∷ ss) r all new = by (rdata_eq s.rdata r.rdata) (one_or_put false ss r all.1 new)
  where
    by : (b : Bool) → AllByRecursion IsServable (put_record ss r) → AllByRecursion IsServable (cond b (r ∷ ss) (s ∷ put_record ss r))
    by true more = (new, all.1)
    by false more = (all.0, more)

upserted_back : (o : Option RRset) (r : Record) → IfSome o SetReadsBack → IsServable r → SetReadsBack (upserted o r)
upserted_back None r old new = record { records = (new, tt); signatures = tt }
upserted_back (Some set) r old new = record { records = one_or_put (is_single set.record_type) set.records r old.records new; signatures = tt }

without_back : (rs : List Record) (value : RData) → AllByRecursion IsServable rs → AllByRecursion IsServable (without rs value)
without_back [] value all = tt
without_back (s ∷ ss) value all = by (rdata_eq s.rdata value) (without_back ss value all.1)
  where
    by : (b : Bool) → AllByRecursion IsServable (without ss value) → AllByRecursion IsServable (cond b ss (s ∷ without ss value))
    by true more = all.1
    by false more = (all.0, more)

left_back : (set : RRset) (rs : List Record) → AllByRecursion IsServable rs → SetReadsBack (left_of set rs)
left_back set [] all = record { records = tt; signatures = tt }
left_back set (r ∷ rs) all = record { records = all; signatures = tt }

filled_back : (set : RRset) → SetReadsBack set → AllByRecursion SetReadsBack (if_filled set)
filled_back set back = by (none_left set.records)
  where
    by : (b : Bool) → AllByRecursion SetReadsBack (cond b [] (set ∷ []))
    by true = tt
    by false = (back, tt)

taken_back : (r : Record) (set : RRset) → SetReadsBack set → AllByRecursion SetReadsBack (taken_from r set)
taken_back r set back = by (is_taken_from r set)
  where
    by : (b : Bool) → AllByRecursion SetReadsBack (cond b (if_filled (removed set r)) (set ∷ []))
    by true = filled_back (removed set r) (left_back set (without set.records r.rdata) (without_back set.records r.rdata back.records))
    by false = (back, tt)

-- ---- the sets of one owner
with_back : (sets : List RRset) (new : RRset) → AllByRecursion SetReadsBack sets → SetReadsBack new → AllByRecursion SetReadsBack (with_set sets new)
with_back [] new all back = (back, tt)
with_back (set ∷ sets) new all back =
    by (nat_lt (record_type_number set.record_type) (record_type_number new.record_type)) (same_record_type set.record_type new.record_type) (with_back sets new all.1 back)
  where
    by : (b c : Bool) → AllByRecursion SetReadsBack (with_set sets new) → AllByRecursion SetReadsBack (cond b (set ∷ with_set sets new) (cond c (new ∷ sets) (new ∷ set ∷ sets)))
    by true c more = (all.0, more)
    by false true more = (back, all.1)
    by false false more = (back, all)

all_taken : (r : Record) (sets : List RRset) → AllByRecursion SetReadsBack sets → AllByRecursion SetReadsBack (flat_map (taken_from r) sets)
all_taken r [] all = tt
all_taken r (set ∷ sets) all = all_joined SetReadsBack (taken_from r set) (flat_map (taken_from r) sets) (taken_back r set all.0) (all_taken r sets all.1)

left_by_back : (at_apex : Bool) (sets : List RRset) (r : Record) (class : DNSClass) → AllByRecursion SetReadsBack sets → (class ≡ classes.IN → IsServable r) → AllByRecursion SetReadsBack (left_by at_apex sets r class)
left_by_back at_apex sets r classes.IN all new = by (is_added sets r)
  where
    by : (b : Bool) → AllByRecursion SetReadsBack (cond b (with_set sets (upserted (set_of_type (type_of r.rdata) sets) r)) sets)
    by true =
        with_back sets (upserted (set_of_type (type_of r.rdata) sets) r) all
        (upserted_back (set_of_type (type_of r.rdata) sets) r (if_found SetReadsBack (λ set. same_record_type set.record_type (type_of r.rdata)) sets all) (new refl))
    by false = all
left_by_back at_apex sets r classes.ANY all new = all_filtered SetReadsBack (λ set. not (is_deleted at_apex r set)) sets all
left_by_back at_apex sets r classes.NONE all new = all_taken r sets all
left_by_back at_apex sets r other all new = all

all_raised : (sets : List RRset) → AllByRecursion SetReadsBack sets → AllByRecursion SetReadsBack (map if_soa_raised sets)
all_raised [] all = tt
all_raised (set ∷ sets) all = (by (same_record_type set.record_type kind.SOA), all_raised sets all.1)
  where
    by : (b : Bool) → SetReadsBack (cond b (raised_set set) set)
    by true = raised_back set all.0
    by false = all.0

-- ---- the sets of all names
abbrev OwnedReadsBack : Owned → Type 0
OwnedReadsBack at = (name : DomainName) → AllByRecursion SetReadsBack (at name)

-- Records that an update has added are of class IN.
abbrev IsServableInClass : Record → Type 0
IsServableInClass r = r.dns_class ≡ classes.IN → IsServable r

module _ (origin : DomainName) where
  applied_back : (at : Owned) (r : Record) → OwnedReadsBack at → IsServableInClass r → OwnedReadsBack (applied origin at r)
  applied_back at r back new name = by (name_eq r.name name)
    where
      by : (b : Bool) → AllByRecursion SetReadsBack (cond b (left_by (name_eq r.name origin) (at name) r r.dns_class) (at name))
      by true = left_by_back (name_eq r.name origin) (at name) r r.dns_class (back name) new
      by false = back name

  all_back : (at : Owned) (rs : List Record) → OwnedReadsBack at → AllByRecursion IsServableInClass rs → OwnedReadsBack (all_applied origin at rs)
  all_back at [] back new = back
  all_back at (r ∷ rs) back new = all_back (applied origin at r) rs (applied_back at r back new.0) new.1

  raised_owned : (at : Owned) → OwnedReadsBack at → OwnedReadsBack (raised origin at)
  raised_owned at back name = by (name_eq origin name)
    where
      by : (b : Bool) → AllByRecursion SetReadsBack (cond b (map if_soa_raised (at name)) (at name))
      by true = all_raised (at name) (back name)
      by false = back name

updated_back : (zone : Zone) (increment : Bool) (rs : List Record) → ZoneReadsBack zone → AllByRecursion IsServableInClass rs → OwnedReadsBack (updated zone increment rs)
updated_back zone increment rs back new = by (increment && any_changes zone.origin (sets_of_name zone.sets) rs)
  where
    after : OwnedReadsBack (all_applied zone.origin (sets_of_name zone.sets) rs)
    after = all_back zone.origin (sets_of_name zone.sets) rs (λ name. all_filtered SetReadsBack (λ set. name_eq name set.name) zone.sets back) new

    by : (b : Bool) → OwnedReadsBack (cond b (raised zone.origin (all_applied zone.origin (sets_of_name zone.sets) rs)) (all_applied zone.origin (sets_of_name zone.sets) rs))
    by true = raised_owned zone.origin (all_applied zone.origin (sets_of_name zone.sets) rs) after
    by false = after

-- ---- the whole zone
-- Each set is among those of its own name.
module _ (P : RRset → Type 0) where
  is_first : (b : Bool) (x : RRset) (xs ys : List RRset) → b ≡ true → AllByRecursion P (cond b (x ∷ xs) ys) → P x
  is_first true x xs ys e all = all.0
  is_first false x xs ys e all = absurd (cc e)

  are_later : (b : Bool) (x : RRset) (xs : List RRset) → AllByRecursion P (cond b (x ∷ xs) xs) → AllByRecursion P xs
  are_later true x xs all = all.1
  are_later false x xs all = all

  all_named : (xs : List RRset) → ((name : DomainName) → AllByRecursion P (sets_of_name xs name)) → AllByRecursion P xs
  all_named [] all = tt
  all_named (x ∷ xs) all = (
    is_first (name_eq x.name x.name) x (sets_of_name xs x.name) (sets_of_name xs x.name) (name_eq_equiv.refl x.name) (all x.name),
    all_named xs (λ name. are_later (name_eq name x.name) x (sets_of_name xs name) (all name)),
  )

zone_back : (zone new : Zone) (increment : Bool) (rs : List Record) → ZoneReadsBack zone → AllByRecursion IsServableInClass rs → LeavesZone zone (updated zone increment rs) new → ZoneReadsBack new
zone_back zone new increment rs back servable leaves =
    all_named SetReadsBack new.sets (λ name. subst (AllByRecursion SetReadsBack) (sym (leaves.sets name)) (updated_back zone increment rs back servable name))

-- ---- the prescan lets records of class IN through only with data
module _ {X : Type 0} where
  none_first : (a b : Option X) → or_else a b ≡ None → a ≡ None
  none_first None b e = refl
  none_first (Some x) b e = absurd (cc e)

  none_second : (a b : Option X) → or_else a b ≡ None → b ≡ None
  none_second None b e = e
  none_second (Some x) b e = absurd (cc e)

not_refused : (test : Bool) (code : ResponseCode) → refused_if (not test) code ≡ None → test ≡ true
not_refused true code e = refl
not_refused false code e = absurd (cc e)

both_first : (a b : Bool) → (a && b) ≡ true → a ≡ true
both_first true b e = refl
both_first false b e = absurd (cc e)

well_formed : (origin : DomainName) (r : Record) → prescan_refused origin r ≡ None → is_well_formed r r.dns_class ≡ true
well_formed origin r none = not_refused (is_well_formed r r.dns_class) codes.FormErr (none_second (refused_if _ codes.NotZone) (refused_if (not (is_well_formed r r.dns_class)) codes.FormErr) none)

in_class : (r : Record) → is_well_formed r r.dns_class ≡ true → IsServableIfAdded r → IsServableInClass r
in_class r formed servable class =
    servable class (both_first (has_data r) (not _) (subst (λ (c : DNSClass). is_well_formed r c ≡ true) class formed))

all_in_class : (origin : DomainName) (rs : List Record) → first_refused (prescan_refused origin) rs ≡ None → AdditionsAreServable rs → AllByRecursion IsServableInClass rs
all_in_class origin [] none all = tt
all_in_class origin (r ∷ rs) none all = (
  in_class r (well_formed origin r (none_first (prescan_refused origin r) (first_refused (prescan_refused origin) rs) none)) all.0,
  all_in_class origin rs (none_second (prescan_refused origin r) (first_refused (prescan_refused origin) rs) none) all.1,
)

prescanned : (zone : Zone) (asked : Asked) → update_refused zone asked ≡ None → first_refused (prescan_refused zone.origin) asked.updates ≡ None
prescanned zone asked none =
    let form = or_else (first_refused (prescan_refused zone.origin) asked.updates) (soa_refused zone asked.updates) in
    let later = or_else (prerequisites_refused zone asked.prerequisites) form in
    none_first (first_refused (prescan_refused zone.origin) asked.updates) (soa_refused zone asked.updates)
    (none_second (prerequisites_refused zone asked.prerequisites) form (none_second (permission_refused zone.guard asked.signed asked.verdict) later none))

-- ---- the view
-- An update whose additions are servable leaves a view that can be served.
pub view_back : (view left : View) (asked : Asked) (outcome : Result Bool ResponseCode) → ViewReadsBack view → AdditionsAreServable asked.updates → UpdatesView view asked outcome left → ViewReadsBack left
view_back (Blocked blocklist) left asked outcome back servable (refused, is) = subst ViewReadsBack (sym is) back
view_back (Stored zone) left asked outcome back servable (after, changes, is) = subst ViewReadsBack (sym is) (by (update_refused zone asked) refl changes)
  where
    by : (o : Option ResponseCode) → update_refused zone asked ≡ o → ChangesBy o true zone asked.updates outcome after → ViewReadsBack (Stored after)
    by (Some code) e refused = subst (λ (z : Zone). ViewReadsBack (Stored z)) (sym refused.1) back
    by None e accepted = (accepted.1.stored, zone_back zone after true asked.updates back.1 (all_in_class zone.origin asked.updates (prescanned zone asked e) servable) accepted.1)
