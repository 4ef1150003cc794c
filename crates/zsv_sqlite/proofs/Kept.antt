-- What updates keep: aliases stay alone, and the apex keeps its SOA and its name servers.
use Rattle.std.proofs.Common.{◌≡◌, ℕ, refl, ap, sym, subst, ◌∙◌, length}
use Rattle.std.specs.Prelude.{Bool, true, false, not, ◌&&◌, ◌||◌, ◌==◌, List, [], ◌∷◌, ◌++◌, Option, Some, None, Result, Ok, Err, IfOk, OnErr, IsSomeAnd, cond, filter, find, is_some, map, nat_le, nat_lt, option_map}
use Rattle.std.specs.List.{AllByRecursion, flat_map, list_any}
use Rattle.std.proofs.lemmas.Bool.{and_parts, and_right, eq-eqb, eqb-true, not-false, not-true, or_parts, true≢false}
use Rattle.zst_map.specs.dnw_codes.declared.dns_class.DNSClass.{DNSClass}
use Rattle.zst_map.specs.dnw_codes.declared.dns_class.DNSClass.TheVariants as classes
use Rattle.zst_map.specs.dnw_codes.declared.record_type.RecordType.{RecordType}
use Rattle.zst_map.specs.dnw_codes.declared.record_type.RecordType.TheVariants as kind
use Rattle.zst_map.specs.dnw_codes.RecordType.{record_type_number, same_record_type}
use Rattle.zst_map.specs.dnw_name.DomainName.{DomainName, name_eq}
use Rattle.zst_map.specs.drd_rdata.Order.{rdata_eq}
use Rattle.zst_map.specs.drd_rdata.Types.{type_of}
use Rattle.zst_map.specs.drd_rdata.declared.rdata.RData.{RData}
use Rattle.zst_map.specs.zst_handler.Lookups.{sets_of_name}
use Rattle.zst_map.specs.zst_handler.Updates.{are_apart, is_kept_out, joins, may_be_beside_alias, set_of_type, upserted, with_set}
use Rattle.zst_map.specs.zst_handler.Zones.{Zone}
use Rattle.zst_map.specs.zst_record.RecordSets.{RRset, is_single, keeps_last, left_of, loses, none_left, raised_first, raised_set, removed, with_one, without}
use Rattle.zst_map.specs.zst_record.declared.records.Record.{Record}
use Rattle.zst_map.proofs.NodeSets.{find_with, found_type}
use Rattle.zst_request.specs.Applied.{LeavesZone, Owned, all_applied, any_changes, applied, if_filled, if_soa_raised, is_added, is_deleted, is_taken_from, left_by, raised, stays, taken_from, updated}
use Rattle.zst_request.specs.Prerequisites.{asks_any}
use Rattle.zst_request.specs.Updating.{ChangesBy}
use Rattle.zst_request.specs.zst_codes.declared.response_code.ResponseCode.{ResponseCode}
use Rattle.zsv_sqlite.specs.Laws.{AliasesAlone, HasNs, HasOneSoa, IsAliasAlone}
use Rattle.zsv_sqlite.proofs.Raised.{type_raised}

-- ---- types, by their numbers
abbrev is_of : RecordType → RRset → Bool
is_of t set = same_record_type set.record_type t

abbrev number : RRset → ℕ
number set = record_type_number set.record_type

abbrev may_be : RRset → Bool
may_be set = may_be_beside_alias set.record_type

removed_type : (set : RRset) (r : Record) → (removed set r).record_type ≡ set.record_type
removed_type set r = by (without set.records r.rdata)
  where
    by : (rs : List Record) → (left_of set rs).record_type ≡ set.record_type
    by [] = refl
    by (s ∷ rs) = refl

raised_type : (set : RRset) → (if_soa_raised set).record_type ≡ set.record_type
raised_type set = by (is_of kind.SOA set)
  where
    by : (b : Bool) → (cond b (raised_set set) set).record_type ≡ set.record_type
    by true = refl
    by false = refl

upserted_number : (o : Option RRset) (r : Record) → ((s : RRset) → o ≡ Some s → number s ≡ record_type_number (type_of r.rdata)) → number (upserted o r) ≡ record_type_number (type_of r.rdata)
upserted_number None r of = refl
upserted_number (Some s) r of = of s refl

new_number : (sets : List RRset) (r : Record) → number (upserted (set_of_type (type_of r.rdata) sets) r) ≡ record_type_number (type_of r.rdata)
new_number sets r = upserted_number (set_of_type (type_of r.rdata) sets) r (λ s e. found_type (type_of r.rdata) sets s e)

same_number : (m n k : ℕ) → m ≡ n → (m == k) ≡ (n == k)
same_number m n k e = ap (λ (x : ℕ). x == k) e

-- ---- what is found
module _ (q : RRset → Bool) where
  some_or : (s : RRset) (o : Option RRset) → is_some o ≡ true → is_some (cond (q s) (Some s) o) ≡ true
  some_or s o some = by (q s)
    where
      by : (b : Bool) → is_some (cond b (Some s) o) ≡ true
      by true = refl
      by false = some

  or_some : (s : RRset) (o p : Option RRset) → (is_some o ≡ true → is_some p ≡ true) → is_some (cond (q s) (Some s) o) ≡ true → is_some (cond (q s) (Some s) p) ≡ true
  or_some s o p more = by (q s)
    where
      by : (b : Bool) → is_some (cond b (Some s) o) ≡ true → is_some (cond b (Some s) p) ≡ true
      by true e = refl
      by false e = more e

  -- What some of the sets have, all have.
  among_filtered : (p : RRset → Bool) (sets : List RRset) → is_some (find q (filter p sets)) ≡ true → is_some (find q sets) ≡ true
  among_filtered p [] some = some
  among_filtered p (s ∷ sets) some = by (p s) some (among_filtered p sets)
    where
      by : (b : Bool) → is_some (find q (cond b (s ∷ filter p sets) (filter p sets))) ≡ true → (is_some (find q (filter p sets)) ≡ true → is_some (find q sets) ≡ true)
          → is_some (cond (q s) (Some s) (find q sets)) ≡ true
      by true e more = or_some s (find q (filter p sets)) (find q sets) more e
      by false e more = some_or s (find q sets) (more e)

  -- What is looked for is kept.
  found_kept : (p : RRset → Bool) → ((s : RRset) → q s ≡ true → p s ≡ true) → (sets : List RRset) → find q (filter p sets) ≡ find q sets
  found_kept p keeps [] = refl
  found_kept p keeps (s ∷ sets) = by (q s) (p s) refl refl (found_kept p keeps sets)
    where
      by : (b c : Bool) → q s ≡ b → p s ≡ c → find q (filter p sets) ≡ find q sets → find q (cond c (s ∷ filter p sets) (filter p sets)) ≡ cond b (Some s) (find q sets)
      by true true is kept more = ap (λ (x : Bool). cond x (Some s) (find q (filter p sets))) is
      by true false is kept more = absurd (true≢false (sym (keeps s is) ∙ kept))
      by false true is kept more = ap (λ (x : Bool). cond x (Some s) (find q (filter p sets))) is ∙ more
      by false false is kept more = more

  -- Where each set gives sets of its own type.
  found_through : (f : RRset → List RRset) → ((s : RRset) → q s ≡ true → f s ≡ s ∷ []) → ((s : RRset) (later : List RRset) → q s ≡ false → find q (f s ++ later) ≡ find q later) → (sets : List RRset)
      → find q (flat_map f sets) ≡ find q sets
  found_through f stays passes [] = refl
  found_through f stays passes (s ∷ sets) = by (q s) refl (found_through f stays passes sets)
    where
      by : (b : Bool) → q s ≡ b → find q (flat_map f sets) ≡ find q sets → find q (f s ++ flat_map f sets) ≡ cond b (Some s) (find q sets)
      by true is more = ap (λ (xs : List RRset). find q (xs ++ flat_map f sets)) (stays s is) ∙ ap (λ (x : Bool). cond x (Some s) (find q (flat_map f sets))) is
      by false is more = passes s (flat_map f sets) is ∙ more

  some_before : (xs ys : List RRset) → is_some (find q xs) ≡ true → is_some (find q (xs ++ ys)) ≡ true
  some_before [] ys some = absurd (true≢false (sym some))
  some_before (x ∷ xs) ys some = or_some x (find q xs) (find q (xs ++ ys)) (some_before xs ys) some

  some_after : (xs ys : List RRset) → is_some (find q ys) ≡ true → is_some (find q (xs ++ ys)) ≡ true
  some_after [] ys some = some
  some_after (x ∷ xs) ys some = some_or x (find q (xs ++ ys)) (some_after xs ys some)

  some_through : (f : RRset → List RRset) → ((s : RRset) → q s ≡ true → is_some (find q (f s)) ≡ true) → (sets : List RRset) → is_some (find q sets) ≡ true → is_some (find q (flat_map f sets)) ≡ true
  some_through f gives [] some = some
  some_through f gives (s ∷ sets) some = by (q s) refl some (some_through f gives sets)
    where
      by : (b : Bool) → q s ≡ b → is_some (cond b (Some s) (find q sets)) ≡ true → (is_some (find q sets) ≡ true → is_some (find q (flat_map f sets)) ≡ true)
          → is_some (find q (f s ++ flat_map f sets)) ≡ true
      by true is e more = some_before (f s) (flat_map f sets) (gives s is)
      by false is e more = some_after (f s) (flat_map f sets) (more e)

-- ---- what a record of class NONE takes
module _ (t : RecordType) (r : Record) where
  removed_is : (s : RRset) → is_of t (removed s r) ≡ is_of t s
  removed_is s = ap (λ (u : RecordType). same_record_type u t) (removed_type s r)

  -- A set gives sets of its type alone.
  taken_passes : (s : RRset) (later : List RRset) → is_of t s ≡ false → find (is_of t) (taken_from r s ++ later) ≡ find (is_of t) later
  taken_passes s later other = by (is_taken_from r s) (none_left (removed s r).records)
    where
      by : (b c : Bool) → find (is_of t) (cond b (cond c [] (removed s r ∷ [])) (s ∷ []) ++ later) ≡ find (is_of t) later
      by true true = refl
      by true false = ap (λ (x : Bool). cond x (Some (removed s r)) (find (is_of t) later)) (removed_is s ∙ other)
      by false c = ap (λ (x : Bool). cond x (Some s) (find (is_of t) later)) other

  among_taken : (sets : List RRset) → is_some (find (is_of t) (flat_map (taken_from r) sets)) ≡ true → is_some (find (is_of t) sets) ≡ true
  among_taken [] some = some
  among_taken (s ∷ sets) some = by (is_of t s) refl some (among_taken sets)
    where
      by : (b : Bool) → is_of t s ≡ b → is_some (find (is_of t) (taken_from r s ++ flat_map (taken_from r) sets)) ≡ true
          → (is_some (find (is_of t) (flat_map (taken_from r) sets)) ≡ true → is_some (find (is_of t) sets) ≡ true) → is_some (cond b (Some s) (find (is_of t) sets)) ≡ true
      by true is e more = refl
      by false is e more = more (sym (ap is_some (taken_passes s (flat_map (taken_from r) sets) is)) ∙ e)

module _ (P : RecordType → Type 0) where
  abbrev AllOf : List RRset → Type 0
  AllOf sets = AllByRecursion (λ set. P set.record_type) sets

  all_filtered : (p : RRset → Bool) (sets : List RRset) → AllOf sets → AllOf (filter p sets)
  all_filtered p [] all = tt
  all_filtered p (s ∷ sets) all = by (p s) (all_filtered p sets all.1)
    where
      by : (b : Bool) → AllOf (filter p sets) → AllOf (cond b (s ∷ filter p sets) (filter p sets))
      by true more = (all.0, more)
      by false more = more

  all_taken : (r : Record) (sets : List RRset) → AllOf sets → AllOf (flat_map (taken_from r) sets)
  all_taken r [] all = tt
  all_taken r (s ∷ sets) all = by (is_taken_from r s) (none_left (removed s r).records) (all_taken r sets all.1)
    where
      by : (b c : Bool) → AllOf (flat_map (taken_from r) sets) → AllOf (cond b (cond c [] (removed s r ∷ [])) (s ∷ []) ++ flat_map (taken_from r) sets)
      by true true more = more
      by true false more = (subst P (sym (removed_type s r)) all.0, more)
      by false c more = (all.0, more)

  all_with : (sets : List RRset) (new : RRset) → AllOf sets → P new.record_type → AllOf (with_set sets new)
  all_with [] new all is = (is, tt)
  all_with (s ∷ sets) new all is = by (nat_lt (number s) (number new)) (same_record_type s.record_type new.record_type) (all_with sets new all.1 is)
    where
      by : (b c : Bool) → AllOf (with_set sets new) → AllOf (cond b (s ∷ with_set sets new) (cond c (new ∷ sets) (new ∷ s ∷ sets)))
      by true c more = (all.0, more)
      by false true more = (is, all.1)
      by false false more = (is, all)

  all_raised : (sets : List RRset) → AllOf sets → AllOf (map if_soa_raised sets)
  all_raised [] all = tt
  all_raised (s ∷ sets) all = (subst P (sym (raised_type s)) all.0, all_raised sets all.1)

-- ---- aliases
abbrev MayBe : RecordType → Type 0
MayBe t = may_be_beside_alias t ≡ true

abbrev has_alias : List RRset → Bool
has_alias sets = is_some (set_of_type kind.CNAME sets)

may_be_at : (t u : RecordType) → record_type_number t ≡ record_type_number u → may_be_beside_alias t ≡ may_be_beside_alias u
may_be_at t u e =
    ap (λ (n : ℕ). (n == record_type_number kind.CNAME) || ((n == record_type_number kind.NSEC) || (n == record_type_number kind.NSEC3))) e

none_apart : (t : RecordType) (sets : List RRset) → is_kept_out sets t ≡ false → AllByRecursion (λ set. are_apart set.record_type t ≡ false) sets
none_apart t [] none = tt
none_apart t (s ∷ sets) none =
    let parts = or_parts (are_apart s.record_type t) (is_kept_out sets t) none in
    (parts.0, none_apart t sets parts.1)

-- Where an alias is added, the others may be beside it.
beside_new : (t : RecordType) (sets : List RRset) → same_record_type t kind.CNAME ≡ true → AllByRecursion (λ set. are_apart set.record_type t ≡ false) sets
    → AllByRecursion (λ set. MayBe set.record_type) sets
beside_new t [] is apart = tt
beside_new t (s ∷ sets) is apart =
    let second = (or_parts (same_record_type s.record_type kind.CNAME && not (may_be_beside_alias t)) (same_record_type t kind.CNAME && not (may_be s)) apart.0).1 in
    (not-false (may_be s) (sym (ap (λ (b : Bool). b && not (may_be s)) is) ∙ second), beside_new t sets is apart.1)

-- Where an alias is there, what is added may be beside it.
beside_old : (t : RecordType) (sets : List RRset) → has_alias sets ≡ true → AllByRecursion (λ set. are_apart set.record_type t ≡ false) sets → MayBe t
beside_old t [] some apart = absurd (true≢false (sym some))
beside_old t (s ∷ sets) some apart = by (is_of kind.CNAME s) refl some (λ e. beside_old t sets e apart.1)
  where
    by : (b : Bool) → is_of kind.CNAME s ≡ b → is_some (cond b (Some s) (set_of_type kind.CNAME sets)) ≡ true → (has_alias sets ≡ true → MayBe t) → MayBe t
    by true is e more =
        let first = (or_parts (same_record_type s.record_type kind.CNAME && not (may_be_beside_alias t)) (same_record_type t kind.CNAME && not (may_be s)) apart.0).0 in
        not-false (may_be_beside_alias t) (sym (ap (λ (b : Bool). b && not (may_be_beside_alias t)) is) ∙ first)
    by false is e more = more e

alias_with : (sets : List RRset) (r : Record) → is_added sets r ≡ true → IsAliasAlone sets → IsAliasAlone (with_set sets (upserted (set_of_type (type_of r.rdata) sets) r))
alias_with sets r added alone some = by (same_record_type new.record_type kind.CNAME) refl (sym (ap is_some (find_with kind.CNAME new sets)) ∙ some)
  where
    new : RRset
    new = upserted (set_of_type (type_of r.rdata) sets) r

    apart : AllByRecursion (λ set. are_apart set.record_type (type_of r.rdata) ≡ false) sets
    apart = none_apart (type_of r.rdata) sets (not-true (is_kept_out sets (type_of r.rdata)) (and_parts (not (is_kept_out sets (type_of r.rdata))) (joins (set_of_type (type_of r.rdata) sets) r) added).0)

    by : (b : Bool) → same_record_type new.record_type kind.CNAME ≡ b → is_some (cond b (Some new) (set_of_type kind.CNAME sets)) ≡ true → AllByRecursion (λ set. MayBe set.record_type) (with_set sets new)
    by true is e =
        all_with MayBe sets new
        (beside_new (type_of r.rdata) sets (sym (same_number (number new) (record_type_number (type_of r.rdata)) (record_type_number kind.CNAME) (new_number sets r)) ∙ is) apart)
        (ap (λ (b : Bool). b || (same_record_type new.record_type kind.NSEC || same_record_type new.record_type kind.NSEC3)) is)
    by false is e =
        all_with MayBe sets new (alone e)
        (may_be_at new.record_type (type_of r.rdata) (new_number sets r) ∙ beside_old (type_of r.rdata) sets e apart)

alias_left : (at_apex : Bool) (sets : List RRset) (r : Record) (class : DNSClass) → IsAliasAlone sets → IsAliasAlone (left_by at_apex sets r class)
alias_left at_apex sets r classes.IN alone = by (is_added sets r) refl
  where
    by : (b : Bool) → is_added sets r ≡ b → IsAliasAlone (cond b (with_set sets (upserted (set_of_type (type_of r.rdata) sets) r)) sets)
    by true added = alias_with sets r added alone
    by false added = alone
alias_left at_apex sets r classes.ANY alone = λ some.
    all_filtered MayBe (λ set. not (is_deleted at_apex r set)) sets (alone (among_filtered (is_of kind.CNAME) (λ set. not (is_deleted at_apex r set)) sets some))
alias_left at_apex sets r classes.NONE alone = λ some. all_taken MayBe r sets (alone (among_taken kind.CNAME r sets some))
alias_left at_apex sets r other alone = alone

alias_applied : (origin : DomainName) (rs : List Record) (at : Owned) → ((name : DomainName) → IsAliasAlone (at name)) → (name : DomainName) → IsAliasAlone (all_applied origin at rs name)
alias_applied origin [] at alone name = alone name
alias_applied origin (r ∷ rs) at alone name = alias_applied origin rs (applied origin at r) one name
  where
    one : (other : DomainName) → IsAliasAlone (applied origin at r other)
    one other = by (name_eq r.name other)
      where
        by : (b : Bool) → IsAliasAlone (cond b (left_by (name_eq r.name origin) (at other) r r.dns_class) (at other))
        by true = alias_left (name_eq r.name origin) (at other) r r.dns_class (alone other)
        by false = alone other

alias_raised : (sets : List RRset) → IsAliasAlone sets → IsAliasAlone (map if_soa_raised sets)
alias_raised sets alone some = all_raised MayBe sets (alone (by (set_of_type kind.CNAME sets) (sym (ap is_some (type_raised kind.CNAME sets)) ∙ some)))
  where
    by : (o : Option RRset) → is_some (option_map if_soa_raised o) ≡ true → is_some o ≡ true
    by None e = e
    by (Some s) e = refl

alias_updated : (zone : Zone) (increment : Bool) (rs : List Record) → AliasesAlone zone → (name : DomainName) → IsAliasAlone (updated zone increment rs name)
alias_updated zone increment rs alone name = by (increment && any_changes zone.origin (sets_of_name zone.sets) rs)
  where
    all : Owned
    all = all_applied zone.origin (sets_of_name zone.sets) rs

    kept : IsAliasAlone (all_applied zone.origin (sets_of_name zone.sets) rs name)
    kept = alias_applied zone.origin rs (sets_of_name zone.sets) alone name

    at_name : (b : Bool) → IsAliasAlone (cond b (map if_soa_raised (all_applied zone.origin (sets_of_name zone.sets) rs name)) (all_applied zone.origin (sets_of_name zone.sets) rs name))
    at_name true = alias_raised (all_applied zone.origin (sets_of_name zone.sets) rs name) kept
    at_name false = kept

    by : (b : Bool) → IsAliasAlone ((cond b (raised zone.origin (all_applied zone.origin (sets_of_name zone.sets) rs)) (all_applied zone.origin (sets_of_name zone.sets) rs)) name)
    by true = at_name (name_eq zone.origin name)
    by false = kept

pub alias_changes : (refused : Option ResponseCode) (increment : Bool) (old : Zone) (rs : List Record) (answer : Result Bool ResponseCode) (new : Zone) → ChangesBy refused increment old rs answer new
    → AliasesAlone old → AliasesAlone new
alias_changes (Some code) increment old rs answer new is alone = subst AliasesAlone (sym is.1) alone
alias_changes None increment old rs answer new is alone = λ name. subst IsAliasAlone (sym (is.1.sets name)) (alias_updated old increment rs alone name)

-- ---- the apex
module _ (t : RecordType) (kept : (s : RRset) → is_of t s ≡ true → stays true s ≡ true) where
  -- Of the apex no set of such a type is deleted.
  not_deleted : (r : Record) (s : RRset) → is_of t s ≡ true → not (is_deleted true r s) ≡ true
  not_deleted r s is =
      ap not (and_right (asks_any r || same_record_type s.record_type (type_of r.rdata)) (not (stays true s)) (ap not (kept s is)))

  apex_kept : (r : Record) (sets : List RRset) → find (is_of t) (filter (λ set. not (is_deleted true r set)) sets) ≡ find (is_of t) sets
  apex_kept r sets = found_kept (is_of t) (λ set. not (is_deleted true r set)) (λ s is. not_deleted r s is) sets

soa_stays : (s : RRset) → is_of kind.SOA s ≡ true → stays true s ≡ true
soa_stays s is = ap (λ (b : Bool). b || same_record_type s.record_type kind.NS) is

ns_stays : (s : RRset) → is_of kind.NS s ≡ true → stays true s ≡ true
ns_stays s is = ap (λ (b : Bool). same_record_type s.record_type kind.SOA || b) is ∙ or_true (same_record_type s.record_type kind.SOA)
  where
    or_true : (b : Bool) → (b || true) ≡ true
    or_true true = refl
    or_true false = refl

-- What is at the apex after records and the next serial number.
module _ (Q : List RRset → Type 0) (left : (sets : List RRset) (r : Record) (class : DNSClass) → Q sets → Q (left_by true sets r class)) (raise : (sets : List RRset) → Q sets → Q (map if_soa_raised sets)) where
  apex_applied : (origin : DomainName) (rs : List Record) (at : Owned) → Q (at origin) → Q (all_applied origin at rs origin)
  apex_applied origin [] at is = is
  apex_applied origin (r ∷ rs) at is = apex_applied origin rs (applied origin at r) (by (name_eq r.name origin))
    where
      by : (b : Bool) → Q (cond b (left_by b (at origin) r r.dns_class) (at origin))
      by true = left (at origin) r r.dns_class is
      by false = is

  apex_updated : (zone : Zone) (increment : Bool) (rs : List Record) → Q (sets_of_name zone.sets zone.origin) → Q (updated zone increment rs zone.origin)
  apex_updated zone increment rs is = by (increment && any_changes zone.origin (sets_of_name zone.sets) rs)
    where
      kept : Q (all_applied zone.origin (sets_of_name zone.sets) rs zone.origin)
      kept = apex_applied zone.origin rs (sets_of_name zone.sets) is

      at_apex : (b : Bool) → Q (cond b (map if_soa_raised (all_applied zone.origin (sets_of_name zone.sets) rs zone.origin)) (all_applied zone.origin (sets_of_name zone.sets) rs zone.origin))
      at_apex true = raise (all_applied zone.origin (sets_of_name zone.sets) rs zone.origin) kept
      at_apex false = kept

      by : (b : Bool) → Q ((cond b (raised zone.origin (all_applied zone.origin (sets_of_name zone.sets) rs)) (all_applied zone.origin (sets_of_name zone.sets) rs)) zone.origin)
      by true = at_apex (name_eq zone.origin zone.origin)
      by false = kept

  apex_leaves : (old new : Zone) (at : Owned) → LeavesZone old at new → Q (at old.origin) → Q (sets_of_name new.sets new.origin)
  apex_leaves old new at leaves is =
      subst (λ (o : DomainName). Q (sets_of_name new.sets o)) (sym (ap (λ (z : Zone). z.origin) leaves.rest))
      (subst Q (sym (leaves.sets old.origin)) is)

  apex_changes : (refused : Option ResponseCode) (increment : Bool) (old : Zone) (rs : List Record) (answer : Result Bool ResponseCode) (new : Zone) → ChangesBy refused increment old rs answer new
      → Q (sets_of_name old.sets old.origin) → Q (sets_of_name new.sets new.origin)
  apex_changes (Some code) increment old rs answer new is apex = subst (λ (z : Zone). Q (sets_of_name z.sets z.origin)) (sym is.1) apex
  apex_changes None increment old rs answer new is apex = apex_leaves old new (updated old increment rs) is.1 (apex_updated old increment rs apex)

-- ---- name servers
abbrev SomeNs : List RRset → Type 0
SomeNs sets = is_some (set_of_type kind.NS sets) ≡ true

without_some : (rs : List Record) (v : RData) → nat_le (length rs) 1 ≡ false → none_left (without rs v) ≡ false
without_some [] v long = absurd (true≢false long)
without_some (s ∷ []) v long = absurd (true≢false long)
without_some (s ∷ u ∷ rs) v long = by (rdata_eq s.rdata v)
  where
    by : (b : Bool) → none_left (cond b (u ∷ rs) (s ∷ without (u ∷ rs) v)) ≡ false
    by true = refl
    by false = refl

left_none : (set : RRset) (rs : List Record) → none_left (left_of set rs).records ≡ none_left rs
left_none set [] = refl
left_none set (r ∷ rs) = refl

ns_long : (r : Record) (s : RRset) → is_of kind.NS s ≡ true → is_taken_from r s ≡ true → nat_le (length s.records) 1 ≡ false
ns_long r s is taken =
    let loses_one = (and_parts (same_record_type s.record_type (type_of r.rdata)) (loses s r) taken).1 in
    let keeps = not-true (keeps_last s) (and_parts (not (keeps_last s)) (list_any (λ x. rdata_eq x.rdata r.rdata) s.records) loses_one).0 in
    let second = (or_parts (same_record_type s.record_type kind.SOA) (same_record_type s.record_type kind.NS && nat_le (length s.records) 1) keeps).1 in
    sym (ap (λ (b : Bool). b && nat_le (length s.records) 1) is) ∙ second

ns_taken : (r : Record) (s : RRset) → is_of kind.NS s ≡ true → is_some (find (is_of kind.NS) (taken_from r s)) ≡ true
ns_taken r s is = by (is_taken_from r s) (none_left (removed s r).records) refl refl
  where
    by : (b c : Bool) → is_taken_from r s ≡ b → none_left (removed s r).records ≡ c → is_some (find (is_of kind.NS) (cond b (cond c [] (removed s r ∷ [])) (s ∷ []))) ≡ true
    by true true taken none = absurd (true≢false (sym none ∙ left_none s (without s.records r.rdata) ∙ without_some s.records r.rdata (ns_long r s is taken)))
    by true false taken none = ap (λ (x : Bool). is_some (cond x (Some (removed s r)) None)) (removed_is kind.NS r s ∙ is)
    by false c taken none = ap (λ (x : Bool). is_some (cond x (Some s) None)) is

ns_left : (sets : List RRset) (r : Record) (class : DNSClass) → SomeNs sets → SomeNs (left_by true sets r class)
ns_left sets r classes.IN some = by (is_added sets r)
  where
    new : RRset
    new = upserted (set_of_type (type_of r.rdata) sets) r

    either : (b : Bool) → is_some (cond b (Some (upserted (set_of_type (type_of r.rdata) sets) r)) (set_of_type kind.NS sets)) ≡ true
    either true = refl
    either false = some

    by : (b : Bool) → SomeNs (cond b (with_set sets (upserted (set_of_type (type_of r.rdata) sets) r)) sets)
    by true = ap is_some (find_with kind.NS (upserted (set_of_type (type_of r.rdata) sets) r) sets) ∙ either (same_record_type (upserted (set_of_type (type_of r.rdata) sets) r).record_type kind.NS)
    by false = some
ns_left sets r classes.ANY some = ap is_some (apex_kept kind.NS ns_stays r sets) ∙ some
ns_left sets r classes.NONE some = some_through (is_of kind.NS) (taken_from r) (λ s is. ns_taken r s is) sets some
ns_left sets r other some = some

ns_raised : (sets : List RRset) → SomeNs sets → SomeNs (map if_soa_raised sets)
ns_raised sets some = ap is_some (type_raised kind.NS sets) ∙ by (set_of_type kind.NS sets) some
  where
    by : (o : Option RRset) → is_some o ≡ true → is_some (option_map if_soa_raised o) ≡ true
    by None e = e
    by (Some s) e = refl

pub ns_changes : (refused : Option ResponseCode) (increment : Bool) (old : Zone) (rs : List Record) (answer : Result Bool ResponseCode) (new : Zone) → ChangesBy refused increment old rs answer new
    → HasNs old → HasNs new
ns_changes refused increment old rs answer new is some = apex_changes SomeNs ns_left ns_raised refused increment old rs answer new is some

-- ---- the SOA
abbrev OneSoa : List RRset → Type 0
OneSoa sets = IsSomeAnd (set_of_type kind.SOA sets) (λ set. length set.records ≡ 1)

abbrev IsOne : Option RRset → Type 0
IsOne o = IsSomeAnd o (λ set. length set.records ≡ 1)

soa_not_taken : (r : Record) (s : RRset) → is_of kind.SOA s ≡ true → taken_from r s ≡ s ∷ []
soa_not_taken r s is =
    ap (λ (b : Bool). cond b (if_filled (removed s r)) (s ∷ []))
    (and_right (same_record_type s.record_type (type_of r.rdata)) (loses s r)
    (ap (λ (b : Bool). not (b || (same_record_type s.record_type kind.NS && nat_le (length s.records) 1)) && list_any (λ x. rdata_eq x.rdata r.rdata) s.records) is))

-- An SOA that is added takes the place of the one that is there.
soa_with : (sets : List RRset) (r : Record) → OneSoa sets → IsOne (cond (same_record_type (upserted (set_of_type (type_of r.rdata) sets) r).record_type kind.SOA) (Some (upserted (set_of_type (type_of r.rdata) sets) r)) (set_of_type kind.SOA sets))
soa_with sets r one = by (same_record_type (upserted (set_of_type (type_of r.rdata) sets) r).record_type kind.SOA) refl
  where
    here : same_record_type (upserted (set_of_type (type_of r.rdata) sets) r).record_type kind.SOA ≡ true → set_of_type (type_of r.rdata) sets ≡ set_of_type kind.SOA sets
    here is =
        ap (λ (n : ℕ). find (λ (set : RRset). record_type_number set.record_type == n) sets)
        (sym (new_number sets r) ∙ eqb-true (number (upserted (set_of_type (type_of r.rdata) sets) r)) (record_type_number kind.SOA) is)

    single : (s : RRset) → is_of kind.SOA s ≡ true → is_single s.record_type ≡ true
    single s is =
        ap (λ (b : Bool). same_record_type s.record_type kind.CNAME || (same_record_type s.record_type kind.ANAME || b)) is
        ∙ or_or_true (same_record_type s.record_type kind.CNAME) (same_record_type s.record_type kind.ANAME)
      where
        or_or_true : (b c : Bool) → (b || (c || true)) ≡ true
        or_or_true true c = refl
        or_or_true false true = refl
        or_or_true false false = refl

    alone : (o : Option RRset) → set_of_type kind.SOA sets ≡ o → IsOne o → length (upserted o r).records ≡ 1
    alone None e none = absurd none
    alone (Some s) e is =
        ap (λ (b : Bool). length (with_one b s r).records)
        (single s (eq-eqb (number s) (record_type_number kind.SOA) (found_type kind.SOA sets s e)))

    by : (b : Bool) → same_record_type (upserted (set_of_type (type_of r.rdata) sets) r).record_type kind.SOA ≡ b
        → IsOne (cond b (Some (upserted (set_of_type (type_of r.rdata) sets) r)) (set_of_type kind.SOA sets))
    by true is = ap (λ (o : Option RRset). length (upserted o r).records) (here is) ∙ alone (set_of_type kind.SOA sets) refl one
    by false is = one

soa_left : (sets : List RRset) (r : Record) (class : DNSClass) → OneSoa sets → OneSoa (left_by true sets r class)
soa_left sets r classes.IN one = by (is_added sets r)
  where
    by : (b : Bool) → OneSoa (cond b (with_set sets (upserted (set_of_type (type_of r.rdata) sets) r)) sets)
    by true = subst IsOne (sym (find_with kind.SOA (upserted (set_of_type (type_of r.rdata) sets) r) sets)) (soa_with sets r one)
    by false = one
soa_left sets r classes.ANY one = subst IsOne (sym (apex_kept kind.SOA soa_stays r sets)) one
soa_left sets r classes.NONE one =
    subst IsOne (sym (found_through (is_of kind.SOA) (taken_from r) (λ s is. soa_not_taken r s is) (λ s later other. taken_passes kind.SOA r s later other) sets)) one
soa_left sets r other one = one

soa_raised : (sets : List RRset) → OneSoa sets → OneSoa (map if_soa_raised sets)
soa_raised sets one = subst IsOne (sym (type_raised kind.SOA sets)) (by (set_of_type kind.SOA sets) one)
  where
    kept : (rs : List Record) → length (raised_first rs) ≡ length rs
    kept [] = refl
    kept (r ∷ rs) = refl

    each : (s : RRset) → length (if_soa_raised s).records ≡ length s.records
    each s = cases (is_of kind.SOA s)
      where
        cases : (b : Bool) → length (cond b (raised_set s) s).records ≡ length s.records
        cases true = kept s.records
        cases false = refl

    by : (o : Option RRset) → IsOne o → IsOne (option_map if_soa_raised o)
    by None none = none
    by (Some s) is = each s ∙ is

pub soa_changes : (refused : Option ResponseCode) (increment : Bool) (old : Zone) (rs : List Record) (answer : Result Bool ResponseCode) (new : Zone) → ChangesBy refused increment old rs answer new
    → HasOneSoa old → HasOneSoa new
soa_changes refused increment old rs answer new is one = apex_changes OneSoa soa_left soa_raised refused increment old rs answer new is one

-- ---- a call that applies records, or runs out of memory and changes nothing
pub kept_result : {E : Type 0} (Q : Zone → Type 0) (refused : Option ResponseCode) (increment : Bool) (old : Zone) (rs : List Record) (new : Zone) (r : Result (Result Bool ResponseCode) E)
    → ((answer : Result Bool ResponseCode) → ChangesBy refused increment old rs answer new → Q old → Q new)
    → IfOk r (λ answer. ChangesBy refused increment old rs answer new) → OnErr r (new ≡ old) → Q old → Q new
kept_result Q refused increment old rs new (Ok answer) keeps ok err is = keeps answer ok is
kept_result Q refused increment old rs new (Err e) keeps ok err is = subst Q (sym err) is
