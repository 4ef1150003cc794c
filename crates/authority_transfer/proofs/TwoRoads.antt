-- The zone of the records that are sent of a loaded zone is that zone.
use Rattle.std.proofs.Common.{inl, inr, ◌≡◌, ◌∙◌, refl, sym, ap, subst, ℕ, ◌<◌, ◌≤◌, length, arith, append-nil}
use Rattle.std.specs.Prelude.{Bool, true, false, not, ◌&&◌, ◌||◌, List, [], ◌∷◌, ◌++◌, Option, Some, None, IsSome, is_some, cond, find, ◌==◌}
use Rattle.std.specs.List.{AllByRecursion, filter, flat_map}
use Rattle.std.proofs.lemmas.Bool.{and_parts, eqb-true, eq-eqb, true≢false}
use Rattle.zsv_message.specs.zst_record.dnw_codes.DNSClass.{same_class}
use Rattle.zsv_message.specs.zst_record.dnw_codes.declared.dns_class.DNSClass.TheVariants.{IN}
use Rattle.zsv_message.specs.zst_record.dnw_codes.declared.record_type.RecordType.{RecordType}
use Rattle.zsv_message.specs.zst_record.dnw_codes.declared.record_type.RecordType.TheVariants as kind
use Rattle.zsv_message.specs.zst_record.dnw_codes.RecordType.{record_type_number, same_record_type}
use Rattle.zsv_message.specs.zst_record.dnw_name.DomainName.{DomainName, is_at_or_below, name_eq}
use Rattle.zsv_message.specs.zst_record.drd_rdata.Types.{type_of}
use Rattle.zsv_message.specs.zst_record.declared.records.Record.{Record}
use Rattle.zsv_message.specs.zst_record.RecordLaws.{name_eq_equiv}
use Rattle.zsv_message.specs.zst_record.RecordSets.{RRset, is_single, none_left}
use Rattle.authority_load.specs.zst_zone.zst_handler.Answers.{sets_shown}
use Rattle.authority_load.specs.zst_zone.zst_handler.Lookups.{sets_of_name}
use Rattle.authority_load.specs.zst_zone.zst_handler.Updates.{are_apart, is_kept_out, may_be_beside_alias}
use Rattle.authority_load.specs.zst_zone.zst_handler.Zones.{AreInOrder, AreStored, IsStored, Zone, rrset_at}
use Rattle.authority_transfer.specs.Alike.{AllSame, IsSameRecord, IsSameSet, IsSameZone, SameOption}
use Rattle.authority_transfer.proofs.Same.{joined_same, of_same, sets_same}
use Rattle.authority_load.proofs.ReadBack.{each_found, found_is, found_of}
use Rattle.authority_load.specs.Loaded.{IsLoaded, IsLoadedRecord, IsLoadedSet}
use Rattle.authority_load.specs.Joining.{is_beside_alias, is_other_alias, is_second_start, joined}
use Rattle.authority_load.specs.Loaded.{added_by_signing}
use Rattle.authority_transfer.proofs.Frames.{axfr_records, behind_start, records_if, sent_of}
use Rattle.authority_transfer.specs.Transfers.{RefusesOne, RefusesRecords, TakesAll, record_fault}
use Rattle.authority_transfer.specs.declared.error.TransferError.{TransferError}
use Rattle.authority_transfer.specs.declared.error.TransferError.TheVariants as errors
use Rattle.authority_transfer.proofs.Keys.{Key, agree, agree_sets, alike_right, all_own, distinct, owns, record_of, records_of, same_left, same_right, set_of_key}
use Rattle.authority_transfer.proofs.Made.{gathered, set_made}
use Rattle.authority_transfer.proofs.Roads.{moved, none_before, none_new, transferred}
use Rattle.authority_transfer.proofs.Taken.{RunsTo, stored_in, takes_ordered, takes_rest, takes_run}

-- ---- lists
pub all_append : (P : Record → Type 0) (xs ys : List Record) → AllByRecursion P xs → AllByRecursion P ys → AllByRecursion P (xs ++ ys)
all_append P [] ys a b = b
all_append P (x ∷ xs) ys a b = (a.0, all_append P xs ys a.1 b)

pub all_kept : (P : Record → Type 0) (test : Record → Bool) (xs : List Record) → AllByRecursion P xs → AllByRecursion P (filter test xs)
all_kept P test [] a = tt
all_kept P test (x ∷ xs) a = by (test x) (all_kept P test xs a.1)
  where
    by : (b : Bool) → AllByRecursion P (filter test xs) → AllByRecursion P (cond b (x ∷ filter test xs) (filter test xs))
    by true more = (a.0, more)
    by false more = more

pub all_flat : (P : Record → Type 0) (sets : List RRset) → AllByRecursion (λ s. AllByRecursion P s.records) sets → AllByRecursion P (flat_map records_of sets)
all_flat P [] a = tt
all_flat P (s ∷ sets) a = all_append P s.records (flat_map records_of sets) a.0 (all_flat P sets a.1)

at_split : (P : Record → Type 0) (front : List Record) (r : Record) (rest : List Record) → AllByRecursion P (front ++ r ∷ rest) → P r
at_split P [] r rest a = a.0
at_split P (f ∷ fs) r rest a = at_split P fs r rest a.1

-- ---- one set for each name and type
find_same : (p q : RRset → Bool) (xs : List RRset) → ((s : RRset) → p s ≡ q s) → find p xs ≡ find q xs
find_same p q [] e = refl
find_same p q (x ∷ xs) e = ap (λ (b : Bool). cond b (Some x) (find p xs)) (e x) ∙ ap (cond (q x) (Some x)) (find_same p q xs e)

own_key : (s : RRset) → set_of_key (s.name, s.record_type) s ≡ true
own_key s =
    let owner : name_eq s.name s.name ≡ true = name_eq_equiv.refl s.name in
    let same : same_record_type s.record_type s.record_type ≡ true = eq-eqb (record_type_number s.record_type) (record_type_number s.record_type) refl in
    rw (owner, same) refl

own_record : (r : Record) → record_of (r.name, type_of r.rdata) r ≡ true
own_record r =
    let owner : name_eq r.name r.name ≡ true = name_eq_equiv.refl r.name in
    let same : same_record_type (type_of r.rdata) (type_of r.rdata) ≡ true = eq-eqb (record_type_number (type_of r.rdata)) (record_type_number (type_of r.rdata)) refl in
    rw (owner, same) refl

-- Under equal names, and types of one number, one set stands.
pub at_alike : (sets : List RRset) (name other : DomainName) (t u : RecordType) → name_eq name other ≡ true → same_record_type t u ≡ true → rrset_at sets name t ≡ rrset_at sets other u
at_alike sets name other t u named typed =
    find_same (set_of_key (name, t)) (set_of_key (other, u)) sets
    (λ s. ap (λ (b : Bool). b && same_record_type s.record_type t) (name_eq_equiv.congr name other s.name named)
    ∙ ap (λ (b : Bool). name_eq other s.name && b) (same_right t u s.record_type typed))

pub turned : (a b : RecordType) → same_record_type a b ≡ true → same_record_type b a ≡ true
turned a b e = sym (same_left a b a e) ∙ eq-eqb (record_type_number a) (record_type_number a) refl

each_there : (sets : List RRset) → AreInOrder sets → AllByRecursion (λ s. rrset_at sets s.name s.record_type ≡ Some s) sets
each_there sets order =
    each_found (λ s. rrset_at sets s.name s.record_type ≡ Some s) sets order
    (λ name t s e.
    let is = and_parts (name_eq name s.name) (same_record_type s.record_type t) (found_is name t sets s e) in
    sym (at_alike sets name s.name t s.record_type is.0 (turned s.record_type t is.1)) ∙ e)

-- ---- what each record that is sent has
record IsSent (zone : Zone) (r : Record) : Type 0 where
  set : RRset
  there : rrset_at zone.sets r.name (type_of r.rdata) ≡ Some set
  is : IsLoadedSet zone.origin set
  stored : IsStored set
  inside : is_at_or_below r.name zone.origin ≡ true
  of_class : same_class r.dns_class IN ≡ true
  unsecured : added_by_signing (type_of r.rdata) ≡ false

sent_record : (zone : Zone) (s : RRset) → IsLoadedSet zone.origin s → IsStored s → rrset_at zone.sets s.name s.record_type ≡ Some s → (r : Record) → IsLoadedRecord zone.origin s r → record_of (s.name, s.record_type) r ≡ true → IsSent zone r
sent_record zone s is stored found r loaded at =
    let key = and_parts (name_eq s.name r.name) (same_record_type (type_of r.rdata) s.record_type) at in
    record {
      set = s;
      there = sym (at_alike zone.sets s.name r.name s.record_type (type_of r.rdata) key.0 (turned (type_of r.rdata) s.record_type key.1)) ∙ found;
      is = is;
      stored = stored;
      inside = loaded.inside;
      of_class = loaded.of_class;
      unsecured = ap added_by_signing loaded.of_type ∙ is.unsecured;
    }

sent_records : (zone : Zone) (s : RRset) → IsLoadedSet zone.origin s → IsStored s → rrset_at zone.sets s.name s.record_type ≡ Some s → (rs : List Record) → AllByRecursion (IsLoadedRecord zone.origin s) rs
    → AllByRecursion (λ r. record_of (s.name, s.record_type) r ≡ set_of_key (s.name, s.record_type) s) rs → AllByRecursion (IsSent zone) rs
sent_records zone s is stored found [] loaded own = tt
sent_records zone s is stored found (r ∷ rs) loaded own =
    (sent_record zone s is stored found r loaded.0 (own.0 ∙ own_key s), sent_records zone s is stored found rs loaded.1 own.1)

all_sent : (zone : Zone) (sets : List RRset) → AllByRecursion (IsLoadedSet zone.origin) sets → AreStored sets → AllByRecursion (λ s. rrset_at zone.sets s.name s.record_type ≡ Some s) sets
    → AllByRecursion (λ s. AllByRecursion (IsSent zone) s.records) sets
all_sent zone [] loaded stored there = tt
all_sent zone (s ∷ sets) loaded stored there =
    (sent_records zone s loaded.0 stored.0 there.0 s.records loaded.0.records (owns s stored.0 (s.name, s.record_type)), all_sent zone sets loaded.1 stored.1 there.1)

-- ---- the records that are sent
pub shown_plain : (origin : DomainName) (dnssec_ok : Bool) (sets : List RRset) → AllByRecursion (IsLoadedSet origin) sets → sets_shown dnssec_ok sets ≡ flat_map records_of sets
shown_plain origin dnssec_ok [] all = refl
shown_plain origin dnssec_ok (s ∷ sets) all =
    ap (λ (rs : List Record). rs ++ sets_shown dnssec_ok sets) (one dnssec_ok) ∙ ap (λ (rs : List Record). s.records ++ rs) (shown_plain origin dnssec_ok sets all.1)
  where
    one : (b : Bool) → cond b (s.records ++ s.signatures) s.records ≡ s.records
    one true = ap (λ (rs : List Record). s.records ++ rs) all.0.unsigned ∙ append-nil s.records
    one false = refl

abbrev apex : Zone → Key
apex zone = (zone.origin, kind.SOA)

abbrev all_moved : Zone → RRset → List Record
all_moved zone start = moved {R = Record} {S = RRset} {Q = Key} record_of set_of_key joined records_of (apex zone) start zone.sets

record IsStart (zone : Zone) (dnssec_ok : Bool) : Type 0 where
  start : RRset
  there : rrset_at zone.sets zone.origin kind.SOA ≡ Some start
  sends : sent_of zone dnssec_ok ≡ all_moved zone start

start_of : (zone : Zone) (dnssec_ok : Bool) → IsLoaded zone → 0 < length (sent_of zone dnssec_ok) → IsStart zone dnssec_ok
start_of zone dnssec_ok loaded some = by (rrset_at zone.sets zone.origin kind.SOA) refl
  where
    others : List Record
    others = axfr_records zone.origin dnssec_ok zone.sets

    filled : (rs : List Record) → 0 < length (behind_start rs others) → behind_start rs others ≡ rs ++ others
    filled [] h = absurd (omega arith)
    filled (r ∷ rs) h = refl

    plain : others ≡ filter (λ r. not (record_of (apex zone) r)) (flat_map records_of zone.sets)
    plain = ap (filter (λ r. not (record_of (apex zone) r))) (shown_plain zone.origin dnssec_ok zone.sets loaded.sets)

    by : (o : Option RRset) → rrset_at zone.sets zone.origin kind.SOA ≡ o → IsStart zone dnssec_ok
    by None e = absurd (zero_less (subst (λ (o : Option RRset). 0 < length (behind_start (records_if o) others)) e some))
      where
        zero_less : 0 < 0 → ⊥
        zero_less h = omega (arith, h)
    by (Some start) e =
        record {
          start = start;
          there = e;
          sends = ap (λ (o : Option RRset). behind_start (records_if o) others) e
              ∙ filled start.records (subst (λ (o : Option RRset). 0 < length (behind_start (records_if o) others)) e some)
              ∙ ap (λ (rs : List Record). start.records ++ rs) plain;
        }

-- ---- a loaded zone and the records that are sent of it
start_key : (zone : Zone) (start : RRset) → rrset_at zone.sets zone.origin kind.SOA ≡ Some start → set_of_key (apex zone) start ≡ true
start_key zone start e = found_is zone.origin kind.SOA zone.sets start e

start_stored : (zone : Zone) (start : RRset) → IsLoaded zone → rrset_at zone.sets zone.origin kind.SOA ≡ Some start → IsStored start
start_stored zone start loaded e = found_of IsStored zone.origin kind.SOA zone.sets start loaded.stored e

all_made : (origin : DomainName) (sets : List RRset) → AreStored sets → AllByRecursion (IsLoadedSet origin) sets
    → AllByRecursion (λ s. gathered None s.records ≡ Some s) sets
all_made origin [] stored loaded = tt
all_made origin (s ∷ sets) stored loaded = (set_made origin s stored.0 loaded.0, all_made origin sets stored.1 loaded.1)

abbrev nothing : Key → Option RRset
nothing key = None

join_same : (o p : Option RRset) (r s : Record) → SameOption IsSameSet o p → IsSameRecord r s → SameOption IsSameSet (Some (joined o r)) (Some (joined p s))
join_same o p r s same new = joined_same o p r s same new

-- Whoever takes them has the same sets.
same_sets : (zone : Zone) (start : RRset) (sent : List Record) (end : List RRset) → IsLoaded zone → rrset_at zone.sets zone.origin kind.SOA ≡ Some start → AllSame IsSameRecord (all_moved zone start) sent
    → RunsTo nothing sent (λ key. rrset_at end key.0 key.1) → AreInOrder end → AllSame IsSameSet zone.sets end
same_sets zone start sent end loaded e alike run order =
    sets_same zone.sets end loaded.ordered order
    (λ key.
    transferred {R = Record} {S = RRset} {Q = Key} record_of set_of_key joined records_of IsSameRecord IsSameSet of_same join_same agree agree_sets (apex zone) start zone.sets
    (all_own zone.sets loaded.stored) (distinct zone.sets loaded.ordered) (owns start (start_stored zone start loaded e)) (start_key zone start e) e sent alike
    (λ k. rrset_at end k.0 k.1) (all_made zone.origin zone.sets loaded.stored loaded.sets) run key)

-- ---- none of them is refused
or_false : (a b : Bool) → a ≡ false → b ≡ false → (a || b) ≡ false
or_false a b e f = λ i. e i || f i

and_false : (a b : Bool) → (a ≡ true → b ≡ false) → (a && b) ≡ false
and_false true b h = h refl
and_false false b h = refl

abbrev kept_out_at : RecordType → RRset → Bool
kept_out_at t u = are_apart u.record_type t

none_out : (name : DomainName) (t : RecordType) (sets : List RRset) → AllByRecursion (λ u. name_eq name u.name ≡ true → are_apart u.record_type t ≡ false) sets → is_kept_out (sets_of_name sets name) t ≡ false
none_out name t [] all = refl
none_out name t (u ∷ sets) all = by (name_eq name u.name) all.0 (none_out name t sets all.1)
  where
    by : (b : Bool) → (b ≡ true → are_apart u.record_type t ≡ false) → is_kept_out (sets_of_name sets name) t ≡ false
        → is_kept_out (cond b (u ∷ sets_of_name sets name) (sets_of_name sets name)) t ≡ false
    by true here more = or_false (are_apart u.record_type t) (is_kept_out (sets_of_name sets name) t) (here refl) more
    by false here more = more

pub apart_left : (a b t : RecordType) → same_record_type a b ≡ true → are_apart a t ≡ are_apart b t
apart_left a b t e =
    ap (λ (n : ℕ). by_number n) (eqb-true (record_type_number a) (record_type_number b) e)
  where
    by_number : ℕ → Bool
    by_number n =
        ((n == record_type_number kind.CNAME) && not (may_be_beside_alias t))
        || (same_record_type t kind.CNAME && not ((n == record_type_number kind.CNAME) || ((n == record_type_number kind.NSEC) || (n == record_type_number kind.NSEC3))))

is_some_of : {X : Type 0} (o : Option X) (x : X) → o ≡ Some x → IsSome o
is_some_of o x e = subst IsSome (sym e) refl

pub one_of : (rs : List Record) → length rs ≤ 1 → none_left rs ≡ false → (x : Record) × (rs ≡ x ∷ [])
one_of [] h e = absurd (true≢false e)
one_of (x ∷ []) h e = (x, refl)
one_of (x ∷ y ∷ rs) h e = absurd (omega (arith, h))

module _ (zone : Zone) (start : RRset) (loaded : IsLoaded zone) (there : rrset_at zone.sets zone.origin kind.SOA ≡ Some start)
    (all_sent_of : List Record) (alike : AllSame IsSameRecord (all_moved zone start) all_sent_of)
    (front : List Record) (r : Record) (rest : List Record) (parts : all_sent_of ≡ front ++ r ∷ rest)
    (mid : Zone) (run : RunsTo nothing front (stored_in mid)) (order : AreInOrder mid.sets) (sent : IsSent zone r) where
  -- What is there so far is in the zone.
  in_zone : (name : DomainName) (t : RecordType) (u : RRset) → rrset_at mid.sets name t ≡ Some u → IsSome (rrset_at zone.sets name t)
  in_zone name t u e = by (rrset_at zone.sets name t) refl
    where
      by : (o : Option RRset) → rrset_at zone.sets name t ≡ o → IsSome o
      by (Some s) h = refl
      by None h =
          let none = none_new {R = Record} {S = RRset} {Q = Key} record_of set_of_key joined records_of IsSameRecord IsSameSet of_same join_same agree agree_sets (apex zone) start zone.sets
          (all_own zone.sets loaded.stored) (distinct zone.sets loaded.ordered) (owns start (start_stored zone start loaded there)) (start_key zone start there) there all_sent_of alike
          front r rest parts (stored_in mid) run (name, t) h in
          let g : Some u ≡ None = sym e ∙ none in
          absurd (cc)

  -- Of a type of which an owner has one record none is there yet.
  fresh : (t : RecordType) → same_record_type (type_of r.rdata) t ≡ true → is_single sent.set.record_type ≡ true → rrset_at mid.sets r.name t ≡ None
  fresh t typed single =
      let one = one_of sent.set.records (sent.is.single single) sent.stored.filled in
      let found : rrset_at zone.sets r.name t ≡ Some sent.set = sym (at_alike zone.sets r.name r.name (type_of r.rdata) t (name_eq_equiv.refl r.name) typed) ∙ sent.there in
      let at : record_of (r.name, t) r ≡ true = ap (λ (b : Bool). b && same_record_type (type_of r.rdata) t) (name_eq_equiv.refl r.name) ∙ typed in
      none_before {R = Record} {S = RRset} {Q = Key} record_of set_of_key joined records_of IsSameRecord IsSameSet of_same join_same agree agree_sets (apex zone) start zone.sets
      (all_own zone.sets loaded.stored) (distinct zone.sets loaded.ordered) (owns start (start_stored zone start loaded there)) (start_key zone start there) there all_sent_of alike
      front r rest parts (stored_in mid) run (r.name, t) sent.set one.0 found one.1 at

  set_type : same_record_type sent.set.record_type (type_of r.rdata) ≡ true
  set_type = (and_parts (name_eq r.name sent.set.name) (same_record_type sent.set.record_type (type_of r.rdata)) (found_is r.name (type_of r.rdata) zone.sets sent.set sent.there)).1

  single_as : (t : RecordType) → same_record_type (type_of r.rdata) t ≡ true → is_single t ≡ true → is_single sent.set.record_type ≡ true
  single_as t typed e =
      let same : same_record_type sent.set.record_type t ≡ true = same_left sent.set.record_type (type_of r.rdata) t set_type ∙ typed in
      ap (λ (n : ℕ). (n == record_type_number kind.CNAME) || ((n == record_type_number kind.ANAME) || (n == record_type_number kind.SOA)))
      (eqb-true (record_type_number sent.set.record_type) (record_type_number t) same) ∙ e

  no_second : is_second_start mid.sets r ≡ false
  no_second =
      and_false (same_record_type (type_of r.rdata) kind.SOA) (is_some (rrset_at mid.sets r.name kind.SOA))
      (λ typed. ap is_some (fresh kind.SOA typed (single_as kind.SOA typed refl)))

  no_alias : is_beside_alias mid.sets r ≡ false
  no_alias =
      or_false (is_kept_out (sets_of_name mid.sets r.name) (type_of r.rdata)) (same_record_type (type_of r.rdata) kind.CNAME && is_other_alias (rrset_at mid.sets r.name kind.CNAME) r)
      (none_out r.name (type_of r.rdata) mid.sets
      (each_found (λ u. name_eq r.name u.name ≡ true → are_apart u.record_type (type_of r.rdata) ≡ false) mid.sets order
      (λ name t u e named.
      let is = and_parts (name_eq name u.name) (same_record_type u.record_type t) (found_is name t mid.sets u e) in
      let owner : name_eq r.name name ≡ true = sym (alike_right u.name name r.name (name_eq_equiv.symm u.name name ∙ is.0)) ∙ named in
      let there_r : IsSome (rrset_at zone.sets name (type_of r.rdata)) =
      subst IsSome (at_alike zone.sets r.name name (type_of r.rdata) (type_of r.rdata) owner (eq-eqb (record_type_number (type_of r.rdata)) (record_type_number (type_of r.rdata)) refl)) (is_some_of (rrset_at zone.sets r.name (type_of r.rdata)) sent.set sent.there) in
      apart_left u.record_type t (type_of r.rdata) is.1 ∙ loaded.aliases name t (type_of r.rdata) (in_zone name t u e) there_r)))
      (and_false (same_record_type (type_of r.rdata) kind.CNAME) (is_other_alias (rrset_at mid.sets r.name kind.CNAME) r)
      (λ typed. ap (λ (o : Option RRset). is_other_alias o r) (fresh kind.CNAME typed (single_as kind.CNAME typed refl))))

  not_refused : (index : ℕ) → mid.origin ≡ zone.origin → record_fault mid index r ≡ None
  not_refused index same =
      let inside : is_at_or_below r.name mid.origin ≡ true = ap (is_at_or_below r.name) same ∙ sent.inside in
      rw (inside, sent.unsecured, sent.of_class, no_alias, no_second) refl

-- ---- both roads
sent_each : (zone : Zone) (start : RRset) → IsLoaded zone → rrset_at zone.sets zone.origin kind.SOA ≡ Some start → AllByRecursion (IsSent zone) (all_moved zone start)
sent_each zone start loaded e =
    let sets = all_sent zone zone.sets loaded.sets loaded.stored (each_there zone.sets loaded.ordered) in
    all_append (IsSent zone) start.records (filter (λ r. not (record_of (apex zone) r)) (flat_map records_of zone.sets))
    (found_of (λ s. AllByRecursion (IsSent zone) s.records) zone.origin kind.SOA zone.sets start sets e)
    (all_kept (IsSent zone) (λ r. not (record_of (apex zone) r)) (flat_map records_of zone.sets) (all_flat (IsSent zone) zone.sets sets))

-- From a zone without records on.
record Begins (empty zone : Zone) : Type 0 where
  bare : empty.sets ≡ []
  same : zone ≡ record empty { sets = zone.sets }

run_from : (empty : Zone) (rs : List Record) (new : Key → Option RRset) → empty.sets ≡ [] → RunsTo (stored_in empty) rs new → RunsTo nothing rs new
run_from empty rs new bare run = subst (λ (sets : List RRset). RunsTo (λ key. rrset_at sets key.0 key.1) rs new) bare run

-- ---- where the same records stand
record Meets (P : Record → Type 0) (s : Record) : Type 0 where
  r : Record
  holds : P r
  same : IsSameRecord r s

at_same : (P : Record → Type 0) (rs front : List Record) (s : Record) (rest : List Record) → AllSame IsSameRecord rs (front ++ s ∷ rest) → AllByRecursion P rs → Meets P s
at_same P [] [] s rest same all = absurd same
at_same P [] (f ∷ fs) s rest same all = absurd same
at_same P (r ∷ rs) [] s rest same all = record { r = r; holds = all.0; same = same.0 }
at_same P (r ∷ rs) (f ∷ fs) s rest same all = at_same P rs fs s rest same.1 all.1

sent_same : (zone : Zone) (r s : Record) → IsSameRecord r s → IsSent zone r → IsSent zone s
sent_same zone r s same sent = record {
  set = sent.set;
  there = ap (λ (n : DomainName). rrset_at zone.sets n (type_of s.rdata)) (sym same.name) ∙ ap (λ (t : RecordType). rrset_at zone.sets r.name t) (sym same.of_type) ∙ sent.there;
  is = sent.is;
  stored = sent.stored;
  inside = ap (λ (n : DomainName). is_at_or_below n zone.origin) (sym same.name) ∙ sent.inside;
  of_class = ap (λ (c : _). same_class c IN) (sym same.dns_class) ∙ sent.of_class;
  unsecured = ap added_by_signing (sym same.of_type) ∙ sent.unsecured;
}

same_length : (rs ss : List Record) → AllSame IsSameRecord rs ss → length rs ≡ length ss
same_length [] [] same = refl
same_length [] (s ∷ ss) same = absurd same
same_length (r ∷ rs) [] same = absurd same
same_length (r ∷ rs) (s ∷ ss) same = let e = same_length rs ss same.1 in omega (arith, e)

pub same_zone : (empty zone end : Zone) (dnssec_ok : Bool) (rs : List Record) → empty.sets ≡ [] → zone ≡ record empty { sets = zone.sets } → IsLoaded zone → AllSame IsSameRecord (sent_of zone dnssec_ok) rs → 0 < length rs
    → TakesAll empty rs end → IsSameZone zone end
same_zone empty zone end dnssec_ok rs bare same loaded is some takes =
    let s = start_of zone dnssec_ok loaded (omega (arith, same_length (sent_of zone dnssec_ok) rs is, some)) in
    let alike : AllSame IsSameRecord (all_moved zone s.start) rs = subst (λ (xs : List Record). AllSame IsSameRecord xs rs) s.sends is in
    let run = run_from empty rs (stored_in end) bare (takes_run 0 empty rs end takes) in
    let ordered = takes_ordered 0 empty rs end takes (subst AreInOrder (sym bare) tt) in
    record {
      sets = same_sets zone s.start rs end.sets loaded s.there alike run ordered;
      rest = takes_rest 0 empty rs end takes ∙ ap (λ (z : Zone). record z { sets = end.sets }) (sym same);
    }

pub none_refused : (empty zone : Zone) (dnssec_ok : Bool) (rs : List Record) (e : TransferError) → empty.sets ≡ [] → zone ≡ record empty { sets = zone.sets } → IsLoaded zone → AllSame IsSameRecord (sent_of zone dnssec_ok) rs → 0 < length rs
    → RefusesOne empty rs e → ⊥
none_refused empty zone dnssec_ok rs e bare same loaded is some refuses =
    let s = start_of zone dnssec_ok loaded (omega (arith, same_length (sent_of zone dnssec_ok) rs is, some)) in
    let alike : AllSame IsSameRecord (all_moved zone s.start) rs = subst (λ (xs : List Record). AllSame IsSameRecord xs rs) s.sends is in
    let run = run_from empty refuses.front (stored_in refuses.zone) bare (takes_run 0 empty refuses.front refuses.zone refuses.before) in
    let order = takes_ordered 0 empty refuses.front refuses.zone refuses.before (subst AreInOrder (sym bare) tt) in
    let met = at_same (IsSent zone) (all_moved zone s.start) refuses.front refuses.refused refuses.later (subst (AllSame IsSameRecord (all_moved zone s.start)) refuses.parts alike) (sent_each zone s.start loaded s.there) in
    let sent = sent_same zone met.r refuses.refused met.same met.holds in
    let origin : refuses.zone.origin ≡ zone.origin = ap (λ (z : Zone). z.origin) (takes_rest 0 empty refuses.front refuses.zone refuses.before) ∙ sym (ap (λ (z : Zone). z.origin) same) in
    let none = not_refused zone s.start loaded s.there rs alike refuses.front refuses.refused refuses.later refuses.parts refuses.zone run order sent (length refuses.front) origin in
    let h : Some e ≡ None = sym refuses.cause ∙ none in
    absurd (cc)

pub memory_alone : (empty zone : Zone) (dnssec_ok : Bool) (rs : List Record) (e : TransferError) → empty.sets ≡ [] → zone ≡ record empty { sets = zone.sets } → IsLoaded zone → AllSame IsSameRecord (sent_of zone dnssec_ok) rs → 0 < length rs
    → RefusesRecords empty rs e → e ≡ errors.OutOfMemory
memory_alone empty zone dnssec_ok rs e bare same loaded is some (inl memory) = memory
memory_alone empty zone dnssec_ok rs e bare same loaded is some (inr refuses) = absurd (none_refused empty zone dnssec_ok rs e bare same loaded is some refuses)
