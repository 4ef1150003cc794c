-- A record that joins leaves the zone as loaders make it.
use Rattle.std.proofs.Common.{◌≡◌, ◌∙◌, refl, sym, ap, subst, ℕ, ◌≤◌, length, arith}
use Rattle.std.specs.Prelude.{Bool, true, false, not, ◌&&◌, ◌||◌, List, [], ◌∷◌, Option, Some, None, IsSome, is_some, cond, ◌==◌}
use Rattle.std.specs.List.{AllByRecursion}
use Rattle.std.proofs.lemmas.Bool.{and_parts, eq-eqb, eqb-true, true≢false}
use Rattle.drd_record_data.specs.Numbers.{NumbersFit}
use Rattle.drd_record_data.specs.drd_rdata.OrderLaws.{rdata_equiv}
use Rattle.zst_zone.specs.dnw_codes.DNSClass.{same_class}
use Rattle.zst_zone.specs.dnw_codes.declared.dns_class.DNSClass.{DNSClass}
use Rattle.zst_zone.specs.dnw_codes.declared.dns_class.DNSClass.TheVariants.{IN}
use Rattle.zst_zone.specs.dnw_codes.declared.record_type.RecordType.{RecordType}
use Rattle.zst_zone.specs.dnw_codes.declared.record_type.RecordType.TheVariants as kind
use Rattle.zst_zone.specs.dnw_codes.RecordType.{record_type_number, record_type_of, same_record_type}
use Rattle.zst_zone.specs.dnw_name.DomainName.{DomainName, is_at_or_below, name_eq}
use Rattle.zst_zone.specs.drd_rdata.Order.{rdata_eq}
use Rattle.zst_zone.specs.drd_rdata.Types.{type_of}
use Rattle.zst_zone.specs.zst_record.declared.records.Record.{Record}
use Rattle.zst_zone.specs.zst_record.RecordLaws.{class_equiv, name_eq_equiv}
use Rattle.zst_zone.specs.zst_record.Records.{IsOwnType, IsServable}
use Rattle.zst_zone.specs.zst_record.RecordSets.{RRset, first_of_put, is_single, put_record, set_of, set_with, with_one}
use Rattle.zst_zone.specs.zst_handler.Lookups.{sets_of_name}
use Rattle.zst_zone.specs.zst_handler.Updates.{are_apart, is_kept_out, may_be_beside_alias}
use Rattle.zst_zone.specs.zst_handler.Zones.{Zone, rrset_at}
use Rattle.zst_zone.proofs.OwnCodes.{type_read}
use Rattle.zst_zone.proofs.ReadBack.{each_found, found_is, found_of}
use Rattle.authority_load.specs.Joining.{Joins, has_others, is_beside_alias, is_of, is_other_alias, is_second_start, joined}
use Rattle.authority_load.specs.Loaded.{AliasesAlone, AreDifferent, IsLoadedRecord, IsLoadedSet, added_by_signing}

-- ---- names and types that are the same
same_left : (a b t : RecordType) → same_record_type a b ≡ true → same_record_type a t ≡ same_record_type b t
same_left a b t e = ap (λ (n : ℕ). n == record_type_number t) (eqb-true (record_type_number a) (record_type_number b) e)

same_right : (a b t : RecordType) → same_record_type a b ≡ true → same_record_type t a ≡ same_record_type t b
same_right a b t e = ap (λ (n : ℕ). record_type_number t == n) (eqb-true (record_type_number a) (record_type_number b) e)

turned : (a b : RecordType) → same_record_type a b ≡ true → same_record_type b a ≡ true
turned a b e = sym (same_left a b a e) ∙ eq-eqb (record_type_number a) (record_type_number a) refl

at_alike : (sets : List RRset) (name other : DomainName) (t u : RecordType) → name_eq name other ≡ true → same_record_type t u ≡ true → rrset_at sets name t ≡ rrset_at sets other u
at_alike [] name other t u named typed = refl
at_alike (s ∷ ss) name other t u named typed =
    ap (λ (b : Bool). cond (b && same_record_type s.record_type t) (Some s) (rrset_at ss name t)) (name_eq_equiv.congr name other s.name named)
    ∙ ap (λ (b : Bool). cond (name_eq other s.name && b) (Some s) (rrset_at ss name t)) (same_right t u s.record_type typed)
    ∙ ap (λ (o : Option RRset). cond (name_eq other s.name && same_record_type s.record_type u) (Some s) o) (at_alike ss name other t u named typed)

both_in : (a b : DNSClass) → same_class a IN ≡ true → same_class b IN ≡ true → same_class a b ≡ true
both_in a b is others = class_equiv.symm a b ∙ (class_equiv.congr b IN a others ∙ class_equiv.symm IN a ∙ is)

first_joined : (r : Record) → joined None r ≡ set_of r
first_joined r = by (same_record_type (type_of r.rdata) kind.ANAME)
  where
    by : (b : Bool) → cond b (set_of r) (set_of r) ≡ set_of r
    by true = refl
    by false = refl

apart_left : (a b t : RecordType) → same_record_type a b ≡ true → are_apart a t ≡ are_apart b t
apart_left a b t e =
    ap (λ (n : ℕ). by_number n) (eqb-true (record_type_number a) (record_type_number b) e)
  where
    by_number : ℕ → Bool
    by_number n =
        ((n == record_type_number kind.CNAME) && not (may_be_beside_alias t))
        || (same_record_type t kind.CNAME && not ((n == record_type_number kind.CNAME) || ((n == record_type_number kind.NSEC) || (n == record_type_number kind.NSEC3))))

-- ---- a record that may join
pub record IsAccepted (zone : Zone) (r : Record) : Type 0 where
  pub inside : is_at_or_below r.name zone.origin ≡ true
  pub unsecured : added_by_signing (type_of r.rdata) ≡ false
  pub own_type : IsOwnType (type_of r.rdata)
  pub of_class : same_class r.dns_class IN ≡ true
  pub no_alias : is_beside_alias zone.sets r ≡ false
  pub no_second : is_second_start zone.sets r ≡ false
  pub fits : NumbersFit r.rdata

-- Two types that are their numbers' own are the same.
own_same : (a b : RecordType) → IsOwnType a → IsOwnType b → same_record_type a b ≡ true → a ≡ b
own_same a b of_a of_b e =
    type_read a of_a ∙ ap record_type_of (eqb-true (record_type_number a) (record_type_number b) e) ∙ sym (type_read b of_b)

-- ---- one set
-- Records of this type, whatever else the set is.
abbrev Fits : DomainName → RecordType → Record → Type 0
Fits origin t r = (same_class r.dns_class IN ≡ true) × (type_of r.rdata ≡ t) × (is_at_or_below r.name origin ≡ true) × IsServable r × NumbersFit r.rdata

fits_of : (origin : DomainName) (set : RRset) (rs : List Record) → AllByRecursion (IsLoadedRecord origin set) rs → AllByRecursion (Fits origin set.record_type) rs
fits_of origin set [] all = tt
fits_of origin set (r ∷ rs) all = ((all.0.of_class, all.0.of_type, all.0.inside, all.0.servable, all.0.fits), fits_of origin set rs all.1)

loaded_of : (origin : DomainName) (set : RRset) (rs : List Record) → AllByRecursion (Fits origin set.record_type) rs → AllByRecursion (IsLoadedRecord origin set) rs
loaded_of origin set [] all = tt
loaded_of origin set (r ∷ rs) all = (record { of_class = all.0.0; of_type = all.0.1; inside = all.0.2; servable = all.0.3; fits = all.0.4 }, loaded_of origin set rs all.1)

fits_put : (origin : DomainName) (t : RecordType) (rs : List Record) (r : Record) → AllByRecursion (Fits origin t) rs → Fits origin t r → AllByRecursion (Fits origin t) (put_record rs r)
fits_put origin t [] r all new = (new, tt)
fits_put origin t (s ∷ ss) r all new = by (rdata_eq s.rdata r.rdata) (fits_put origin t ss r all.1 new)
  where
    by : (b : Bool) → AllByRecursion (Fits origin t) (put_record ss r) → AllByRecursion (Fits origin t) (cond b (r ∷ ss) (s ∷ put_record ss r))
    by true more = (new, all.1)
    by false more = (all.0, more)

differs_put : (x : Record) (ss : List Record) (r : Record) → AllByRecursion (λ later. rdata_eq x.rdata later.rdata ≡ false) ss → rdata_eq x.rdata r.rdata ≡ false → AllByRecursion (λ later. rdata_eq x.rdata later.rdata ≡ false) (put_record ss r)
differs_put x [] r all new = (new, tt)
differs_put x (s ∷ ss) r all new = by (rdata_eq s.rdata r.rdata) (differs_put x ss r all.1 new)
  where
    by : (b : Bool) → AllByRecursion (λ later. rdata_eq x.rdata later.rdata ≡ false) (put_record ss r) → AllByRecursion (λ later. rdata_eq x.rdata later.rdata ≡ false) (cond b (r ∷ ss) (s ∷ put_record ss r))
    by true more = (new, all.1)
    by false more = (all.0, more)

differs_equal : (s r : Record) (ss : List Record) → rdata_eq s.rdata r.rdata ≡ true → AllByRecursion (λ later. rdata_eq s.rdata later.rdata ≡ false) ss → AllByRecursion (λ later. rdata_eq r.rdata later.rdata ≡ false) ss
differs_equal s r [] e all = tt
differs_equal s r (x ∷ xs) e all = (sym (rdata_equiv.congr s.rdata r.rdata x.rdata e) ∙ all.0, differs_equal s r xs e all.1)

different_put : (rs : List Record) (r : Record) → AreDifferent rs → AreDifferent (put_record rs r)
different_put [] r all = (tt, tt)
different_put (s ∷ ss) r all = by (rdata_eq s.rdata r.rdata) refl (different_put ss r all.1)
  where
    by : (b : Bool) → rdata_eq s.rdata r.rdata ≡ b → AreDifferent (put_record ss r) → AreDifferent (cond b (r ∷ ss) (s ∷ put_record ss r))
    by true e more = (differs_equal s r ss e all.0, all.1)
    by false e more = (differs_put s ss r all.0 e, more)

one_put : (rs : List Record) (r : Record) → length rs ≤ 1 → has_others rs r ≡ false → length (put_record rs r) ≤ 1
one_put [] r few none = omega arith
one_put (s ∷ []) r few none = by (rdata_eq s.rdata r.rdata) none
  where
    by : (b : Bool) → (not b || false) ≡ false → length (cond b (r ∷ []) (s ∷ r ∷ [])) ≤ 1
    by true e = omega arith
    by false e = absurd (true≢false e)
one_put (s ∷ t ∷ rs) r few none = absurd (omega (arith, few))

module _ (zone : Zone) (r : Record) (is : IsAccepted zone r) (servable : IsServable r) where
  of_one : IsLoadedSet zone.origin (set_of r)
  of_one = record {
    records = (record { of_class = is.of_class; of_type = refl; inside = is.inside; servable = servable; fits = is.fits }, tt);
    unsigned = refl;
    different = (tt, tt);
    single = λ e. omega arith;
    unsecured = is.unsecured;
    of_class = is.of_class;
    own_type = is.own_type;
  }

  -- A single set joins only where it has the same data.
  none_other : (u : RRset) (name : DomainName) (t : RecordType) → rrset_at zone.sets name t ≡ Some u → name_eq name r.name ≡ true → same_record_type (type_of r.rdata) t ≡ true
      → same_record_type (type_of r.rdata) kind.ANAME ≡ false → is_single (type_of r.rdata) ≡ true → has_others u.records r ≡ false
  none_other u name t there named typed plain single = by (same_record_type (type_of r.rdata) kind.CNAME) (same_record_type (type_of r.rdata) kind.SOA) refl refl
    where
      at_type : (v : RecordType) → same_record_type (type_of r.rdata) v ≡ true → rrset_at zone.sets r.name v ≡ Some u
      at_type v e = sym (at_alike zone.sets name r.name t v named (sym (same_left (type_of r.rdata) t v typed) ∙ e)) ∙ there

      by : (b c : Bool) → same_record_type (type_of r.rdata) kind.CNAME ≡ b → same_record_type (type_of r.rdata) kind.SOA ≡ c → has_others u.records r ≡ false
      by true c e f =
          let second : (same_record_type (type_of r.rdata) kind.CNAME && is_other_alias (rrset_at zone.sets r.name kind.CNAME) r) ≡ false = or_right (is_kept_out (sets_of_name zone.sets r.name) (type_of r.rdata)) _ is.no_alias in
          sym (ap (λ (o : Option RRset). is_other_alias o r) (at_type kind.CNAME e)) ∙ sym (ap (λ (b : Bool). b && is_other_alias (rrset_at zone.sets r.name kind.CNAME) r) e) ∙ second
        where
          or_right : (a b : Bool) → (a || b) ≡ false → b ≡ false
          or_right true b h = absurd (true≢false h)
          or_right false b h = h
      by false true e f =
          absurd (true≢false (sym (ap is_some (at_type kind.SOA f)) ∙ sym (ap (λ (b : Bool). b && is_some (rrset_at zone.sets r.name kind.SOA)) f) ∙ is.no_second))
      by false false e f = absurd (true≢false (sym single ∙ ap (λ (b : Bool). b || (same_record_type (type_of r.rdata) kind.ANAME || same_record_type (type_of r.rdata) kind.SOA)) e ∙ ap (λ (b : Bool). b || same_record_type (type_of r.rdata) kind.SOA) plain ∙ f))

  with_put : (u : RRset) (name : DomainName) (t : RecordType) → rrset_at zone.sets name t ≡ Some u → name_eq name r.name ≡ true → same_record_type (type_of r.rdata) t ≡ true
      → same_record_type (type_of r.rdata) kind.ANAME ≡ false → IsLoadedSet zone.origin u → IsLoadedSet zone.origin (with_one false u r)
  with_put u name t there named typed plain old =
      let found = and_parts (name_eq name u.name) (same_record_type u.record_type t) (found_is name t zone.sets u there) in
      let same : same_record_type (type_of r.rdata) u.record_type ≡ true = sym (same_right t u.record_type (type_of r.rdata) (turned u.record_type t found.1)) ∙ typed in
      let kind_is : type_of r.rdata ≡ u.record_type = own_same (type_of r.rdata) u.record_type is.own_type old.own_type same in
      record {
        records = loaded_of zone.origin (with_one false u r) (put_record u.records r)
            (fits_put zone.origin u.record_type u.records r (fits_of zone.origin u u.records old.records) (is.of_class, kind_is, is.inside, servable, is.fits));
        unsigned = refl;
        different = different_put u.records r old.different;
        single = λ e. one_put u.records r (old.single e) (none_other u name t there named typed plain (ap is_single kind_is ∙ e));
        unsecured = old.unsecured;
        of_class = first_class u.records;
        own_type = old.own_type;
      }
    where
      first_class : (rs : List Record) → same_class (first_of_put r.dns_class u.dns_class rs r) IN ≡ true
      first_class [] = is.of_class
      first_class (s ∷ ss) = by (rdata_eq s.rdata r.rdata)
        where
          by : (b : Bool) → same_class (cond b r.dns_class u.dns_class) IN ≡ true
          by true = is.of_class
          by false = old.of_class

  joined_loaded : (o : Option RRset) (name : DomainName) (t : RecordType) → rrset_at zone.sets name t ≡ o → name_eq name r.name ≡ true → same_record_type (type_of r.rdata) t ≡ true
      → AllByRecursion (IsLoadedSet zone.origin) zone.sets → IsLoadedSet zone.origin (joined o r)
  joined_loaded None name t there named typed all = subst (IsLoadedSet zone.origin) (sym (first_joined r)) of_one
  joined_loaded (Some u) name t there named typed all = by (same_record_type (type_of r.rdata) kind.ANAME) refl
    where
      old : IsLoadedSet zone.origin u
      old = found_of (IsLoadedSet zone.origin) name t zone.sets u all there

      by : (b : Bool) → same_record_type (type_of r.rdata) kind.ANAME ≡ b → IsLoadedSet zone.origin (cond b (set_of r) (set_with (Some u) r))
      by true e = of_one
      by false e = subst (λ (b : Bool). IsLoadedSet zone.origin (with_one (not b) u r)) (sym (both_in r.dns_class u.dns_class is.of_class old.of_class)) (with_put u name t there named typed e old)

-- ---- apart
apart_right : (a b t : RecordType) → same_record_type a b ≡ true → are_apart t a ≡ are_apart t b
apart_right a b t e = ap (λ (n : ℕ). by_number n) (eqb-true (record_type_number a) (record_type_number b) e)
  where
    by_number : ℕ → Bool
    by_number n =
        (same_record_type t kind.CNAME && not ((n == record_type_number kind.CNAME) || ((n == record_type_number kind.NSEC) || (n == record_type_number kind.NSEC3))))
        || ((n == record_type_number kind.CNAME) && not (may_be_beside_alias t))

apart_turned : (a b : RecordType) → are_apart a b ≡ are_apart b a
apart_turned a b = swap (same_record_type a kind.CNAME && not (may_be_beside_alias b)) (same_record_type b kind.CNAME && not (may_be_beside_alias a))
  where
    swap : (x y : Bool) → (x || y) ≡ (y || x)
    swap true true = refl
    swap true false = refl
    swap false true = refl
    swap false false = refl

apart_itself : (a : RecordType) → are_apart a a ≡ false
apart_itself a = by (same_record_type a kind.CNAME) (same_record_type a kind.NSEC || same_record_type a kind.NSEC3)
  where
    by : (b c : Bool) → ((b && not (b || c)) || (b && not (b || c))) ≡ false
    by true c = refl
    by false c = refl

or_parts : (a b : Bool) → (a || b) ≡ false → (a ≡ false) × (b ≡ false)
or_parts true b h = absurd (true≢false h)
or_parts false b h = (refl, h)

out_step : (name : DomainName) (t : RecordType) (u : RRset) (sets : List RRset) (b : Bool) → name_eq name u.name ≡ b → is_kept_out (cond b (u ∷ sets_of_name sets name) (sets_of_name sets name)) t ≡ false
    → (name_eq name u.name ≡ true → are_apart u.record_type t ≡ false) × (is_kept_out (sets_of_name sets name) t ≡ false)
out_step name t u sets true f h = let p = or_parts (are_apart u.record_type t) (is_kept_out (sets_of_name sets name) t) h in ((λ g. p.0), p.1)
out_step name t u sets false f h = ((λ g. absurd (true≢false (sym g ∙ f))), h)

out_none : (name : DomainName) (t : RecordType) (sets : List RRset) → is_kept_out (sets_of_name sets name) t ≡ false → AllByRecursion (λ u. name_eq name u.name ≡ true → are_apart u.record_type t ≡ false) sets
out_none name t [] e = tt
out_none name t (u ∷ sets) e = let p = out_step name t u sets (name_eq name u.name) refl e in (p.0, out_none name t sets p.1)

-- A record that joins may be owned beside every set of its owner.
beside_taken : (zone : Zone) (r : Record) → IsAccepted zone r → (name : DomainName) (t : RecordType) → name_eq name r.name ≡ true → IsSome (rrset_at zone.sets name t) → are_apart t (type_of r.rdata) ≡ false
beside_taken zone r is name t named there = by (rrset_at zone.sets name t) refl there
  where
    none : AllByRecursion (λ u. name_eq r.name u.name ≡ true → are_apart u.record_type (type_of r.rdata) ≡ false) zone.sets
    none = out_none r.name (type_of r.rdata) zone.sets (or_parts (is_kept_out (sets_of_name zone.sets r.name) (type_of r.rdata)) (same_record_type (type_of r.rdata) kind.CNAME && is_other_alias (rrset_at zone.sets r.name kind.CNAME) r) is.no_alias).0

    by : (o : Option RRset) → rrset_at zone.sets name t ≡ o → IsSome o → are_apart t (type_of r.rdata) ≡ false
    by None e h = absurd (true≢false (sym h))
    by (Some u) e h =
        let found = and_parts (name_eq name u.name) (same_record_type u.record_type t) (found_is name t zone.sets u e) in
        let owner : name_eq r.name u.name ≡ true = sym (name_eq_equiv.congr name r.name u.name named) ∙ found.0 in
        sym (apart_left u.record_type t (type_of r.rdata) found.1) ∙ found_of (λ v. name_eq r.name v.name ≡ true → are_apart v.record_type (type_of r.rdata) ≡ false) name t zone.sets u none e owner

apart_step : (zone : Zone) (r : Record) → IsAccepted zone r → AliasesAlone zone.sets → (name : DomainName) (first second : RecordType) (new_first new_second : Option RRset) (b c : Bool)
    → is_of name first r ≡ b → is_of name second r ≡ c → IsSome (cond b new_first (rrset_at zone.sets name first)) → IsSome (cond c new_second (rrset_at zone.sets name second)) → are_apart first second ≡ false
apart_step zone r is apart name first second x y false false e f h k = apart name first second h k
apart_step zone r is apart name first second x y true false e f h k =
    let key = and_parts (name_eq name r.name) (same_record_type (type_of r.rdata) first) e in
    apart_turned first second ∙ sym (apart_right (type_of r.rdata) first second key.1) ∙ beside_taken zone r is name second key.0 k
apart_step zone r is apart name first second x y false true e f h k =
    let key = and_parts (name_eq name r.name) (same_record_type (type_of r.rdata) second) f in
    sym (apart_right (type_of r.rdata) second first key.1) ∙ beside_taken zone r is name first key.0 h
apart_step zone r is apart name first second x y true true e f h k =
    let one = and_parts (name_eq name r.name) (same_record_type (type_of r.rdata) first) e in
    let two = and_parts (name_eq name r.name) (same_record_type (type_of r.rdata) second) f in
    sym (apart_left (type_of r.rdata) first second one.1) ∙ sym (apart_right (type_of r.rdata) second (type_of r.rdata) two.1) ∙ apart_itself (type_of r.rdata)

-- ---- the zone
set_step : (zone : Zone) (r : Record) → IsAccepted zone r → IsServable r → AllByRecursion (IsLoadedSet zone.origin) zone.sets → (name : DomainName) (t : RecordType) (s : RRset) (b : Bool) → is_of name t r ≡ b
    → cond b (Some (joined (rrset_at zone.sets name t) r)) (rrset_at zone.sets name t) ≡ Some s → IsLoadedSet zone.origin s
set_step zone r is servable all name t s true e f =
    let key = and_parts (name_eq name r.name) (same_record_type (type_of r.rdata) t) e in
    let g : joined (rrset_at zone.sets name t) r ≡ s = cc in
    subst (IsLoadedSet zone.origin) g (joined_loaded zone r is servable (rrset_at zone.sets name t) name t refl key.0 key.1 all)
set_step zone r is servable all name t s false e f = found_of (IsLoadedSet zone.origin) name t zone.sets s all f

-- What a zone has but its order and that its sets are stored.
pub record IsSound (zone : Zone) : Type 0 where
  pub sets : AllByRecursion (IsLoadedSet zone.origin) zone.sets
  pub aliases : AliasesAlone zone.sets

pub joins_sound : (old new : Zone) (r : Record) → IsAccepted old r → IsServable r → Joins old r new → IsSound old → IsSound new
joins_sound old new r is servable joins sound =
    let origin : new.origin ≡ old.origin = ap (λ (z : Zone). z.origin) joins.rest in
    record {
      sets = subst (λ (o : DomainName). AllByRecursion (IsLoadedSet o) new.sets) (sym origin)
          (each_found (IsLoadedSet old.origin) new.sets joins.ordered
          (λ name t s e. set_step old r is servable sound.sets name t s (is_of name t r) refl (sym (joins.joins name t) ∙ e)));
      aliases = λ name first second h k.
          apart_step old r is sound.aliases name first second (Some (joined (rrset_at old.sets name first) r)) (Some (joined (rrset_at old.sets name second) r)) (is_of name first r) (is_of name second r) refl refl
          (subst IsSome (joins.joins name first) h) (subst IsSome (joins.joins name second) k);
    }
