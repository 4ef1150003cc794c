-- What a record of an update makes of the sets of its owner, type by type.
use Rattle.std.proofs.Common.{◌≡◌, ◌⊎◌, inl, inr, ℕ, ◌<◌, ◌≤◌, refl, ap, sym, ◌∙◌, arith, subst}
use Rattle.std.specs.Prelude.{Bool, true, false, not, List, [], ◌∷◌, ◌++◌, Option, Some, None, cond, filter, find, if◌then◌else◌, nat_lt}
use Rattle.std.specs.List.{AllByRecursion, flat_map}
use Rattle.std.proofs.lemmas.Bool.{eq-eqb, eqb-false, eqb-true, ltb-false, ltb-true, ne_eqb}
use Rattle.zst_map.specs.dnw_codes.declared.record_type.RecordType.{RecordType}
use Rattle.zst_map.specs.dnw_codes.RecordType.{record_type_number, same_record_type}
use Rattle.zst_map.specs.drd_rdata.Types.{type_of}
use Rattle.zst_map.specs.zst_record.RecordSets.{RRset, left_of, none_left, removed, without}
use Rattle.zst_map.specs.zst_record.declared.records.Record.{Record}
use Rattle.zst_map.specs.zst_handler.Updates.{upserted}
use Rattle.zst_map.specs.zst_handler.Updates.{set_of_type, with_set}
use Rattle.zst_map.specs.ZoneMaps.{TypesRise}
use Rattle.zst_map.proofs.NodeSets.{find_with}
use Rattle.zst_map.specs.dnw_codes.declared.dns_class.DNSClass.{DNSClass}
use Rattle.zst_map.specs.dnw_codes.declared.dns_class.DNSClass.TheVariants as classes
use Rattle.zst_request.specs.Applied.{is_added, is_deleted, is_taken_from, left_by, taken_from}

-- What a record that is taken out leaves of a set.
abbrev pub or_none : Option RRset → Record → Option RRset
or_none None r = None
or_none (Some set) r =
    if is_taken_from r set then (if none_left (removed set r).records then None else Some (removed set r))
    else Some set

abbrev pub if_kept : (RRset → Bool) → Option RRset → Option RRset
if_kept q None = None
if_kept q (Some set) = if q set then Some set else None

-- ---- one set is put: its type's set is that one, and each other as it was
pub type_with : (t : RecordType) (new : RRset) (sets : List RRset)
    → set_of_type t (with_set sets new) ≡ cond (same_record_type new.record_type t) (Some new) (set_of_type t sets)
type_with = find_with

-- ---- one record is taken out
abbrev pub is_t : RecordType → RRset → Bool
is_t t set = same_record_type set.record_type t

-- no set of a type is among those of greater types
pub none_among : (n : ℕ) (t : RecordType) (sets : List RRset) → record_type_number t ≤ n → AllByRecursion (λ later. n < record_type_number later.record_type) sets
    → find (is_t t) sets ≡ None
none_among n t [] h all = refl
none_among n t (s ∷ sets) h all =
    ap (λ (b : Bool). cond b (Some s) (find (is_t t) sets))
    (ne_eqb (record_type_number s.record_type) (record_type_number t) (λ (e : record_type_number s.record_type ≡ record_type_number t). let g : n < record_type_number s.record_type = all.0 in omega arith))
    ∙ none_among n t sets h all.1

pub none_later : (t : RecordType) (s : RRset) (sets : List RRset) → AllByRecursion (λ later. record_type_number s.record_type < record_type_number later.record_type) sets → is_t t s ≡ true
    → find (is_t t) sets ≡ None
none_later t s sets all is =
    none_among (record_type_number s.record_type) t sets (let g : record_type_number s.record_type ≡ record_type_number t = eqb-true (record_type_number s.record_type) (record_type_number t) is in omega arith) all

-- a set without a record keeps its type
pub left_type : (set : RRset) (rs : List Record) → (left_of set rs).record_type ≡ set.record_type
left_type set [] = refl
left_type set (r ∷ rs) = refl

-- what is above a type stays there
above_taken : (n : ℕ) (r : Record) (sets : List RRset) → AllByRecursion (λ later. n < record_type_number later.record_type) sets
    → AllByRecursion (λ later. n < record_type_number later.record_type) (flat_map (taken_from r) sets)
above_taken n r [] all = tt
above_taken n r (s ∷ sets) all = by (is_taken_from r s) (none_left (removed s r).records) (above_taken n r sets all.1)
  where
    by : (b c : Bool) → AllByRecursion (λ later. n < record_type_number later.record_type) (flat_map (taken_from r) sets)
        → AllByRecursion (λ later. n < record_type_number later.record_type) (cond b (cond c [] (removed s r ∷ [])) (s ∷ []) ++ flat_map (taken_from r) sets)
    by true true more = more
    by true false more = (subst (λ (t : RecordType). n < record_type_number t) (sym (left_type s (without s.records r.rdata))) all.0, more)
    by false c more = (all.0, more)

pub rise_taken : (r : Record) (sets : List RRset) → TypesRise sets → TypesRise (flat_map (taken_from r) sets)
rise_taken r [] rise = tt
rise_taken r (s ∷ sets) rise = by (is_taken_from r s) (none_left (removed s r).records) (rise_taken r sets rise.1) (above_taken (record_type_number s.record_type) r sets rise.0)
  where
    by : (b c : Bool) → TypesRise (flat_map (taken_from r) sets)
        → AllByRecursion (λ later. record_type_number s.record_type < record_type_number later.record_type) (flat_map (taken_from r) sets)
        → TypesRise (cond b (cond c [] (removed s r ∷ [])) (s ∷ []) ++ flat_map (taken_from r) sets)
    by true true more first = more
    by true false more first =
        (subst (λ (t : RecordType). AllByRecursion (λ later. record_type_number t < record_type_number later.record_type) (flat_map (taken_from r) sets)) (sym (left_type s (without s.records r.rdata))) first, more)
    by false c more first = (first, more)

taken_step : (t : RecordType) (s d : RRset) (others : List RRset) (k c b : Bool) (rest : Option RRset) → is_t t d ≡ b → is_t t s ≡ b → find (is_t t) others ≡ rest → (b ≡ true → rest ≡ None)
    → find (is_t t) (cond k (cond c [] (d ∷ [])) (s ∷ []) ++ others) ≡ cond b (cond k (cond c None (Some d)) (Some s)) rest
taken_step t s d others true true true rest at_d at_s found none = found ∙ none refl
taken_step t s d others true true false rest at_d at_s found none = found
taken_step t s d others true false true rest at_d at_s found none = ap (λ (b : Bool). cond b (Some d) (find (is_t t) others)) at_d
taken_step t s d others true false false rest at_d at_s found none = ap (λ (b : Bool). cond b (Some d) (find (is_t t) others)) at_d ∙ found
taken_step t s d others false c true rest at_d at_s found none = ap (λ (b : Bool). cond b (Some s) (find (is_t t) others)) at_s
taken_step t s d others false c false rest at_d at_s found none = ap (λ (b : Bool). cond b (Some s) (find (is_t t) others)) at_s ∙ found

-- Each type's set after a record is taken out.
pub type_taken : (t : RecordType) (r : Record) (sets : List RRset) → TypesRise sets → set_of_type t (flat_map (taken_from r) sets) ≡ or_none (set_of_type t sets) r
type_taken t r [] rise = refl
type_taken t r (s ∷ sets) rise =
    let d = removed s r in
    taken_step t s d (flat_map (taken_from r) sets) (is_taken_from r s) (none_left d.records) (is_t t s) (or_none (set_of_type t sets) r)
    (ap (λ (u : RecordType). same_record_type u t) (left_type s (without s.records r.rdata))) refl (type_taken t r sets rise.1)
    (λ is. ap (λ (o : Option RRset). or_none o r) (none_later t s sets rise.0 is))
    ∙ by (is_t t s)
  where
    by : (b : Bool) → cond b (or_none (Some s) r) (or_none (set_of_type t sets) r) ≡ or_none (cond b (Some s) (set_of_type t sets)) r
    by true = refl
    by false = refl

-- ---- sets are deleted
pub all_kept : (P : RRset → Type 0) (q : RRset → Bool) (sets : List RRset) → AllByRecursion P sets → AllByRecursion P (filter q sets)
all_kept P q [] all = tt
all_kept P q (s ∷ sets) all = by (q s) (all_kept P q sets all.1)
  where
    by : (b : Bool) → AllByRecursion P (filter q sets) → AllByRecursion P (cond b (s ∷ filter q sets) (filter q sets))
    by true more = (all.0, more)
    by false more = more

pub rise_kept : (q : RRset → Bool) (sets : List RRset) → TypesRise sets → TypesRise (filter q sets)
rise_kept q [] rise = tt
rise_kept q (s ∷ sets) rise = by (q s) (rise_kept q sets rise.1) (all_kept (λ later. record_type_number s.record_type < record_type_number later.record_type) q sets rise.0)
  where
    by : (b : Bool) → TypesRise (filter q sets) → AllByRecursion (λ later. record_type_number s.record_type < record_type_number later.record_type) (filter q sets)
        → TypesRise (cond b (s ∷ filter q sets) (filter q sets))
    by true more first = (first, more)
    by false more first = more

kept_step : (t : RecordType) (q : RRset → Bool) (s : RRset) (others : List RRset) (k b : Bool) (rest : Option RRset) → is_t t s ≡ b → find (is_t t) others ≡ rest → (b ≡ true → rest ≡ None)
    → find (is_t t) (cond k (s ∷ others) others) ≡ cond b (cond k (Some s) None) rest
kept_step t q s others true true rest at found none = ap (λ (b : Bool). cond b (Some s) (find (is_t t) others)) at
kept_step t q s others true false rest at found none = ap (λ (b : Bool). cond b (Some s) (find (is_t t) others)) at ∙ found
kept_step t q s others false true rest at found none = found ∙ none refl
kept_step t q s others false false rest at found none = found

-- Each type's set where some are deleted.
pub type_kept : (t : RecordType) (q : RRset → Bool) (sets : List RRset) → TypesRise sets → set_of_type t (filter q sets) ≡ if_kept q (set_of_type t sets)
type_kept t q [] rise = refl
type_kept t q (s ∷ sets) rise =
    kept_step t q s (filter q sets) (q s) (is_t t s) (if_kept q (set_of_type t sets)) refl (type_kept t q sets rise.1)
    (λ is. ap (if_kept q) (none_later t s sets rise.0 is))
    ∙ by (is_t t s)
  where
    by : (b : Bool) → cond b (if_kept q (Some s)) (if_kept q (set_of_type t sets)) ≡ if_kept q (cond b (Some s) (set_of_type t sets))
    by true = refl
    by false = refl

-- ---- the sets of all types are one list
own : (s : RRset) → is_t s.record_type s ≡ true
own s = eq-eqb (record_type_number s.record_type) (record_type_number s.record_type) refl

pub found_own : (s : RRset) (sets : List RRset) → find (is_t s.record_type) (s ∷ sets) ≡ Some s
found_own s sets = ap (λ (b : Bool). cond b (Some s) (find (is_t s.record_type) sets)) (own s)

pub found_above : (n : ℕ) (t : RecordType) (x : RRset) (sets : List RRset) → AllByRecursion (λ later. n < record_type_number later.record_type) sets → find (is_t t) sets ≡ Some x
    → n < record_type_number x.record_type
found_above n t x [] all e = let h : ⊥ = cc in absurd h
found_above n t x (s ∷ sets) all e = by (is_t t s) e (found_above n t x sets all.1)
  where
    by : (b : Bool) → cond b (Some s) (find (is_t t) sets) ≡ Some x → (find (is_t t) sets ≡ Some x → n < record_type_number x.record_type) → n < record_type_number x.record_type
    by true f more = let g : s ≡ x = cc in subst (λ (u : RRset). n < record_type_number u.record_type) g all.0
    by false f more = more f

first_or_above : (t : RecordType) (x y : RRset) (ys : List RRset) → TypesRise (y ∷ ys) → find (is_t t) (y ∷ ys) ≡ Some x → (x ≡ y) ⊎ (record_type_number y.record_type < record_type_number x.record_type)
first_or_above t x y ys rise e = by (is_t t y) e
  where
    by : (b : Bool) → cond b (Some y) (find (is_t t) ys) ≡ Some x → (x ≡ y) ⊎ (record_type_number y.record_type < record_type_number x.record_type)
    by true f = let g : x ≡ y = cc in inl g
    by false f = inr (found_above (record_type_number y.record_type) t x ys rise.0 f)

same_first : (x y : RRset) → (x ≡ y) ⊎ (record_type_number y.record_type < record_type_number x.record_type) → (y ≡ x) ⊎ (record_type_number x.record_type < record_type_number y.record_type) → x ≡ y
same_first x y (inl e) other = e
same_first x y (inr above) (inl e) = sym e
same_first x y (inr above) (inr below) = absurd (omega (arith, above, below))

same_rest : (t : RecordType) (x : RRset) (xs ys : List RRset) (b : Bool) → is_t t x ≡ b
    → AllByRecursion (λ later. record_type_number x.record_type < record_type_number later.record_type) xs
    → AllByRecursion (λ later. record_type_number x.record_type < record_type_number later.record_type) ys
    → cond b (Some x) (find (is_t t) xs) ≡ cond b (Some x) (find (is_t t) ys) → find (is_t t) xs ≡ find (is_t t) ys
same_rest t x xs ys true at first second e = none_later t x xs first at ∙ sym (none_later t x ys second at)
same_rest t x xs ys false at first second e = e

pub owner_once : (xs ys : List RRset) → TypesRise xs → TypesRise ys → ((t : RecordType) → set_of_type t xs ≡ set_of_type t ys) → xs ≡ ys
owner_once [] [] a b same = refl
owner_once [] (y ∷ ys) a b same = let h : None ≡ Some y = same y.record_type ∙ found_own y ys in cc
owner_once (x ∷ xs) [] a b same = let h : Some x ≡ None = sym (found_own x xs) ∙ same x.record_type in cc
owner_once (x ∷ xs) (y ∷ ys) a b same =
    let first : x ≡ y = same_first x y
    (first_or_above x.record_type x y ys b (sym (same x.record_type) ∙ found_own x xs))
    (first_or_above y.record_type y x xs a (same y.record_type ∙ found_own y ys)) in
    let later : AllByRecursion (λ later. record_type_number x.record_type < record_type_number later.record_type) ys
    = subst (λ (u : RRset). AllByRecursion (λ later. record_type_number u.record_type < record_type_number later.record_type) ys) (sym first) b.0 in
    let rest : xs ≡ ys = owner_once xs ys a.1 b.1
    (λ t. same_rest t x xs ys (is_t t x) refl a.0 later (same t ∙ ap (λ (u : RRset). set_of_type t (u ∷ ys)) (sym first))) in
    ap (λ (u : RRset). u ∷ xs) first ∙ ap (λ (us : List RRset). y ∷ us) rest

-- ---- one record, by its class
above_step : (b c : Bool) (n : ℕ) (s new : RRset) (sets : List RRset) → n < record_type_number new.record_type → n < record_type_number s.record_type
    → AllByRecursion (λ later. n < record_type_number later.record_type) sets → AllByRecursion (λ later. n < record_type_number later.record_type) (with_set sets new)
    → AllByRecursion (λ later. n < record_type_number later.record_type) (cond b (s ∷ with_set sets new) (cond c (new ∷ sets) (new ∷ s ∷ sets)))
above_step true c n s new sets h first old more = (first, more)
above_step false true n s new sets h first old more = (h, old)
above_step false false n s new sets h first old more = (h, (first, old))

above_with : (n : ℕ) (new : RRset) (sets : List RRset) → n < record_type_number new.record_type → AllByRecursion (λ later. n < record_type_number later.record_type) sets
    → AllByRecursion (λ later. n < record_type_number later.record_type) (with_set sets new)
above_with n new [] h all = (h, tt)
above_with n new (s ∷ sets) h all =
    above_step (nat_lt (record_type_number s.record_type) (record_type_number new.record_type)) (same_record_type s.record_type new.record_type) n s new sets h all.0 all.1 (above_with n new sets h all.1)

lowered : (m n : ℕ) (sets : List RRset) → m ≤ n → AllByRecursion (λ later. n < record_type_number later.record_type) sets
    → AllByRecursion (λ later. m < record_type_number later.record_type) sets
lowered m n [] h all = tt
lowered m n (s ∷ sets) h all = (let g : n < record_type_number s.record_type = all.0 in omega arith, lowered m n sets h all.1)

rise_step : (b c : Bool) (s new : RRset) (sets : List RRset) → nat_lt (record_type_number s.record_type) (record_type_number new.record_type) ≡ b → same_record_type s.record_type new.record_type ≡ c
    → AllByRecursion (λ later. record_type_number s.record_type < record_type_number later.record_type) sets → TypesRise sets → TypesRise (with_set sets new)
    → TypesRise (cond b (s ∷ with_set sets new) (cond c (new ∷ sets) (new ∷ s ∷ sets)))
rise_step true c s new sets below same first old more = (above_with (record_type_number s.record_type) new sets (ltb-true (record_type_number s.record_type) (record_type_number new.record_type) below) first, more)
rise_step false true s new sets below same first old more =
    let h : record_type_number s.record_type ≡ record_type_number new.record_type = eqb-true (record_type_number s.record_type) (record_type_number new.record_type) same in
    (lowered (record_type_number new.record_type) (record_type_number s.record_type) sets (omega arith) first, old)
rise_step false false s new sets below same first old more =
    let h : record_type_number new.record_type ≤ record_type_number s.record_type = ltb-false (record_type_number s.record_type) (record_type_number new.record_type) below in
    let ne : record_type_number s.record_type ≡ record_type_number new.record_type → ⊥ = eqb-false (record_type_number s.record_type) (record_type_number new.record_type) same in
    let g : record_type_number new.record_type < record_type_number s.record_type = omega arith in
    ((g, lowered (record_type_number new.record_type) (record_type_number s.record_type) sets h first), (first, old))

pub rise_with : (new : RRset) (sets : List RRset) → TypesRise sets → TypesRise (with_set sets new)
rise_with new [] old = (tt, tt)
rise_with new (s ∷ sets) old =
    rise_step (nat_lt (record_type_number s.record_type) (record_type_number new.record_type)) (same_record_type s.record_type new.record_type) s new sets refl refl old.0 old.1 (rise_with new sets old.1)

pub left_rise : (at_apex : Bool) (sets : List RRset) (r : Record) (class : DNSClass) → TypesRise sets → TypesRise (left_by at_apex sets r class)
left_rise at_apex sets r classes.IN rise = by (is_added sets r)
  where
    by : (b : Bool) → TypesRise (cond b (with_set sets (upserted (set_of_type (type_of r.rdata) sets) r)) sets)
    by true = rise_with (upserted (set_of_type (type_of r.rdata) sets) r) sets rise
    by false = rise
left_rise at_apex sets r classes.ANY rise = rise_kept (λ set. not (is_deleted at_apex r set)) sets rise
left_rise at_apex sets r classes.NONE rise = rise_taken r sets rise
left_rise at_apex sets r other rise = rise
