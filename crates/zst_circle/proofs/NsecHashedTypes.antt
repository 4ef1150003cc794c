-- The types that an NSEC3 record lists, by the sets of its name.
use Rattle.std.proofs.Common.{◌≡◌, ℕ, Bool, true, false, not, ◌&&◌, ◌||◌, ◌==◌, List, [], ◌∷◌, ◌++◌, ◌+◌, ◌<◌, ◌≤◌, zero, suc, length, get_or, take, arith, refl, ap, sym, ◌∙◌, eqb-true}
use Rattle.std.specs.Prelude.{Err, IfOk, Ok, Result, Some, cond, find, is_some}
use Rattle.std.specs.List.{filter, list_any}
use Rattle.zst_absence.specs.dnw_codes.declared.record_type.RecordType.{RecordType}
use Rattle.zst_absence.specs.dnw_codes.declared.record_type.RecordType.TheVariants as kind
use Rattle.zst_absence.specs.dnw_codes.RecordType.{record_type_number, same_record_type}
use Rattle.zst_absence.specs.dnw_name.DomainName.{DomainName, name_eq}
use Rattle.zst_absence.specs.zst_denial.Circles.{is_delegation, is_owned}
use Rattle.zst_absence.specs.zst_denial.Hashed.{is_listed_by_hash, is_listed_of_delegation, owns_others}
use Rattle.zst_absence.specs.zst_handler.Lookups.{sets_of_name}
use Rattle.zst_absence.specs.zst_handler.Zones.{Zone, rrset_at}
use Rattle.zst_absence.specs.zst_record.RecordSets.{RRset}
use Rattle.zst_circle.specs.Nsec3Circle.{is_kept_type, is_nsec3_type, is_signed_type}
use Rattle.zst_circle.specs.Securing.{IsZoneAt}
use Rattle.zst_circle.proofs.NsecSecured.{type_turned}

-- ---- lists
any_filter : {X : Type 0} (p q : X → Bool) (xs : List X) → list_any q (filter p xs) ≡ list_any (λ x. p x && q x) xs
any_filter p q [] = refl
any_filter p q (x ∷ xs) = by (p x) (any_filter p q xs)
  where
    by : (b : Bool) → list_any q (filter p xs) ≡ list_any (λ y. p y && q y) xs → list_any q (cond b (x ∷ filter p xs) (filter p xs)) ≡ ((b && q x) || list_any (λ y. p y && q y) xs)
    by true later = ap (λ (c : Bool). q x || c) later
    by false later = later

any_find : {X : Type 0} (p : X → Bool) (xs : List X) → list_any p xs ≡ is_some (find p xs)
any_find p [] = refl
any_find p (x ∷ xs) = by (p x) (any_find p xs)
  where
    by : (b : Bool) → list_any p xs ≡ is_some (find p xs) → (b || list_any p xs) ≡ is_some (cond b (Some x) (find p xs))
    by true later = refl
    by false later = later

taken_at : {X : Type 0} (xs : List X) (n : ℕ) (x : X) → n < length xs → x ≡ get_or xs n x → take (suc n) xs ≡ take n xs ++ x ∷ []
taken_at [] n x within same = absurd (omega (arith, within))
taken_at (y ∷ ys) zero x within same = ap (λ z. z ∷ []) (sym same)
taken_at (y ∷ ys) (suc n) x within same = ap (λ zs. y ∷ zs) (taken_at ys n x (omega (arith, within)) same)

pub taken : {X : Type 0} (xs : List X) (i : ℕ) (x : X) → i < length xs → x ≡ get_or xs i x → take (i + 1) xs ≡ take i xs ++ x ∷ []
taken xs i x less e = let next : i + 1 ≡ suc i = omega (arith) in ap (λ (n : ℕ). take n xs) next ∙ taken_at xs i x less e

pub all_taken : {X : Type 0} (xs : List X) (n : ℕ) → length xs ≤ n → take n xs ≡ xs
all_taken [] zero past = refl
all_taken [] (suc n) past = refl
all_taken (x ∷ xs) zero past = absurd (omega (arith, past))
all_taken (x ∷ xs) (suc n) past = ap (λ ys. x ∷ ys) (all_taken xs n (omega (arith, past)))

pub if_ok : {T E : Type 0} {P Q : T → Type 0} (r : Result T E) → ((x : T) → P x → Q x) → IfOk r P → IfOk r Q
if_ok (Ok x) f p = f x p
if_ok (Err e) f p = tt

-- ---- one type
kept_number : (delegated : Bool) (t u : RecordType) → same_record_type u t ≡ true → is_kept_type delegated u ≡ is_kept_type delegated t
kept_number delegated t u same = ap (λ (n : ℕ). cond delegated ((n == 2) || (n == 43)) (not (n == 50))) (eqb-true (record_type_number u) (record_type_number t) same)

kept_found : (delegated : Bool) (t : RecordType) (p : RRset → Bool) (sets : List RRset)
    → list_any (λ set. p set && (same_record_type set.record_type t && is_kept_type delegated set.record_type)) sets
    ≡ (is_some (find (λ set. p set && same_record_type set.record_type t) sets) && is_kept_type delegated t)
kept_found delegated t p [] = refl
kept_found delegated t p (set ∷ sets) = by (p set) (same_record_type set.record_type t) refl (kept_found delegated t p sets)
  where
    both : (k x : Bool) → (k || (x && k)) ≡ k
    both true x = refl
    both false true = refl
    both false false = refl

    by : (b s : Bool) → same_record_type set.record_type t ≡ s
        → list_any (λ r. p r && (same_record_type r.record_type t && is_kept_type delegated r.record_type)) sets ≡ (is_some (find (λ r. p r && same_record_type r.record_type t) sets) && is_kept_type delegated t)
        → ((b && (s && is_kept_type delegated set.record_type)) || list_any (λ r. p r && (same_record_type r.record_type t && is_kept_type delegated r.record_type)) sets)
        ≡ (is_some (cond (b && s) (Some set) (find (λ r. p r && same_record_type r.record_type t) sets)) && is_kept_type delegated t)
    by false s e later = later
    by true false e later = later
    by true true e later =
        (λ i. kept_number delegated t set.record_type e i || later i)
        ∙ both (is_kept_type delegated t) (is_some (find (λ r. p r && same_record_type r.record_type t) sets))

kept_owned : (sets : List RRset) (name : DomainName) (delegated : Bool) (t : RecordType)
    → list_any (λ set. same_record_type set.record_type t && is_kept_type delegated set.record_type) (sets_of_name sets name) ≡ (is_some (rrset_at sets name t) && is_kept_type delegated t)
kept_owned sets name delegated t =
    any_filter (λ (set : RRset). name_eq name set.name) (λ set. same_record_type set.record_type t && is_kept_type delegated set.record_type) sets
    ∙ kept_found delegated t (λ set. name_eq name set.name) sets

signed_owned : (sets : List RRset) (name : DomainName) (delegated : Bool)
    → list_any (λ set. is_signed_type delegated set.record_type) (sets_of_name sets name) ≡ list_any (λ set. name_eq name set.name && is_signed_type delegated set.record_type) sets
signed_owned sets name delegated = any_filter (λ (set : RRset). name_eq name set.name) (λ set. is_signed_type delegated set.record_type) sets

-- ---- what is listed
turned : (a b : Bool) → (a && b) ≡ (b && a)
turned true true = refl
turned true false = refl
turned false true = refl
turned false false = refl

listed_by : (zone : Zone) (name : DomainName) (delegated : Bool) (t : RecordType) → is_nsec3_type (sets_of_name zone.sets name) delegated t
    ≡ cond delegated (is_listed_of_delegation zone name t) ((is_owned zone name t && not (same_record_type t kind.NSEC3)) || (same_record_type t kind.RRSIG && owns_others zone name))
listed_by zone name true t =
    (λ i. kept_owned zone.sets name true t i || (same_record_type t kind.RRSIG && signed_owned zone.sets name true i))
    ∙ (λ i. turned (is_owned zone name t) (same_record_type t kind.NS || same_record_type t kind.DS) i
    || (same_record_type t kind.RRSIG && any_find (λ (set : RRset). name_eq name set.name && same_record_type set.record_type kind.DS) zone.sets i))
listed_by zone name false t =
    λ i. kept_owned zone.sets name false t i || (same_record_type t kind.RRSIG && signed_owned zone.sets name false i)

pub listed_in : (sets : List RRset) (key : DomainName) (zone : Zone) → IsZoneAt sets key zone → (name : DomainName) (delegated : Bool) → delegated ≡ is_delegation zone name
    → (owned : List RRset) → owned ≡ sets_of_name sets name → (t : RecordType) → is_nsec3_type owned delegated t ≡ is_listed_by_hash zone name t
listed_in sets key zone at name delegated is owned are t =
    ap (λ (l : List RRset). is_nsec3_type l delegated t) (are ∙ ap (λ (l : List RRset). sets_of_name l name) (sym at.has_sets))
    ∙ listed_by zone name delegated t
    ∙ ap (λ (d : Bool). cond d (is_listed_of_delegation zone name t) ((is_owned zone name t && not (same_record_type t kind.NSEC3)) || (same_record_type t kind.RRSIG && owns_others zone name))) is

-- ---- a turn of the loops
any_more : {X : Type 0} (p : X → Bool) (xs : List X) (x : X) → list_any p (xs ++ x ∷ []) ≡ (list_any p xs || p x)
any_more p [] x = by (p x)
  where
    by : (b : Bool) → (b || false) ≡ b
    by true = refl
    by false = refl
any_more p (y ∷ ys) x = by (p y) (any_more p ys x)
  where
    by : (b : Bool) → list_any p (ys ++ x ∷ []) ≡ (list_any p ys || p x) → (b || list_any p (ys ++ x ∷ [])) ≡ ((b || list_any p ys) || p x)
    by true e = refl
    by false e = e

-- RRSIG comes first, if some type is signed.
pub first_types : (signed : Bool) (t : RecordType) (types : List RecordType) → types ≡ cond signed (kind.RRSIG ∷ []) [] → list_any (λ x. same_record_type x t) types ≡ (false || (same_record_type t kind.RRSIG && signed))
first_types signed t types is = ap (λ (l : List RecordType). list_any (λ x. same_record_type x t) l) is ∙ by signed
  where
    core : (b : Bool) → (b || false) ≡ (b && true)
    core true = refl
    core false = refl

    none : (b : Bool) → false ≡ (b && false)
    none true = refl
    none false = refl

    by : (b : Bool) → list_any (λ x. same_record_type x t) (cond b (kind.RRSIG ∷ []) []) ≡ (same_record_type t kind.RRSIG && b)
    by true = ap (λ (c : Bool). c || false) (type_turned kind.RRSIG t) ∙ core (same_record_type t kind.RRSIG)
    by false = none (same_record_type t kind.RRSIG)

abbrev pub are_kept : Bool → RecordType → List RRset → Bool
are_kept delegated t sets = list_any (λ set. same_record_type set.record_type t && is_kept_type delegated set.record_type) sets

-- A type that is listed comes last.
pub lists_type : (delegated : Bool) (t : RecordType) (front : List RRset) (set : RRset) (types : List RecordType) (rest : Bool) → is_kept_type delegated set.record_type ≡ true
    → list_any (λ x. same_record_type x t) types ≡ (are_kept delegated t front || rest)
    → list_any (λ x. same_record_type x t) (types ++ set.record_type ∷ []) ≡ (are_kept delegated t (front ++ set ∷ []) || rest)
lists_type delegated t front set types rest is before =
    any_more (λ x. same_record_type x t) types set.record_type ∙ ap (λ (b : Bool). b || same_record_type set.record_type t) before
    ∙ core (are_kept delegated t front) rest (same_record_type set.record_type t)
    ∙ ap (λ (b : Bool). (are_kept delegated t front || (same_record_type set.record_type t && b)) || rest) (sym is)
    ∙ ap (λ (b : Bool). b || rest) (sym (any_more (λ s. same_record_type s.record_type t && is_kept_type delegated s.record_type) front set))
  where
    core : (a r s : Bool) → ((a || r) || s) ≡ ((a || (s && true)) || r)
    core true r s = refl
    core false true true = refl
    core false true false = refl
    core false false true = refl
    core false false false = refl

-- Another one is left out.
pub leaves_type : (delegated : Bool) (t : RecordType) (front : List RRset) (set : RRset) (types : List RecordType) (rest : Bool) → is_kept_type delegated set.record_type ≡ false
    → list_any (λ x. same_record_type x t) types ≡ (are_kept delegated t front || rest)
    → list_any (λ x. same_record_type x t) types ≡ (are_kept delegated t (front ++ set ∷ []) || rest)
leaves_type delegated t front set types rest is before =
    before ∙ core (are_kept delegated t front) rest (same_record_type set.record_type t)
    ∙ ap (λ (b : Bool). (are_kept delegated t front || (same_record_type set.record_type t && b)) || rest) (sym is)
    ∙ ap (λ (b : Bool). b || rest) (sym (any_more (λ s. same_record_type s.record_type t && is_kept_type delegated s.record_type) front set))
  where
    core : (a r s : Bool) → (a || r) ≡ ((a || (s && false)) || r)
    core true r s = refl
    core false r true = refl
    core false r false = refl
