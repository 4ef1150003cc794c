-- The types that an NSEC record lists, one set's after the other's.
use Rattle.std.proofs.Common.{◌≡◌, ℕ, ◌<◌, refl, ap, sym, ◌∙◌, eqb-true, get_or, length}
use Rattle.std.specs.Prelude.{Bool, true, false, not, ◌&&◌, ◌||◌, ◌==◌, List, [], ◌∷◌, ◌++◌, Some, cond, find, is_some, slice_get}
use Rattle.std.specs.List.{list_any}
use Rattle.std.proofs.lemmas.Bool.{true≢false}
use Rattle.zst_absence.specs.dnw_codes.declared.record_type.RecordType.{RecordType}
use Rattle.zst_absence.specs.dnw_codes.declared.record_type.RecordType.TheVariants as kind
use Rattle.zst_absence.specs.dnw_codes.RecordType.{record_type_number, same_record_type}
use Rattle.zst_absence.specs.dnw_name.DomainName.{DomainName, lowercase_name, name_eq}
use Rattle.zst_absence.specs.zst_denial.Circles.{is_delegation, is_listed, is_owned}
use Rattle.zst_absence.specs.zst_handler.Lookups.{sets_of_name}
use Rattle.zst_absence.specs.zst_handler.Zones.{Zone, rrset_at}
use Rattle.zst_absence.specs.zst_record.RecordSets.{RRset}
use Rattle.zst_absence.proofs.zst_map_lemmas.NamedSets.{type_among}
use Rattle.zst_absence.proofs.zst_map_lemmas.Replacing.{both_same, one}
use Rattle.zst_circle.specs.Securing.{IsZoneAt}
use Rattle.zst_circle.proofs.Authoritative.{delegation_lower, eq_lower, same_type}
use Rattle.zst_circle.proofs.Circling.{slice_at}
use Rattle.zst_circle.specs.NsecCircle.{is_nsec_type}
use Rattle.zst_circle.proofs.NsecSecured.{type_turned}

abbrev pub is_allowed : Bool → RecordType → Bool
is_allowed delegated t = not delegated || (same_record_type t kind.NS || same_record_type t kind.DS)

pub first_types : (delegated : Bool) (t : RecordType) → list_any (λ x. same_record_type x t) (kind.RRSIG ∷ kind.NSEC ∷ []) ≡ is_nsec_type [] delegated t
first_types delegated t = λ i. type_turned kind.RRSIG t i || (type_turned kind.NSEC t i || false)

any_more : {X : Type 0} (p : X → Bool) (xs : List X) (x : X) → list_any p (xs ++ x ∷ []) ≡ (list_any p xs || p x)
any_more p [] x = by (p x)
  where
    by : (b : Bool) → (b || false) ≡ b
    by true = refl
    by false = refl
any_more p (y ∷ ys) x = by (p y) (any_more p ys x)
  where
    by : (b : Bool) → list_any p (ys ++ x ∷ []) ≡ (list_any p ys || p x) → (b || list_any p (ys ++ x ∷ [])) ≡ ((b || list_any p ys) || p x)
    by true e = refl
    by false e = e

allowed_alike : (delegated : Bool) (x t : RecordType) → same_record_type x t ≡ true → is_allowed delegated x ≡ is_allowed delegated t
allowed_alike delegated x t same = ap (λ (n : ℕ). not delegated || ((n == 2) || (n == 43))) (eqb-true (record_type_number x) (record_type_number t) same)

-- A type that is listed comes last.
pub lists_type : (delegated : Bool) (front : List RRset) (set : RRset) (types : List RecordType) (t : RecordType) → is_allowed delegated set.record_type ≡ true
    → list_any (λ x. same_record_type x t) types ≡ is_nsec_type front delegated t
    → list_any (λ x. same_record_type x t) (types ++ set.record_type ∷ []) ≡ is_nsec_type (front ++ set ∷ []) delegated t
lists_type delegated front set types t allowed before =
    any_more (λ x. same_record_type x t) types set.record_type ∙ ap (λ (b : Bool). b || same_record_type set.record_type t) before
    ∙ core (same_record_type t kind.RRSIG) (same_record_type t kind.NSEC) (list_any (λ s. same_record_type s.record_type t) front) (is_allowed delegated t) (same_record_type set.record_type t)
    (λ same. sym (allowed_alike delegated set.record_type t same) ∙ allowed)
    ∙ ap (λ (b : Bool). same_record_type t kind.RRSIG || (same_record_type t kind.NSEC || (b && is_allowed delegated t))) (sym (any_more (λ s. same_record_type s.record_type t) front set))
  where
    core : (r n a w h : Bool) → (h ≡ true → w ≡ true) → ((r || (n || (a && w))) || h) ≡ (r || (n || ((a || h) && w)))
    core true n a w h e = refl
    core false true a w h e = refl
    core false false true true h e = refl
    core false false true false true e = absurd (true≢false (sym (e refl)))
    core false false true false false e = refl
    core false false false w true e = sym (e refl)
    core false false false w false e = refl

-- Another one is left out.
pub leaves_type : (delegated : Bool) (front : List RRset) (set : RRset) (types : List RecordType) (t : RecordType) → is_allowed delegated set.record_type ≡ false
    → list_any (λ x. same_record_type x t) types ≡ is_nsec_type front delegated t
    → list_any (λ x. same_record_type x t) types ≡ is_nsec_type (front ++ set ∷ []) delegated t
leaves_type delegated front set types t allowed before =
    before
    ∙ core (same_record_type t kind.RRSIG) (same_record_type t kind.NSEC) (list_any (λ s. same_record_type s.record_type t) front) (is_allowed delegated t) (same_record_type set.record_type t)
    (λ same. sym (allowed_alike delegated set.record_type t same) ∙ allowed)
    ∙ ap (λ (b : Bool). same_record_type t kind.RRSIG || (same_record_type t kind.NSEC || (b && is_allowed delegated t))) (sym (any_more (λ s. same_record_type s.record_type t) front set))
  where
    core : (r n a w h : Bool) → (h ≡ true → w ≡ false) → (r || (n || (a && w))) ≡ (r || (n || ((a || h) && w)))
    core true n a w h e = refl
    core false true a w h e = refl
    core false false true w h e = refl
    core false false false w true e = sym (e refl)
    core false false false w false e = refl

-- ---- by the sets of a name
pub one_at : {X : Type 0} (xs : List X) (i : ℕ) (x y : X) → i < length xs → x ≡ get_or xs i x → slice_get xs i ≡ Some y → x ≡ y
one_at xs i x y within e at = one x y (sym (slice_at xs i x within e) ∙ at)

any_found : (t : RecordType) (sets : List RRset) → list_any (λ set. same_record_type set.record_type t) sets ≡ is_some (find (λ (set : RRset). same_record_type set.record_type t) sets)
any_found t [] = refl
any_found t (set ∷ sets) = by (same_record_type set.record_type t) (any_found t sets)
  where
    by : (b : Bool) → list_any (λ s. same_record_type s.record_type t) sets ≡ is_some (find (λ (s : RRset). same_record_type s.record_type t) sets)
        → (b || list_any (λ s. same_record_type s.record_type t) sets) ≡ is_some (cond b (Some set) (find (λ (s : RRset). same_record_type s.record_type t) sets))
    by true e = refl
    by false e = e

pub owned_among : (sets : List RRset) (key : DomainName) (t : RecordType) → list_any (λ set. same_record_type set.record_type t) (sets_of_name sets key) ≡ is_some (rrset_at sets key t)
owned_among sets key t = any_found t (sets_of_name sets key) ∙ ap is_some (sym (type_among sets key t))

pub listed_by_sets : (sets : List RRset) (origin : DomainName) (zone : Zone) → IsZoneAt sets origin zone → (key owner : DomainName) → key ≡ lowercase_name owner → (delegated : Bool)
    → delegated ≡ is_delegation zone key → (t : RecordType) → is_nsec_type (sets_of_name sets key) delegated t ≡ is_listed zone owner t
listed_by_sets sets origin zone at key owner keyed delegated is t =
    let there : is_some (rrset_at sets key t) ≡ is_owned zone owner t =
    ap (λ (l : List RRset). is_some (rrset_at l key t)) (sym at.has_sets)
    ∙ ap is_some (both_same zone.sets owner key t t (ap (name_eq owner) keyed ∙ eq_lower owner) (same_type t)) in
    let cut : delegated ≡ is_delegation zone owner = is ∙ ap (is_delegation zone) keyed ∙ delegation_lower zone owner in
    let owned : list_any (λ (set : RRset). same_record_type set.record_type t) (sets_of_name sets key) ≡ is_owned zone owner t = owned_among sets key t ∙ there in
    λ i. same_record_type t kind.RRSIG || (same_record_type t kind.NSEC || (owned i && (not (cut i) || (same_record_type t kind.NS || same_record_type t kind.DS))))
