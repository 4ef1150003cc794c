-- The authoritative names of a zone: which they are under equal names, and how they are listed.
use Rattle.std.proofs.Common.{Bor, ◌≡◌, ◌⊎◌, ℕ, ◌+◌, ◌-◌, ◌<◌, ◌≤◌, Bool, true, false, not, ◌&&◌, ◌||◌, List, [], ◌∷◌, ◌++◌, drop, length, refl, ap, sym, ◌∙◌, arith, inl, inr}
use Rattle.std.specs.Prelude.{Option, Some, None, IsSome, cond, is_some, nat_lt, option_copied, slice_get}
use Rattle.std.specs.Cmp.Lexicographic.{pointwise}
use Rattle.std.specs.List.{AllByRecursion, filter, list_any}
use Rattle.std.specs.List.Sorted.{IsStrictlySortedBy}
use Rattle.std.specs.Str.{str_to_ascii_lowercase}
use Rattle.std.specs.declared.cmp.Ordering.{Ordering}
use Rattle.std.specs.declared.cmp.Ordering.TheVariants.{Less}
use Rattle.std.proofs.lemmas.Bool.{and_parts, cases_lt, true≢false}
use Rattle.std.proofs.lemmas.Bool.Decides.{nat_tests}
use Rattle.std.proofs.lemmas.List.{drop-map, length-drop, length-map}
use Rattle.std.proofs.lemmas.Map.Keys.{sorted_head, sorted_tail}
use Rattle.zst_absence.specs.dnw_label.Label.{label_eq}
use Rattle.zst_absence.specs.dnw_codes.declared.record_type.RecordType.{RecordType}
use Rattle.zst_absence.specs.dnw_codes.declared.record_type.RecordType.TheVariants as kind
use Rattle.zst_absence.specs.dnw_codes.RecordType.{same_record_type}
use Rattle.zst_absence.specs.dnw_name.DomainName.{DomainName, domain_name, is_at_or_below, lowercase_name, name_cmp, name_eq}
use Rattle.zst_absence.specs.zst_denial.Circles.{IsAuthoritativeName, IsCutOff, is_delegation}
use Rattle.zst_absence.specs.zst_handler.Lookups.{sets_of_name}
use Rattle.zst_absence.specs.zst_handler.Zones.{Zone, rrset_at}
use Rattle.zst_absence.specs.zst_key.Ancestors.{up}
use Rattle.zst_absence.specs.zst_record.RecordLaws.{name_eq_equiv}
use Rattle.zst_absence.specs.zst_record.RecordSets.{RRset}
use Rattle.zst_absence.proofs.zst_denial_lemmas.zst_key_lemmas.Climbing.{up-up}
use Rattle.zst_absence.proofs.zst_denial_lemmas.zst_key_lemmas.KeyLemmas.{above-lower, below-lower, cmp-lower, cmp-lower-first, eq-below, eq-lower, lower-twice, one-lower}
use Rattle.zst_absence.proofs.zst_denial_lemmas.zst_key_lemmas.NamesAbove.{above-shorter}
use Rattle.zst_absence.proofs.zst_map_lemmas.Replacing.{both_same, type_same}
use Rattle.zst_circle.specs.Securing.{AreAuthoritative, HasNone, IsAuthoritativeOwner, IsZoneAt, is_strictly_below}

-- ---- lists
pub any_named : {X : Type 0} (p q : X → Bool) (xs : List X) → ((x : X) → p x ≡ q x) → list_any p xs ≡ list_any q xs
any_named p q [] same = refl
any_named p q (x ∷ xs) same = ap (λ (b : Bool). b || list_any p xs) (same x) ∙ ap (λ (b : Bool). q x || b) (any_named p q xs same)

none_kept : {X : Type 0} (p : X → Bool) (xs : List X) → filter p xs ≡ [] → list_any p xs ≡ false
none_kept p [] e = refl
none_kept p (x ∷ xs) e = by (p x) e (none_kept p xs)
  where
    by : (b : Bool) → cond b (x ∷ filter p xs) (filter p xs) ≡ [] → (filter p xs ≡ [] → list_any p xs ≡ false) → (b || list_any p xs) ≡ false
    by true e later = absurd (cc e)
    by false e later = later e

first_kept : {X : Type 0} (p : X → Bool) (xs : List X) (y : X) (ys : List X) → filter p xs ≡ y ∷ ys → (p y ≡ true) × (list_any p xs ≡ true)
first_kept p [] y ys e = absurd (cc e)
first_kept p (x ∷ xs) y ys e = by (p x) refl e (first_kept p xs y ys)
  where
    by : (b : Bool) → p x ≡ b → cond b (x ∷ filter p xs) (filter p xs) ≡ y ∷ ys → (filter p xs ≡ y ∷ ys → (p y ≡ true) × (list_any p xs ≡ true)) → (p y ≡ true) × ((b || list_any p xs) ≡ true)
    by true is e later = let same : x ≡ y = cc e in (ap p (sym same) ∙ is, refl)
    by false is e later = later e

or_either : (b c : Bool) → (b || c) ≡ true → (b ≡ true) ⊎ (c ≡ true)
or_either true c e = inl refl
or_either false c e = inr e

any_first : (b c : Bool) → b ≡ true → (b || c) ≡ true
any_first true c e = refl
any_first false c e = absurd (true≢false (sym e))

any_later : (b c : Bool) → c ≡ true → (b || c) ≡ true
any_later true c e = refl
any_later false c e = e

pub any_front : {X : Type 0} (p : X → Bool) (xs : List X) (x : X) → list_any p xs ≡ true → list_any p (xs ++ x ∷ []) ≡ true
any_front p [] x e = absurd (true≢false (sym e))
any_front p (y ∷ ys) x e = by (p y) e (any_front p ys x)
  where
    by : (b : Bool) → (b || list_any p ys) ≡ true → (list_any p ys ≡ true → list_any p (ys ++ x ∷ []) ≡ true) → (b || list_any p (ys ++ x ∷ [])) ≡ true
    by true e later = refl
    by false e later = later e

pub any_last : {X : Type 0} (p : X → Bool) (xs : List X) (x : X) → p x ≡ true → list_any p (xs ++ x ∷ []) ≡ true
any_last p [] x e = any_first (p x) false e
any_last p (y ∷ ys) x e = any_later (p y) (list_any p (ys ++ x ∷ [])) (any_last p ys x e)

pub all_and : {X : Type 0} (P : X → Type 0) (xs : List X) (x : X) → AllByRecursion P xs → P x → AllByRecursion P (xs ++ x ∷ [])
all_and P [] x all p = (p, tt)
all_and P (y ∷ ys) x all p = (all.0, all_and P ys x all.1 p)

pub all_as : {X : Type 0} (P Q : X → Type 0) → ((x : X) → P x → Q x) → (xs : List X) → AllByRecursion P xs → AllByRecursion Q xs
all_as P Q f [] all = tt
all_as P Q f (x ∷ xs) all = (f x all.0, all_as P Q f xs all.1)

sorted_last : {K : Type 0} (cmp : K → K → Ordering) (xs : List K) (x : K) → IsStrictlySortedBy cmp xs → AllByRecursion (λ y. cmp y x ≡ Less) xs → IsStrictlySortedBy cmp (xs ++ x ∷ [])
unfolding IsStrictlySortedBy
sorted_last cmp [] x sorted below = (tt, tt)
sorted_last cmp (y ∷ ys) x sorted below = (all_and (λ z. cmp y z ≡ Less) ys x sorted.0 below.0, sorted_last cmp ys x sorted.1 below.1)

-- ---- below another name
same_both : (a b : DomainName) → length a.labels ≡ length b.labels → is_at_or_below a b ≡ true → is_at_or_below b a ≡ true
same_both a b long e =
    let level : length a.labels - length b.labels ≡ 0 = omega (arith, long) in
    let eq : name_eq (domain_name true b.labels) (domain_name true a.labels) ≡ true = sym (ap (λ (n : ℕ). pointwise label_eq b.labels (drop n a.labels)) level) ∙ e in
    eq-below (domain_name true a.labels) (domain_name true b.labels) (name_eq_equiv.symm (domain_name true a.labels) (domain_name true b.labels) ∙ eq)

pub strictly : (a b : DomainName) → (is_at_or_below a b && not (is_at_or_below b a)) ≡ is_strictly_below a b
strictly a b = by (is_at_or_below a b) refl (is_at_or_below b a) refl (nat_lt (length b.labels) (length a.labels)) refl
  where
    by : (p : Bool) → is_at_or_below a b ≡ p → (q : Bool) → is_at_or_below b a ≡ q → (r : Bool) → nat_lt (length b.labels) (length a.labels) ≡ r → (p && not q) ≡ (p && r)
    by false e q f r g = refl
    by true e true f false g = refl
    by true e false f true g = refl
    by true e true f true g =
        let less : length b.labels < length a.labels = grind (g, nat_tests, arith) in
        absurd (omega (arith, less, above-shorter b a f))
    by true e false f false g =
        let most : length a.labels ≤ length b.labels = grind (g, nat_tests, arith) in
        let long : length a.labels ≡ length b.labels = omega (arith, most, above-shorter a b e) in
        absurd (true≢false (sym (same_both a b long e) ∙ f))

strict_parts : (a b : DomainName) → is_strictly_below a b ≡ true → (is_at_or_below a b ≡ true) × (length b.labels < length a.labels)
strict_parts a b e =
    let parts = and_parts (is_at_or_below a b) (nat_lt (length b.labels) (length a.labels)) e in
    let test = parts.1 in
    (parts.0, grind (test, nat_tests, arith))

outside : (origin name : DomainName) (n : ℕ) → n ≤ length name.labels → is_at_or_below (up name n) origin ≡ true → is_at_or_below name origin ≡ true
outside origin name n within below =
    let j = length (drop n name.labels) - length origin.labels in
    let level : n + j ≡ length name.labels - length origin.labels = omega (arith, within, above-shorter (up name n) origin below, length-drop n name.labels) in
    ap (λ (m : DomainName). pointwise label_eq origin.labels m.labels) (sym (ap (up name) level) ∙ sym (up-up name n j)) ∙ below

-- What lies above a name that is not below another one isn't, either.
strict_up : (a b : DomainName) (n : ℕ) → is_strictly_below (up a n) b ≡ true → is_strictly_below a b ≡ true
strict_up a b n e =
    let parts = strict_parts (up a n) b e in
    let within : n ≤ length a.labels = omega (arith, parts.1, length-drop n a.labels) in
    let below = outside b a n within parts.0 in
    let more : length b.labels < length a.labels = omega (arith, parts.1, length-drop n a.labels) in
    let test : nat_lt (length b.labels) (length a.labels) ≡ true = grind (more, nat_tests, arith) in
    rw (below, test) refl

-- ---- by the key of the origin
pub origin_below : (sets : List RRset) (key : DomainName) (zone : Zone) → IsZoneAt sets key zone → (name : DomainName) → is_at_or_below name key ≡ is_at_or_below name zone.origin
origin_below sets key zone at name = ap (is_at_or_below name) (sym at.has_origin) ∙ above-lower name zone.origin

origin_long : (sets : List RRset) (key : DomainName) (zone : Zone) → IsZoneAt sets key zone → length key.labels ≡ length zone.origin.labels
origin_long sets key zone at = ap (λ (n : DomainName). length n.labels) (sym at.has_origin) ∙ length-map zone.origin.labels str_to_ascii_lowercase

pub delegated : (sets : List RRset) (key : DomainName) (zone : Zone) → IsZoneAt sets key zone → (name : DomainName)
    → (is_strictly_below name key && is_some (rrset_at sets name kind.NS)) ≡ is_delegation zone name
delegated sets key zone at name =
    λ i. (origin_below sets key zone at name i && nat_lt (origin_long sets key zone at i) (length name.labels)) && is_some (rrset_at (sym at.has_sets i) name kind.NS)

-- ---- under equal names
pub below_alike : (a b other : DomainName) → name_eq a b ≡ true → is_at_or_below a other ≡ is_at_or_below b other
below_alike a b other e = sym (below-lower a other) ∙ ap (λ (n : DomainName). is_at_or_below n other) (one-lower a b e) ∙ below-lower b other

up_alike : (a b : DomainName) (n : ℕ) → name_eq a b ≡ true → lowercase_name (up a n) ≡ lowercase_name (up b n)
up_alike a b n e =
    ap (domain_name a.fqdn) (sym (drop-map str_to_ascii_lowercase n a.labels)) ∙ ap (λ (m : DomainName). up m n) (one-lower a b e)
    ∙ ap (domain_name b.fqdn) (drop-map str_to_ascii_lowercase n b.labels)

pub eq_lower : (a : DomainName) → name_eq a (lowercase_name a) ≡ true
eq_lower a = eq-lower a a ∙ name_eq_equiv.refl a

pub same_type : (t : RecordType) → same_record_type t t ≡ true
same_type t = grind (nat_tests, arith)

pub delegation_lower : (zone : Zone) (name : DomainName) → is_delegation zone (lowercase_name name) ≡ is_delegation zone name
delegation_lower zone name =
    λ i. (below-lower name zone.origin i && nat_lt (length zone.origin.labels) (length-map name.labels str_to_ascii_lowercase i))
    && is_some (both_same zone.sets name (lowercase_name name) kind.NS kind.NS (eq_lower name) refl i)

pub delegation_alike : (zone : Zone) (a b : DomainName) (n : ℕ) → name_eq a b ≡ true → is_delegation zone (up a n) ≡ is_delegation zone (up b n)
delegation_alike zone a b n e =
    sym (delegation_lower zone (up a n)) ∙ ap (is_delegation zone) (up_alike a b n e) ∙ delegation_lower zone (up b n)

pub cut_alike : (zone : Zone) (a b : DomainName) → name_eq a b ≡ true → IsCutOff zone a → IsCutOff zone b
cut_alike zone a b e cut = record { levels = cut.levels; proper = cut.proper; cut = sym (delegation_alike zone a b cut.levels e) ∙ cut.cut }

-- ---- look-ups
pub some_copied : {X : Type 0} (o : Option (Bor X)) → is_some o ≡ is_some (option_copied o)
some_copied None = refl
some_copied (Some x) = refl

pub first_of : {X : Type 0} (xs : List X) (x : X) → slice_get xs 0 ≡ Some x → (ys : List X) × (xs ≡ x ∷ ys)
first_of [] x e = absurd (cc e)
first_of (y ∷ ys) x e = let same : y ≡ x = cc e in (ys, ap (λ (z : _). z ∷ ys) same)

pub none_first : {X : Type 0} (xs : List X) → slice_get xs 0 ≡ None → xs ≡ []
none_first [] e = refl
none_first (y ∷ ys) e = absurd (cc e)

pub owner_alike : (zone : Zone) (a b : DomainName) → name_eq a b ≡ true → IsAuthoritativeOwner zone a → IsAuthoritativeOwner zone b
owner_alike zone a b e is = record {
  owns = any_named (λ (set : RRset). name_eq b set.name) (λ set. name_eq a set.name) zone.sets (λ set. sym (name_eq_equiv.congr a b set.name e)) ∙ is.owns;
  in_zone = sym (below_alike a b zone.origin e) ∙ is.in_zone;
  uncut = λ cut. is.uncut (cut_alike zone b a (name_eq_equiv.symm b a ∙ e) cut);
}

-- ---- what climbing finds
pub record Climbed (sets : List RRset) (origin key above : DomainName) : Type 0 where
  pub levels : ℕ
  pub at : above ≡ up key levels
  pub none : (zone : Zone) → IsZoneAt sets origin zone → (n : ℕ) → 0 < n → n ≤ levels → is_delegation zone (up key n) ≡ false

pub climb_starts : (sets : List RRset) (origin key : DomainName) → Climbed sets origin key key
climb_starts sets origin key = record {
  levels = 0;
  at = refl;
  none = λ zone at n proper within. absurd (omega (arith, proper, within));
}

pub climb_goes : (sets : List RRset) (origin key above : DomainName) (found : Bool) → Climbed sets origin key above
    → ((zone : Zone) → IsZoneAt sets origin zone → found ≡ is_delegation zone (up above 1)) → found ≡ false → Climbed sets origin key (up above 1)
climb_goes sets origin key above found c is no_cut = record {
  levels = c.levels + 1;
  at = ap (λ (n : DomainName). up n 1) c.at ∙ up-up key c.levels 1;
  none = λ zone at n proper within. elim (cases_lt n (c.levels + 1)) [
    | inl less ↦ c.none zone at n proper (omega (arith, less))
    | inr more ↦
        let last : n ≡ c.levels + 1 = omega (arith, more, within) in
        ap (λ (m : ℕ). is_delegation zone (up key m)) last ∙ ap (is_delegation zone) (sym (up-up key c.levels 1) ∙ ap (λ (m : DomainName). up m 1) (sym c.at)) ∙ sym (is zone at) ∙ no_cut
  ];
}

pub climb_cut : (sets : List RRset) (origin key above : DomainName) (found : Bool) → Climbed sets origin key above
    → ((zone : Zone) → IsZoneAt sets origin zone → found ≡ is_delegation zone (up above 1)) → found ≡ true → (zone : Zone) → IsZoneAt sets origin zone → IsCutOff zone key
climb_cut sets origin key above found c is cut zone at = record {
  levels = c.levels + 1;
  proper = omega arith;
  cut = ap (is_delegation zone) (sym (up-up key c.levels 1) ∙ ap (λ (m : DomainName). up m 1) (sym c.at)) ∙ sym (is zone at) ∙ cut;
}

pub climb_ends : (sets : List RRset) (origin key above : DomainName) → Climbed sets origin key above → is_strictly_below above origin ≡ false
    → (zone : Zone) → IsZoneAt sets origin zone → IsCutOff zone key → ⊥
climb_ends sets origin key above c ended zone at cut = elim (cases_lt c.levels cut.levels) [
  | inl more ↦
      let level : c.levels + (cut.levels - c.levels) ≡ cut.levels = omega (arith, more) in
      let there : up above (cut.levels - c.levels) ≡ up key cut.levels
      = ap (λ (m : DomainName). up m (cut.levels - c.levels)) c.at ∙ up-up key c.levels (cut.levels - c.levels) ∙ ap (up key) level in
      let both = and_parts (is_strictly_below (up key cut.levels) origin) (is_some (rrset_at sets (up key cut.levels) kind.NS)) (delegated sets origin zone at (up key cut.levels) ∙ cut.cut) in
      true≢false (sym (strict_up above origin (cut.levels - c.levels) (ap (λ (m : DomainName). is_strictly_below m origin) there ∙ both.0)) ∙ ended)
  | inr less ↦ true≢false (sym cut.cut ∙ c.none zone at cut.levels cut.proper less)
]

-- One level up there are fewer labels.
pub fewer : (above origin : DomainName) → is_strictly_below above origin ≡ true → length (up above 1).labels < length above.labels
fewer above origin e =
    let parts = strict_parts above origin e in
    omega (arith, parts.1, length-drop 1 above.labels)

-- ---- one owner
pub no_owner : (sets : List RRset) (origin key : DomainName) → sets_of_name sets key ≡ [] → (zone : Zone) → IsZoneAt sets origin zone → IsAuthoritativeOwner zone key → ⊥
no_owner sets origin key none zone at is =
    true≢false (sym is.owns ∙ ap (list_any (λ set. name_eq key set.name)) at.has_sets ∙ none_kept (λ (set : RRset). name_eq key set.name) sets none)

pub is_owner : (sets : List RRset) (origin key : DomainName) (set : RRset) (others : List RRset) → sets_of_name sets key ≡ set ∷ others
    → is_at_or_below key origin ≡ true → ((zone : Zone) → IsZoneAt sets origin zone → IsCutOff zone key → ⊥)
    → (zone : Zone) → IsZoneAt sets origin zone → IsAuthoritativeOwner zone key
is_owner sets origin key set others own below uncut zone at = record {
  owns = ap (list_any (λ s. name_eq key s.name)) at.has_sets ∙ (first_kept (λ (s : RRset). name_eq key s.name) sets set others own).1;
  in_zone = sym (origin_below sets origin zone at key) ∙ below;
  uncut = uncut zone at;
}

pub owner_named : (sets : List RRset) (key : DomainName) (set : RRset) (others : List RRset) (name : DomainName) → sets_of_name sets key ≡ set ∷ others → name ≡ lowercase_name set.name
    → name ≡ lowercase_name key
owner_named sets key set others name own named = named ∙ sym (one-lower key set.name (first_kept (λ (s : RRset). name_eq key s.name) sets set others own).0)

-- ---- the list
pub record Listing (sets : List RRset) (origin : DomainName) (left names : List DomainName) : Type 0 where
  pub left_ordered : IsStrictlySortedBy name_cmp left
  pub ordered : IsStrictlySortedBy name_cmp names
  pub lower : AllByRecursion (λ name. lowercase_name name ≡ name) names
  pub before : AllByRecursion (λ name. AllByRecursion (λ key. name_cmp name key ≡ Less) left) names
  pub each : (zone : Zone) → IsZoneAt sets origin zone → AllByRecursion (IsAuthoritativeOwner zone) names
  pub all : (zone : Zone) → IsZoneAt sets origin zone → (name : DomainName) → IsAuthoritativeOwner zone name
      → (list_any (name_eq name) names ≡ true) ⊎ (list_any (name_eq name) left ≡ true)

sorted_none : IsStrictlySortedBy name_cmp []
unfolding IsStrictlySortedBy
sorted_none = tt

pub lists_all : (sets : List RRset) (origin : DomainName) (owners : List DomainName) → IsStrictlySortedBy name_cmp owners
    → ((name : DomainName) → list_any (name_eq name) owners ≡ list_any (λ set. name_eq name set.name) sets) → Listing sets origin owners []
lists_all sets origin owners ordered each = record {
  left_ordered = ordered;
  ordered = sorted_none;
  lower = tt;
  before = tt;
  each = λ zone at. tt;
  all = λ zone at name is. inr (each name ∙ sym (ap (list_any (λ set. name_eq name set.name)) at.has_sets) ∙ is.owns);
}

past_first : (key : DomainName) (left names : List DomainName) → AllByRecursion (λ name. AllByRecursion (λ k. name_cmp name k ≡ Less) (key ∷ left)) names
    → AllByRecursion (λ name. AllByRecursion (λ k. name_cmp name k ≡ Less) left) names
past_first key left names = all_as (λ name. AllByRecursion (λ k. name_cmp name k ≡ Less) (key ∷ left)) (λ name. AllByRecursion (λ k. name_cmp name k ≡ Less) left) (λ name all. all.1) names

-- A key of no authoritative name is passed over.
pub lists_none : (sets : List RRset) (origin key : DomainName) (left names : List DomainName) → Listing sets origin (key ∷ left) names
    → ((zone : Zone) → IsZoneAt sets origin zone → IsAuthoritativeOwner zone key → ⊥) → Listing sets origin left names
lists_none sets origin key left names l none = record {
  left_ordered = sorted_tail name_cmp key left l.left_ordered;
  ordered = l.ordered;
  lower = l.lower;
  before = past_first key left names l.before;
  each = l.each;
  all = λ zone at name is. by zone at name is (l.all zone at name is);
}
  where
    by : (zone : Zone) → IsZoneAt sets origin zone → (name : DomainName) → IsAuthoritativeOwner zone name → (list_any (name_eq name) names ≡ true) ⊎ (list_any (name_eq name) (key ∷ left) ≡ true)
        → (list_any (name_eq name) names ≡ true) ⊎ (list_any (name_eq name) left ≡ true)
    by zone at name is (inl e) = inl e
    by zone at name is (inr e) = elim (or_either (name_eq name key) (list_any (name_eq name) left) e) [
      | inl here ↦ absurd (none zone at (owner_alike zone name key here is))
      | inr later ↦ inr later
    ]

-- The key of an authoritative name is listed in lower case.
pub lists_one : (sets : List RRset) (origin key : DomainName) (left names : List DomainName) (last : DomainName) → Listing sets origin (key ∷ left) names → last ≡ lowercase_name key
    → ((zone : Zone) → IsZoneAt sets origin zone → IsAuthoritativeOwner zone key) → Listing sets origin left (names ++ last ∷ [])
lists_one sets origin key left names last l is_key on = record {
  left_ordered = sorted_tail name_cmp key left l.left_ordered;
  ordered = sorted_last name_cmp names last l.ordered
      (all_as (λ name. AllByRecursion (λ k. name_cmp name k ≡ Less) (key ∷ left)) (λ name. name_cmp name last ≡ Less) (λ name all. ap (name_cmp name) is_key ∙ cmp-lower name key ∙ all.0) names l.before);
  lower = all_and (λ name. lowercase_name name ≡ name) names last l.lower (ap lowercase_name is_key ∙ lower-twice key ∙ sym is_key);
  before = all_and (λ name. AllByRecursion (λ k. name_cmp name k ≡ Less) left) names last (past_first key left names l.before)
      (all_as (λ k. name_cmp key k ≡ Less) (λ k. name_cmp last k ≡ Less) (λ k less. ap (λ (n : DomainName). name_cmp n k) is_key ∙ cmp-lower-first key k ∙ less) left (sorted_head name_cmp key left l.left_ordered));
  each = λ zone at. all_and (IsAuthoritativeOwner zone) names last (l.each zone at)
      (owner_alike zone key last (ap (name_eq key) is_key ∙ eq_lower key) (on zone at));
  all = λ zone at name is. by name (l.all zone at name is);
}
  where
    by : (name : DomainName) → (list_any (name_eq name) names ≡ true) ⊎ (list_any (name_eq name) (key ∷ left) ≡ true)
        → (list_any (name_eq name) (names ++ last ∷ []) ≡ true) ⊎ (list_any (name_eq name) left ≡ true)
    by name (inl e) = inl (any_front (name_eq name) names last e)
    by name (inr e) = elim (or_either (name_eq name key) (list_any (name_eq name) left) e) [
      | inl here ↦ inl (any_last (name_eq name) names last (ap (name_eq name) is_key ∙ eq-lower name key ∙ here))
      | inr later ↦ inr later
    ]

-- ---- authoritative names are these owners
a_type : (sets : List RRset) (name : DomainName) → list_any (λ set. name_eq name set.name) sets ≡ true → (t : RecordType) × IsSome (rrset_at sets name t)
a_type [] name e = absurd (true≢false (sym e))
a_type (set ∷ sets) name e = by (name_eq name set.name) refl e (a_type sets name)
  where
    some : (b : Bool) (o : Option RRset) → IsSome o → IsSome (cond b (Some set) o)
    some true o is = refl
    some false o is = is

    first : (b : Bool) (o : Option RRset) → b ≡ true → IsSome (cond b (Some set) o)
    first true o e = refl
    first false o e = absurd (true≢false (sym e))

    by : (b : Bool) → name_eq name set.name ≡ b → (b || list_any (λ s. name_eq name s.name) sets) ≡ true
        → (list_any (λ s. name_eq name s.name) sets ≡ true → (t : RecordType) × IsSome (rrset_at sets name t)) → (t : RecordType) × IsSome (rrset_at (set ∷ sets) name t)
    by true is e later =
        let test : (name_eq name set.name && same_record_type set.record_type set.record_type) ≡ true = rw (is, same_type set.record_type) refl in
        (set.record_type, first (name_eq name set.name && same_record_type set.record_type set.record_type) (rrset_at sets name set.record_type) test)
    by false is e later =
        let found = later e in
        (found.0, some (name_eq name set.name && same_record_type set.record_type found.0) (rrset_at sets name found.0) found.1)

an_owner : (sets : List RRset) (name : DomainName) (t : RecordType) → IsSome (rrset_at sets name t) → list_any (λ set. name_eq name set.name) sets ≡ true
an_owner [] name t e = absurd (true≢false (sym e))
an_owner (set ∷ sets) name t e = by (name_eq name set.name) (same_record_type set.record_type t) e (an_owner sets name t)
  where
    by : (b c : Bool) → IsSome (cond (b && c) (Some set) (rrset_at sets name t)) → (IsSome (rrset_at sets name t) → list_any (λ s. name_eq name s.name) sets ≡ true)
        → (b || list_any (λ s. name_eq name s.name) sets) ≡ true
    by true c e later = refl
    by false c e later = later e

other_type : (sets : List RRset) (name : DomainName) (t circle : RecordType) → IsSome (rrset_at sets name t) → rrset_at sets name circle ≡ None → same_record_type t circle ≡ false
other_type sets name t circle some none = by (same_record_type t circle) refl
  where
    by : (b : Bool) → same_record_type t circle ≡ b → same_record_type t circle ≡ false
    by true e = absurd (true≢false (sym some ∙ ap is_some (type_same sets name t circle e ∙ none)))
    by false e = e

pub authoritative : (circle : RecordType) (sets : List RRset) (zone : Zone) → zone.sets ≡ sets → HasNone sets circle → (name : DomainName) → IsAuthoritativeOwner zone name → IsAuthoritativeName circle zone name
authoritative circle sets zone has none name is =
    let found = a_type zone.sets name is.owns in
    record {
      record_type = found.0;
      other = other_type zone.sets name found.0 circle found.1 (ap (λ (l : List RRset). rrset_at l name circle) has ∙ none name);
      owns = found.1;
      in_zone = is.in_zone;
      uncut = is.uncut;
    }

pub the_owner : (circle : RecordType) (zone : Zone) (name : DomainName) → IsAuthoritativeName circle zone name → IsAuthoritativeOwner zone name
the_owner circle zone name is = record { owns = an_owner zone.sets name is.record_type is.owns; in_zone = is.in_zone; uncut = is.uncut }

pub listed_all : (sets : List RRset) (origin : DomainName) (names : List DomainName) → Listing sets origin [] names → (circle : RecordType) (zone : Zone) → IsZoneAt sets origin zone → HasNone sets circle
    → AreAuthoritative circle zone names
listed_all sets origin names l circle zone at none = record {
  ordered = l.ordered;
  lower = l.lower;
  each = all_as (IsAuthoritativeOwner zone) (IsAuthoritativeName circle zone) (authoritative circle sets zone at.has_sets none) names (l.each zone at);
  all = λ name on. by name (l.all zone at name (the_owner circle zone name on));
}
  where
    by : (name : DomainName) → (list_any (name_eq name) names ≡ true) ⊎ (list_any (name_eq name) [] ≡ true) → list_any (name_eq name) names ≡ true
    by name (inl e) = e
    by name (inr e) = absurd (true≢false (sym e))
