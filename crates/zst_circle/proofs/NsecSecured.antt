-- The NSEC sets of a zone, put one after the other: the zone is secured then.
use Rattle.std.proofs.Common.{◌≡◌, ℕ, zero, suc, ◌+◌, ◌<◌, Bool, true, false, not, ◌&&◌, ◌||◌, ◌==◌, List, [], ◌∷◌, ◌++◌, length, take, refl, ap, sym, subst, ◌∙◌, arith, eqb-true}
use Rattle.std.specs.Prelude.{IfSome, IsSome, IsSomeAnd, None, Option, Some, cond, is_some, nat_lt, slice_get}
use Rattle.std.specs.List.{AllByRecursion, list_any}
use Rattle.std.specs.List.Sorted.{IsStrictlySortedBy}
use Rattle.std.specs.Ordering.{is_eq, is_lt}
use Rattle.std.specs.declared.cmp.Ordering.TheVariants.{Less}
use Rattle.std.proofs.lemmas.Bool.{eq-eqb, true≢false}
use Rattle.std.proofs.lemmas.Map.Keys.{sorted_head, sorted_tail}
use Rattle.zst_absence.specs.drd_denial.Between.{between_by}
use Rattle.zst_absence.specs.drd_denial.Rrsig.{Signing}
use Rattle.zst_absence.specs.dnw_codes.declared.record_type.RecordType.{RecordType}
use Rattle.zst_absence.specs.dnw_codes.declared.record_type.RecordType.TheVariants as kind
use Rattle.zst_absence.specs.dnw_codes.RecordType.{record_type_number, same_record_type}
use Rattle.zst_absence.specs.dnw_name.DomainName.{DomainName, domain_name, is_at_or_below, name_cmp, name_eq}
use Rattle.zst_absence.specs.dnw_name.NameOrderLaws.{name_eq-by_cmp}
use Rattle.zst_absence.specs.zst_denial.Circles.{IsAuthoritativeName, IsCutOff, IsNsecSet, IsSecured, is_delegation, is_listed, is_owned}
use Rattle.zst_absence.specs.zst_denial.Signing.{AreSignatures, any_fails, unsigned}
use Rattle.zst_absence.specs.zst_handler.Updates.{Replaces}
use Rattle.zst_absence.specs.zst_handler.Zones.{AreInOrder, IsStored, Zone, rrset_at}
use Rattle.zst_absence.specs.zst_key.Ancestors.{up}
use Rattle.zst_absence.specs.zst_record.RecordLaws.{name_eq_equiv}
use Rattle.zst_absence.specs.zst_record.RecordSets.{RRset, least_ttl, none_left}
use Rattle.zst_absence.specs.zst_record.declared.records.Record.{Record}
use Rattle.zst_absence.proofs.zst_map_lemmas.Replacing.{both_same}
use Rattle.zst_circle.specs.NsecCircle.{IsNsecIn, IsNsecMade, is_among}
use Rattle.zst_circle.specs.Securing.{AreAuthoritative, ChangesOnly, HasNone, IsMade, IsSigned, IsZoneAt, SomeFails}
use Rattle.zst_absence.proofs.zst_denial_lemmas.zst_key_lemmas.NamesAbove.{is-equal, name_total}
use Rattle.zst_circle.proofs.Authoritative.{all_and, any_front, any_last, any_named, below_alike, cut_alike, delegation_alike, same_type}

-- ---- zones alike but for the sets of one type
number_turned : (m n : ℕ) → (m == n) ≡ (n == m)
number_turned m n = by (m == n) refl (n == m) refl
  where
    by : (b : Bool) → (m == n) ≡ b → (c : Bool) → (n == m) ≡ c → b ≡ c
    by true e true f = refl
    by false e false f = refl
    by true e false f = absurd (true≢false (sym (eq-eqb n m (sym (eqb-true m n e))) ∙ f))
    by false e true f = absurd (true≢false (sym (eq-eqb m n (sym (eqb-true n m f))) ∙ e))

pub type_turned : (t u : RecordType) → same_record_type t u ≡ same_record_type u t
type_turned t u = number_turned (record_type_number t) (record_type_number u)

pub record AlikeBut (circle : RecordType) (old new : Zone) : Type 0 where
  pub origin : new.origin ≡ old.origin
  pub owned : (name : DomainName) (t : RecordType) → same_record_type circle t ≡ false → is_owned new name t ≡ is_owned old name t

pub alike_turned : (circle : RecordType) (old new : Zone) → AlikeBut circle old new → AlikeBut circle new old
alike_turned circle old new same = record { origin = sym same.origin; owned = λ name t other. sym (same.owned name t other) }

module _ (circle : RecordType) (servers : same_record_type circle kind.NS ≡ false) where
  pub same_delegation : (old new : Zone) → AlikeBut circle old new → (name : DomainName) → is_delegation new name ≡ is_delegation old name
  same_delegation old new same name =
      λ i. (is_at_or_below name (same.origin i) && nat_lt (length (same.origin i).labels) (length name.labels)) && same.owned name kind.NS servers i

  same_cut : (old new : Zone) → AlikeBut circle old new → (name : DomainName) → IsCutOff old name → IsCutOff new name
  same_cut old new same name cut = record { levels = cut.levels; proper = cut.proper; cut = same_delegation old new same (up name cut.levels) ∙ cut.cut }

  pub same_authoritative : (old new : Zone) → AlikeBut circle old new → (name : DomainName) → IsAuthoritativeName circle old name → IsAuthoritativeName circle new name
  same_authoritative old new same name on = record {
    record_type = on.record_type;
    other = on.other;
    owns = same.owned name on.record_type (type_turned circle on.record_type ∙ on.other) ∙ on.owns;
    in_zone = ap (λ (o : DomainName). is_at_or_below name o) same.origin ∙ on.in_zone;
    uncut = λ cut. on.uncut (same_cut new old (alike_turned circle old new same) name cut);
  }

abbrev rest_listed : DomainName → RecordType → Zone → Bool
rest_listed name t zone = is_owned zone name t && (not (is_delegation zone name) || (same_record_type t kind.NS || same_record_type t kind.DS))

pub same_listed : (old new : Zone) → AlikeBut kind.NSEC old new → (name : DomainName) (t : RecordType) → is_listed new name t ≡ is_listed old name t
same_listed old new same name t = by (same_record_type t kind.NSEC) refl
  where
    by : (b : Bool) → same_record_type t kind.NSEC ≡ b → (same_record_type t kind.RRSIG || (b || rest_listed name t new)) ≡ (same_record_type t kind.RRSIG || (b || rest_listed name t old))
    by true e = refl
    by false e =
        λ i. same_record_type t kind.RRSIG || (false || (same.owned name t (type_turned kind.NSEC t ∙ e) i
        && (not (same_delegation kind.NSEC refl old new same name i) || (same_record_type t kind.NS || same_record_type t kind.DS))))

-- ---- under equal names
pub authoritative_alike : (circle : RecordType) (zone : Zone) (a b : DomainName) → name_eq a b ≡ true → IsAuthoritativeName circle zone a → IsAuthoritativeName circle zone b
authoritative_alike circle zone a b e on = record {
  record_type = on.record_type;
  other = on.other;
  owns = ap is_some (both_same zone.sets a b on.record_type on.record_type e (eq-eqb (record_type_number on.record_type) (record_type_number on.record_type) refl)) ∙ on.owns;
  in_zone = sym (below_alike a b zone.origin e) ∙ on.in_zone;
  uncut = λ cut. on.uncut (cut_alike zone b a (name_eq_equiv.symm b a ∙ e) cut);
}

among_named : (names : List DomainName) (x : DomainName) → is_among name_cmp names x ≡ list_any (name_eq x) names
among_named names x = any_named (λ y. is_eq (name_cmp x y)) (name_eq x) names (λ y. sym (name_eq-by_cmp x y))

-- What is said of all names, for one that equals one of them.
pub one_of : (P : DomainName → Type 0) (names : List DomainName) (x : DomainName) → AllByRecursion P names → list_any (name_eq x) names ≡ true → (n : DomainName) × P n × (name_eq x n ≡ true)
one_of P [] x all e = absurd (true≢false (sym e))
one_of P (n ∷ names) x all e = by (name_eq x n) refl e (one_of P names x all.1)
  where
    by : (b : Bool) → name_eq x n ≡ b → (b || list_any (name_eq x) names) ≡ true → (list_any (name_eq x) names ≡ true → (m : DomainName) × P m × (name_eq x m ≡ true))
        → (m : DomainName) × P m × (name_eq x m ≡ true)
    by true is e later = (n, all.0, is)
    by false is e later = later e

-- ---- the NSEC set of a name
pub of_unsigned : (sets : List RRset) (origin : DomainName) (names : List DomainName) (ttl : ℕ) (owner : DomainName) (set : RRset) (signatures : List Record) → IsNsecIn sets origin names ttl owner set
    → IsNsecIn sets origin names ttl owner (unsigned (record set { signatures = signatures }))
of_unsigned sets origin names ttl owner set signatures n = record {
  next = n.next;
  follows = n.follows;
  lower = n.lower;
  types = n.types;
  lists = n.lists;
  is = record {
    name = n.is.name;
    record_type = n.is.record_type;
    class = n.is.class;
    only = n.is.only;
    one = n.is.one;
    lasts = n.is.lasts;
    octets = n.is.octets;
    held = n.is.held;
    are = n.is.are;
    bare = refl;
  };
}

pub is_nsec_set : (sets : List RRset) (origin : DomainName) (names : List DomainName) (ttl : ℕ) (zone : Zone) → IsZoneAt sets origin zone → AreAuthoritative kind.NSEC zone names
    → (owner : DomainName) (set : RRset) → IsNsecIn sets origin names ttl owner (unsigned set) → IsNsecSet zone owner set
is_nsec_set sets origin names ttl zone at are owner set n = record {
  only = n.is.only;
  one = n.is.one;
  octets = n.is.octets;
  held = n.is.held;
  next = domain_name true n.next.labels;
  types = n.types;
  are = n.is.are;
  following = n.next;
  labels = name_eq_equiv.refl (domain_name true n.next.labels);
  follows = record {
    on = let it = one_of (IsAuthoritativeName kind.NSEC zone) names n.next are.each (sym (among_named names n.next) ∙ n.follows.on) in
        authoritative_alike kind.NSEC zone it.0 n.next (name_eq_equiv.symm it.0 n.next ∙ it.2) it.1;
    none = λ x on. n.follows.none x (among_named names x ∙ are.all x on);
  };
  lists = λ t small. n.lists zone at t;
}

-- It is the set of an equal name, too.
pub renamed_nsec : (zone : Zone) (name n : DomainName) → name_eq name n ≡ true → (set : RRset) → IsNsecSet zone n set → IsNsecSet zone name set
renamed_nsec zone name n e set is = record {
  only = is.only;
  one = is.one;
  octets = is.octets;
  held = is.held;
  next = is.next;
  types = is.types;
  are = is.are;
  following = is.following;
  labels = is.labels;
  follows = record {
    on = is.follows.on;
    none = λ x on. (λ i. between_by (order is.following i) (is_lt (order x i)) (is_lt (name_cmp x is.following)) (not (is_eq (order x i)))) ∙ is.follows.none x on;
  };
  lists = λ t small. is.lists t small ∙ sym (same t);
}
  where
    order : (x : DomainName) → name_cmp name x ≡ name_cmp n x
    order x = name_total.congr name n x (is-equal (name_cmp name n) (sym (name_eq-by_cmp name n) ∙ e))

    same : (t : RecordType) → is_listed zone name t ≡ is_listed zone n t
    same t = λ i. same_record_type t kind.RRSIG || (same_record_type t kind.NSEC || (is_some (both_same zone.sets n name t t (name_eq_equiv.symm n name ∙ e) (same_type t) i)
        && (not (delegation_alike zone name n 0 e i) || (same_record_type t kind.NS || same_record_type t kind.DS))))

-- A set made by the sets of now is made by those of before, since sets of NSEC alone have come.
pub as_before : (old sets : List RRset) (origin : DomainName) (names : List DomainName) (ttl : ℕ) (owner : DomainName) (set : RRset) → ChangesOnly kind.NSEC old sets
    → IsNsecIn sets origin names ttl owner set → IsNsecIn old origin names ttl owner set
as_before old sets origin names ttl owner set others n = record {
  next = n.next;
  follows = n.follows;
  lower = n.lower;
  types = n.types;
  lists = λ zone at t.
      let now : Zone = record zone { sets = sets } in
      let here : IsZoneAt sets origin now = record { has_sets = refl; has_origin = at.has_origin } in
      let same : AlikeBut kind.NSEC zone now = record {
        origin = refl;
        owned = λ name u other. ap is_some (others name u other) ∙ ap (λ (l : List RRset). is_some (rrset_at l name u)) (sym at.has_sets);
      } in
      n.lists now here t ∙ same_listed zone now same owner t;
  is = n.is;
}

-- ---- names in order
pub some_at : {X : Type 0} (xs : List X) (i : ℕ) → i < length xs → (x : X) × (slice_get xs i ≡ Some x)
some_at [] i within = absurd (omega (arith, within))
some_at (x ∷ xs) zero within = (x, refl)
some_at (x ∷ xs) (suc i) within = some_at xs i (omega (arith, within))

one_more : {X : Type 0} (xs : List X) (i : ℕ) (x : X) → slice_get xs i ≡ Some x → take (suc i) xs ≡ take i xs ++ x ∷ []
one_more [] i x e = absurd (cc e)
one_more (y ∷ ys) zero x e = let same : y ≡ x = cc e in ap (λ (z : _). z ∷ []) same
one_more (y ∷ ys) (suc i) x e = ap (λ zs. y ∷ zs) (one_more ys i x e)

pub all_in : (owner : DomainName) (names : List DomainName) (P : DomainName → Type 0) (i : ℕ) → AllByRecursion P names → slice_get names i ≡ Some owner → P owner
all_in owner [] P i all e = absurd (cc e)
all_in owner (n ∷ names) P zero all e = let same : n ≡ owner = cc e in subst P same all.0
all_in owner (n ∷ names) P (suc i) all e = all_in owner names P i all.1 e

earlier : (names : List DomainName) (i : ℕ) (owner : DomainName) → IsStrictlySortedBy name_cmp names → slice_get names i ≡ Some owner → AllByRecursion (λ n. name_cmp n owner ≡ Less) (take i names)
earlier [] i owner sorted e = absurd (cc e)
earlier (n ∷ names) zero owner sorted e = tt
earlier (n ∷ names) (suc i) owner sorted e = (
  all_in owner names (λ m. name_cmp n m ≡ Less) i (sorted_head name_cmp n names sorted) e,
  earlier names i owner (sorted_tail name_cmp n names sorted) e,
)

apart : (n owner : DomainName) → name_cmp n owner ≡ Less → name_eq n owner ≡ false
apart n owner less = name_eq-by_cmp n owner ∙ ap is_eq less

-- ---- the loop
module _ {K : Type 0} (gives : K → RRset → ℕ → Signing → Type 0) (fails : K → RRset → ℕ → Bool) (keys : List K) (now : ℕ) where
  pub record IsPut (old : List RRset) (origin : DomainName) (names : List DomainName) (ttl : ℕ) (owner : DomainName) (set : RRset) : Type 0 where
    pub is : IsNsecIn old origin names ttl owner (unsigned set)
    pub signed : IsSigned gives keys now set
    pub fine : any_fails fails keys set now ≡ false
    pub stored : IsStored set

  pub record NsecsPut (old : List RRset) (origin : DomainName) (names : List DomainName) (ttl : ℕ) (finished : List DomainName) (sets : List RRset) : Type 0 where
    pub others : ChangesOnly kind.NSEC old sets
    pub ordered : AreInOrder sets
    pub each : AllByRecursion (λ n. IsSomeAnd (rrset_at sets n kind.NSEC) (IsPut old origin names ttl n)) finished
    pub only : (name : DomainName) → IsSome (rrset_at sets name kind.NSEC) → list_any (name_eq name) finished ≡ true

  pub puts_none : (old : List RRset) (origin : DomainName) (names : List DomainName) (ttl : ℕ) → HasNone old kind.NSEC → AreInOrder old → NsecsPut old origin names ttl [] old
  puts_none old origin names ttl none ordered = record {
    others = λ name t other. refl;
    ordered = ordered;
    each = tt;
    only = λ name some. absurd (true≢false (sym some ∙ ap is_some (none name)));
  }

  still_put : (old sets after : List RRset) (origin : DomainName) (names : List DomainName) (ttl : ℕ) (owner : DomainName) (set : RRset) → Replaces sets owner kind.NSEC (Some set) after
      → (finished : List DomainName) → AllByRecursion (λ n. name_cmp n owner ≡ Less) finished
      → AllByRecursion (λ n. IsSomeAnd (rrset_at sets n kind.NSEC) (IsPut old origin names ttl n)) finished
      → AllByRecursion (λ n. IsSomeAnd (rrset_at after n kind.NSEC) (IsPut old origin names ttl n)) finished
  still_put old sets after origin names ttl owner set replaces [] less all = tt
  still_put old sets after origin names ttl owner set replaces (n ∷ finished) less all = (
    subst (λ (o : Option RRset). IsSomeAnd o (IsPut old origin names ttl n))
        (sym (replaces n kind.NSEC ∙ ap (λ (b : Bool). cond (b && true) (Some set) (rrset_at sets n kind.NSEC)) (apart n owner less.0))) all.0,
    still_put old sets after origin names ttl owner set replaces finished less.1 all.1,
  )

  pub puts_one : (old sets after : List RRset) (origin : DomainName) (names finished : List DomainName) (ttl : ℕ) (owner : DomainName) (set : RRset) (signatures : List Record)
      → IsNsecIn sets origin names ttl owner set → AreSignatures gives keys (unsigned set) now signatures → any_fails fails keys set now ≡ false
      → Replaces sets set.name set.record_type (Some (record set { signatures = signatures })) after → AreInOrder after
      → (none_left set.records ≡ false → IsSomeAnd (rrset_at after set.name set.record_type) IsStored)
      → AllByRecursion (λ n. name_cmp n owner ≡ Less) finished → NsecsPut old origin names ttl finished sets → NsecsPut old origin names ttl (finished ++ owner ∷ []) after
  puts_one old sets after origin names finished ttl owner set signatures n signed fine put ordered stored less before =
      let there : RRset = record set { signatures = signatures } in
      let replaces : Replaces sets owner kind.NSEC (Some there) after
      = subst (λ (t : RecordType). Replaces sets owner t (Some there) after) n.is.record_type (subst (λ (o : DomainName). Replaces sets o set.record_type (Some there) after) n.is.name put) in
      let here : rrset_at after owner kind.NSEC ≡ Some there
      = replaces owner kind.NSEC ∙ ap (λ (b : Bool). cond (b && true) (Some there) (rrset_at sets owner kind.NSEC)) (name_eq_equiv.refl owner) in
      let first : rrset_at after set.name set.record_type ≡ rrset_at after owner kind.NSEC
      = ap (λ (o : DomainName). rrset_at after o set.record_type) n.is.name ∙ ap (rrset_at after owner) n.is.record_type in
      let held : IsStored there = subst (λ (o : Option RRset). IsSomeAnd o IsStored) (first ∙ here) (stored (ap none_left n.is.one)) in
      let is : IsPut old origin names ttl owner there
      = record { is = as_before old sets origin names ttl owner (unsigned there) before.others (of_unsigned sets origin names ttl owner set signatures n); signed = signed; fine = fine; stored = held } in
      record {
        others = λ name t other. replaces name t ∙ kept name t other ∙ before.others name t other;
        ordered = ordered;
        each = all_and (λ m. IsSomeAnd (rrset_at after m kind.NSEC) (IsPut old origin names ttl m)) finished owner
            (still_put old sets after origin names ttl owner there replaces finished less before.each)
            (subst (λ (o : Option RRset). IsSomeAnd o (IsPut old origin names ttl owner)) (sym here) is);
        only = λ name some. by name there replaces (name_eq name owner) refl some;
      }
    where
      kept : (name : DomainName) (t : RecordType) → same_record_type kind.NSEC t ≡ false
          → cond (name_eq name owner && same_record_type kind.NSEC t) (Some (record set { signatures = signatures })) (rrset_at sets name t) ≡ rrset_at sets name t
      kept name t other = off (name_eq name owner) (same_record_type kind.NSEC t) other
        where
          off : (b c : Bool) → c ≡ false → cond (b && c) (Some (record set { signatures = signatures })) (rrset_at sets name t) ≡ rrset_at sets name t
          off true c e = ap (λ (d : Bool). cond d (Some (record set { signatures = signatures })) (rrset_at sets name t)) e
          off false c e = refl

      by : (name : DomainName) (there : RRset) → Replaces sets owner kind.NSEC (Some there) after → (b : Bool) → name_eq name owner ≡ b → IsSome (rrset_at after name kind.NSEC)
          → list_any (name_eq name) (finished ++ owner ∷ []) ≡ true
      by name there replaces true e some = any_last (name_eq name) finished owner e
      by name there replaces false e some =
          any_front (name_eq name) finished owner
          (before.only name (ap is_some (sym (replaces name kind.NSEC ∙ ap (λ (b : Bool). cond (b && true) (Some there) (rrset_at sets name kind.NSEC)) e)) ∙ some))

  -- By places.
  pub puts_next : (old sets after : List RRset) (origin : DomainName) (names : List DomainName) (ttl : ℕ) (place next : ℕ) (set : RRset) (signatures : List Record) → IsStrictlySortedBy name_cmp names
      → place < length names → next ≡ place + 1 → ((owner : DomainName) → slice_get names place ≡ Some owner → IsNsecIn sets origin names ttl owner set)
      → AreSignatures gives keys (unsigned set) now signatures → any_fails fails keys set now ≡ false
      → Replaces sets set.name set.record_type (Some (record set { signatures = signatures })) after → AreInOrder after
      → (none_left set.records ≡ false → IsSomeAnd (rrset_at after set.name set.record_type) IsStored)
      → NsecsPut old origin names ttl (take place names) sets → NsecsPut old origin names ttl (take next names) after
  puts_next old sets after origin names ttl place next set signatures sorted within is n signed fine put ordered stored before =
      let at = some_at names place within in
      let more : take next names ≡ take place names ++ at.0 ∷ [] = let last : next ≡ suc place = omega (arith, is) in ap (λ (i : ℕ). take i names) last ∙ one_more names place at.0 at.1 in
      subst (λ (l : List DomainName). NsecsPut old origin names ttl l after) (sym more)
      (puts_one old sets after origin names (take place names) ttl at.0 set signatures (n at.0 at.1) signed fine put ordered stored (earlier names place at.0 sorted at.1) before)

  -- ---- when all are put
  at_old : (old new : List RRset) (origin : DomainName) (zone : Zone) → IsZoneAt new origin zone → IsZoneAt old origin (record zone { sets = old })
  at_old old new origin zone at = record { has_sets = refl; has_origin = at.has_origin }

  was_alike : (old new : List RRset) (origin : DomainName) (zone : Zone) → IsZoneAt new origin zone → ChangesOnly kind.NSEC old new → AlikeBut kind.NSEC (record zone { sets = old }) zone
  was_alike old new origin zone at others = record {
    origin = refl;
    owned = λ name t other. ap (λ (l : List RRset). is_some (rrset_at l name t)) at.has_sets ∙ ap is_some (others name t other);
  }

  pub now_nsec : (old new : Zone) → AlikeBut kind.NSEC old new → (owner : DomainName) (set : RRset) → IsNsecSet old owner set → IsNsecSet new owner set
  now_nsec old new same owner set n = record {
    only = n.only;
    one = n.one;
    octets = n.octets;
    held = n.held;
    next = n.next;
    types = n.types;
    are = n.are;
    following = n.following;
    labels = n.labels;
    follows = record {
      on = same_authoritative kind.NSEC refl old new same n.following n.follows.on;
      none = λ name on. n.follows.none name (same_authoritative kind.NSEC refl new old (alike_turned kind.NSEC old new same) name on);
    };
    lists = λ t small. n.lists t small ∙ sym (same_listed old new same owner t);
  }

  some_as : (P Q : RRset → Type 0) (a b : Option RRset) → b ≡ a → ((s : RRset) → P s → Q s) → IsSomeAnd a P → IsSomeAnd b Q
  some_as P Q a b e f is = subst (λ (o : Option RRset). IsSomeAnd o Q) (sym e) (by a is)
    where
      by : (o : Option RRset) → IsSomeAnd o P → IsSomeAnd o Q
      by (Some s) p = f s p
      by None p = absurd p

  some_is : (P : RRset → Type 0) (o : Option RRset) → IsSomeAnd o P → IsSome o
  some_is P (Some s) p = refl
  some_is P None p = absurd p

  secured_for : (new : List RRset) (old : List RRset) (origin : DomainName) (names : List DomainName) (ttl : ℕ) (was zone : Zone) → IsZoneAt old origin was → zone.sets ≡ new → AlikeBut kind.NSEC was zone
      → AreAuthoritative kind.NSEC was names → NsecsPut old origin names ttl names new → IsSecured zone
  secured_for new old origin names ttl was zone at has same are put = record {
    each = λ name on.
        let found = one_of (λ n. IsSomeAnd (rrset_at new n kind.NSEC) (IsPut old origin names ttl n)) names name put.each
        (are.all name (same_authoritative kind.NSEC refl zone was (alike_turned kind.NSEC was zone same) name on)) in
        some_as (IsPut old origin names ttl found.0) (IsNsecSet zone name) (rrset_at new found.0 kind.NSEC) (rrset_at zone.sets name kind.NSEC)
        (ap (λ (l : List RRset). rrset_at l name kind.NSEC) has ∙ sym (both_same new name found.0 kind.NSEC kind.NSEC found.2 refl))
        (λ set p. renamed_nsec zone name found.0 found.2 set (now_nsec was zone same found.0 set (is_nsec_set old origin names ttl was at are found.0 set p.is)))
        found.1;
    only = λ name some.
        let found = one_of (IsAuthoritativeName kind.NSEC was) names name are.each (put.only name (ap (λ (l : List RRset). is_some (rrset_at l name kind.NSEC)) (sym has) ∙ some)) in
        same_authoritative kind.NSEC refl was zone same name (authoritative_alike kind.NSEC was found.0 name (name_eq_equiv.symm found.0 name ∙ found.2) found.1);
  }

  pub secured_then : (old new : List RRset) (origin : DomainName) (names : List DomainName) (ttl : ℕ)
      → ((zone : Zone) → IsZoneAt old origin zone → AreAuthoritative kind.NSEC zone names) → NsecsPut old origin names ttl names new → (zone : Zone) → IsZoneAt new origin zone → IsSecured zone
  secured_then old new origin names ttl are put zone at =
      secured_for new old origin names ttl (record zone { sets = old }) zone (at_old old new origin zone at) at.has_sets (was_alike old new origin zone at put.others)
      (are (record zone { sets = old }) (at_old old new origin zone at)) put

  -- ---- what has been made
  made_one : (old : List RRset) (origin : DomainName) (names : List DomainName) (ttl : ℕ) (owner : DomainName) (set : RRset) → IsPut old origin names ttl owner set
      → IsMade gives keys now ttl set × (any_fails fails keys set now ≡ false)
  made_one old origin names ttl owner set p = (
    record { class = p.is.is.class; lasts = ap least_ttl p.is.is.one ∙ p.is.is.lasts; signed = p.signed },
    p.fine,
  )

  pub made_then : (old new : List RRset) (origin : DomainName) (names : List DomainName) (ttl : ℕ) → NsecsPut old origin names ttl names new
      → (name : DomainName) → IfSome (rrset_at new name kind.NSEC) (λ set. IsMade gives keys now ttl set × (any_fails fails keys set now ≡ false))
  made_then old new origin names ttl put name = by (rrset_at new name kind.NSEC) refl
    where
      by : (o : Option RRset) → rrset_at new name kind.NSEC ≡ o → IfSome o (λ set. IsMade gives keys now ttl set × (any_fails fails keys set now ≡ false))
      by None e = tt
      by (Some set) e =
          let found = one_of (λ n. IsSomeAnd (rrset_at new n kind.NSEC) (IsPut old origin names ttl n)) names name put.each (put.only name (ap is_some e)) in
          some_as (IsPut old origin names ttl found.0) (λ s. IsMade gives keys now ttl s × (any_fails fails keys s now ≡ false)) (rrset_at new found.0 kind.NSEC) (Some set)
          (sym e ∙ sym (both_same new name found.0 kind.NSEC kind.NSEC found.2 refl))
          (λ s p. made_one old origin names ttl found.0 s p) found.1

  pub stored_then : (old new : List RRset) (origin : DomainName) (names : List DomainName) (ttl : ℕ) → NsecsPut old origin names ttl names new
      → (name : DomainName) → IfSome (rrset_at new name kind.NSEC) IsStored
  stored_then old new origin names ttl put name = by (rrset_at new name kind.NSEC) refl
    where
      by : (o : Option RRset) → rrset_at new name kind.NSEC ≡ o → IfSome o IsStored
      by None e = tt
      by (Some set) e =
          let found = one_of (λ n. IsSomeAnd (rrset_at new n kind.NSEC) (IsPut old origin names ttl n)) names name put.each (put.only name (ap is_some e)) in
          some_as (IsPut old origin names ttl found.0) IsStored (rrset_at new found.0 kind.NSEC) (Some set)
          (sym e ∙ sym (both_same new name found.0 kind.NSEC kind.NSEC found.2 refl)) (λ s p. p.stored) found.1

  -- Where a key fails, it does for a set of the circle.
  pub some_fails : (old sets : List RRset) (origin : DomainName) (names : List DomainName) (ttl : ℕ) (place : ℕ) (set : RRset) → place < length names
      → ((owner : DomainName) → slice_get names place ≡ Some owner → IsNsecIn sets origin names ttl owner set) → any_fails fails keys set now ≡ true → ChangesOnly kind.NSEC old sets
      → ((zone : Zone) → IsZoneAt old origin zone → AreAuthoritative kind.NSEC zone names)
      → (zone : Zone) → IsZoneAt old origin zone → SomeFails fails keys now (IsNsecMade ttl zone)
  some_fails old sets origin names ttl place set within n failed others are zone at =
      let it = some_at names place within in
      let is = n it.0 it.1 in
      record {
        set = unsigned set;
        is = (
          subst (IsAuthoritativeName kind.NSEC zone) (sym is.is.name) (all_in it.0 names (IsAuthoritativeName kind.NSEC zone) place (are zone at).each it.1),
          subst (λ (o : DomainName). IsNsecSet zone o (unsigned set)) (sym is.is.name)
              (is_nsec_set old origin names ttl zone at (are zone at) it.0 (unsigned set)
              (as_before old sets origin names ttl it.0 (unsigned set) others (of_unsigned sets origin names ttl it.0 set [] is))),
          record { record_type = is.is.record_type; class = is.is.class; lasts = ap least_ttl is.is.one ∙ is.is.lasts },
        );
        failed = failed;
      }
