-- The NSEC3 sets of a zone, put one after the other: the zone is secured then.
use Rattle.std.proofs.Common.{◌≡◌, ℕ, zero, suc, ◌+◌, ◌<◌, ◌≤◌, Bool, true, false, not, ◌&&◌, ◌||◌, ◌==◌, List, [], ◌∷◌, ◌++◌, get_or, length, take, refl, ap, sym, subst, ◌∙◌, arith}
use Rattle.std.specs.Prelude.{IfSome, IsSome, IsSomeAnd, None, Option, Some, cond, is_some, nat_lt, slice_get}
use Rattle.std.specs.Cmp.{IsTotalOrder}
use Rattle.std.specs.List.{AllByRecursion, list_any}
use Rattle.std.specs.List.Sorted.{IsStrictlySortedBy}
use Rattle.std.specs.Ordering.{is_eq, is_lt}
use Rattle.std.specs.declared.cmp.Ordering.{Ordering}
use Rattle.std.specs.declared.cmp.Ordering.TheVariants.{Less}
use Rattle.std.proofs.lemmas.Bool.{true≢false}
use Rattle.std.proofs.lemmas.Bool.Decides.{nat_tests}
use Rattle.std.proofs.lemmas.Cmp.{on_total}
use Rattle.std.proofs.lemmas.Map.Keys.{sorted_head, sorted_tail}
use Rattle.zst_absence.specs.drd_denial.Between.{between_by, is_between}
use Rattle.zst_absence.specs.drd_denial.Nsec3.{IsNsec3Data}
use Rattle.zst_absence.specs.drd_denial.Rrsig.{Signing}
use Rattle.zst_absence.specs.dnw_codes.declared.record_type.RecordType.{RecordType}
use Rattle.zst_absence.specs.dnw_codes.declared.record_type.RecordType.TheVariants as kind
use Rattle.zst_absence.specs.dnw_codes.RecordType.{record_type_number, same_record_type}
use Rattle.zst_absence.specs.dnw_name.DomainName.{DomainName, lowercase_name, name_cmp, name_eq}
use Rattle.zst_absence.specs.dnw_name.NameOrderLaws.{name_eq-by_cmp}
use Rattle.zst_absence.specs.zst_denial.Hashed.{AreApart, Hashing, IsNsec3Set, IsParameterSet, IsSecuredByHash, digest_of, hashed_name, is_listed_by_hash}
use Rattle.zst_absence.specs.zst_denial.Signing.{AreSignatures, any_fails, unsigned}
use Rattle.zst_absence.specs.zst_handler.Updates.{Replaces}
use Rattle.zst_absence.specs.zst_handler.Zones.{AreInOrder, IsStored, Zone, rrset_at}
use Rattle.zst_absence.specs.zst_hash.Owners.{hashed_owner}
use Rattle.zst_absence.specs.zst_record.RecordLaws.{name_eq_equiv}
use Rattle.zst_absence.specs.zst_record.RecordSets.{RRset, least_ttl, none_left}
use Rattle.zst_absence.specs.zst_record.declared.records.Record.{Record}
use Rattle.zst_absence.proofs.zst_map_lemmas.Replacing.{both_same, one}
use Rattle.zst_absence.proofs.zst_denial_lemmas.zst_key_lemmas.KeyLemmas.{eq-lower}
use Rattle.zst_absence.proofs.zst_denial_lemmas.zst_key_lemmas.NamesAbove.{name_total}
use Rattle.zst_circle.specs.Nsec3Circle.{AreHashed, IsHashedName, IsNsec3In, IsNsec3Made, IsSetWith, hash_cmp, next_place, with_digest}
use Rattle.zst_circle.specs.NsecCircle.{IsNext, is_among}
use Rattle.zst_circle.specs.Securing.{ChangesOnly, HasNone, IsMade, IsSigned, IsZoneAt, SomeFails}
use Rattle.zst_circle.specs.declared.hashed.HashedName.{HashedName}
use Rattle.zst_circle.proofs.Authoritative.{all_and, any_front, any_last, any_named}
use Rattle.zst_circle.proofs.Circling.{follows_first, follows_next, slice_at, slice_past}
use Rattle.zst_circle.proofs.NsecHashedDigests.{order_alike, owner_alike, same_digest}
use Rattle.zst_circle.proofs.NsecHashedKept.{listed_alike, same_listed_by_hash, same_on}
use Rattle.zst_circle.proofs.NsecSecured.{AlikeBut, alike_turned, some_at}

-- ---- the next digest
hash_total : (origin : DomainName) → IsTotalOrder (hash_cmp origin)
hash_total origin = on_total (λ (name : HashedName). hashed_owner name.digest origin) name_total

next_follows : {X : Type 0} (cmp : X → X → Ordering) → IsTotalOrder cmp → (xs : List X) → IsStrictlySortedBy cmp xs → (place : ℕ) (owner next : X) → slice_get xs place ≡ Some owner
    → slice_get xs (next_place (length xs) place) ≡ Some next → IsNext cmp (is_among cmp xs) owner next
next_follows {X = X} cmp total xs sorted place owner next here after = by (nat_lt (place + 1) (length xs)) refl after
  where
    first : (ys : List X) → IsStrictlySortedBy cmp ys → slice_get ys place ≡ Some owner → length ys ≤ suc place → slice_get ys 0 ≡ Some next → IsNext cmp (is_among cmp ys) owner next
    first [] order at past e = absurd (cc e)
    first (y ∷ ys) order at past e =
        let same : y ≡ next = cc e in
        subst (λ (x : X). IsNext cmp (is_among cmp (y ∷ ys)) owner x) same (follows_first cmp total y ys order place owner at (slice_past (y ∷ ys) (suc place) past))

    by : (b : Bool) → nat_lt (place + 1) (length xs) ≡ b → slice_get xs (cond b (place + 1) 0) ≡ Some next → IsNext cmp (is_among cmp xs) owner next
    by true within e =
        let step : suc place ≡ place + 1 = omega (arith) in
        follows_next cmp total xs sorted place owner next here (ap (slice_get xs) step ∙ e)
    by false past e =
        let end : length xs ≤ suc place = grind (past, nat_tests, arith) in
        first xs sorted here end e

pub next_hashed : (origin : DomainName) (names : List HashedName) → IsStrictlySortedBy (hash_cmp origin) names → (place : ℕ) (name next : HashedName) → slice_get names place ≡ Some name
    → slice_get names (next_place (length names) place) ≡ Some next → IsNext (hash_cmp origin) (is_among (hash_cmp origin) names) name next
next_hashed origin names sorted place name next here after = next_follows (hash_cmp origin) (hash_total origin) names sorted place name next here after

-- ---- lists of names with digests
at_place : (P : HashedName → Type 0) (names : List HashedName) (i : ℕ) (x : HashedName) → AllByRecursion P names → slice_get names i ≡ Some x → P x
at_place P [] i x all e = absurd (cc e)
at_place P (n ∷ names) zero x all e = let same : n ≡ x = cc e in subst P same all.0
at_place P (n ∷ names) (suc i) x all e = at_place P names i x all.1 e

one_taken : (names : List HashedName) (i : ℕ) (x : HashedName) → slice_get names i ≡ Some x → take (suc i) names ≡ take i names ++ x ∷ []
one_taken [] i x e = absurd (cc e)
one_taken (y ∷ ys) zero x e = let same : y ≡ x = cc e in ap (λ (z : HashedName). z ∷ []) same
one_taken (y ∷ ys) (suc i) x e = ap (λ (zs : List HashedName). y ∷ zs) (one_taken ys i x e)

earlier : (origin : DomainName) (names : List HashedName) (i : ℕ) (x : HashedName) → IsStrictlySortedBy (hash_cmp origin) names → slice_get names i ≡ Some x
    → AllByRecursion (λ n. hash_cmp origin n x ≡ Less) (take i names)
earlier origin [] i x sorted e = absurd (cc e)
earlier origin (n ∷ names) zero x sorted e = tt
earlier origin (n ∷ names) (suc i) x sorted e = (
  at_place (λ m. hash_cmp origin n m ≡ Less) names i x (sorted_head (hash_cmp origin) n names sorted) e,
  earlier origin names i x (sorted_tail (hash_cmp origin) n names sorted) e,
)

-- What is said of all, for one that passes a test.
one_that : (P : HashedName → Type 0) (test : HashedName → Bool) (names : List HashedName) → AllByRecursion P names → list_any test names ≡ true → (n : HashedName) × P n × (test n ≡ true)
one_that P test [] all e = absurd (true≢false (sym e))
one_that P test (n ∷ names) all e = by (test n) refl e (one_that P test names all.1)
  where
    by : (b : Bool) → test n ≡ b → (b || list_any test names) ≡ true → (list_any test names ≡ true → (m : HashedName) × P m × (test m ≡ true)) → (m : HashedName) × P m × (test m ≡ true)
    by true is e later = (n, all.0, is)
    by false is e later = later e

both_all : (P Q : HashedName → Type 0) (names : List HashedName) → AllByRecursion P names → AllByRecursion Q names → AllByRecursion (λ n. P n × Q n) names
both_all P Q [] p q = tt
both_all P Q (n ∷ names) p q = ((p.0, q.0), both_all P Q names p.1 q.1)

some_as : (P Q : RRset → Type 0) (a b : Option RRset) → b ≡ a → ((s : RRset) → P s → Q s) → IsSomeAnd a P → IsSomeAnd b Q
some_as P Q a b e f is = subst (λ (o : Option RRset). IsSomeAnd o Q) (sym e) (by a is)
  where
    by : (o : Option RRset) → IsSomeAnd o P → IsSomeAnd o Q
    by (Some s) p = f s p
    by None p = absurd p

-- The same origin, by its key.
one_origin : (sets : List RRset) (key origin : DomainName) (zone : Zone) → IsZoneAt sets key zone → key ≡ lowercase_name origin → lowercase_name zone.origin ≡ lowercase_name origin
one_origin sets key origin zone at is = at.has_origin ∙ is

module _ (by : Hashing) (opt_out : Bool) where
  -- ---- the NSEC3 set of a name
  order_at : (zone : Zone) (origin : DomainName) → lowercase_name zone.origin ≡ lowercase_name origin → (a b : HashedName) → a.digest ≡ digest_of by a.key → b.digest ≡ digest_of by b.key
      → name_cmp (hashed_name by zone a.key) (hashed_name by zone b.key) ≡ hash_cmp origin a b
  order_at zone origin same a b first second =
      order_alike (digest_of by a.key) (digest_of by b.key) zone.origin origin same ∙ (λ i. name_cmp (hashed_owner (sym first i) origin) (hashed_owner (sym second i) origin))

  order_to : (zone : Zone) (origin : DomainName) → lowercase_name zone.origin ≡ lowercase_name origin → (a : HashedName) (other : DomainName) → a.digest ≡ digest_of by a.key
      → name_cmp (hashed_name by zone a.key) (hashed_name by zone other) ≡ hash_cmp origin a (with_digest by other)
  order_to zone origin same a other first =
      order_alike (digest_of by a.key) (digest_of by other) zone.origin origin same ∙ (λ i. name_cmp (hashed_owner (sym first i) origin) (hashed_owner (digest_of by other) origin))

  order_from : (zone : Zone) (origin : DomainName) → lowercase_name zone.origin ≡ lowercase_name origin → (other : DomainName) (b : HashedName) → b.digest ≡ digest_of by b.key
      → name_cmp (hashed_name by zone other) (hashed_name by zone b.key) ≡ hash_cmp origin (with_digest by other) b
  order_from zone origin same other b second =
      order_alike (digest_of by other) (digest_of by b.key) zone.origin origin same ∙ (λ i. name_cmp (hashed_owner (digest_of by other) origin) (hashed_owner (sym second i) origin))

  pub is_nsec3_set : (sets : List RRset) (key origin : DomainName) (names : List HashedName) (ttl : ℕ) (zone : Zone) → IsZoneAt sets key zone → key ≡ lowercase_name origin
      → AreHashed by opt_out zone origin names → (name : HashedName) → IsHashedName by opt_out zone name → (set : RRset)
      → IsNsec3In by opt_out sets key origin names ttl name (unsigned set) → IsNsec3Set by opt_out zone name.key set
  is_nsec3_set sets key origin names ttl zone at spelled are name on set n =
      let next : IsHashedName by opt_out zone n.next = at_place (IsHashedName by opt_out zone) names n.place n.next are.each n.there in
      let same = one_origin sets key origin zone at spelled in
      record {
        only = n.is.only;
        one = n.is.one;
        octets = n.octets;
        held = n.is.held;
        following = n.next.key;
        types = n.types;
        are = subst (λ (d : List ℕ). IsNsec3Data n.octets (cond opt_out 1 0) by.iterations by.salt d n.types) next.digest n.are;
        follows = record {
          on = next.on;
          none = λ other is.
              (λ i. between_by (order_at zone origin same name n.next on.digest next.digest i) (is_lt (order_to zone origin same name other on.digest i))
              (is_lt (order_from zone origin same other n.next next.digest i)) (not (is_eq (order_to zone origin same name other on.digest i))))
              ∙ n.follows.none (with_digest by other) (among other ∙ are.all other is);
        };
        lists = λ t small. n.lists zone at t;
      }
    where
      among : (other : DomainName) → is_among (hash_cmp origin) names (with_digest by other)
          ≡ list_any (λ (x : HashedName). name_eq (hashed_owner (digest_of by other) origin) (hashed_owner x.digest origin)) names
      among other =
          any_named (λ (x : HashedName). is_eq (hash_cmp origin (with_digest by other) x)) (λ x. name_eq (hashed_owner (digest_of by other) origin) (hashed_owner x.digest origin)) names
          (λ x. sym (name_eq-by_cmp (hashed_owner (digest_of by other) origin) (hashed_owner x.digest origin)))

  -- It is the set of an equal name with its digest, too.
  renamed_nsec3 : (zone : Zone) (name n : DomainName) → name_eq name n ≡ true → digest_of by name ≡ digest_of by n → (set : RRset) → IsNsec3Set by opt_out zone n set → IsNsec3Set by opt_out zone name set
  renamed_nsec3 zone name n e digest set is = record {
    only = is.only;
    one = is.one;
    octets = is.octets;
    held = is.held;
    following = is.following;
    types = is.types;
    are = is.are;
    follows = record {
      on = is.follows.on;
      none = λ other on. ap (λ (d : List ℕ). is_between name_cmp (hashed_owner d zone.origin) (hashed_name by zone other) (hashed_name by zone is.following)) digest ∙ is.follows.none other on;
    };
    lists = λ t small. is.lists t small ∙ sym (listed_alike zone name n e t);
  }

  pub now_nsec3 : (old new : Zone) → AlikeBut kind.NSEC3 old new → (name : DomainName) (set : RRset) → IsNsec3Set by opt_out old name set → IsNsec3Set by opt_out new name set
  now_nsec3 old new same name set n = record {
    only = n.only;
    one = n.one;
    octets = n.octets;
    held = n.held;
    following = n.following;
    types = n.types;
    are = n.are;
    follows = record {
      on = same_on opt_out old new same n.following n.follows.on;
      none = λ other on.
          ap (λ (o : DomainName). is_between name_cmp (hashed_owner (digest_of by name) o) (hashed_owner (digest_of by other) o) (hashed_owner (digest_of by n.following) o)) same.origin
          ∙ n.follows.none other (same_on opt_out new old (alike_turned kind.NSEC3 old new same) other on);
    };
    lists = λ t small. n.lists t small ∙ sym (same_listed_by_hash old new same name t);
  }

  of_unsigned : (sets : List RRset) (key origin : DomainName) (names : List HashedName) (ttl : ℕ) (name : HashedName) (set : RRset) (signatures : List Record)
      → IsNsec3In by opt_out sets key origin names ttl name set → IsNsec3In by opt_out sets key origin names ttl name (unsigned (record set { signatures = signatures }))
  of_unsigned sets key origin names ttl name set signatures n = record {
    place = n.place;
    next = n.next;
    there = n.there;
    follows = n.follows;
    types = n.types;
    lists = n.lists;
    octets = n.octets;
    are = n.are;
    is = record {
      name = n.is.name;
      record_type = n.is.record_type;
      class = n.is.class;
      only = n.is.only;
      one = n.is.one;
      lasts = n.is.lasts;
      held = n.is.held;
      bare = refl;
    };
  }

  -- A set made by the sets of now is made by those of before, since sets of NSEC3 alone have come.
  as_before : (old sets : List RRset) (key origin : DomainName) (names : List HashedName) (ttl : ℕ) (name : HashedName) (set : RRset) → ChangesOnly kind.NSEC3 old sets
      → IsNsec3In by opt_out sets key origin names ttl name set → IsNsec3In by opt_out old key origin names ttl name set
  as_before old sets key origin names ttl name set others n = record {
    place = n.place;
    next = n.next;
    there = n.there;
    follows = n.follows;
    types = n.types;
    lists = λ zone at t.
        let now : Zone = record zone { sets = sets } in
        let here : IsZoneAt sets key now = record { has_sets = refl; has_origin = at.has_origin } in
        let same : AlikeBut kind.NSEC3 zone now = record {
          origin = refl;
          owned = λ x u other. ap is_some (others x u other) ∙ ap (λ (l : List RRset). is_some (rrset_at l x u)) (sym at.has_sets);
        } in
        n.lists now here t ∙ same_listed_by_hash zone now same name.key t;
    octets = n.octets;
    are = n.are;
    is = n.is;
  }

  -- The set that is made of the name at a place.
  pub nsec3_in : (sets : List RRset) (key origin : DomainName) (names : List HashedName) (ttl place : ℕ) (it next : HashedName) (types octets : List ℕ) (owner : DomainName) (set : RRset)
      → IsStrictlySortedBy (hash_cmp origin) names → place < length names → it ≡ get_or names place it → slice_get names (next_place (length names) place) ≡ Some next
      → ((zone : Zone) → IsZoneAt sets key zone → (t : RecordType) → list_any (λ code. code == record_type_number t) types ≡ is_listed_by_hash zone it.key t)
      → IsNsec3Data octets (cond opt_out 1 0) by.iterations by.salt next.digest types → owner ≡ hashed_owner it.digest origin → IsSetWith owner kind.NSEC3 ttl octets set
      → (name : HashedName) → slice_get names place ≡ Some name → IsNsec3In by opt_out sets key origin names ttl name set
  nsec3_in sets key origin names ttl place it next types octets owner set sorted within at after lists are owned is name named =
      let here : slice_get names place ≡ Some it = slice_at names place it within at in
      let same : it ≡ name = one it name (sym here ∙ named) in
      subst (λ (n : HashedName). IsNsec3In by opt_out sets key origin names ttl n set) same (record {
        place = next_place (length names) place;
        next = next;
        there = after;
        follows = next_hashed origin names sorted place it next here after;
        types = types;
        lists = lists;
        octets = octets;
        are = are;
        is = subst (λ (o : DomainName). IsSetWith o kind.NSEC3 ttl octets set) owned is;
      })

  -- ---- the loop
  module _ {K : Type 0} (gives : K → RRset → ℕ → Signing → Type 0) (fails : K → RRset → ℕ → Bool) (keys : List K) (now : ℕ) where
    module _ (old : List RRset) (key origin : DomainName) (names : List HashedName) (ttl : ℕ) where
      pub record IsPut (name : HashedName) (set : RRset) : Type 0 where
        pub is : IsNsec3In by opt_out old key origin names ttl name (unsigned set)
        pub signed : IsSigned gives keys now set
        pub fine : any_fails fails keys set now ≡ false
        pub stored : IsStored set

      pub record Nsec3sPut (finished : List HashedName) (sets : List RRset) : Type 0 where
        pub others : ChangesOnly kind.NSEC3 old sets
        pub ordered : AreInOrder sets
        pub each : AllByRecursion (λ n. IsSomeAnd (rrset_at sets (hashed_owner n.digest origin) kind.NSEC3) (IsPut n)) finished
        pub only : (name : DomainName) → IsSome (rrset_at sets name kind.NSEC3) → list_any (λ n. name_eq name (hashed_owner n.digest origin)) finished ≡ true

      pub puts_none : HasNone old kind.NSEC3 → AreInOrder old → Nsec3sPut [] old
      puts_none none ordered = record {
        others = λ name t other. refl;
        ordered = ordered;
        each = tt;
        only = λ name some. absurd (true≢false (sym some ∙ ap is_some (none name)));
      }

      apart : (n name : HashedName) → hash_cmp origin n name ≡ Less → name_eq (hashed_owner n.digest origin) (hashed_owner name.digest origin) ≡ false
      apart n name less = name_eq-by_cmp (hashed_owner n.digest origin) (hashed_owner name.digest origin) ∙ ap is_eq less

      still_put : (sets after : List RRset) (name : HashedName) (set : RRset) → Replaces sets (hashed_owner name.digest origin) kind.NSEC3 (Some set) after → (finished : List HashedName)
          → AllByRecursion (λ n. hash_cmp origin n name ≡ Less) finished
          → AllByRecursion (λ n. IsSomeAnd (rrset_at sets (hashed_owner n.digest origin) kind.NSEC3) (IsPut n)) finished
          → AllByRecursion (λ n. IsSomeAnd (rrset_at after (hashed_owner n.digest origin) kind.NSEC3) (IsPut n)) finished
      still_put sets after name set replaces [] less all = tt
      still_put sets after name set replaces (n ∷ finished) less all = (
        subst (λ (o : Option RRset). IsSomeAnd o (IsPut n))
            (sym (replaces (hashed_owner n.digest origin) kind.NSEC3 ∙ ap (λ (b : Bool). cond (b && true) (Some set) (rrset_at sets (hashed_owner n.digest origin) kind.NSEC3)) (apart n name less.0))) all.0,
        still_put sets after name set replaces finished less.1 all.1,
      )

      puts_one : (sets after : List RRset) (finished : List HashedName) (name : HashedName) (set : RRset) (signatures : List Record)
          → IsNsec3In by opt_out sets key origin names ttl name set → AreSignatures gives keys (unsigned set) now signatures → any_fails fails keys set now ≡ false
          → Replaces sets set.name set.record_type (Some (record set { signatures = signatures })) after → AreInOrder after
          → (none_left set.records ≡ false → IsSomeAnd (rrset_at after set.name set.record_type) IsStored)
          → AllByRecursion (λ n. hash_cmp origin n name ≡ Less) finished → Nsec3sPut finished sets → Nsec3sPut (finished ++ name ∷ []) after
      puts_one sets after finished name set signatures n signed fine put ordered stored less before =
          let owner = hashed_owner name.digest origin in
          let there : RRset = record set { signatures = signatures } in
          let replaces : Replaces sets owner kind.NSEC3 (Some there) after
          = subst (λ (t : RecordType). Replaces sets owner t (Some there) after) n.is.record_type (subst (λ (o : DomainName). Replaces sets o set.record_type (Some there) after) n.is.name put) in
          let here : rrset_at after owner kind.NSEC3 ≡ Some there
          = replaces owner kind.NSEC3 ∙ ap (λ (b : Bool). cond (b && true) (Some there) (rrset_at sets owner kind.NSEC3)) (name_eq_equiv.refl owner) in
          let first : rrset_at after set.name set.record_type ≡ rrset_at after owner kind.NSEC3
          = ap (λ (o : DomainName). rrset_at after o set.record_type) n.is.name ∙ ap (rrset_at after owner) n.is.record_type in
          let held : IsStored there = subst (λ (o : Option RRset). IsSomeAnd o IsStored) (first ∙ here) (stored (ap none_left n.is.one)) in
          let is : IsPut name there
          = record { is = as_before old sets key origin names ttl name (unsigned there) before.others (of_unsigned sets key origin names ttl name set signatures n); signed = signed; fine = fine; stored = held } in
          record {
            others = λ x t other. replaces x t ∙ kept x t other ∙ before.others x t other;
            ordered = ordered;
            each = all_and (λ m. IsSomeAnd (rrset_at after (hashed_owner m.digest origin) kind.NSEC3) (IsPut m)) finished name
                (still_put sets after name there replaces finished less before.each)
                (subst (λ (o : Option RRset). IsSomeAnd o (IsPut name)) (sym here) is);
            only = λ x some. go x there replaces (name_eq x owner) refl some;
          }
        where
          off : (there o : Option RRset) (b c : Bool) → c ≡ false → cond (b && c) there o ≡ o
          off there o true c e = ap (λ (d : Bool). cond d there o) e
          off there o false c e = refl

          kept : (x : DomainName) (t : RecordType) → same_record_type kind.NSEC3 t ≡ false
              → cond (name_eq x (hashed_owner name.digest origin) && same_record_type kind.NSEC3 t) (Some (record set { signatures = signatures })) (rrset_at sets x t) ≡ rrset_at sets x t
          kept x t other = off (Some (record set { signatures = signatures })) (rrset_at sets x t) (name_eq x (hashed_owner name.digest origin)) (same_record_type kind.NSEC3 t) other

          go : (x : DomainName) (there : RRset) → Replaces sets (hashed_owner name.digest origin) kind.NSEC3 (Some there) after → (b : Bool) → name_eq x (hashed_owner name.digest origin) ≡ b
              → IsSome (rrset_at after x kind.NSEC3) → list_any (λ m. name_eq x (hashed_owner m.digest origin)) (finished ++ name ∷ []) ≡ true
          go x there replaces true e some = any_last (λ m. name_eq x (hashed_owner m.digest origin)) finished name e
          go x there replaces false e some =
              any_front (λ m. name_eq x (hashed_owner m.digest origin)) finished name
              (before.only x (ap is_some (sym (replaces x kind.NSEC3 ∙ ap (λ (b : Bool). cond (b && true) (Some there) (rrset_at sets x kind.NSEC3)) e)) ∙ some))

      -- By places.
      pub puts_next : (sets after : List RRset) (place next : ℕ) (set : RRset) (signatures : List Record) → IsStrictlySortedBy (hash_cmp origin) names → place < length names → next ≡ place + 1
          → ((name : HashedName) → slice_get names place ≡ Some name → IsNsec3In by opt_out sets key origin names ttl name set)
          → AreSignatures gives keys (unsigned set) now signatures → any_fails fails keys set now ≡ false
          → Replaces sets set.name set.record_type (Some (record set { signatures = signatures })) after → AreInOrder after
          → (none_left set.records ≡ false → IsSomeAnd (rrset_at after set.name set.record_type) IsStored)
          → Nsec3sPut (take place names) sets → Nsec3sPut (take next names) after
      puts_next sets after place next set signatures sorted within is n signed fine put ordered stored before =
          let at = some_at names place within in
          let after_it : next ≡ suc place = omega (arith, is) in
          let more : take next names ≡ take place names ++ at.0 ∷ [] = ap (λ (i : ℕ). take i names) after_it ∙ one_taken names place at.0 at.1 in
          subst (λ (l : List HashedName). Nsec3sPut l after) (sym more)
          (puts_one sets after (take place names) at.0 set signatures (n at.0 at.1) signed fine put ordered stored (earlier origin names place at.0 sorted at.1) before)

      -- ---- when all are put
      module _ (spelled : key ≡ lowercase_name origin) where
        at_old : (zone : Zone) → lowercase_name zone.origin ≡ key → IsZoneAt old key (record zone { sets = old })
        at_old zone same = record { has_sets = refl; has_origin = same }

        was_alike : (new : List RRset) (zone : Zone) → zone.sets ≡ new → ChangesOnly kind.NSEC3 old new → AlikeBut kind.NSEC3 (record zone { sets = old }) zone
        was_alike new zone has others = record {
          origin = refl;
          owned = λ name t other. ap (λ (l : List RRset). is_some (rrset_at l name t)) has ∙ ap is_some (others name t other);
        }

        secured_for : (new : List RRset) (was zone : Zone) → IsZoneAt old key was → IsZoneAt new key zone → AlikeBut kind.NSEC3 was zone → AreHashed by opt_out was origin names
            → IsSomeAnd (rrset_at old origin kind.NSEC3PARAM) (IsParameterSet by) → Nsec3sPut names new → AreApart by opt_out zone → IsSecuredByHash by opt_out zone
        secured_for new was zone at here same are parameters put apart_names = record {
          each = λ name on.
              let back = same_on opt_out zone was (alike_turned kind.NSEC3 was zone same) name on in
              let found = one_that (λ n. IsHashedName by opt_out was n × IsSomeAnd (rrset_at new (hashed_owner n.digest origin) kind.NSEC3) (IsPut n))
              (λ n. name_eq (hashed_owner (digest_of by name) origin) (hashed_owner n.digest origin)) names
              (both_all (IsHashedName by opt_out was) (λ n. IsSomeAnd (rrset_at new (hashed_owner n.digest origin) kind.NSEC3) (IsPut n)) names are.each put.each) (are.all name back) in
              let digest : digest_of by name ≡ digest_of by found.0.key
              = same_digest by name found.0.key origin origin (ap (λ (d : List ℕ). name_eq (hashed_owner (digest_of by name) origin) (hashed_owner d origin)) (sym found.1.0.digest) ∙ found.2) in
              let equal = apart_names name found.0.key on (same_on opt_out was zone same found.0.key found.1.0.on) digest in
              some_as (IsPut found.0) (IsNsec3Set by opt_out zone name) (rrset_at new (hashed_owner found.0.digest origin) kind.NSEC3) (rrset_at zone.sets (hashed_name by zone name) kind.NSEC3)
              (ap (λ (l : List RRset). rrset_at l (hashed_name by zone name) kind.NSEC3) here.has_sets
              ∙ sym (both_same new (hashed_name by zone name) (hashed_owner found.0.digest origin) kind.NSEC3 kind.NSEC3
              (name_eq_equiv.congr (hashed_name by zone name) (hashed_owner (digest_of by name) origin) (hashed_owner found.0.digest origin)
              (owner_alike (digest_of by name) zone.origin origin (here.has_origin ∙ spelled)) ∙ found.2) refl))
              (λ set p. renamed_nsec3 zone name found.0.key equal digest set
              (now_nsec3 was zone same found.0.key set (is_nsec3_set old key origin names ttl was at spelled are found.0 found.1.0 set p.is)))
              found.1.1;
          only = λ owner some.
              let found = one_that (IsHashedName by opt_out was) (λ n. name_eq owner (hashed_owner n.digest origin)) names are.each
              (put.only owner (ap (λ (l : List RRset). is_some (rrset_at l owner kind.NSEC3)) (sym here.has_sets) ∙ some)) in
              let own : name_eq (hashed_owner found.0.digest origin) (hashed_name by zone found.0.key) ≡ true
              = ap (λ (d : List ℕ). name_eq (hashed_owner d origin) (hashed_name by zone found.0.key)) found.1.digest
              ∙ owner_alike (digest_of by found.0.key) origin zone.origin (sym (here.has_origin ∙ spelled)) in (
                found.0.key,
                same_on opt_out was zone same found.0.key found.1.on,
                name_eq_equiv.congr owner (hashed_owner found.0.digest origin) (hashed_name by zone found.0.key) found.2 ∙ own,
              );
          parameters = some_as (IsParameterSet by) (IsParameterSet by) (rrset_at old origin kind.NSEC3PARAM) (rrset_at zone.sets zone.origin kind.NSEC3PARAM)
              (ap (λ (l : List RRset). rrset_at l zone.origin kind.NSEC3PARAM) here.has_sets ∙ put.others zone.origin kind.NSEC3PARAM refl
              ∙ sym (both_same old zone.origin origin kind.NSEC3PARAM kind.NSEC3PARAM (same_origin zone here) refl))
              (λ set p. p) parameters;
        }
          where
            same_origin : (z : Zone) → IsZoneAt new key z → name_eq z.origin origin ≡ true
            same_origin z there =
                sym (eq-lower z.origin origin) ∙ ap (name_eq z.origin) (sym (there.has_origin ∙ spelled)) ∙ eq-lower z.origin z.origin ∙ name_eq_equiv.refl z.origin

        pub secured_then : (new : List RRset) → ((zone : Zone) → IsZoneAt old key zone → AreHashed by opt_out zone origin names)
            → IsSomeAnd (rrset_at old origin kind.NSEC3PARAM) (IsParameterSet by) → Nsec3sPut names new → (zone : Zone) → IsZoneAt new key zone → AreApart by opt_out zone → IsSecuredByHash by opt_out zone
        secured_then new are parameters put zone here apart_names =
            secured_for new (record zone { sets = old }) zone (at_old zone here.has_origin) here (was_alike new zone here.has_sets put.others)
            (are (record zone { sets = old }) (at_old zone here.has_origin)) parameters put apart_names

        -- Where a key fails, it does for a set of the circle.
        pub some_fails : (sets : List RRset) (place : ℕ) (set : RRset) → place < length names
            → ((name : HashedName) → slice_get names place ≡ Some name → IsNsec3In by opt_out sets key origin names ttl name set) → any_fails fails keys set now ≡ true → ChangesOnly kind.NSEC3 old sets
            → ((zone : Zone) → IsZoneAt old key zone → AreHashed by opt_out zone origin names)
            → (zone : Zone) → IsZoneAt old key zone → SomeFails fails keys now (IsNsec3Made by opt_out ttl zone)
        some_fails sets place set within n failed others are zone at =
            let it = some_at names place within in
            let is = n it.0 it.1 in
            let on : IsHashedName by opt_out zone it.0 = at_place (IsHashedName by opt_out zone) names place it.0 (are zone at).each it.1 in
            record {
              set = unsigned set;
              is = (
                record {
                  name = it.0.key;
                  on = on.on;
                  owner = ap (λ (o : DomainName). name_eq o (hashed_name by zone it.0.key)) is.is.name
                      ∙ ap (λ (d : List ℕ). name_eq (hashed_owner d origin) (hashed_name by zone it.0.key)) on.digest
                      ∙ owner_alike (digest_of by it.0.key) origin zone.origin (sym (at.has_origin ∙ spelled));
                  is = is_nsec3_set old key origin names ttl zone at spelled (are zone at) it.0 on (unsigned set)
                      (as_before old sets key origin names ttl it.0 (unsigned set) others (of_unsigned sets key origin names ttl it.0 set [] is));
                },
                record { record_type = is.is.record_type; class = is.is.class; lasts = ap least_ttl is.is.one ∙ is.is.lasts },
              );
              failed = failed;
            }

      -- ---- what has been made
      made_one : (name : HashedName) (set : RRset) → IsPut name set → IsMade gives keys now ttl set × (any_fails fails keys set now ≡ false)
      made_one name set p = (record { class = p.is.is.class; lasts = ap least_ttl p.is.is.one ∙ p.is.is.lasts; signed = p.signed }, p.fine)

      pub made_then : (new : List RRset) → Nsec3sPut names new → (name : DomainName) → IfSome (rrset_at new name kind.NSEC3) (λ set. IsMade gives keys now ttl set × (any_fails fails keys set now ≡ false))
      made_then new put name = go (rrset_at new name kind.NSEC3) refl
        where
          go : (o : Option RRset) → rrset_at new name kind.NSEC3 ≡ o → IfSome o (λ set. IsMade gives keys now ttl set × (any_fails fails keys set now ≡ false))
          go None e = tt
          go (Some set) e =
              let found = one_that (λ n. IsSomeAnd (rrset_at new (hashed_owner n.digest origin) kind.NSEC3) (IsPut n)) (λ n. name_eq name (hashed_owner n.digest origin)) names put.each (put.only name (ap is_some e)) in
              some_as (IsPut found.0) (λ s. IsMade gives keys now ttl s × (any_fails fails keys s now ≡ false)) (rrset_at new (hashed_owner found.0.digest origin) kind.NSEC3) (Some set)
              (sym e ∙ sym (both_same new name (hashed_owner found.0.digest origin) kind.NSEC3 kind.NSEC3 found.2 refl))
              (λ s p. made_one found.0 s p) found.1

      pub stored_then : (new : List RRset) → Nsec3sPut names new → (name : DomainName) → IfSome (rrset_at new name kind.NSEC3) IsStored
      stored_then new put name = go (rrset_at new name kind.NSEC3) refl
        where
          go : (o : Option RRset) → rrset_at new name kind.NSEC3 ≡ o → IfSome o IsStored
          go None e = tt
          go (Some set) e =
              let found = one_that (λ n. IsSomeAnd (rrset_at new (hashed_owner n.digest origin) kind.NSEC3) (IsPut n)) (λ n. name_eq name (hashed_owner n.digest origin)) names put.each (put.only name (ap is_some e)) in
              some_as (IsPut found.0) IsStored (rrset_at new (hashed_owner found.0.digest origin) kind.NSEC3) (Some set)
              (sym e ∙ sym (both_same new name (hashed_owner found.0.digest origin) kind.NSEC3 kind.NSEC3 found.2 refl)) (λ s p. p.stored) found.1
