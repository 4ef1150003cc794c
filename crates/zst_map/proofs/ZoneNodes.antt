-- What a zone's entries say of a name: which set is stored there, and whether it exists.
use Rattle.std.proofs.Common.{◌≡◌, ℕ, ◌<◌, length, refl, ap, sym, ◌∙◌, arith, ⊎_elim}
use Rattle.std.specs.Prelude.{Bool, true, false, ◌&&◌, ◌||◌, List, [], ◌∷◌, ◌++◌, Option, Some, None, cond, find, nat_eq, nat_lt}
use Rattle.std.specs.Bool.{beq}
use Rattle.std.specs.List.{AllByRecursion, list_any, filter}
use Rattle.std.specs.List.Sorted.{IsStrictlySortedBy}
use Rattle.std.specs.Map.{keys_of, lookup}
use Rattle.std.specs.BTreeMap.{is_at}
use Rattle.std.specs.Ordering.{nat_cmp, is_eq, is_le}
use Rattle.std.specs.declared.cmp.Ordering.{Ordering}
use Rattle.std.specs.declared.cmp.Ordering.TheVariants.{Less, Greater}
use Rattle.std.specs.Cmp.Lexicographic.{slice_cmp}
use Rattle.std.specs.Str.{bytes_eq}
use Rattle.std.proofs.lemmas.Map.Text.{is_eq-slice_cmp}
use Rattle.std.proofs.lemmas.Slice.Eq.{bytes_eq-Decides}
use Rattle.std.proofs.lemmas.Bool.{eqb-true, cases_order, and_parts, true≢false, le-ltb, ne_eqb, eq-eqb}
use Rattle.zst_handler.specs.dnw_codes.declared.record_type.RecordType.{RecordType}
use Rattle.zst_handler.specs.dnw_name.DomainName.{DomainName, name_eq, is_at_or_below}
use Rattle.zst_handler.specs.dnw_codes.RecordType.{same_record_type}
use Rattle.zst_key.specs.NameKeys.{name_key}
use Rattle.zst_map.proofs.Keys.{begins}
use Rattle.zst_handler.specs.zst_record.RecordSets.{RRset}
use Rattle.zst_handler.specs.Zones.{rrset_at}
use Rattle.zst_map.specs.ZoneMaps.{exists_alike}
use Rattle.zst_map.specs.ZoneMaps.{IsOwnedAt, IsNode}
use Rattle.zst_map.proofs.Entries.{sets_of}
use Rattle.zst_map.proofs.Keys.{begins-starts_with, same_key}
use Rattle.zst_key.proofs.KeyLemmas.{key-below}

-- ---- tests of lists
abbrev pub or_else : {X : Type 0} → Option X → Option X → Option X
or_else None y = y
or_else (Some x) y = Some x

or_else_none : {X : Type 0} (x : Option X) → or_else x None ≡ x
or_else_none None = refl
or_else_none (Some x) = refl

find_cond : {X : Type 0} (b : Bool) (x : X) (y z : Option X) → cond b (Some x) (or_else y z) ≡ or_else (cond b (Some x) y) z
find_cond true x y z = refl
find_cond false x y z = refl

pub find_append : {X : Type 0} (p : X → Bool) (xs ys : List X) → find p (xs ++ ys) ≡ or_else (find p xs) (find p ys)
find_append p [] ys = refl
find_append p (x ∷ xs) ys = rw (find_append p xs ys) (find_cond (p x) x (find p xs) (find p ys))

-- by a test that says which part has it
pick : {X : Type 0} (b : Bool) (first rest here there : Option X) → (b ≡ true → first ≡ here) → (b ≡ true → rest ≡ None)
    → (b ≡ false → first ≡ None) → (b ≡ false → rest ≡ there) → or_else first rest ≡ cond b here there
pick true first rest here there f r g s = rw (f refl, r refl) (or_else_none here)
pick false first rest here there f r g s = rw (g refl, s refl) refl

or_assoc : (a b c : Bool) → (a || (b || c)) ≡ ((a || b) || c)
or_assoc true b c = refl
or_assoc false b c = refl

any_append : {X : Type 0} (p : X → Bool) (xs ys : List X) → list_any p (xs ++ ys) ≡ (list_any p xs || list_any p ys)
any_append p [] ys = refl
any_append p (x ∷ xs) ys = rw (any_append p xs ys) (or_assoc (p x) (list_any p xs) (list_any p ys))

-- ---- the sets under one key
abbrev pub is_set_at : DomainName → RecordType → RRset → Bool
is_set_at name t set = name_eq name set.name && same_record_type set.record_type t

abbrev pub is_of_type : RecordType → RRset → Bool
is_of_type t set = same_record_type set.record_type t

pub owner_test : (name : DomainName) (key : List ℕ) (set : RRset) → IsOwnedAt key set → name_eq name set.name ≡ bytes_eq (name_key name) key
owner_test name key set is = sym (same_key name set.name) ∙ ap (bytes_eq (name_key name)) is.owner

pub found_under_key : (name : DomainName) (t : RecordType) (key : List ℕ) (sets : List RRset) → AllByRecursion (IsOwnedAt key) sets
    → bytes_eq (name_key name) key ≡ true → find (is_set_at name t) sets ≡ find (is_of_type t) sets
found_under_key name t key [] all e = refl
found_under_key name t key (set ∷ sets) all e =
    let first : name_eq name set.name ≡ true = owner_test name key set all.0 ∙ e in
    let rest : find (is_set_at name t) sets ≡ find (is_of_type t) sets = found_under_key name t key sets all.1 e in
    rw (first, rest) refl

pub none_under_key : (name : DomainName) (t : RecordType) (key : List ℕ) (sets : List RRset) → AllByRecursion (IsOwnedAt key) sets
    → bytes_eq (name_key name) key ≡ false → find (is_set_at name t) sets ≡ None
none_under_key name t key [] all e = refl
none_under_key name t key (set ∷ sets) all e =
    let first : name_eq name set.name ≡ false = owner_test name key set all.0 ∙ e in
    let rest : find (is_set_at name t) sets ≡ None = none_under_key name t key sets all.1 e in
    rw (first, rest) refl

-- Whether the owner of a set equals a name or lies below it, where both end at the root or neither does.
abbrev pub is_alike : DomainName → RRset → Bool
is_alike name set = beq set.name.fqdn name.fqdn && is_at_or_below set.name name

alike_begins : (name : DomainName) (key : List ℕ) (set : RRset) → IsOwnedAt key set → is_alike name set ≡ begins (name_key name) key
alike_begins name key set is = sym (key-below set.name name) ∙ sym (begins-starts_with (name_key name) (name_key set.name)) ∙ ap (begins (name_key name)) is.owner

any_under_key : (name : DomainName) (key : List ℕ) (sets : List RRset) → AllByRecursion (IsOwnedAt key) sets
    → begins (name_key name) key ≡ false → exists_alike sets name ≡ false
any_under_key name key [] all e = refl
any_under_key name key (set ∷ sets) all e =
    let first : is_alike name set ≡ false = alike_begins name key set all.0 ∙ e in
    let rest : exists_alike sets name ≡ false = any_under_key name key sets all.1 e in
    rw (first, rest) refl

exists_under_key : (name : DomainName) (key : List ℕ) (sets : List RRset) → IsNode key sets
    → exists_alike sets name ≡ begins (name_key name) key
exists_under_key name key [] node = absurd (omega (arith, node.filled))
exists_under_key name key (set ∷ sets) node = by (begins (name_key name) key) refl
  where
    first : is_alike name set ≡ begins (name_key name) key
    first = alike_begins name key set node.owned.0

    by : (b : Bool) → begins (name_key name) key ≡ b → (is_alike name set || exists_alike sets name) ≡ begins (name_key name) key
    by true e = rw (first, e) refl
    by false e = rw (first, e) (any_under_key name key sets node.owned.1 e)

-- ---- keys in order
begins_below : (q k : List ℕ) → begins q k ≡ true → is_le (slice_cmp nat_cmp q k) ≡ true
begins_below [] [] e = refl
begins_below [] (y ∷ k) e = refl
begins_below (x ∷ q) [] e = absurd (true≢false (sym e))
begins_below (x ∷ q) (y ∷ k) e =
    let p = and_parts (nat_eq x y) (begins q k) e in
    let h : nat_lt x y ≡ false = le-ltb x y (omega (arith, eqb-true x y p.0)) in
    rw (h, p.0) (begins_below q k p.1)

-- what lies between octets and a continuation of them begins with them
begins_between : (q k l : List ℕ) → is_le (slice_cmp nat_cmp q k) ≡ true → slice_cmp nat_cmp k l ≡ Less → begins q l ≡ true → begins q k ≡ true
begins_between [] k l le less e = refl
begins_between (x ∷ q) [] l le less e = absurd (true≢false (sym le))
begins_between (x ∷ q) (y ∷ k) [] le less e = absurd (true≢false (sym e))
begins_between (x ∷ q) (y ∷ k) (z ∷ l) le less e =
    let p = and_parts (nat_eq x z) (begins q l) e in
    let xz : x ≡ z = eqb-true x z p.0 in
    ⊎_elim
    (λ (xy : x ≡ y).
    let a : nat_lt x y ≡ false = le-ltb x y (omega arith) in
    let b : nat_eq x y ≡ true = eq-eqb x y xy in
    let c : nat_lt y z ≡ false = le-ltb y z (omega arith) in
    let d : nat_eq y z ≡ true = eq-eqb y z (omega arith) in
    let le1 : is_le (slice_cmp nat_cmp q k) ≡ true = rw (a, b) at le in
    let less1 : slice_cmp nat_cmp k l ≡ Less = rw (c, d) at less in
    rw b (begins_between q k l le1 less1 p.1))
    (⊎_elim
    (λ (below : x < y).
    let c : nat_lt y z ≡ false = le-ltb y z (omega arith) in
    let d : nat_eq y z ≡ false = ne_eqb y z (λ (h : y ≡ z). omega arith) in
    let less1 : Greater ≡ Less = rw (c, d) at less in
    cc)
    (λ (above : y < x).
    let a : nat_lt x y ≡ false = le-ltb x y (omega arith) in
    let b : nat_eq x y ≡ false = ne_eqb x y (λ (h : x ≡ y). omega arith) in
    let le1 : false ≡ true = rw (a, b) at le in
    absurd (true≢false (sym le1))))
    (cases_order x y)

-- ---- a key and one that begins with it
pub longer_differs : (q k : List ℕ) → length q < length k → bytes_eq q k ≡ false
longer_differs q k longer = by (bytes_eq q k) refl
  where
    by : (b : Bool) → bytes_eq q k ≡ b → b ≡ false
    by true t = absurd (omega (arith, longer, ap length ((bytes_eq-Decides q k).0 t)))
    by false t = refl

-- ---- all entries
module _ {K V : Type 0} (octets : K → List ℕ) (sets : V → List RRset) where
  abbrev key_cmp : K → K → Ordering
  key_cmp a b = slice_cmp nat_cmp (octets a) (octets b)

  abbrev AreNodes : List (K × V) → Type 0
  AreNodes es = AllByRecursion (λ entry. IsNode (octets entry.0) (sets entry.1)) es

  -- the set of a type among those of one key
  abbrev pub set_in : Option V → RecordType → Option RRset
  set_in None t = None
  set_in (Some node) t = find (is_of_type t) (sets node)

  set_in_cond : (b : Bool) (v : V) (o : Option V) (t : RecordType) → set_in (cond b (Some v) o) t ≡ cond b (find (is_of_type t) (sets v)) (set_in o t)
  set_in_cond true v o t = refl
  set_in_cond false v o t = refl

  -- a name under a key is at no later one
  pub past_key : (q k l : List ℕ) → bytes_eq q k ≡ true → slice_cmp nat_cmp k l ≡ Less → bytes_eq q l ≡ false
  past_key q k l e less =
      let same : q ≡ k = (bytes_eq-Decides q k).0 e in
      sym (is_eq-slice_cmp q l) ∙ ap is_eq (ap (λ (t : List ℕ). slice_cmp nat_cmp t l) same ∙ less)

  none_later : (name : DomainName) (t : RecordType) (k : K) (es : List (K × V)) → AreNodes es → AllByRecursion (λ l. key_cmp k l ≡ Less) (keys_of es)
      → bytes_eq (name_key name) (octets k) ≡ true → find (is_set_at name t) (sets_of octets sets es) ≡ None
  none_later name t k [] nodes later e = refl
  none_later name t k (entry ∷ es) nodes later e =
      let first : find (is_set_at name t) (sets entry.1) ≡ None
      = none_under_key name t (octets entry.0) (sets entry.1) nodes.0.owned (past_key (name_key name) (octets k) (octets entry.0) e later.0) in
      let rest : find (is_set_at name t) (sets_of octets sets es) ≡ None = none_later name t k es nodes.1 later.1 e in
      find_append (is_set_at name t) (sets entry.1) (sets_of octets sets es) ∙ rw (first, rest) refl

  pub stored_in : (name : DomainName) (t : RecordType) (es : List (K × V)) → AreNodes es → IsStrictlySortedBy key_cmp (keys_of es)
      → rrset_at (sets_of octets sets es) name t ≡ set_in (lookup (is_at (λ k. slice_cmp nat_cmp (name_key name) (octets k))) es) t
  unfolding IsStrictlySortedBy
  stored_in name t [] nodes ordered = refl
  stored_in name t (entry ∷ es) nodes ordered =
      let b : Bool = bytes_eq (name_key name) (octets entry.0) in
      let o : Option V = lookup (is_at (λ k. slice_cmp nat_cmp (name_key name) (octets k))) es in
      find_append (is_set_at name t) (sets entry.1) (sets_of octets sets es)
      ∙ pick b (find (is_set_at name t) (sets entry.1)) (find (is_set_at name t) (sets_of octets sets es)) (find (is_of_type t) (sets entry.1)) (set_in o t)
      (found_under_key name t (octets entry.0) (sets entry.1) nodes.0.owned)
      (none_later name t entry.0 es nodes.1 ordered.0)
      (none_under_key name t (octets entry.0) (sets entry.1) nodes.0.owned)
      (λ e. stored_in name t es nodes.1 ordered.1)
      ∙ sym (ap (λ (w : Bool). set_in (cond w (Some entry.1) o) t) (is_eq-slice_cmp (name_key name) (octets entry.0)) ∙ set_in_cond b entry.1 o t)

  -- ---- whether a name exists
  -- the first of some entries begins with these octets
  abbrev pub first_begins : List ℕ → List (K × V) → Bool
  first_begins q [] = false
  first_begins q (entry ∷ es) = begins q (octets entry.0)

  abbrev any_exists : DomainName → List (K × V) → Bool
  any_exists name es = exists_alike (sets_of octets sets es) name

  not_begun : (q k l : List ℕ) → is_le (slice_cmp nat_cmp q k) ≡ true → slice_cmp nat_cmp k l ≡ Less → begins q k ≡ false → begins q l ≡ false
  not_begun q k l le less e = by (begins q l) refl
    where
      by : (b : Bool) → begins q l ≡ b → b ≡ false
      by true t = absurd (true≢false (sym (begins_between q k l le less t) ∙ e))
      by false t = refl

  none_exists : (name : DomainName) (k : K) (es : List (K × V)) → AreNodes es → AllByRecursion (λ l. key_cmp k l ≡ Less) (keys_of es)
      → is_le (slice_cmp nat_cmp (name_key name) (octets k)) ≡ true → begins (name_key name) (octets k) ≡ false → any_exists name es ≡ false
  none_exists name k [] nodes later le e = refl
  none_exists name k (entry ∷ es) nodes later le e =
      let first : begins (name_key name) (octets entry.0) ≡ false = not_begun (name_key name) (octets k) (octets entry.0) le later.0 e in
      any_append (is_alike name) (sets entry.1) (sets_of octets sets es)
      ∙ rw (exists_under_key name (octets entry.0) (sets entry.1) nodes.0, first) (none_exists name k es nodes.1 later.1 le e)

  or_by : (b x : Bool) → (b ≡ false → x ≡ false) → (b || x) ≡ b
  or_by true x h = refl
  or_by false x h = h refl

  or_past : (b x y : Bool) → b ≡ false → x ≡ y → (b || x) ≡ y
  or_past b x y e f = rw (e, f) refl

  abbrev pub from_key : List ℕ → List (K × V) → List (K × V)
  from_key q es = filter (λ e. is_le (slice_cmp nat_cmp q (octets e.0)) && true) es

  not_past : (q k : List ℕ) → is_le (slice_cmp nat_cmp q k) ≡ false → begins q k ≡ false
  not_past q k e = by (begins q k) refl
    where
      by : (b : Bool) → begins q k ≡ b → b ≡ false
      by true t = absurd (true≢false (sym (begins_below q k t) ∙ e))
      by false t = refl

  exists_step : (q : List ℕ) (entry : K × V) (es : List (K × V)) (x le : Bool) → is_le (slice_cmp nat_cmp q (octets entry.0)) ≡ le
      → (le ≡ true → begins q (octets entry.0) ≡ false → x ≡ false) → x ≡ first_begins q (from_key q es)
      → (begins q (octets entry.0) || x) ≡ first_begins q (cond (le && true) (entry ∷ from_key q es) (from_key q es))
  exists_step q entry es x true e none more = or_by (begins q (octets entry.0)) x (none refl)
  exists_step q entry es x false e none more = or_past (begins q (octets entry.0)) x (first_begins q (from_key q es)) (not_past q (octets entry.0) e) more

  -- a name exists where the first entry from its key on begins with that key
  pub exists_from : (name : DomainName) (es : List (K × V)) → AreNodes es → IsStrictlySortedBy key_cmp (keys_of es)
      → exists_alike (sets_of octets sets es) name ≡ first_begins (name_key name) (from_key (name_key name) es)
  unfolding IsStrictlySortedBy
  exists_from name [] nodes ordered = refl
  exists_from name (entry ∷ es) nodes ordered =
      any_append (is_alike name) (sets entry.1) (sets_of octets sets es)
      ∙ rw (exists_under_key name (octets entry.0) (sets entry.1) nodes.0)
      (exists_step (name_key name) entry es (any_exists name es) (is_le (slice_cmp nat_cmp (name_key name) (octets entry.0))) refl
      (none_exists name entry.0 es nodes.1 ordered.0)
      (exists_from name es nodes.1 ordered.1))
