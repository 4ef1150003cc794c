-- The names on a circle by hash are gathered: each authoritative name, and those above it.
use Rattle.std.proofs.Common.{◌≡◌, ℕ, zero, suc, ◌+◌, ◌-◌, ◌<◌, ◌≤◌, Bool, true, false, not, ◌&&◌, ◌||◌, List, [], ◌∷◌, ◌++◌, drop, length, take, get_or, refl, ap, sym, subst, ◌∙◌, arith, inl, inr, ◌⊎◌}
use Rattle.std.specs.Prelude.{IsSome, None, Some, cond, is_some, nat_lt, slice_get}
use Rattle.std.specs.BTreeMap.{insert_entry}
use Rattle.std.specs.Bool.{beq}
use Rattle.std.specs.Cmp.Lexicographic.{pointwise}
use Rattle.std.specs.List.{AllByRecursion, list_any}
use Rattle.std.specs.List.Sorted.{IsStrictlySortedBy}
use Rattle.std.specs.Map.{keys_of, values_of}
use Rattle.std.specs.Str.{str_to_ascii_lowercase}
use Rattle.std.specs.Ordering.{is_eq, match_ordering, ordering_reverse}
use Rattle.std.specs.declared.cmp.Ordering.{Ordering}
use Rattle.std.specs.declared.cmp.Ordering.TheVariants.{Less, Equal, Greater}
use Rattle.std.proofs.lemmas.Bool.{and_parts, cases_lt, true≢false}
use Rattle.std.proofs.lemmas.Bool.Decides.{nat_tests}
use Rattle.std.proofs.lemmas.List.{drop-map, length-drop, length-map}
use Rattle.zst_absence.specs.dnw_label.Label.{label_eq}
use Rattle.zst_absence.specs.dnw_codes.declared.record_type.RecordType.TheVariants as kind
use Rattle.zst_absence.specs.dnw_name.DomainName.{DomainName, domain_name, is_at_or_below, lowercase_name, name_cmp, name_eq}
use Rattle.zst_absence.specs.dnw_name.NameOrderLaws.{name_eq-by_cmp}
use Rattle.zst_absence.specs.zst_denial.Circles.{IsAuthoritativeName, is_delegation, is_owned}
use Rattle.zst_absence.specs.zst_denial.Hashed.{Hashing, IsOnHashCircle, digest_of}
use Rattle.zst_absence.specs.zst_handler.Zones.{Zone, rrset_at}
use Rattle.zst_absence.specs.zst_hash.Owners.{hashed_owner}
use Rattle.zst_absence.specs.zst_key.Ancestors.{up}
use Rattle.zst_absence.specs.zst_record.RecordLaws.{name_eq_equiv}
use Rattle.zst_absence.proofs.zst_denial_lemmas.zst_key_lemmas.Climbing.{up-up}
use Rattle.zst_absence.proofs.zst_denial_lemmas.zst_key_lemmas.KeyLemmas.{above-lower, below-lower, eq-lower, lower-twice, one-lower}
use Rattle.zst_absence.proofs.zst_denial_lemmas.zst_key_lemmas.NamesAbove.{above-shorter, beq-itself, below-up, is-above, is-equal, name_total, up-lower}
use Rattle.zst_absence.proofs.zst_map_lemmas.Replacing.{both_same}
use Rattle.zst_circle.specs.Nsec3Circle.{AreGathered, AreHashed, IsHashedName, entries_with, has_digest, hash_cmp, is_left_out, is_level_of, level_count, with_digest}
use Rattle.zst_absence.specs.zst_codes.declared.settings.AxfrPolicy.TheVariants.{Deny}
use Rattle.zst_absence.specs.zst_codes.declared.settings.ZoneType.TheVariants.{Primary}
use Rattle.zst_absence.specs.zst_record.RecordSets.{RRset}
use Rattle.zst_circle.specs.Securing.{AreAuthoritative, IsZoneAt}
use Rattle.zst_circle.specs.declared.hashed.HashedName.{HashedName}
use Rattle.zst_circle.proofs.Authoritative.{all_and, all_as, delegation_alike}
use Rattle.zst_circle.proofs.Circling.{slice_at}
use Rattle.zst_circle.proofs.NsecHashedDigests.{digest_alike}
use Rattle.zst_circle.proofs.NsecSecured.{authoritative_alike, one_of}

-- ---- entries with one more
any_true : (b c : Bool) → b ≡ true → (b || c) ≡ true
any_true true c e = refl
any_true false c e = absurd (true≢false (sym e))

any_also : (b c : Bool) → c ≡ true → (b || c) ≡ true
any_also true c e = refl
any_also false c e = e

-- Keys that pass a test still do.
kept_key : (test : DomainName → Bool) (k : DomainName) (v : HashedName) (es : List (DomainName × HashedName)) → list_any (λ e. test e.0) es ≡ true → list_any (λ e. test e.0) (insert_entry name_cmp es k v) ≡ true
kept_key test k v [] h = absurd (true≢false (sym h))
kept_key test k v (e ∷ es) h = by (name_cmp k e.0) (test e.0) refl h (kept_key test k v es)
  where
    by : (o : Ordering) (b : Bool) → test e.0 ≡ b → (b || list_any (λ x. test x.0) es) ≡ true
        → (list_any (λ x. test x.0) es ≡ true → list_any (λ x. test x.0) (insert_entry name_cmp es k v) ≡ true)
        → list_any (λ x. test x.0) (match_ordering o ((k, v) ∷ e ∷ es) ((e.0, v) ∷ es) (e ∷ insert_entry name_cmp es k v)) ≡ true
    by Less b is h later = any_also (test k) (test e.0 || list_any (λ x. test x.0) es) (ap (λ (c : Bool). c || list_any (λ x. test x.0) es) is ∙ h)
    by Equal b is h later = ap (λ (c : Bool). c || list_any (λ x. test x.0) es) is ∙ h
    by Greater true is h later = any_true (test e.0) (list_any (λ x. test x.0) (insert_entry name_cmp es k v)) is
    by Greater false is h later = any_also (test e.0) (list_any (λ x. test x.0) (insert_entry name_cmp es k v)) (later h)

-- The key that is put in passes, or the one that equals it.
put_key : (test : DomainName → Bool) (k : DomainName) (v : HashedName) (es : List (DomainName × HashedName)) → test k ≡ true → ((x : DomainName) → name_cmp k x ≡ Equal → test x ≡ true)
    → list_any (λ e. test e.0) (insert_entry name_cmp es k v) ≡ true
put_key test k v [] own alike = any_true (test k) false own
put_key test k v (e ∷ es) own alike = by (name_cmp k e.0) refl (put_key test k v es own alike)
  where
    by : (o : Ordering) → name_cmp k e.0 ≡ o → list_any (λ x. test x.0) (insert_entry name_cmp es k v) ≡ true
        → list_any (λ x. test x.0) (match_ordering o ((k, v) ∷ e ∷ es) ((e.0, v) ∷ es) (e ∷ insert_entry name_cmp es k v)) ≡ true
    by Less is later = any_true (test k) (test e.0 || list_any (λ x. test x.0) es) own
    by Equal is later = any_true (test e.0) (list_any (λ x. test x.0) es) (alike e.0 is)
    by Greater is later = any_also (test e.0) (list_any (λ x. test x.0) (insert_entry name_cmp es k v)) later

-- What holds of each entry, and of the new one under its key or one that equals it.
put_all : (P : DomainName → HashedName → Type 0) (k : DomainName) (v : HashedName) (es : List (DomainName × HashedName)) → P k v → ((x : DomainName) → name_cmp k x ≡ Equal → P x v)
    → AllByRecursion (λ e. P e.0 e.1) es → AllByRecursion (λ e. P e.0 e.1) (insert_entry name_cmp es k v)
put_all P k v [] own alike all = (own, tt)
put_all P k v (e ∷ es) own alike all = by (name_cmp k e.0) refl (put_all P k v es own alike all.1)
  where
    by : (o : Ordering) → name_cmp k e.0 ≡ o → AllByRecursion (λ x. P x.0 x.1) (insert_entry name_cmp es k v)
        → AllByRecursion (λ x. P x.0 x.1) (match_ordering o ((k, v) ∷ e ∷ es) ((e.0, v) ∷ es) (e ∷ insert_entry name_cmp es k v))
    by Less is later = (own, all)
    by Equal is later = (alike e.0 is, all.1)
    by Greater is later = (all.0, later)

-- ---- levels
equal_eq : (a b : DomainName) → name_cmp a b ≡ Equal → name_eq a b ≡ true
equal_eq a b e = name_eq-by_cmp a b ∙ ap is_eq e

eq_equal : (a b : DomainName) → name_eq a b ≡ true → name_cmp a b ≡ Equal
eq_equal a b e = is-equal (name_cmp a b) (sym (name_eq-by_cmp a b) ∙ e)

up_alike : (a b : DomainName) (n : ℕ) → name_eq a b ≡ true → lowercase_name (up a n) ≡ lowercase_name (up b n)
up_alike a b n e =
    ap (domain_name a.fqdn) (sym (drop-map str_to_ascii_lowercase n a.labels)) ∙ ap (λ (m : DomainName). up m n) (one-lower a b e)
    ∙ ap (domain_name b.fqdn) (drop-map str_to_ascii_lowercase n b.labels)

same_long : (a b : DomainName) → name_eq a b ≡ true → length a.labels ≡ length b.labels
same_long a b e =
    sym (length-map a.labels str_to_ascii_lowercase) ∙ ap (λ (n : DomainName). length n.labels) (one-lower a b e) ∙ length-map b.labels str_to_ascii_lowercase

-- A name at or below another one is so up to that one's labels.
below_at : (name origin : DomainName) (n : ℕ) → is_at_or_below name origin ≡ true → n < level_count origin name → is_at_or_below (up name n) origin ≡ true
below_at name origin n below less =
    let j = length (drop n name.labels) - length origin.labels in
    let level : n + j ≡ length name.labels - length origin.labels = omega (arith, less, above-shorter name origin below, length-drop n name.labels) in
    ap (λ (m : DomainName). pointwise label_eq origin.labels m.labels) (up-up name n j ∙ ap (up name) level) ∙ below

left_alike : (opt_out : Bool) (zone : Zone) (a b : DomainName) → name_eq a b ≡ true → is_left_out opt_out zone a ≡ is_left_out opt_out zone b
left_alike opt_out zone a b e =
    λ i. opt_out && (delegation_alike zone a b 0 e i && not (is_some (both_same zone.sets b a kind.DS kind.DS (name_eq_equiv.symm b a ∙ e) refl i)))

pub left_key : (opt_out : Bool) (zone : Zone) (name key : DomainName) → key ≡ lowercase_name name → is_left_out opt_out zone key ≡ is_left_out opt_out zone name
left_key opt_out zone name key is =
    ap (is_left_out opt_out zone) is ∙ sym (left_alike opt_out zone name (lowercase_name name) (eq-lower name name ∙ name_eq_equiv.refl name))

pub left_one : (opt_out : Bool) (zone : Zone) (name : DomainName) → opt_out ≡ false → is_left_out opt_out zone name ≡ false
left_one opt_out zone name e = ap (λ (b : Bool). b && (is_delegation zone name && not (is_owned zone name kind.DS))) e

pub left_two : (opt_out : Bool) (zone : Zone) (name : DomainName) → (is_delegation zone name && not (is_owned zone name kind.DS)) ≡ false → is_left_out opt_out zone name ≡ false
left_two opt_out zone name e = ap (λ (b : Bool). opt_out && b) e ∙ nothing opt_out
  where
    nothing : (b : Bool) → (b && false) ≡ false
    nothing true = refl
    nothing false = refl

kept_owner : (opt_out : Bool) (zone : Zone) (name : DomainName) → is_left_out opt_out zone name ≡ false → opt_out ≡ true → is_delegation zone name ≡ true → IsSome (rrset_at zone.sets name kind.DS)
kept_owner opt_out zone name kept out delegated = by opt_out (is_delegation zone name) (is_owned zone name kind.DS) out delegated kept
  where
    by : (a b c : Bool) → a ≡ true → b ≡ true → (a && (b && not c)) ≡ false → c ≡ true
    by true true true e f g = refl
    by true true false e f g = absurd (true≢false g)
    by true false c e f g = absurd (true≢false (sym f))
    by false b c e f g = absurd (true≢false (sym e))

kept_test : (a b c : Bool) → (a ≡ true → b ≡ true → c ≡ true) → (a && (b && not c)) ≡ false
kept_test true true true f = refl
kept_test true true false f = absurd (true≢false (sym (f refl refl)))
kept_test true false c f = refl
kept_test false b c f = refl

-- ---- what the code finds
pub got_at : (names : List DomainName) (i : ℕ) (x : DomainName) → i < length names → x ≡ get_or names i x → slice_get names i ≡ Some x
got_at names i x less e = slice_at names i x less e

-- What is got at a place is there, whatever is got elsewhere.
pub above_it : (names : List DomainName) (i : ℕ) (d : DomainName) → get_or names i d ≡ get_or names i (get_or names i d)
above_it [] zero d = refl
above_it [] (suc i) d = refl
above_it (n ∷ names) zero d = refl
above_it (n ∷ names) (suc i) d = above_it names i d

pub before_it : (names : List DomainName) (place : ℕ) (above : DomainName) → (nat_lt 0 place && is_level_of (get_or names (place - 1) above) above) ≡ true
    → (0 < place) × (is_level_of (get_or names (place - 1) above) above ≡ true)
before_it names place above e =
    let parts = and_parts (nat_lt 0 place) (is_level_of (get_or names (place - 1) above) above) e in
    let test = parts.0 in
    (grind (test, nat_tests, arith), parts.1)

pub count_alike : (sets : List RRset) (key origin name : DomainName) (zone : Zone) → IsZoneAt sets key zone → key ≡ lowercase_name origin → level_count zone.origin name ≡ level_count origin name
count_alike sets key origin name zone at is =
    let long : length zone.origin.labels ≡ length origin.labels
    = sym (length-map zone.origin.labels str_to_ascii_lowercase) ∙ ap (λ (n : DomainName). length n.labels) (at.has_origin ∙ is) ∙ length-map origin.labels str_to_ascii_lowercase in
    ap (λ (n : ℕ). length name.labels - n + 1) long

pub within_count : (zone : Zone) (name : DomainName) (level : ℕ) → level < level_count zone.origin name → is_at_or_below name zone.origin ≡ true → level ≤ length name.labels
within_count zone name level less below = omega (arith, less, above-shorter name zone.origin below)

-- A zone of these sets.
abbrev pub a_zone : List RRset → DomainName → Zone
a_zone sets origin = record { origin = origin; zone_type = Primary; axfr_policy = Deny; nx_proof_kind = None; guard = None; sets = sets }

module _ (by : Hashing) (opt_out : Bool) (zone : Zone) (origin : DomainName) where
  -- Names that are one in lower case have one digest among the entries.
  has_alike : (es : List (DomainName × HashedName)) (a b : DomainName) → lowercase_name a ≡ lowercase_name b → has_digest by origin es a ≡ has_digest by origin es b
  has_alike es a b e = ap (λ (d : List ℕ). list_any (λ (x : DomainName × HashedName). is_eq (name_cmp (hashed_owner d origin) x.0)) es) (digest_alike by a b e)

  -- A name that is left out leaves the entries as they are; another one is put under its hashed owner.
  pub entries_left : (es : List (DomainName × HashedName)) (name : DomainName) → is_left_out opt_out zone name ≡ true → es ≡ entries_with by opt_out zone origin es name
  entries_left es name is = sym (ap (λ (b : Bool). cond b es (insert_entry name_cmp es (lowercase_name (hashed_owner (digest_of by name) origin)) (with_digest by name))) is)

  pub entries_put_as : (es new : List (DomainName × HashedName)) (name k : DomainName) (v : HashedName) → is_left_out opt_out zone name ≡ false → new ≡ insert_entry name_cmp es k v
      → k ≡ lowercase_name (hashed_owner (digest_of by name) origin) → v ≡ with_digest by name → new ≡ entries_with by opt_out zone origin es name
  entries_put_as es new name k v kept is key value =
      is ∙ (λ i. insert_entry name_cmp es (key i) (value i))
      ∙ sym (ap (λ (b : Bool). cond b es (insert_entry name_cmp es (lowercase_name (hashed_owner (digest_of by name) origin)) (with_digest by name))) kept)

  has_still : (es : List (DomainName × HashedName)) (name x : DomainName) → has_digest by origin es x ≡ true → has_digest by origin (entries_with by opt_out zone origin es name) x ≡ true
  has_still es name x h = go (is_left_out opt_out zone name)
    where
      go : (b : Bool) → has_digest by origin (cond b es (insert_entry name_cmp es (lowercase_name (hashed_owner (digest_of by name) origin)) (with_digest by name))) x ≡ true
      go true = h
      go false = kept_key (λ k. is_eq (name_cmp (hashed_owner (digest_of by x) origin) k)) (lowercase_name (hashed_owner (digest_of by name) origin)) (with_digest by name) es h

  has_new : (es : List (DomainName × HashedName)) (name : DomainName) → is_left_out opt_out zone name ≡ false → has_digest by origin (entries_with by opt_out zone origin es name) name ≡ true
  has_new es name kept =
      let owner = hashed_owner (digest_of by name) origin in
      let own : name_eq owner (lowercase_name owner) ≡ true = eq-lower owner owner ∙ name_eq_equiv.refl owner in
      ap (λ (b : Bool). has_digest by origin (cond b es (insert_entry name_cmp es (lowercase_name owner) (with_digest by name))) name) kept
      ∙ put_key (λ k. is_eq (name_cmp owner k)) (lowercase_name owner) (with_digest by name) es (sym (name_eq-by_cmp owner (lowercase_name owner)) ∙ own)
      (λ x e. ap is_eq (name_total.congr owner (lowercase_name owner) x (eq_equal owner (lowercase_name owner) own) ∙ e))

  -- An entry: a name on the circle under its hashed owner.
  abbrev IsEntry : DomainName → HashedName → Type 0
  IsEntry k v = (name_eq (hashed_owner v.digest origin) k ≡ true) × IsHashedName by opt_out zone v

  -- The name n levels up is on the circle.
  is_hashed : (name : DomainName) (n : ℕ) → IsAuthoritativeName kind.NSEC3 zone name → n < level_count zone.origin name → is_left_out opt_out zone (up name n) ≡ false
      → IsHashedName by opt_out zone (with_digest by (up name n))
  is_hashed name n on less kept =
      let above = up name n in
      let same : name_eq above (lowercase_name above) ≡ true = eq-lower above above ∙ name_eq_equiv.refl above in
      record {
        on = record {
          below = lowercase_name name;
          on = lower_on;
          above = below-lower name (lowercase_name above) ∙ lower_above;
          flags = refl;
          in_zone = below-lower above zone.origin ∙ below_at name zone.origin n on.in_zone less;
          kept = kept_owner opt_out zone (lowercase_name above) (sym (left_alike opt_out zone above (lowercase_name above) same) ∙ kept);
        };
        digest = digest_alike by above (lowercase_name above) (sym (lower-twice above));
      }
    where
      lower_on : IsAuthoritativeName kind.NSEC3 zone (lowercase_name name)
      lower_on = authoritative_alike kind.NSEC3 zone name (lowercase_name name) (eq-lower name name ∙ name_eq_equiv.refl name) on

      lower_above : is_at_or_below name (lowercase_name (up name n)) ≡ true
      lower_above = above-lower name (up name n) ∙ below-up name n

  entries_put : (es : List (DomainName × HashedName)) (name : DomainName) (n : ℕ) → IsAuthoritativeName kind.NSEC3 zone name → n < level_count zone.origin name
      → AllByRecursion (λ e. IsEntry e.0 e.1) es → AllByRecursion (λ e. IsEntry e.0 e.1) (entries_with by opt_out zone origin es (up name n))
  entries_put es name n on less all = go (is_left_out opt_out zone (up name n)) refl
    where
      go : (b : Bool) → is_left_out opt_out zone (up name n) ≡ b
          → AllByRecursion (λ e. IsEntry e.0 e.1) (cond b es (insert_entry name_cmp es (lowercase_name (hashed_owner (digest_of by (up name n)) origin)) (with_digest by (up name n))))
      go true is = all
      go false is =
          let owner = hashed_owner (digest_of by (up name n)) origin in
          let own : name_eq owner (lowercase_name owner) ≡ true = eq-lower owner owner ∙ name_eq_equiv.refl owner in
          let hashed = is_hashed name n on less is in
          put_all IsEntry (lowercase_name owner) (with_digest by (up name n)) es (own, hashed)
          (λ x e. (name_eq_equiv.congr owner (lowercase_name owner) x own ∙ equal_eq (lowercase_name owner) x e, hashed)) all

  -- ---- one name and those above it
  pub record Levels (finished : List DomainName) (name : DomainName) (level : ℕ) (es : List (DomainName × HashedName)) : Type 0 where
    pub gathered : AreGathered by opt_out zone origin finished es
    pub below : (n : ℕ) → n < level → is_left_out opt_out zone (up name n) ≡ false → has_digest by origin es (up name n) ≡ true

  pub levels_none : (finished : List DomainName) (name : DomainName) (es : List (DomainName × HashedName)) → AreGathered by opt_out zone origin finished es → Levels finished name 0 es
  levels_none finished name es gathered = record { gathered = gathered; below = λ n less. absurd (omega (arith, less)) }

  still_gathered : (finished : List DomainName) (es more : List (DomainName × HashedName)) → AllByRecursion (λ e. IsEntry e.0 e.1) more
      → ((x : DomainName) → has_digest by origin es x ≡ true → has_digest by origin more x ≡ true) → AreGathered by opt_out zone origin finished es → AreGathered by opt_out zone origin finished more
  still_gathered finished es more each still g = record {
    each = each;
    all = all_as (λ x. (n : ℕ) → n < level_count zone.origin x → is_left_out opt_out zone (up x n) ≡ false → has_digest by origin es (up x n) ≡ true)
        (λ x. (n : ℕ) → n < level_count zone.origin x → is_left_out opt_out zone (up x n) ≡ false → has_digest by origin more (up x n) ≡ true)
        (λ x h n less kept. still (up x n) (h n less kept)) finished g.all;
  }

  pub levels_more : (finished : List DomainName) (name : DomainName) (level : ℕ) (es : List (DomainName × HashedName)) → IsAuthoritativeName kind.NSEC3 zone name → level < level_count zone.origin name
      → Levels finished name level es → Levels finished name (suc level) (entries_with by opt_out zone origin es (up name level))
  levels_more finished name level es on less l = record {
    gathered = still_gathered finished es (entries_with by opt_out zone origin es (up name level)) (entries_put es name level on less l.gathered.each) (has_still es (up name level)) l.gathered;
    below = λ n more kept. go n (cases_lt n level) more kept;
  }
    where
      go : (n : ℕ) → ((n < level) ⊎ (level ≤ n)) → n < suc level → is_left_out opt_out zone (up name n) ≡ false
          → has_digest by origin (entries_with by opt_out zone origin es (up name level)) (up name n) ≡ true
      go n (inl before) more kept = has_still es (up name level) (up name n) (l.below n before kept)
      go n (inr past) more kept =
          let last : n ≡ level = omega (arith, more, past) in
          ap (λ (m : ℕ). has_digest by origin (entries_with by opt_out zone origin es (up name level)) (up name m)) last
          ∙ has_new es (up name level) (ap (λ (m : ℕ). is_left_out opt_out zone (up name m)) (sym last) ∙ kept)

  pub levels_all : (finished : List DomainName) (name : DomainName) (es : List (DomainName × HashedName)) → Levels finished name (level_count zone.origin name) es
      → AreGathered by opt_out zone origin (finished ++ name ∷ []) es
  levels_all finished name es l = record {
    each = l.gathered.each;
    all = all_and (λ x. (n : ℕ) → n < level_count zone.origin x → is_left_out opt_out zone (up x n) ≡ false → has_digest by origin es (up x n) ≡ true) finished name l.gathered.all l.below;
  }

  -- How many levels above another name this one is at a level.
  abbrev shared_level : DomainName → DomainName → ℕ → ℕ
  shared_level name other level = length other.labels - length (drop level name.labels)

  -- The rest of the names above are those above another one.
  pub levels_shared : (finished : List DomainName) (name other : DomainName) (level : ℕ) (es : List (DomainName × HashedName)) → lowercase_name name ≡ name → lowercase_name other ≡ other
      → level < level_count zone.origin name → is_at_or_below name zone.origin ≡ true
      → is_level_of other (up name level) ≡ true
      → ((n : ℕ) → n < level_count zone.origin other → is_left_out opt_out zone (up other n) ≡ false → has_digest by origin es (up other n) ≡ true)
      → Levels finished name level es → AreGathered by opt_out zone origin (finished ++ name ∷ []) es
  levels_shared finished name other level es low also less below shared all l =
      levels_all finished name es (record { gathered = l.gathered; below = λ n more kept. go n (cases_lt n level) more kept })
    where
      is : up name level ≡ up other (shared_level name other level)
      is = is-above other (up name level) also (up-lower name level low) shared

      place : (n : ℕ) → level ≤ n → up name n ≡ up other (shared_level name other level + (n - level))
      place n past =
          let whole : level + (n - level) ≡ n = omega (arith, past) in
          sym (up-up name level (n - level) ∙ ap (up name) whole) ∙ ap (λ (m : DomainName). up m (n - level)) is ∙ up-up other (shared_level name other level) (n - level)

      within : (n : ℕ) → level ≤ n → n < level_count zone.origin name → shared_level name other level + (n - level) < level_count zone.origin other
      within n past more =
          let long = above-shorter other (up name level) (and_parts (beq other.fqdn name.fqdn) (is_at_or_below other (up name level)) shared).1 in
          omega (arith, past, more, long, less, length-drop level name.labels, above-shorter name zone.origin below)

      go : (n : ℕ) → ((n < level) ⊎ (level ≤ n)) → n < level_count zone.origin name → is_left_out opt_out zone (up name n) ≡ false → has_digest by origin es (up name n) ≡ true
      go n (inl before) more kept = l.below n before kept
      go n (inr past) more kept =
          ap (has_digest by origin es) (place n past)
          ∙ all (shared_level name other level + (n - level)) (within n past more) (ap (is_left_out opt_out zone) (sym (place n past)) ∙ kept)

  -- ---- by places
  taken : (P : DomainName → Type 0) (names : List DomainName) (place i : ℕ) (x : DomainName) → AllByRecursion P (take place names) → i < place → slice_get names i ≡ Some x → P x
  taken P [] place i x all less e = absurd (cc e)
  taken P (n ∷ names) zero i x all less e = absurd (omega (arith, less))
  taken P (n ∷ names) (suc place) zero x all less e = let same : n ≡ x = cc e in subst P same all.0
  taken P (n ∷ names) (suc place) (suc i) x all less e = taken P names place i x all.1 (omega (arith, less)) e

  pub at_place : (P : DomainName → Type 0) (names : List DomainName) (i : ℕ) (x : DomainName) → AllByRecursion P names → slice_get names i ≡ Some x → P x
  at_place P [] i x all e = absurd (cc e)
  at_place P (n ∷ names) zero x all e = let same : n ≡ x = cc e in subst P same all.0
  at_place P (n ∷ names) (suc i) x all e = at_place P names i x all.1 e

  one_taken : (names : List DomainName) (i : ℕ) (x : DomainName) → slice_get names i ≡ Some x → take (suc i) names ≡ take i names ++ x ∷ []
  one_taken [] i x e = absurd (cc e)
  one_taken (y ∷ ys) zero x e = let same : y ≡ x = cc e in ap (λ (z : DomainName). z ∷ []) same
  one_taken (y ∷ ys) (suc i) x e = ap (λ (zs : List DomainName). y ∷ zs) (one_taken ys i x e)

  pub gathered_place : (names : List DomainName) (place next level : ℕ) (name : DomainName) (es : List (DomainName × HashedName)) → slice_get names place ≡ Some name → next ≡ place + 1
      → level_count zone.origin name ≤ level → Levels (take place names) name level es → AreGathered by opt_out zone origin (take next names) es
  gathered_place names place next level name es at is end l =
      let more : next ≡ suc place = omega (arith, is) in
      subst (λ (finished : List DomainName). AreGathered by opt_out zone origin finished es) (sym (ap (λ (i : ℕ). take i names) more ∙ one_taken names place name at))
      (levels_all (take place names) name es (record { gathered = l.gathered; below = λ n less kept. l.below n (omega (arith, less, end)) kept }))

  pub shared_place : (names : List DomainName) (place next level : ℕ) (name other : DomainName) (es : List (DomainName × HashedName)) → AreAuthoritative kind.NSEC3 zone names → slice_get names place ≡ Some name
      → next ≡ place + 1 → 0 < place → slice_get names (place - 1) ≡ Some other → level < level_count zone.origin name → is_level_of other (up name level) ≡ true
      → Levels (take place names) name level es → AreGathered by opt_out zone origin (take next names) es
  shared_place names place next level name other es are at is proper before less shared l =
      let on = at_place (IsAuthoritativeName kind.NSEC3 zone) names place name are.each at in
      let more : next ≡ suc place = omega (arith, is) in
      subst (λ (finished : List DomainName). AreGathered by opt_out zone origin finished es) (sym (ap (λ (i : ℕ). take i names) more ∙ one_taken names place name at))
      (levels_shared (take place names) name other level es (at_place (λ n. lowercase_name n ≡ n) names place name are.lower at) (at_place (λ n. lowercase_name n ≡ n) names (place - 1) other are.lower before)
      less on.in_zone shared
      (taken (λ x. (n : ℕ) → n < level_count zone.origin x → is_left_out opt_out zone (up x n) ≡ false → has_digest by origin es (up x n) ≡ true) names place (place - 1) other l.gathered.all (omega (arith, proper)) before)
      l)

  -- ---- when all are gathered
  -- A name on the circle is some levels above an authoritative name.
  above_level : (below name : DomainName) → is_at_or_below below name ≡ true → below.fqdn ≡ name.fqdn → name_eq name (up below (length below.labels - length name.labels)) ≡ true
  above_level below name e flags =
      let same : beq name.fqdn below.fqdn ≡ true = ap (beq name.fqdn) flags ∙ beq-itself name.fqdn in
      rw same e

  gathered_on : (names : List DomainName) (es : List (DomainName × HashedName)) → AreAuthoritative kind.NSEC3 zone names → AreGathered by opt_out zone origin names es
      → (name : DomainName) → IsOnHashCircle opt_out zone name → has_digest by origin es name ≡ true
  gathered_on names es are g name on =
      let k = length on.below.labels - length name.labels in
      let found = one_of (λ x. (n : ℕ) → n < level_count zone.origin x → is_left_out opt_out zone (up x n) ≡ false → has_digest by origin es (up x n) ≡ true) names on.below g.all (are.all on.below on.on) in
      let at : name_eq name (up on.below k) ≡ true = above_level on.below name on.above on.flags in
      let lower : lowercase_name name ≡ lowercase_name (up found.0 k) = one-lower name (up on.below k) at ∙ up_alike on.below found.0 k found.2 in
      let same : name_eq name (up found.0 k) ≡ true
      = sym (eq-lower name (up found.0 k)) ∙ ap (name_eq name) (sym lower) ∙ eq-lower name name ∙ name_eq_equiv.refl name in
      let long : length on.below.labels ≡ length found.0.labels = same_long on.below found.0 found.2 in
      has_alike es name (up found.0 k) lower
      ∙ found.1 k (omega (arith, long, above-shorter on.below name on.above, above-shorter name zone.origin on.in_zone))
      (sym (left_alike opt_out zone name (up found.0 k) same) ∙ kept_test opt_out (is_delegation zone name) (is_owned zone name kind.DS) on.kept)

  abbrev EntryParts : DomainName × HashedName → Type 0
  EntryParts e = (name_eq (hashed_owner e.1.digest origin) e.0 ≡ true) × IsHashedName by opt_out zone e.1

  abbrev owns_digest : DomainName → HashedName → Bool
  owns_digest name other = name_eq (hashed_owner (digest_of by name) origin) (hashed_owner other.digest origin)

  values_each : (xs : List (DomainName × HashedName)) → AllByRecursion EntryParts xs → AllByRecursion (IsHashedName by opt_out zone) (values_of xs)
  values_each [] all = tt
  values_each (x ∷ xs) all = (all.0.1, values_each xs all.1)

  values_any : (name : DomainName) (xs : List (DomainName × HashedName)) → AllByRecursion EntryParts xs → has_digest by origin xs name ≡ true → list_any (owns_digest name) (values_of xs) ≡ true
  values_any name [] all h = absurd (true≢false (sym h))
  values_any name (x ∷ xs) all h = pick (is_eq (name_cmp (hashed_owner (digest_of by name) origin) x.0)) refl h (values_any name xs all.1)
    where
      pick : (b : Bool) → is_eq (name_cmp (hashed_owner (digest_of by name) origin) x.0) ≡ b → (b || has_digest by origin xs name) ≡ true
          → (has_digest by origin xs name ≡ true → list_any (owns_digest name) (values_of xs) ≡ true)
          → (owns_digest name x.1 || list_any (owns_digest name) (values_of xs)) ≡ true
      pick true e h later =
          let owner = hashed_owner (digest_of by name) origin in
          let own = hashed_owner x.1.digest origin in
          any_true (owns_digest name x.1) (list_any (owns_digest name) (values_of xs))
          (name_eq_equiv.symm owner own ∙ name_eq_equiv.congr own x.0 owner all.0.0 ∙ name_eq_equiv.symm x.0 owner ∙ name_eq-by_cmp owner x.0 ∙ e)
      pick false e h later = any_also (owns_digest name x.1) (list_any (owns_digest name) (values_of xs)) (later h)

  pub hashed_all : (names : List DomainName) (es : List (DomainName × HashedName)) (list : List HashedName) → list ≡ values_of es → AreAuthoritative kind.NSEC3 zone names → AreGathered by opt_out zone origin names es
      → AreHashed by opt_out zone origin list
  hashed_all names es list is are g =
      subst (AreHashed by opt_out zone origin) (sym is) (record { each = values_each es g.each; all = λ name on. values_any name es g.each (gathered_on names es are g name on) })

  -- Their values are in the order of their keys.
  pub values_sorted : (es : List (DomainName × HashedName)) → AllByRecursion EntryParts es
      → IsStrictlySortedBy name_cmp (keys_of es) → IsStrictlySortedBy (hash_cmp origin) (values_of es)
  unfolding IsStrictlySortedBy
  values_sorted [] all sorted = tt
  values_sorted (x ∷ xs) all sorted = (later xs all.1 sorted.0, values_sorted xs all.1 sorted.1)
    where
      later : (ys : List (DomainName × HashedName)) → AllByRecursion EntryParts ys
          → AllByRecursion (λ k. name_cmp x.0 k ≡ Less) (keys_of ys) → AllByRecursion (λ v. hash_cmp origin x.1 v ≡ Less) (values_of ys)
      later [] each less = tt
      later (y ∷ ys) each less =
          let own = hashed_owner x.1.digest origin in
          let other = hashed_owner y.1.digest origin in (
            name_total.congr own x.0 other (eq_equal own x.0 all.0.0) ∙ name_total.antisymm x.0 other ∙ ap ordering_reverse (name_total.congr other y.0 x.0 (eq_equal other y.0 each.0.0))
                ∙ sym (name_total.antisymm x.0 y.0) ∙ less.0,
            later ys each.1 less.1,
          )

  pub gathered_none : AreGathered by opt_out zone origin [] []
  gathered_none = record { each = tt; all = tt }
