-- Which names and types the NSEC records of a secured zone deny.
use Rattle.std.proofs.Common.{◌≡◌, ◌≤◌, arith, append-nil, eqb-true, ◌==◌, ◌<◌, ◌^◌, inl, inr, length, if◌then◌else◌, ℕ, Bool, true, false, not, ◌&&◌, ◌||◌, List, [], ◌∷◌, refl, sym, ap, subst, ◌∙◌, true≢false}
use Rattle.std.specs.Prelude.{cond, find, Option, Some, None, IsSome, IsSomeAnd, is_some}
use Rattle.std.specs.Bool.{beq}
use Rattle.std.specs.Cmp.Lexicographic.{pointwise}
use Rattle.std.specs.List.{AllByRecursion, list_any}
use Rattle.std.specs.Ordering.{is_eq, is_gt, is_lt, ordering_reverse}
use Rattle.std.specs.declared.cmp.Ordering.{Ordering}
use Rattle.std.specs.declared.cmp.Ordering.TheVariants.{Less, Equal, Greater}
use Rattle.std.proofs.lemmas.Bool.{and_parts}
use Rattle.std.proofs.lemmas.Cmp.{alike_right, tied_back, tied_itself}
use Rattle.zst_hash.specs.dnw_label.Label.{label_eq}
use Rattle.zst_handler.specs.dnw_name.DomainName.{DomainName, is_at_or_below, name_cmp, name_eq}
use Rattle.zst_handler.specs.dnw_name.NameOrderLaws.{name_eq-by_cmp}
use Rattle.zst_hash.proofs.zst_key_lemmas.KeyLemmas.{eq-below}
use Rattle.zst_hash.proofs.zst_key_lemmas.NamesAbove.{beq-itself, beq-same, name_total}
use Rattle.zst_handler.specs.Zones.{AreStored, IsStored, SetReadsBack, Zone, ZoneReadsBack, exists_in, rrset_at}
use Rattle.zst_handler.specs.dnw_codes.declared.record_type.RecordType.{RecordType}
use Rattle.zst_handler.specs.dnw_codes.declared.record_type.RecordType.TheVariants as kind
use Rattle.zst_handler.specs.dnw_codes.RecordType.{record_type_number, same_record_type}
use Rattle.zst_handler.specs.zst_record.RecordSets.{IsRecordOf, RRset}
use Rattle.zst_handler.specs.zst_record.Records.{IsServable, ReadsBackAlone}
use Rattle.zst_handler.specs.zst_record.declared.records.Record.{Record}
use Rattle.zst_handler.specs.drd_rdata.Exceeding.{ExceedsRdlength}
use Rattle.zst_handler.specs.drd_rdata.declared.rdata.RData.{RData}
use Rattle.zst_handler.specs.drd_rdata.declared.rdata.RData.TheVariants as data_of
use Rattle.drd_denial.specs.Between.{between_by, is_between}
use Rattle.drd_denial.specs.Nsec.{IsNsecData}
use Rattle.drd_denial.proofs.NsecLaws.{nsec_once, nsec_short}
use Rattle.zst_denial.specs.Circles.{IsAuthoritativeName, IsNsecSet, IsSecured, is_delegation, is_listed, is_owned}
use Rattle.zst_denial.specs.Denials.{Covers, IsPrecedingSet, Lacks}
use Rattle.zst_denial.specs.Octets.{nsec_octets}

-- ---- an owner, a name and the next owner, by their orderings alone
cover_cases : (a b c : Ordering) → is_eq b ≡ false → (is_gt b ≡ false → is_gt (ordering_reverse c) ≡ false → is_lt a ≡ false)
    → (is_gt b ≡ true → (is_gt (ordering_reverse c) ≡ true) × (is_lt a ≡ false)) → between_by a (is_lt b) (is_lt c) (not (is_eq b)) ≡ true
cover_cases a Equal c apart last around = absurd (true≢false apart)
cover_cases Less Less Less apart last around = refl
cover_cases Less Less Equal apart last around = absurd (true≢false (last refl refl))
cover_cases Less Less Greater apart last around = absurd (true≢false (last refl refl))
cover_cases Less Greater c apart last around = absurd (true≢false (around refl).1)
cover_cases Greater Less c apart last around = refl
cover_cases Greater Greater Less apart last around = refl
cover_cases Greater Greater Equal apart last around = absurd (true≢false (sym (around refl).0))
cover_cases Greater Greater Greater apart last around = absurd (true≢false (sym (around refl).0))
cover_cases Equal Less c apart last around = refl
cover_cases Equal Greater c apart last around = refl

is-equal : (o : Ordering) → is_eq o ≡ true → o ≡ Equal
is-equal Less e = absurd (true≢false (sym e))
is-equal Equal e = refl
is-equal Greater e = absurd (true≢false (sym e))

-- ---- names that are equal up to case
level : (a b : DomainName) → name_eq a b ≡ true → name_cmp a b ≡ Equal
level a b e = is-equal (name_cmp a b) (sym (name_eq-by_cmp a b) ∙ e)

-- Two names that equal a third one compare alike with all others.
left_alike : (a b s : DomainName) → name_eq a s ≡ true → name_eq b s ≡ true → (x : DomainName) → name_cmp a x ≡ name_cmp b x
left_alike a b s p q x = name_total.congr a s x (level a s p) ∙ sym (name_total.congr b s x (level b s q))

between_alike : (a b c d x : DomainName) → ((y : DomainName) → name_cmp a y ≡ name_cmp b y) → ((y : DomainName) → name_cmp y c ≡ name_cmp y d) → is_between name_cmp a x c ≡ is_between name_cmp b x d
between_alike a b c d x f g = λ i. between_by ((f c ∙ g b) i) (is_lt (f x i)) (is_lt (g x i)) (not (is_eq (f x i)))

-- ---- the set that a search finds
found_passes : {X : Type 0} (p : X → Bool) (xs : List X) (x : X) → find p xs ≡ Some x → p x ≡ true
found_passes p [] x e = absurd (cc e)
found_passes p (y ∷ ys) x e = by (p y) refl e (λ f. found_passes p ys x f) where
  by : (b : Bool) → p y ≡ b → cond b (Some y) (find p ys) ≡ Some x → (find p ys ≡ Some x → p x ≡ true) → p x ≡ true
  by true here f later = let same : y ≡ x = cc f in ap p (sym same) ∙ here
  by false here f later = later f

found_any : {X : Type 0} (p test : X → Bool) (xs : List X) (x : X) → find p xs ≡ Some x → test x ≡ true → list_any test xs ≡ true
found_any p test [] x e there = absurd (cc e)
found_any p test (y ∷ ys) x e there = by (p y) e (λ f. found_any p test ys x f there) where
  or_true : (b c : Bool) → c ≡ true → (b || c) ≡ true
  or_true true c h = refl
  or_true false c h = h

  by : (b : Bool) → cond b (Some y) (find p ys) ≡ Some x → (find p ys ≡ Some x → list_any test ys ≡ true) → (test y || list_any test ys) ≡ true
  by true f later = let same : y ≡ x = cc f in ap (λ (b : Bool). b || list_any test ys) (ap test same ∙ there)
  by false f later = or_true (test y) (list_any test ys) (later f)

found_all : {X : Type 0} (P : X → Type 0) (p : X → Bool) (xs : List X) (x : X) → AllByRecursion P xs → find p xs ≡ Some x → P x
found_all P p [] x all e = absurd (cc e)
found_all P p (y ∷ ys) x all e = by (p y) e (λ f. found_all P p ys x all.1 f) where
  by : (b : Bool) → cond b (Some y) (find p ys) ≡ Some x → (find p ys ≡ Some x → P x) → P x
  by true f later = let same : y ≡ x = cc f in subst P same all.0
  by false f later = later f

some_of : {X : Type 0} (o : Option X) → IsSome o → (x : X) × (o ≡ Some x)
some_of None e = absurd (true≢false (sym e))
some_of (Some x) e = (x, refl)

owner_is : (sets : List RRset) (owner : DomainName) (t : RecordType) (set : RRset) → rrset_at sets owner t ≡ Some set → name_eq owner set.name ≡ true
owner_is sets owner t set e =
    (and_parts (name_eq owner set.name) (same_record_type set.record_type t) (found_passes (λ s. name_eq owner s.name && same_record_type s.record_type t) sets set e)).0

-- ---- authoritative names are fully qualified
flags_same : (a b : DomainName) → name_eq a b ≡ true → a.fqdn ≡ b.fqdn
flags_same a b e = beq-same a.fqdn b.fqdn (and_parts (beq a.fqdn b.fqdn) (pointwise label_eq a.labels b.labels) e).0

at_some : {X : Type 0} (P : X → Type 0) (o : Option X) (x : X) → o ≡ Some x → IsSomeAnd o P → P x
at_some P None x e h = absurd h
at_some P (Some y) x e h = let same : y ≡ x = cc e in subst P same h

at_some_is : {X : Type 0} (P : X → Type 0) (o : Option X) → IsSomeAnd o P → IsSome o
at_some_is P None h = absurd h
at_some_is P (Some x) h = refl

-- NSEC data never have more octets than RDLENGTH counts.
data_short : (value : RData) (octets : List ℕ) → nsec_octets value ≡ Some octets → length octets ≤ 65535 → ExceedsRdlength value → ⊥
data_short (data_of.Unknown code null) octets held short long = by (same_record_type code kind.NSEC) held where
  by : (b : Bool) → (if b then Some null.anything.items else None) ≡ Some octets → ⊥
  by true h =
      let same : null.anything.items ≡ octets = cc h in
      omega (arith, short, long, ap length same, ap length (append-nil null.anything.items))
  by false h = absurd (cc h)
data_short value octets held short long = absurd (cc held)

-- So an NSEC record that reads back has a fully qualified owner.
full_owner : (r : Record) (octets : List ℕ) → nsec_octets r.rdata ≡ Some octets → length octets ≤ 65535 → ReadsBackAlone r → r.name.fqdn ≡ true
full_owner r octets held short (inl head) = head.0.owner
full_owner r octets held short (inr exceeds) = absurd (data_short r.rdata octets held short exceeds)

-- An authoritative name owns an NSEC set, which reads back; so it is fully qualified.
qualified : (zone : Zone) (name : DomainName) → IsSecured zone → AreStored zone.sets → ZoneReadsBack zone → IsAuthoritativeName kind.NSEC zone name → name.fqdn ≡ true
qualified zone name secured stored back on =
    let each = secured.each name on in
    let s = some_of (rrset_at zone.sets name kind.NSEC) (at_some_is (IsNsecSet zone name) (rrset_at zone.sets name kind.NSEC) each) in
    let n = at_some (IsNsecSet zone name) (rrset_at zone.sets name kind.NSEC) s.0 s.1 each in
    let test : RRset → Bool = λ s. name_eq name s.name && same_record_type s.record_type kind.NSEC in
    let is = found_all IsStored test zone.sets s.0 stored s.1 in
    let reads = found_all SetReadsBack test zone.sets s.0 back s.1 in
    let own = (subst (λ (rs : List Record). AllByRecursion (IsRecordOf s.0) rs) n.one is.is.records).0 in
    let alone = (subst (λ (rs : List Record). AllByRecursion IsServable rs) n.one reads.records).0.alone in
    flags_same name s.0.name (owner_is zone.sets name kind.NSEC s.0 s.1)
    ∙ sym (flags_same n.only.name s.0.name own.at_owner)
    ∙ full_owner n.only n.octets n.held (omega (arith, nsec_short n.octets n.next n.types n.are)) alone

-- ---- an NSEC set, with its record's own owner and next name
pub record IsOnCircle (zone : Zone) (owner : DomainName) (set : RRset) : Type 0 where
  pub nsec : IsNsecSet zone owner set
  pub before : (x : DomainName) → name_cmp nsec.only.name x ≡ name_cmp owner x
  pub behind : (x : DomainName) → name_cmp x nsec.next ≡ name_cmp x nsec.following

some_from : {X : Type 0} (o : Option X) (x : X) → o ≡ Some x → IsSome o
some_from None x e = absurd (cc e)
some_from (Some y) x e = refl

on_circle : (zone : Zone) (owner : DomainName) (set : RRset) → IsSecured zone → AreStored zone.sets → ZoneReadsBack zone → rrset_at zone.sets owner kind.NSEC ≡ Some set → IsOnCircle zone owner set
on_circle zone owner set secured stored back at =
    let n = at_some (IsNsecSet zone owner) (rrset_at zone.sets owner kind.NSEC) set at (secured.each owner (secured.only owner (some_from (rrset_at zone.sets owner kind.NSEC) set at))) in
    let is = found_all IsStored (λ s. name_eq owner s.name && same_record_type s.record_type kind.NSEC) zone.sets set stored at in
    let own = (subst (λ (rs : List Record). AllByRecursion (IsRecordOf set) rs) n.one is.is.records).0 in
    let full : n.following.fqdn ≡ true = qualified zone n.following secured stored back n.follows.on in
    let flags : beq n.next.fqdn n.following.fqdn ≡ true = ap (λ (f : Bool). beq f n.following.fqdn) (n.are.full ∙ sym full) ∙ beq-itself n.following.fqdn in
    let same : name_eq n.next n.following ≡ true = ap (λ (b : Bool). b && pointwise label_eq n.next.labels n.following.labels) flags ∙ n.labels in
    record {
      nsec = n;
      before = λ x. left_alike n.only.name owner set.name own.at_owner (owner_is zone.sets owner kind.NSEC set at) x;
      behind = λ x. alike_right name_total n.next n.following x (level n.next n.following same);
    }

-- ---- names that don't exist are covered
exists_by : (zone : Zone) (name owner : DomainName) (set : RRset) → rrset_at zone.sets owner kind.NSEC ≡ Some set → name_cmp owner name ≡ Equal → exists_in zone.sets name ≡ true
exists_by zone name owner set at same =
    let level_with : name_cmp name set.name ≡ Equal =
    name_total.congr name owner set.name (tied_back name_total owner name same) ∙ level owner set.name (owner_is zone.sets owner kind.NSEC set at) in
    let own : name_eq name set.name ≡ true = name_eq-by_cmp name set.name ∙ ap is_eq level_with in
    found_any (λ s. name_eq owner s.name && same_record_type s.record_type kind.NSEC) (λ s. is_at_or_below s.name name) zone.sets set at (eq-below name set.name own)

apart_by : (o : Ordering) → (o ≡ Equal → ⊥) → is_eq o ≡ false
apart_by Less none = refl
apart_by Equal none = absurd (none refl)
apart_by Greater none = refl

pub absent_covered : (zone : Zone) (name owner : DomainName) (set : RRset) → IsSecured zone → AreStored zone.sets → ZoneReadsBack zone → exists_in zone.sets name ≡ false → IsPrecedingSet zone kind.NSEC name owner set
    → (only : Record) × (set.records ≡ only ∷ []) × Covers name only
absent_covered zone name owner set secured stored back absent pre =
    let c = on_circle zone owner set secured stored back pre.there in
    let n = c.nsec in
    let apart : is_eq (name_cmp owner name) ≡ false =
    apart_by (name_cmp owner name) (λ same. true≢false (sym (exists_by zone name owner set pre.there same) ∙ absent)) in
    let o = at_some_is (IsNsecSet zone n.following) (rrset_at zone.sets n.following kind.NSEC) (secured.each n.following n.follows.on) in
    let turned : ordering_reverse (name_cmp name n.following) ≡ name_cmp n.following name = sym (name_total.antisymm n.following name) in
    let inside : is_between name_cmp owner name n.following ≡ true =
    cover_cases (name_cmp owner n.following) (name_cmp owner name) (name_cmp name n.following) apart
    (λ up_to before. pre.last up_to n.following o (ap is_gt (sym turned) ∙ before))
    (λ behind. (ap is_gt turned ∙ (pre.around behind n.following o).0, (pre.around behind n.following o).1)) in (
      n.only,
      n.one,
      record {
        next = n.next;
        types = n.types;
        nsec = record { octets = n.octets; held = n.held; are = n.are };
        between = between_alike n.only.name owner n.next n.following name c.before c.behind ∙ inside;
      },
    )

-- ---- authoritative names aren't
same_octets : (a b : List ℕ) (o : Option (List ℕ)) → o ≡ Some a → o ≡ Some b → a ≡ b
same_octets a b o p q = cc

head_same : (a b : Record) (rs : List Record) → rs ≡ a ∷ [] → rs ≡ b ∷ [] → a ≡ b
head_same a b rs p q = cc

pub present_not : (zone : Zone) (name owner : DomainName) (set : RRset) (only : Record) → IsSecured zone → AreStored zone.sets → ZoneReadsBack zone → IsAuthoritativeName kind.NSEC zone name
    → rrset_at zone.sets owner kind.NSEC ≡ Some set → set.records ≡ only ∷ [] → Covers name only → ⊥
present_not zone name owner set only secured stored back on at one covers =
    let c = on_circle zone owner set secured stored back at in
    let n = c.nsec in
    let record_is : only ≡ n.only = head_same only n.only set.records one n.one in
    let held : nsec_octets n.only.rdata ≡ Some covers.nsec.octets = ap (λ (r : Record). nsec_octets r.rdata) (sym record_is) ∙ covers.nsec.held in
    let octets : covers.nsec.octets ≡ n.octets = same_octets covers.nsec.octets n.octets (nsec_octets n.only.rdata) held n.held in
    let next : covers.next ≡ n.next =
    (nsec_once n.octets covers.next n.next covers.types n.types (subst (λ (o : List ℕ). IsNsecData o covers.next covers.types) octets covers.nsec.are) n.are).0 in
    let moved : is_between name_cmp n.only.name name n.next ≡ true =
    ap (λ (r : Record). is_between name_cmp r.name name n.next) (sym record_is) ∙ ap (λ (x : DomainName). is_between name_cmp only.name name x) (sym next) ∙ covers.between in
    true≢false (sym (sym (between_alike n.only.name owner n.next n.following name c.before c.behind) ∙ moved) ∙ n.follows.none name on)

-- ---- types that the names own
-- Equal names own the same sets.
alike_sets : (sets : List RRset) (a b : DomainName) (t : RecordType) → name_cmp a b ≡ Equal → rrset_at sets a t ≡ rrset_at sets b t
alike_sets sets a b t same = λ i. find (λ (s : RRset). e s i && same_record_type s.record_type t) sets where
  e : (s : RRset) → name_eq a s.name ≡ name_eq b s.name
  e s = name_eq-by_cmp a s.name ∙ ap is_eq (name_total.congr a b s.name same) ∙ sym (name_eq-by_cmp b s.name)

-- The set for a name that owns one is its own.
own_set : (zone : Zone) (name owner : DomainName) (set : RRset) → IsSome (rrset_at zone.sets name kind.NSEC) → IsPrecedingSet zone kind.NSEC name owner set → name_cmp owner name ≡ Equal
own_set zone name owner set owns pre = by (name_cmp owner name) refl where
  self : is_gt (name_cmp name name) ≡ false
  self = ap is_gt (tied_itself name_total name)

  by : (o : Ordering) → name_cmp owner name ≡ o → o ≡ Equal
  by Less e = absurd (true≢false (sym (ap is_lt e) ∙ pre.last (ap is_gt e) name owns self))
  by Equal e = refl
  by Greater e = absurd (true≢false (sym (pre.around (ap is_gt e) name owns).0 ∙ self))

-- An NSEC set of a name, whose record is owned by that name.
record OwnList (zone : Zone) (name : DomainName) (set : RRset) : Type 0 where
  nsec : IsNsecSet zone name set
  at_name : name_eq nsec.only.name name ≡ true

own_list : (zone : Zone) (name owner : DomainName) (set : RRset) → IsSecured zone → AreStored zone.sets → ZoneReadsBack zone → rrset_at zone.sets owner kind.NSEC ≡ Some set → name_cmp owner name ≡ Equal → OwnList zone name set
own_list zone name owner set secured stored back at same =
    let c = on_circle zone name set secured stored back (sym (alike_sets zone.sets owner name kind.NSEC same) ∙ at) in
    record {
      nsec = c.nsec;
      at_name = name_eq-by_cmp c.nsec.only.name name ∙ ap is_eq (c.before name ∙ tied_itself name_total name);
    }

-- A type that isn't owned is no NSEC.
not_nsec : (zone : Zone) (name : DomainName) (t : RecordType) → IsSome (rrset_at zone.sets name kind.NSEC) → rrset_at zone.sets name t ≡ None → same_record_type t kind.NSEC ≡ false
not_nsec zone name t owns none = by (same_record_type t kind.NSEC) refl where
  by : (b : Bool) → same_record_type t kind.NSEC ≡ b → b ≡ false
  by true e =
      let number : record_type_number t ≡ 47 = eqb-true (record_type_number t) 47 e in
      let here : rrset_at zone.sets name kind.NSEC ≡ None =
      ap (λ (n : ℕ). find (λ (s : RRset). name_eq name s.name && (record_type_number s.record_type == n)) zone.sets) (sym number) ∙ none in
      absurd (true≢false (sym owns ∙ ap is_some here))
  by false e = refl

unlisted : (zone : Zone) (name : DomainName) (t : RecordType) → same_record_type t kind.RRSIG ≡ false → same_record_type t kind.NSEC ≡ false → is_owned zone name t ≡ false → is_listed zone name t ≡ false
unlisted zone name t a b c =
    λ i. a i || (b i || (c i && (not (is_delegation zone name) || (same_record_type t kind.NS || same_record_type t kind.DS))))

or_true : (b : Bool) → (b || true) ≡ true
or_true true = refl
or_true false = refl

listed_where : (zone : Zone) (name : DomainName) (t : RecordType) → is_delegation zone name ≡ false → is_owned zone name t ≡ true → is_listed zone name t ≡ true
listed_where zone name t a b =
    (λ i. same_record_type t kind.RRSIG || (same_record_type t kind.NSEC || (b i && (not (a i) || (same_record_type t kind.NS || same_record_type t kind.DS)))))
    ∙ ap (λ (c : Bool). same_record_type t kind.RRSIG || c) (or_true (same_record_type t kind.NSEC)) ∙ or_true (same_record_type t kind.RRSIG)

pub owns_nsec : (zone : Zone) (name : DomainName) → IsSecured zone → IsAuthoritativeName kind.NSEC zone name → IsSome (rrset_at zone.sets name kind.NSEC)
owns_nsec zone name secured on = at_some_is (IsNsecSet zone name) (rrset_at zone.sets name kind.NSEC) (secured.each name on)

pub unowned_lacked : (zone : Zone) (name owner : DomainName) (set : RRset) (t : RecordType) → IsSecured zone → AreStored zone.sets → ZoneReadsBack zone → IsAuthoritativeName kind.NSEC zone name
    → record_type_number t < 2 ^ 16 → same_record_type t kind.RRSIG ≡ false → rrset_at zone.sets name t ≡ None → IsPrecedingSet zone kind.NSEC name owner set
    → (only : Record) × (set.records ≡ only ∷ []) × Lacks name t only
unowned_lacked zone name owner set t secured stored back on small other none pre =
    let owns = owns_nsec zone name secured on in
    let o = own_list zone name owner set secured stored back pre.there (own_set zone name owner set owns pre) in
    let n = o.nsec in (
      n.only,
      n.one,
      record {
        next = n.next;
        types = n.types;
        nsec = record { octets = n.octets; held = n.held; are = n.are };
        owner = o.at_name;
        lacks = n.lists t small ∙ unlisted zone name t other (not_nsec zone name t owns none) (ap is_some none);
      },
    )

pub owned_not_lacked : (zone : Zone) (name owner : DomainName) (set : RRset) (only : Record) (t : RecordType) → IsSecured zone → AreStored zone.sets → ZoneReadsBack zone → IsAuthoritativeName kind.NSEC zone name
    → record_type_number t < 2 ^ 16 → is_delegation zone name ≡ false → IsSome (rrset_at zone.sets name t) → rrset_at zone.sets owner kind.NSEC ≡ Some set → set.records ≡ only ∷ [] → Lacks name t only → ⊥
owned_not_lacked zone name owner set only t secured stored back on small whole owned at one lacks =
    let c = on_circle zone owner set secured stored back at in
    let first : only ≡ c.nsec.only = head_same only c.nsec.only set.records one c.nsec.one in
    let same : name_cmp owner name ≡ Equal =
    sym (c.before name) ∙ level c.nsec.only.name name (ap (λ (r : Record). name_eq r.name name) (sym first) ∙ lacks.owner) in
    let n = (own_list zone name owner set secured stored back at same).nsec in
    let record_is : only ≡ n.only = head_same only n.only set.records one n.one in
    let held : nsec_octets n.only.rdata ≡ Some lacks.nsec.octets = ap (λ (r : Record). nsec_octets r.rdata) (sym record_is) ∙ lacks.nsec.held in
    let octets : lacks.nsec.octets ≡ n.octets = same_octets lacks.nsec.octets n.octets (nsec_octets n.only.rdata) held n.held in
    let types : lacks.types ≡ n.types =
    (nsec_once n.octets lacks.next n.next lacks.types n.types (subst (λ (o : List ℕ). IsNsecData o lacks.next lacks.types) octets lacks.nsec.are) n.are).1 in
    let listed : list_any (λ code. code == record_type_number t) n.types ≡ true = n.lists t small ∙ listed_where zone name t whole owned in
    true≢false (sym listed ∙ ap (list_any (λ code. code == record_type_number t)) (sym types) ∙ lacks.lacks)
