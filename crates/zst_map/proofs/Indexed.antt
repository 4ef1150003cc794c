-- With a set that is put, and its owner marked, the owners of all sets are still marked; without one they are, too.
use Rattle.std.proofs.Common.{◌≡◌, ◌==◌, ℕ, refl, ap, sym, ◌∙◌}
use Rattle.std.specs.Prelude.{Bool, true, false, not, ◌&&◌, ◌||◌, List, [], ◌∷◌, Option, Some, None, cond, is_some, IsSome, find}
use Rattle.std.specs.Bool.{beq}
use Rattle.std.specs.BTreeMap.{BTreeMap, get}
use Rattle.std.proofs.lemmas.Bool.{and_parts, eqb-true, true≢false}
use Rattle.zst_handler.specs.dnw_codes.declared.record_type.RecordType.{RecordType}
use Rattle.zst_handler.specs.dnw_codes.declared.record_type.RecordType.TheVariants as types
use Rattle.zst_handler.specs.dnw_codes.RecordType.{record_type_number, same_record_type}
use Rattle.zst_handler.specs.dnw_name.DomainName.{DomainName, is_wildcard, lowercase_name, name_cmp, name_eq}
use Rattle.zst_handler.specs.zst_record.RecordSets.{RRset}
use Rattle.zst_handler.specs.zst_record.RecordLaws.{name_eq_equiv}
use Rattle.zst_key.specs.Ancestors.{other_flag, parent, star}
use Rattle.zst_handler.specs.Updates.{Replaces}
use Rattle.zst_handler.specs.Zones.{rrset_at}
use Rattle.zst_map.specs.Indexes.{Grows, HasName, HasOwnerOf, IsIndexed, is_denial_type}
use Rattle.zst_map.specs.ZoneMaps.{exists_alike}
use Rattle.zst_map.specs.declared.index.Index.{Index}
use Rattle.zst_key.proofs.KeyLemmas.{eq-lower}
use Rattle.zst_map.proofs.Stars.{star_key, star_parts}
use Rattle.zst_map.proofs.ZoneNodes.{is_set_at}
use Rattle.zst_map.proofs.ZoneOnce.{found_first}

-- A set is there beside one that was put: of its owner and type, or from before.
added : (b : Bool) (x o : Option RRset) (P : Type 0) → IsSome (cond b x o) → (b ≡ true → P) → (IsSome o → P) → P
added true x o P some new old = new refl
added false x o P some new old = old some

split : (old new : List RRset) (owner : DomainName) (kind : RecordType) (set : Option RRset) (name : DomainName) (t : RecordType) (P : Type 0) → Replaces old owner kind set new → IsSome (rrset_at new name t)
    → (name_eq name owner ≡ true → same_record_type kind t ≡ true → P) → (IsSome (rrset_at old name t) → P) → P
split old new owner kind set name t P replaces some mine before =
    added (name_eq name owner && same_record_type kind t) set (rrset_at old name t) P
    (sym (ap is_some (replaces name t)) ∙ some)
    (λ e. let p = and_parts (name_eq name owner) (same_record_type kind t) e in mine p.0 p.1) before

flags_same : (a b : DomainName) → name_eq a b ≡ true → b.fqdn ≡ true → a.fqdn ≡ true
flags_same a b e f = by a.fqdn b.fqdn (and_parts (beq a.fqdn b.fqdn) _ e).0 f
  where
    by : (x y : Bool) → beq x y ≡ true → y ≡ true → x ≡ true
    by true y e f = refl
    by false true e f = e
    by false false e f = f

-- An owner was put where it is wanted.
pub marked : (owner : DomainName) (kind : RecordType) (key : DomainName) (owns_soa is_ns is_star is_denial is_full cuts relative : Bool) (servers wildcards denials : BTreeMap DomainName (Unit {0}))
    → key ≡ lowercase_name owner → is_ns ≡ same_record_type kind types.NS → is_full ≡ key.fqdn → is_star ≡ is_wildcard owner → is_denial ≡ is_denial_type kind
    → (is_ns ≡ true → HasName servers key) → (is_star ≡ true → HasName wildcards (parent key)) → (is_denial ≡ true → HasName denials key)
    → HasOwnerOf owner kind owns_soa (record {
      name_servers = servers;
      wildcards = wildcards;
      denials = denials;
      has_cuts = cuts || (is_ns && not owns_soa);
      has_relative = relative || not is_full;
    })
marked owner kind key owns_soa is_ns is_star is_denial is_full cuts relative servers wildcards denials at ns full star denies at_servers at_star at_denials = record {
  cut = λ type name e. at_servers (ns ∙ type) name (ap (name_eq name) at ∙ eq-lower name owner ∙ e);
  uncut = λ none type. owned cuts is_ns owns_soa none (ns ∙ type);
  denial = λ type name e. at_denials (denies ∙ type) name (ap (name_eq name) at ∙ eq-lower name owner ∙ e);
  star_above = λ name e. at_star (star ∙ (star_parts name owner e).is) name (star_key name owner key at e);
  absolute = λ none. sym (ap (λ (n : DomainName). n.fqdn) at) ∙ sym full ∙ complete relative is_full none;
}
  where
    owned : (c n o : Bool) → (c || (n && not o)) ≡ false → n ≡ true → o ≡ true
    owned c n true e f = refl
    owned true n false e f = absurd (true≢false e)
    owned false true false e f = absurd (true≢false e)
    owned false false false e f = f

    complete : (a b : Bool) → (a || not b) ≡ false → b ≡ true
    complete a true e = refl
    complete true false e = absurd (true≢false e)
    complete false false e = absurd (true≢false e)

-- More names do no harm.
pub still_indexed : (old new : Index) (sets : List RRset) → Grows old new → IsIndexed old sets → IsIndexed new sets
still_indexed old new sets grows is = record {
  cuts = λ name some. grows.cuts name (is.cuts name some);
  uncut = λ none name some. is.uncut (grows.uncut none) name some;
  stars = λ name t some. grows.stars name (is.stars name t some);
  denials = λ name t type some. grows.denials name (is.denials name t type some);
  absolute = λ none name t some. is.absolute (grows.absolute none) name t some;
}

-- A set that was there is there still, where one is put.
remains : (old new : List RRset) (owner : DomainName) (kind : RecordType) (set : RRset) (name : DomainName) (t : RecordType) → Replaces old owner kind (Some set) new → IsSome (rrset_at old name t)
    → IsSome (rrset_at new name t)
remains old new owner kind set name t replaces some = ap is_some (replaces name t) ∙ by (name_eq name owner && same_record_type kind t)
  where
    by : (b : Bool) → IsSome (cond b (Some set) (rrset_at old name t))
    by true = refl
    by false = some

-- A set of another type is there still.
apart_remains : (old new : List RRset) (owner : DomainName) (kind : RecordType) (set : Option RRset) (name : DomainName) (t : RecordType) → Replaces old owner kind set new
    → same_record_type kind t ≡ false → IsSome (rrset_at old name t) → IsSome (rrset_at new name t)
apart_remains old new owner kind set name t replaces apart some = ap is_some (replaces name t) ∙ by (name_eq name owner) (same_record_type kind t) apart
  where
    by : (b c : Bool) → c ≡ false → IsSome (cond (b && c) set (rrset_at old name t))
    by true false e = some
    by false c e = some
    by true true e = absurd (true≢false e)

-- Names that are equal own the same.
pub rrset_same : (sets : List RRset) (a b : DomainName) (t : RecordType) → name_eq a b ≡ true → rrset_at sets b t ≡ rrset_at sets a t
rrset_same [] a b t e = refl
rrset_same (set ∷ sets) a b t e =
    ap (λ (w : Bool). cond (w && same_record_type set.record_type t) (Some set) (rrset_at sets b t)) (sym (name_eq_equiv.congr a b set.name e))
    ∙ ap (cond (name_eq a set.name && same_record_type set.record_type t) (Some set)) (rrset_same sets a b t e)

-- Types of one number prove what is absent, or don't.
denial_same : (t u : RecordType) → same_record_type t u ≡ true → is_denial_type u ≡ true → is_denial_type t ≡ true
denial_same t u same denies = ap (λ (n : ℕ). (n == 47) || (n == 50)) (eqb-true (record_type_number t) (record_type_number u) same) ∙ denies

pub with_put : (old new : Index) (before after : List RRset) (owner : DomainName) (kind : RecordType) (set : RRset) (owns_soa : Bool) → Grows old new → HasOwnerOf owner kind owns_soa new
    → (same_record_type kind types.NS ≡ true → owns_soa ≡ is_some (rrset_at before owner types.SOA))
    → Replaces before owner kind (Some set) after → IsIndexed old before → IsIndexed new after
with_put old new before after owner kind set owns_soa grows has soa replaces is =
    let kept = still_indexed old new before grows is in
    record {
      uncut = λ none name some. split before after owner kind (Some set) name types.NS (IsSome (rrset_at after name types.SOA)) replaces some
          (λ same type. remains before after owner kind set name types.SOA replaces
          (ap is_some (sym (rrset_same before name owner types.SOA same)) ∙ sym (soa type) ∙ has.uncut none type))
          (λ there. remains before after owner kind set name types.SOA replaces (kept.uncut none name there));
      cuts = λ name some. split before after owner kind (Some set) name types.NS (IsSome (get name_cmp new.name_servers name)) replaces some
          (λ same type. has.cut type name same) (kept.cuts name);
      stars = λ name t some. split before after owner kind (Some set) (star name) t (IsSome (get name_cmp new.wildcards name)) replaces some
          (λ same type. has.star_above name same) (kept.stars name t);
      denials = λ name t denies some. split before after owner kind (Some set) name t (IsSome (get name_cmp new.denials name)) replaces some
          (λ same type. has.denial (denial_same kind t type denies) name same) (kept.denials name t denies);
      absolute = λ none name t some. split before after owner kind (Some set) name t (name.fqdn ≡ true) replaces some
          (λ same type. flags_same name owner same (has.absolute none)) (kept.absolute none name t);
    }

-- A set that is there in place of none was there before.
never : {X : Type 0} (b : Bool) (o : Option X) → IsSome (cond b None o) → IsSome o
never true o some = absurd (true≢false (sym some))
never false o some = some

pub with_removed : (old new : Index) (before after : List RRset) (owner : DomainName) (kind : RecordType) → Grows old new → (same_record_type kind types.SOA ≡ true → new.has_cuts ≡ true)
    → Replaces before owner kind None after → IsIndexed old before → IsIndexed new after
with_removed old new before after owner kind grows soa replaces is =
    let kept = still_indexed old new before grows is in
    let was = λ (name : DomainName) (t : RecordType) (some : IsSome (rrset_at after name t)). never (name_eq name owner && same_record_type kind t) (rrset_at before name t) (sym (ap is_some (replaces name t)) ∙ some) in
    record {
      uncut = λ none name some. apart_remains before after owner kind None name types.SOA replaces (other (same_record_type kind types.SOA) soa none) (kept.uncut none name (was name types.NS some));
      cuts = λ name some. kept.cuts name (was name types.NS some);
      stars = λ name t some. kept.stars name t (was (star name) t some);
      denials = λ name t denies some. kept.denials name t denies (was name t some);
      absolute = λ none name t some. kept.absolute none name t (was name t some);
    }
  where
    other : (b : Bool) → (b ≡ true → new.has_cuts ≡ true) → new.has_cuts ≡ false → b ≡ false
    other true soa none = absurd (true≢false (sym (soa refl) ∙ none))
    other false soa none = refl

-- ---- where all owners are fully qualified, none is below a relative name
behind : (b : Bool) (x : RRset) (o : Option RRset) → IsSome o → IsSome (cond b (Some x) o)
behind true x o some = refl
behind false x o some = some

pub none_relative : (sets : List RRset) (name : DomainName) → name.fqdn ≡ true → ((other : DomainName) (t : RecordType) → IsSome (rrset_at sets other t) → other.fqdn ≡ true)
    → exists_alike sets (other_flag name) ≡ false
none_relative [] name full all = refl
none_relative (set ∷ sets) name full all =
    let first : set.name.fqdn ≡ true = all set.name set.record_type (ap is_some (found_first set sets)) in
    let rest : exists_alike sets (other_flag name) ≡ false
    = none_relative sets name full (λ other t some. all other t (behind (is_set_at other t set) set (find (is_set_at other t) sets) some)) in
    rw (first, full, rest) refl

-- No sets need no names.
pub none_indexed : (index : Index) → IsIndexed index []
none_indexed index = record {
  cuts = λ name some. absurd (true≢false (sym some));
  uncut = λ none name some. absurd (true≢false (sym some));
  stars = λ name t some. absurd (true≢false (sym some));
  denials = λ name t denies some. absurd (true≢false (sym some));
  absolute = λ none name t some. absurd (true≢false (sym some));
}

-- A set that takes the place of one that is there needs no more marks.
pub with_edited : (index : Index) (before after : List RRset) (owner : DomainName) (kind : RecordType) (old set : RRset) → rrset_at before owner kind ≡ Some old → Replaces before owner kind (Some set) after → IsIndexed index before → IsIndexed index after
with_edited index before after owner kind old set there replaces is =
    let typed = λ (name : DomainName) (t : RecordType) (same : same_record_type kind t ≡ true).
    ap (λ (n : ℕ). find (λ (s : RRset). name_eq name s.name && record_type_number s.record_type == n) before) (eqb-true (record_type_number kind) (record_type_number t) same) in
    let was = λ (name : DomainName) (t : RecordType) (some : IsSome (rrset_at after name t)).
    split before after owner kind (Some set) name t (IsSome (rrset_at before name t)) replaces some
    (λ named same. ap is_some (sym (typed name t same) ∙ sym (rrset_same before name owner kind named) ∙ there)) (λ some. some) in
    record {
      uncut = λ none name some. remains before after owner kind set name types.SOA replaces (is.uncut none name (was name types.NS some));
      cuts = λ name some. is.cuts name (was name types.NS some);
      stars = λ name t some. is.stars name t (was (star name) t some);
      denials = λ name t denies some. is.denials name t denies (was name t some);
      absolute = λ none name t some. is.absolute none name t (was name t some);
    }

pub with_replaced : (index : Index) (before after : List RRset) (owner : DomainName) (kind : RecordType) (set : RRset) → IsSome (rrset_at before owner kind) → Replaces before owner kind (Some set) after → IsIndexed index before → IsIndexed index after
with_replaced index before after owner kind set there replaces is = by (rrset_at before owner kind) refl there
  where
    by : (o : Option RRset) → rrset_at before owner kind ≡ o → IsSome o → IsIndexed index after
    by None e some = absurd (true≢false (sym some))
    by (Some old) e some = with_edited index before after owner kind old set e replaces is
