-- A zone whose sets have moved to where its circle is.
use Rattle.std.proofs.Common.{◌≡◌, ℕ, refl, ap, sym, subst, ◌∙◌, eqb-true}
use Rattle.std.specs.Prelude.{Bool, true, false, not, ◌&&◌, ◌||◌, ◌==◌, List, [], ◌∷◌, Option, Some, None, IfSome, cond, is_some, option_map, if◌then◌else◌}
use Rattle.std.specs.List.{AllByRecursion, filter}
use Rattle.std.proofs.lemmas.Bool.{and_parts, true≢false}
use Rattle.zst_absence.specs.drd_denial.Rrsig.{Signing}
use Rattle.zst_absence.specs.dnw_codes.declared.record_type.RecordType.{RecordType}
use Rattle.zst_absence.specs.dnw_codes.declared.record_type.RecordType.TheVariants as kind
use Rattle.zst_absence.specs.dnw_codes.RecordType.{record_type_number, same_record_type}
use Rattle.zst_absence.specs.dnw_name.DomainName.{DomainName, is_at_or_below, name_eq}
use Rattle.zst_absence.specs.zst_codes.declared.nx_proof.NxProofKind.{NxProofKind}
use Rattle.zst_absence.specs.zst_codes.declared.nx_proof.NxProofKind.TheVariants as proofs
use Rattle.zst_absence.specs.zst_denial.Hashed.{AreApart, Hashing, IsOnHashCircle}
use Rattle.zst_absence.specs.zst_denial.Kept.{HaveSameCircle, is_circle_type}
use Rattle.zst_absence.specs.zst_handler.Zones.{Zone, rrset_at}
use Rattle.zst_absence.specs.zst_record.RecordLaws.{name_eq_equiv}
use Rattle.zst_absence.specs.zst_record.RecordSets.{RRset, raised_set}
use Rattle.zst_absence.proofs.zst_denial_lemmas.KeptCircles.{same_delegation, secured_still, still_authoritative}
use Rattle.zst_absence.proofs.zst_denial_lemmas.KeptHashes.{hash_still}
use Rattle.zst_absence.proofs.zst_denial_lemmas.Signings.{same_number}
use Rattle.zst_absence.proofs.zst_denial_lemmas.zst_key_lemmas.KeyLemmas.{eq-lower}
use Rattle.zst_absence.proofs.zst_map_lemmas.Replacing.{both_same, type_same}
use Rattle.zst_circle.specs.Moves.{is_placeholder_of, moved, placeholder_of, resigned}
use Rattle.zst_circle.specs.Resigning.{IsSignedBy, Resigns, is_soa_set, risen}
use Rattle.zst_circle.specs.Secures.{IsCircledBy, IsKeptAs, IsMadeFor, KeepsSet, stripped}
use Rattle.zst_circle.specs.Securing.{HasNone, IsToBeSigned, IsZoneAt, SomeFails}
use Rattle.zst_circle.specs.declared.moves.Placeholder.{Placeholder}
use Rattle.zst_circle.proofs.Authoritative.{below_alike, cut_alike, delegation_alike}
use Rattle.zst_circle.proofs.HashCircled.{made_still}
use Rattle.zst_circle.proofs.Moving.{find_all}
use Rattle.zst_circle.proofs.NsecSecured.{AlikeBut, now_nsec, same_authoritative}

-- ---- what is signed, under equal names
pub to_sign_alike : (zone : Zone) (a b : DomainName) (t u : RecordType) → name_eq a b ≡ true → same_record_type u t ≡ true → IsToBeSigned zone a t → IsToBeSigned zone b u
to_sign_alike zone a b t u e same is = record {
  in_zone = sym (below_alike a b zone.origin e) ∙ is.in_zone;
  uncut = λ cut. is.uncut (cut_alike zone b a (name_eq_equiv.symm b a ∙ e) cut);
  kept = λ delegated. ap (λ (n : ℕ). n == 43) (eqb-true (record_type_number u) (record_type_number t) same) ∙ is.kept (delegation_alike zone a b 0 e ∙ delegated);
}

-- ---- options
none_of : {X : Type 0} (o : Option X) → is_some o ≡ false → o ≡ None
none_of None e = refl
none_of (Some x) e = absurd (true≢false e)

some_of : {X : Type 0} (o : Option X) → is_some o ≡ true → (x : X) × (o ≡ Some x)
some_of None e = absurd (true≢false (sym e))
some_of (Some x) e = (x, refl)

-- ---- digests that differ
on_still : (opt_out : Bool) (old new : Zone) → HaveSameCircle old new → (name : DomainName) → IsOnHashCircle opt_out old name → IsOnHashCircle opt_out new name
on_still opt_out old new same name on = record {
  below = on.below;
  on = still_authoritative kind.NSEC3 old new same on.below on.on;
  above = on.above;
  flags = on.flags;
  in_zone = ap (λ (o : DomainName). is_at_or_below name o) same.origin ∙ on.in_zone;
  kept = λ out delegated. same.owned name kind.DS ∙ on.kept out (sym (same_delegation old new same name) ∙ delegated);
}

apart_still : (by : Hashing) (opt_out : Bool) (old new : Zone) → HaveSameCircle old new → AreApart by opt_out new → AreApart by opt_out old
apart_still by opt_out old new same apart name other a b = apart name other (on_still opt_out old new same name a) (on_still opt_out old new same other b)

-- Where no placeholder is, what was there stays.
module _ (old new final : List RRset) (list : List Placeholder)
    (moves : (name : DomainName) (t : RecordType) → rrset_at final name t ≡ moved (placeholder_of list name t) (rrset_at old name t) (rrset_at new name t))
    (listed : (name : DomainName) (t : RecordType) → is_some (placeholder_of list name t) ≡ (is_some (rrset_at old name t) && not (is_circle_type t)))
    (there : (name : DomainName) (t : RecordType) → is_circle_type t ≡ false → is_some (rrset_at new name t) ≡ is_some (rrset_at old name t)) where
  stays : (name : DomainName) (t : RecordType) → placeholder_of list name t ≡ None → rrset_at final name t ≡ rrset_at new name t
  stays name t none = moves name t ∙ ap (λ (o : Option Placeholder). moved o (rrset_at old name t) (rrset_at new name t)) none

  and_off : (a b : Bool) → b ≡ true → (a && not b) ≡ false
  and_off true true e = refl
  and_off false b e = refl
  and_off true false e = absurd (true≢false (sym e))

  pub circle_stays : (name : DomainName) (t : RecordType) → is_circle_type t ≡ true → rrset_at final name t ≡ rrset_at new name t
  circle_stays name t circle = stays name t (none_of (placeholder_of list name t) (listed name t ∙ and_off (is_some (rrset_at old name t)) (is_circle_type t) circle))

  some_map : {X Y : Type 0} (f : X → Y) (o : Option X) → is_some (option_map f o) ≡ is_some o
  some_map f None = refl
  some_map f (Some x) = refl

  pub owned_same : (name : DomainName) (t : RecordType) → is_some (rrset_at final name t) ≡ is_some (rrset_at new name t)
  owned_same name t = by (is_circle_type t) refl (placeholder_of list name t) refl
    where
      by : (b : Bool) → is_circle_type t ≡ b → (o : Option Placeholder) → placeholder_of list name t ≡ o → is_some (rrset_at final name t) ≡ is_some (rrset_at new name t)
      by true circle o e = ap is_some (circle_stays name t circle)
      by false other None e = ap is_some (stays name t e)
      by false other (Some p) e =
          ap is_some (moves name t ∙ ap (λ (o : Option Placeholder). moved o (rrset_at old name t) (rrset_at new name t)) e)
          ∙ some_map (resigned p) (rrset_at old name t) ∙ sym (there name t other)

  pub same_circle : (zone : Zone) → HaveSameCircle (record zone { sets = new }) (record zone { sets = final })
  same_circle zone = record {
    origin = refl;
    owned = owned_same;
    records = λ name t circle. ap (option_map (λ (s : RRset). s.records)) (circle_stays name t circle);
  }

  has_none : (t : RecordType) → is_circle_type t ≡ true → HasNone new t → HasNone final t
  has_none t circle none name = circle_stays name t circle ∙ none name

  pub circled_then : (proof : Option NxProofKind) (zone : Zone) → IsCircledBy proof (record zone { sets = new }) → IsCircledBy proof (record zone { sets = final })
  circled_then None zone is = (has_none kind.NSEC refl is.0, has_none kind.NSEC3 refl is.1, has_none kind.NSEC3PARAM refl is.2)
  circled_then (Some proofs.Nsec) zone is =
      (secured_still (record zone { sets = new }) (record zone { sets = final }) (same_circle zone) is.0, has_none kind.NSEC3 refl is.1, has_none kind.NSEC3PARAM refl is.2)
  circled_then (Some (proofs.Nsec3 algorithm salt iterations opt_out)) zone is =
      let by : Hashing = record { salt = salt; iterations = iterations } in (
        has_none kind.NSEC refl is.0,
        λ name some. is.1 name (ap is_some (sym (circle_stays name kind.NSEC3PARAM refl)) ∙ some),
        λ apart. hash_still by opt_out (record zone { sets = new }) (record zone { sets = final }) (same_circle zone)
            (is.2 (apart_still by opt_out (record zone { sets = new }) (record zone { sets = final }) (same_circle zone) apart)),
      )

  pub made_then : (P : RRset → Type 0) → ((name : DomainName) (t : RecordType) → is_circle_type t ≡ true → IfSome (rrset_at new name t) P)
      → (name : DomainName) (t : RecordType) → is_circle_type t ≡ true → IfSome (rrset_at final name t) P
  made_then P each name t circle = subst (λ (o : Option RRset). IfSome o P) (sym (circle_stays name t circle)) (each name t circle)

  -- ---- a set that moves
  module _ {K : Type 0} (gives : K → RRset → ℕ → Signing → Type 0) (fails : K → RRset → ℕ → Bool) (keys : List K) (now : ℕ) (origin : DomainName) (zone : Zone)
      (at : IsZoneAt old origin zone) (resigns : AllByRecursion (Resigns gives fails keys now old origin) list) where
    kept_as : (name : DomainName) (t : RecordType) (p : Placeholder) (stored : RRset) → placeholder_of list name t ≡ Some p → rrset_at old name t ≡ Some stored
        → IsKeptAs gives fails keys now zone name t stored (resigned p stored)
    kept_as name t p stored found is =
        let it = find_all (Resigns gives fails keys now old origin) (is_placeholder_of name t) list p resigns found in
        let parts = and_parts (name_eq name p.key) (same_record_type p.record_type t) it.1 in
        let r = it.0 stored (both_same old name p.key p.record_type t parts.0 parts.1 ∙ is) in
        let here : name_eq p.key origin ≡ name_eq name zone.origin
        = sym (name_eq_equiv.congr name p.key origin parts.0) ∙ ap (name_eq name) (sym at.has_origin) ∙ eq-lower name zone.origin in
        record {
          is = ap (λ (b : Bool). record (if b then raised_set stored else stored) { signatures = p.signatures.items }) (r.rises ∙ ap (λ (b : Bool). b && is_soa_set stored) here);
          signed = λ signs.
              subst (λ (b : Bool). IsSignedBy gives fails keys now (risen b stored) p.signatures.items) here
              (r.signed zone at (to_sign_alike zone name p.key t p.record_type parts.0 parts.1 signs));
          bare = λ stays. r.bare zone at (λ signs. stays (to_sign_alike zone p.key name p.record_type t (name_eq_equiv.symm p.key name ∙ parts.0) (turned p.record_type t parts.1) signs));
        }
      where
        turned : (a b : RecordType) → same_record_type a b ≡ true → same_record_type b a ≡ true
        turned a b e = ap (λ (n : ℕ). record_type_number b == n) (eqb-true (record_type_number a) (record_type_number b) e) ∙ same_number (record_type_number b)

    pub kept_then : (name : DomainName) (t : RecordType) → is_circle_type t ≡ false → KeepsSet gives fails keys now zone name t (rrset_at old name t) (rrset_at final name t)
    kept_then name t other = by (rrset_at old name t) refl
      where
        on : (a b : Bool) → a ≡ true → b ≡ false → (a && not b) ≡ true
        on true false e f = refl
        on false b e f = absurd (true≢false (sym e))
        on true true e f = absurd (true≢false f)

        off : (a b : Bool) → a ≡ false → (a && b) ≡ false
        off false b e = refl
        off true b e = absurd (true≢false e)

        by : (o : Option RRset) → rrset_at old name t ≡ o → KeepsSet gives fails keys now zone name t o (rrset_at final name t)
        by None e =
            stays name t (none_of (placeholder_of list name t) (listed name t ∙ off (is_some (rrset_at old name t)) (not (is_circle_type t)) (ap is_some e)))
            ∙ none_of (rrset_at new name t) (there name t other ∙ ap is_some e)
        by (Some stored) e =
            let p = some_of (placeholder_of list name t) (listed name t ∙ on (is_some (rrset_at old name t)) (is_circle_type t) (ap is_some e) other) in (
              resigned p.0 stored,
              moves name t ∙ ap (λ (o : Option Placeholder). moved o (rrset_at old name t) (rrset_at new name t)) p.1 ∙ ap (option_map (resigned p.0)) e,
              kept_as name t p.0 stored p.1 e,
            )

-- ---- sets of the circle by their types
pub by_types : (P : RRset → Type 0) (sets : List RRset) → ((name : DomainName) → IfSome (rrset_at sets name kind.NSEC) P) → ((name : DomainName) → IfSome (rrset_at sets name kind.NSEC3) P)
    → ((name : DomainName) → IfSome (rrset_at sets name kind.NSEC3PARAM) P) → (name : DomainName) (t : RecordType) → is_circle_type t ≡ true → IfSome (rrset_at sets name t) P
by_types P sets one two three name t = by (same_record_type t kind.NSEC) refl (same_record_type t kind.NSEC3) refl (same_record_type t kind.NSEC3PARAM) refl
  where
    at : (u : RecordType) → same_record_type t u ≡ true → IfSome (rrset_at sets name u) P → IfSome (rrset_at sets name t) P
    at u same is = subst (λ (o : Option RRset). IfSome o P) (sym (type_same sets name t u same)) is

    by : (a : Bool) → same_record_type t kind.NSEC ≡ a → (b : Bool) → same_record_type t kind.NSEC3 ≡ b → (c : Bool) → same_record_type t kind.NSEC3PARAM ≡ c → (a || (b || c)) ≡ true
        → IfSome (rrset_at sets name t) P
    by true e b f c g circle = at kind.NSEC e (one name)
    by false e true f c g circle = at kind.NSEC3 f (two name)
    by false e false f true g circle = at kind.NSEC3PARAM g (three name)
    by false e false f false g circle = absurd (true≢false (sym circle))

pub none_is : (P : RRset → Type 0) (sets : List RRset) (t : RecordType) → HasNone sets t → (name : DomainName) → IfSome (rrset_at sets name t) P
none_is P sets t none name = subst (λ (o : Option RRset). IfSome o P) (sym (none name)) tt

-- ---- the zone without its circle
pub stripped_owned : (sets : List RRset) (name : DomainName) (t : RecordType)
    → is_some (rrset_at (filter (λ set. not (is_circle_type set.record_type)) sets) name t) ≡ (is_some (rrset_at sets name t) && not (is_circle_type t))
stripped_owned [] name t = refl
stripped_owned (set ∷ sets) name t = by (is_circle_type set.record_type) refl (stripped_owned sets name t)
  where
    both : (b : Bool) → is_circle_type set.record_type ≡ b → same_record_type set.record_type t ≡ true → is_circle_type t ≡ b
    both b e same = ap (λ (n : ℕ). (n == 47) || ((n == 50) || (n == 51))) (sym (eqb-true (record_type_number set.record_type) (record_type_number t) same)) ∙ e

    out : (rest : List RRset) (n s : Bool) → (s ≡ true → is_circle_type t ≡ true) → is_some (rrset_at rest name t) ≡ (is_some (rrset_at sets name t) && not (is_circle_type t))
        → is_some (rrset_at rest name t) ≡ (is_some (cond (n && s) (Some set) (rrset_at sets name t)) && not (is_circle_type t))
    out rest true true circle more = more ∙ off (is_some (rrset_at sets name t)) (is_circle_type t) (circle refl)
      where
        off : (a c : Bool) → c ≡ true → (a && not c) ≡ (true && not c)
        off true c f = refl
        off false true f = refl
        off false false f = absurd (true≢false (sym f))
    out rest true false circle more = more
    out rest false s circle more = more

    kept : (rest : List RRset) (n s : Bool) → (s ≡ true → is_circle_type t ≡ false) → is_some (rrset_at rest name t) ≡ (is_some (rrset_at sets name t) && not (is_circle_type t))
        → is_some (cond (n && s) (Some set) (rrset_at rest name t)) ≡ (is_some (cond (n && s) (Some set) (rrset_at sets name t)) && not (is_circle_type t))
    kept rest true true circle more = sym (ap not (circle refl))
    kept rest true false circle more = more
    kept rest false s circle more = more

    by : (b : Bool) → is_circle_type set.record_type ≡ b
        → is_some (rrset_at (filter (λ s. not (is_circle_type s.record_type)) sets) name t) ≡ (is_some (rrset_at sets name t) && not (is_circle_type t))
        → is_some (rrset_at (cond (not b) (set ∷ filter (λ s. not (is_circle_type s.record_type)) sets) (filter (λ s. not (is_circle_type s.record_type)) sets)) name t)
        ≡ (is_some (rrset_at (set ∷ sets) name t) && not (is_circle_type t))
    by true e more = out (filter (λ s. not (is_circle_type s.record_type)) sets) (name_eq name set.name) (same_record_type set.record_type t) (both true e) more
    by false e more = kept (filter (λ s. not (is_circle_type s.record_type)) sets) (name_eq name set.name) (same_record_type set.record_type t) (both false e) more

-- What is made for a zone of placeholders is made for the zone without its circle.
pub made_bare : {K : Type 0} (gives : K → RRset → ℕ → Signing → Type 0) (fails : K → RRset → ℕ → Bool) (keys : List K) (now : ℕ) (proof : Option NxProofKind) (ttl : ℕ) (old new : List RRset) (zone : Zone)
    → zone.sets ≡ old → ((name : DomainName) (t : RecordType) → is_some (rrset_at new name t) ≡ (is_some (rrset_at old name t) && not (is_circle_type t)))
    → SomeFails fails keys now (IsMadeFor proof ttl (record zone { sets = new })) → SomeFails fails keys now (IsMadeFor proof ttl (stripped zone))
made_bare gives fails keys now None ttl old new zone has there some = absurd some.is
made_bare gives fails keys now (Some proofs.Nsec) ttl old new zone has there some = record {
  set = some.set;
  is =
      let same : AlikeBut kind.NSEC (record zone { sets = new }) (stripped zone) = record {
        origin = refl;
        owned = λ name t other.
            stripped_owned zone.sets name t ∙ ap (λ (l : List RRset). is_some (rrset_at l name t) && not (is_circle_type t)) has ∙ sym (there name t);
      } in (
        same_authoritative kind.NSEC refl (record zone { sets = new }) (stripped zone) same some.set.name some.is.0,
        now_nsec gives fails keys now (record zone { sets = new }) (stripped zone) same some.set.name some.set some.is.1,
        some.is.2,
      );
  failed = some.failed;
}
made_bare gives fails keys now (Some (proofs.Nsec3 algorithm salt iterations opt_out)) ttl old new zone has there some = record {
  set = some.set;
  is = made_still (record { salt = salt; iterations = iterations }) opt_out ttl zone new (stripped zone).sets
      (λ name t. stripped_owned zone.sets name t ∙ ap (λ (l : List RRset). is_some (rrset_at l name t) && not (is_circle_type t)) has ∙ sym (there name t)) some.set some.is;
  failed = some.failed;
}
