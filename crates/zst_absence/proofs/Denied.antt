-- What is shown are the sets of a denial.
use Rattle.std.proofs.Common.{◌≡◌, ℕ, ◌+◌, ◌-◌, ◌<◌, ◌≤◌, Bool, true, false, ◌&&◌, not, List, [], ◌∷◌, ◌++◌, ◌==◌, length, map, refl, ap, sym, subst, ◌∙◌, arith, cond, append-nil}
use Rattle.std.specs.Prelude.{Option, Some, None, nat_le, is_some}
use Rattle.std.specs.List.{filter, flat_map}
use Rattle.std.specs.Ordering.{is_gt}
use Rattle.std.proofs.lemmas.Bool.Decides.{nat_tests}
use Rattle.std.proofs.lemmas.Bool.{true≢false}
use Rattle.zst_map.specs.Preceding.{FindsPreceding}
use Rattle.zst_map.specs.dnw_codes.declared.record_type.RecordType.{RecordType}
use Rattle.zst_map.specs.dnw_codes.declared.record_type.RecordType.TheVariants as kind
use Rattle.zst_map.specs.dnw_codes.RecordType.{same_record_type}
use Rattle.zst_map.specs.dnw_name.DomainName.{DomainName, labels_len, lowercase_name, name_eq, wildcard_of}
use Rattle.zst_map.specs.zst_handler.Answers.{additionals_in, all_shown, answers_in, authorities_in, set_in, sets_shown, shown}
use Rattle.zst_map.specs.zst_handler.Lookups.{listed}
use Rattle.zst_map.specs.zst_handler.Zones.{Zone, rrset_at}
use Rattle.zst_map.specs.zst_handler.declared.answer_set.AnswerSet.{AnswerSet}
use Rattle.zst_map.specs.zst_handler.declared.auth_lookup.AuthLookup.{AuthLookup}
use Rattle.zst_map.specs.zst_handler.declared.auth_lookup.AuthLookup.TheVariants as auths
use Rattle.zst_map.specs.zst_handler.declared.lookup_records.LookupRecords.{LookupRecords}
use Rattle.zst_map.specs.zst_handler.Answers.{records_in}
use Rattle.zst_map.specs.zst_key.Ancestors.{star, up}
use Rattle.zst_map.specs.zst_record.RecordSets.{RRset}
use Rattle.zst_map.specs.zst_record.declared.records.Record.{Record}
use Rattle.zst_denial.specs.Denials.{IsNsecDenial, Precedes, each_owner_once, encloser}
use Rattle.zst_denial.specs.HashDenials.{IsClosestProof, IsNsec3Denial, PrecedesByHash, is_denied, next_closer}
use Rattle.zst_denial.specs.Hashed.{Hashing, hashed_name}
use Rattle.zst_denial.specs.Shown.{ShowsDenial}
use Rattle.zst_denial.specs.zst_hash.Digests.{nsec3_digest}
use Rattle.zst_denial.specs.zst_hash.Owners.{hashed_owner}
use Rattle.zst_denial.proofs.zst_key_lemmas.KeyLemmas.{cmp-lower, eq-lower-first}
use Rattle.zst_absence.specs.Absences.{FindsCloser, IsClosest, IsForWildcard, IsProofAbove, IsZoneOf, is_wanted, unless_same}
use Rattle.zst_absence.proofs.Enclosers.{closer_of, encloser_none, encloser_some, moved, parent_of, star_of}

-- ---- the set before a name
-- The one before a name in lower case is the one before the name.
pub before_lower : (sets : List RRset) (t : RecordType) (name : DomainName) (found : Option RRset) → FindsPreceding sets t (lowercase_name name) found → FindsPreceding sets t name found
before_lower sets t name None p = p
before_lower sets t name (Some set) p = (
  p.0,
  record {
    there = p.1.there;
    last = λ up_to other some behind. p.1.last (ap is_gt (cmp-lower p.0 name) ∙ up_to) other some (ap is_gt (cmp-lower other name) ∙ behind);
    around = λ after other some.
        let all = p.1.around (ap is_gt (cmp-lower p.0 name) ∙ after) other some in
        (ap is_gt (sym (cmp-lower other name)) ∙ all.0, all.1);
  },
)

of_zone : (zone : Zone) (t : RecordType) (name : DomainName) (found : Option RRset) → FindsPreceding zone.sets t name found → Precedes zone t name found
of_zone zone t name None p = p
of_zone zone t name (Some set) p = (p.0, record { there = p.1.there; last = p.1.last; around = p.1.around })

pub precedes : (sets : List RRset) (origin : DomainName) (zone : Zone) → IsZoneOf sets origin zone → (t : RecordType) (name : DomainName) (found : Option RRset) → FindsPreceding sets t name found
    → Precedes zone t name found
precedes sets origin zone z t name found p = of_zone zone t name found (moved (λ ss o. FindsPreceding ss t name found) sets origin zone z p)

-- ---- sets that are shown
all_shown-sets : (b : Bool) (xs : List AnswerSet) → all_shown b xs ≡ sets_shown b (map set_in xs)
all_shown-sets b [] = refl
all_shown-sets b (x ∷ xs) = ap (λ (rs : List Record). shown b (set_in x) ++ rs) (all_shown-sets b xs)

once_three : (a b c : RRset) (bc ab ac : Bool) → name_eq b.name c.name ≡ bc → name_eq a.name b.name ≡ ab → name_eq a.name c.name ≡ ac
    → a ∷ filter (λ other. not (name_eq a.name other.name)) (b ∷ cond (not bc) (c ∷ []) [])
    ≡ (a ∷ listed (cond ab None (Some b))) ++ listed (unless_same (Some a) (cond bc None (Some c)))
once_three a b c true ab ac e f g = by (name_eq a.name b.name) ab f
  where
    by : (p q : Bool) → p ≡ q → a ∷ cond (not p) (b ∷ []) [] ≡ (a ∷ listed (cond q None (Some b))) ++ []
    by true true e = refl
    by false false e = refl
    by true false e = absurd (true≢false e)
    by false true e = absurd (true≢false (sym e))
once_three a b c false ab ac e f g = by (name_eq a.name b.name) ab f (name_eq a.name c.name)
  where
    by : (p q : Bool) → p ≡ q → (r : Bool)
        → a ∷ cond (not p) (b ∷ cond (not r) (c ∷ []) []) (cond (not r) (c ∷ []) []) ≡ (a ∷ listed (cond q None (Some b))) ++ listed (cond r None (Some c))
    by true true e true = refl
    by true true e false = refl
    by false false e true = refl
    by false false e false = refl
    by true false e r = absurd (true≢false e)
    by false true e r = absurd (true≢false (sym e))

once_two : (a b : RRset) → each_owner_once (a ∷ b ∷ []) ≡ a ∷ listed (unless_same (Some a) (Some b))
once_two a b = by (name_eq a.name b.name)
  where
    by : (p : Bool) → a ∷ cond (not p) (b ∷ []) [] ≡ a ∷ listed (cond p None (Some b))
    by true = refl
    by false = refl

-- Of three sets those whose owner no earlier one has.
pub once_listed : (a b c : Option RRset)
    → ((listed a ++ listed (unless_same a b)) ++ listed (unless_same a (unless_same b c))) ≡ each_owner_once (listed a ++ listed b ++ listed c)
once_listed None None None = refl
once_listed None None (Some c) = refl
once_listed None (Some b) None = refl
once_listed None (Some b) (Some c) = sym (once_two b c)
once_listed (Some a) None None = refl
once_listed (Some a) None (Some c) = sym (once_two a c)
once_listed (Some a) (Some b) None = append-nil (a ∷ listed (unless_same (Some a) (Some b))) ∙ sym (once_two a b)
once_listed (Some a) (Some b) (Some c) =
    sym (once_three a b c (name_eq b.name c.name) (name_eq a.name b.name) (name_eq a.name c.name) refl refl refl)

pub shows_list : (b : Bool) (sets : List RRset) (xs : List AnswerSet) (answers : LookupRecords) (found : AuthLookup) → records_in answers ≡ all_shown b xs → map set_in xs ≡ sets
    → found ≡ auths.Records answers None → ShowsDenial (λ ss. ss ≡ sets) b found
shows_list b sets xs answers found e same is =
    subst (λ (f : AuthLookup). ShowsDenial (λ ss. ss ≡ sets) b f) (sym is)
    (sets, refl, e ∙ all_shown-sets b xs ∙ ap (sets_shown b) same, refl, refl)

pub shows_single : (b : Bool) (set : RRset) (x : AnswerSet) (answers : LookupRecords) (found : AuthLookup) → records_in answers ≡ shown b (set_in x) → set_in x ≡ set
    → found ≡ auths.Records answers None → ShowsDenial (λ ss. ss ≡ listed (Some set)) b found
shows_single b set x answers found e same is =
    subst (λ (f : AuthLookup). ShowsDenial (λ ss. ss ≡ set ∷ []) b f) (sym is)
    (set ∷ [], refl, e ∙ ap (shown b) same ∙ sym (append-nil (shown b set)), refl, refl)

pub shows_nothing : (P : List RRset → Type 0) (b : Bool) → P [] → ShowsDenial P b auths.Empty
shows_nothing P b p = ([], p, refl, refl, refl)

pub shows_as : (P Q : List RRset → Type 0) (b : Bool) (found : AuthLookup) → ((sets : List RRset) → P sets → Q sets) → ShowsDenial P b found → ShowsDenial Q b found
shows_as P Q b found f s = (s.0, f s.0 s.1, s.2, s.3, s.4)

-- ---- by name
none_some : {X : Type 0} (o : Option X) (x : X) → o ≡ None → o ≡ Some x → ⊥
none_some o x none some = let h = sym none ∙ some in cc

one : {X : Type 0} (o : Option X) (x y : X) → o ≡ Some x → o ≡ Some y → x ≡ y
one o x y e f = let h = sym e ∙ f in cc

pub wildcard_none : (sets : List RRset) (origin name : DomainName) → FindsCloser sets origin name None → (zone : Zone) → IsZoneOf sets origin zone → IsForWildcard zone name None
wildcard_none sets origin name none zone z =
    let enc = encloser_none sets origin name zone z none in
    record { wildcard = λ e is. absurd (none_some (encloser zone name) e enc is); none = λ is. refl }

pub wildcard_some : (sets : List RRset) (origin name closer wildcard : DomainName) (found : Option RRset) → FindsCloser sets origin name (Some closer) → wildcard ≡ wildcard_of closer
    → FindsPreceding sets kind.NSEC wildcard found → (zone : Zone) → IsZoneOf sets origin zone → IsForWildcard zone name found
wildcard_some sets origin name closer wildcard found c is p zone z =
    let enc = encloser_some sets origin name c.0 zone z c.1 in
    let named : wildcard ≡ star (up name c.0) = is ∙ ap wildcard_of c.2 ∙ star_of name c.0 c.1.proper c.1.within in
    record {
      wildcard = λ e at. precedes sets origin zone z kind.NSEC (star e) found
          (subst (λ (n : DomainName). FindsPreceding sets kind.NSEC n found) (named ∙ ap star (one (encloser zone name) (up name c.0) e enc at)) p);
      none = λ at. absurd (none_some (encloser zone name) (up name c.0) at enc);
    }

pub nsec_denied : (sets : List RRset) (origin name : DomainName) (own wild : Option RRset) (b : Bool) (found : AuthLookup) → FindsPreceding sets kind.NSEC name own
    → ((zone : Zone) → IsZoneOf sets origin zone → IsForWildcard zone name wild)
    → ShowsDenial (λ ss. ss ≡ each_owner_once (listed own ++ listed wild ++ listed None)) b found
    → (zone : Zone) → IsZoneOf sets origin zone → ShowsDenial (IsNsecDenial zone name) b found
nsec_denied sets origin name own wild b found p w shows zone z =
    let star = w zone z in
    shows_as (λ ss. ss ≡ each_owner_once (listed own ++ listed wild ++ listed None)) (IsNsecDenial zone name) b found
    (λ ss are. record {
      for_name = own;
      own = precedes sets origin zone z kind.NSEC name own p;
      for_star = wild;
      wildcard = star.wildcard;
      no_wildcard = star.none;
      are = are ∙ ap each_owner_once (append-nil (listed own ++ listed wild));
    }) shows

-- ---- by hash
pub rrset_lower : (sets : List RRset) (name : DomainName) (t : RecordType) → rrset_at sets (lowercase_name name) t ≡ rrset_at sets name t
rrset_lower [] name t = refl
rrset_lower (set ∷ sets) name t =
    ap (λ (b : Bool). cond (b && same_record_type set.record_type t) (Some set) (rrset_at sets (lowercase_name name) t)) (eq-lower-first name set.name)
    ∙ ap (cond (name_eq name set.name && same_record_type set.record_type t) (Some set)) (rrset_lower sets name t)

-- What a search by the name's key finds, is its own.
pub found_key : (sets : List RRset) (key name : DomainName) (t : RecordType) (found : Option RRset) → key ≡ lowercase_name name → found ≡ rrset_at sets key t → rrset_at sets name t ≡ found
found_key sets key name t found is e = sym (e ∙ ap (λ (n : DomainName). rrset_at sets n t) is ∙ rrset_lower sets name t)

pub wanted_owned : (sets : List RRset) (name : DomainName) (t : RecordType) (wild : Bool) (set : RRset) → rrset_at sets name t ≡ Some set → wild ≡ is_wanted sets name t wild
wanted_owned sets name t wild set e = twice wild ∙ sym (ap (λ (found : Option RRset). not (is_some found && not wild)) e)
  where
    twice : (b : Bool) → b ≡ not (not b)
    twice true = refl
    twice false = refl

pub wanted_unowned : (sets : List RRset) (name : DomainName) (t : RecordType) (wild : Bool) → rrset_at sets name t ≡ None → true ≡ is_wanted sets name t wild
wanted_unowned sets name t wild e = sym (ap (λ (found : Option RRset). not (is_some found && not wild)) e)

pub room_of : (n : ℕ) → nat_le n 255 ≡ true → n ≤ 255
room_of n e = grind (arith, nat_tests)

module _ (by : Hashing) (sets : List RRset) (origin name : DomainName) (t : RecordType) (wild : Bool) (b : Bool) where
  abbrev owner_in : DomainName → DomainName → DomainName
  owner_in o n = hashed_owner (nsec3_digest by.salt by.iterations n) o

  pub needless_shown : (nat_le (labels_len origin.labels + 34) 255 && is_wanted sets name t wild) ≡ false → (zone : Zone) → IsZoneOf sets origin zone
      → ShowsDenial (IsNsec3Denial by zone name t wild) b auths.Empty
  needless_shown e zone z =
      let no : is_denied zone name t wild ≡ false = moved (λ ss o. (nat_le (labels_len o.labels + 34) 255 && is_wanted ss name t wild) ≡ false) sets origin zone z e in
      shows_nothing (IsNsec3Denial by zone name t wild) b
      (record {
        needless = λ is. refl;
        own = λ set is at. absurd (true≢false (sym is ∙ no));
        closest = λ above is none at. absurd (true≢false (sym is ∙ no));
        no_ancestor = λ is none at. refl;
      })

  pub own_shown : (set : RRset) (found : AuthLookup) → (nat_le (labels_len origin.labels + 34) 255 && is_wanted sets name t wild) ≡ true
      → rrset_at sets (owner_in origin name) kind.NSEC3 ≡ Some set → ShowsDenial (λ ss. ss ≡ listed (Some set)) b found
      → (zone : Zone) → IsZoneOf sets origin zone → ShowsDenial (IsNsec3Denial by zone name t wild) b found
  own_shown set found e there shows zone z =
      let yes : is_denied zone name t wild ≡ true = moved (λ ss o. (nat_le (labels_len o.labels + 34) 255 && is_wanted ss name t wild) ≡ true) sets origin zone z e in
      let at : rrset_at zone.sets (hashed_name by zone name) kind.NSEC3 ≡ Some set = moved (λ ss o. rrset_at ss (owner_in o name) kind.NSEC3 ≡ Some set) sets origin zone z there in
      shows_as (λ ss. ss ≡ listed (Some set)) (IsNsec3Denial by zone name t wild) b found
      (λ ss are. record {
        needless = λ no. absurd (true≢false (sym yes ∙ no));
        own = λ other is there. are ∙ ap (λ (s : RRset). s ∷ []) (one (rrset_at zone.sets (hashed_name by zone name) kind.NSEC3) set other at there);
        closest = λ above is none enc. absurd (none_some (rrset_at zone.sets (hashed_name by zone name) kind.NSEC3) set none at);
        no_ancestor = λ is none enc. absurd (none_some (rrset_at zone.sets (hashed_name by zone name) kind.NSEC3) set none at);
      }) shows

  pub above_shown : (found : AuthLookup) → (nat_le (labels_len origin.labels + 34) 255 && is_wanted sets name t wild) ≡ true → rrset_at sets (owner_in origin name) kind.NSEC3 ≡ None
      → ((zone : Zone) → IsZoneOf sets origin zone → ShowsDenial (IsProofAbove by zone name) b found)
      → (zone : Zone) → IsZoneOf sets origin zone → ShowsDenial (IsNsec3Denial by zone name t wild) b found
  above_shown found e absent shows zone z =
      let yes : is_denied zone name t wild ≡ true = moved (λ ss o. (nat_le (labels_len o.labels + 34) 255 && is_wanted ss name t wild) ≡ true) sets origin zone z e in
      let off : rrset_at zone.sets (hashed_name by zone name) kind.NSEC3 ≡ None = moved (λ ss o. rrset_at ss (owner_in o name) kind.NSEC3 ≡ None) sets origin zone z absent in
      shows_as (IsProofAbove by zone name) (IsNsec3Denial by zone name t wild) b found
      (λ ss proof. record {
        needless = λ no. absurd (true≢false (sym yes ∙ no));
        own = λ other is there. absurd (none_some (rrset_at zone.sets (hashed_name by zone name) kind.NSEC3) other off there);
        closest = λ above is none enc. proof.closest above enc;
        no_ancestor = λ is none enc. proof.no_ancestor enc;
      }) (shows zone z)

  pub no_proof : FindsCloser sets origin name None → (zone : Zone) → IsZoneOf sets origin zone → ShowsDenial (IsProofAbove by zone name) b auths.Empty
  no_proof none zone z =
      let enc = encloser_none sets origin name zone z none in
      shows_nothing (IsProofAbove by zone name) b
      (record { closest = λ e is. absurd (none_some (encloser zone name) e enc is); no_ancestor = λ is. refl })

  by_hash : (zone : Zone) → IsZoneOf sets origin zone → (n m : DomainName) → n ≡ m → (found : Option RRset) → FindsPreceding sets kind.NSEC3 (owner_in origin n) found → PrecedesByHash by zone m found
  by_hash zone z n m same found p =
      subst (λ (x : DomainName). PrecedesByHash by zone x found) same
      (of_zone zone kind.NSEC3 (hashed_name by zone n) found (moved (λ ss o. FindsPreceding ss kind.NSEC3 (owner_in o n) found) sets origin zone z p))

  pub proof_shown : (closer parent wildcard : DomainName) (first second third : Option RRset) (found : AuthLookup) → FindsCloser sets origin name (Some closer)
      → parent ≡ up closer 1 → wildcard ≡ wildcard_of closer
      → FindsPreceding sets kind.NSEC3 (owner_in origin parent) first → FindsPreceding sets kind.NSEC3 (owner_in origin closer) second → FindsPreceding sets kind.NSEC3 (owner_in origin wildcard) third
      → ShowsDenial (λ ss. ss ≡ each_owner_once (listed first ++ listed second ++ listed third)) b found
      → (zone : Zone) → IsZoneOf sets origin zone → ShowsDenial (IsProofAbove by zone name) b found
  proof_shown closer parent wildcard first second third found c above starred p q r shows zone z =
      let levels = c.0 in
      let enc = encloser_some sets origin name levels zone z c.1 in
      let e : DomainName = up name levels in
      let to_parent : parent ≡ e = above ∙ ap (λ (n : DomainName). up n 1) c.2 ∙ parent_of name levels c.1.proper in
      let to_closer : closer ≡ next_closer name e = c.2 ∙ sym (closer_of name levels c.1.proper c.1.within) in
      let to_star : wildcard ≡ star e = starred ∙ ap wildcard_of c.2 ∙ star_of name levels c.1.proper c.1.within in
      let proof : (ss : List RRset) → ss ≡ each_owner_once (listed first ++ listed second ++ listed third) → IsClosestProof by zone name e ss
      = λ ss are. record {
        for_ancestor = first;
        closest = by_hash zone z parent e to_parent first p;
        for_closer = second;
        closer = by_hash zone z closer (next_closer name e) to_closer second q;
        for_star = third;
        wildcard = by_hash zone z wildcard (star e) to_star third r;
        are = are;
      } in
      shows_as (λ ss. ss ≡ each_owner_once (listed first ++ listed second ++ listed third)) (IsProofAbove by zone name) b found
      (λ ss are. record {
        closest = λ x is. subst (λ (n : DomainName). IsClosestProof by zone name n ss) (one (encloser zone name) e x enc is) (proof ss are);
        no_ancestor = λ is. absurd (none_some (encloser zone name) e is enc);
      }) shows
