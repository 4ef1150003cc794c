-- The types of what a lookup answers with: no NSEC record, but where NSEC is asked for.
use Rattle.std.proofs.Common.{◌≡◌, ◌∙◌, ap, refl, subst, sym}
use Rattle.std.specs.Prelude.{ℕ, Bool, true, false, not, ◌&&◌, ◌||◌, ◌==◌, List, [], ◌∷◌, ◌++◌, map, Option, Some, None, IfSome, cond}
use Rattle.std.specs.List.{AllByRecursion}
use Rattle.std.proofs.lemmas.Bool.{eqb-true, true≢false}
use Rattle.zsv_answer.specs.Parts.{answer_records, begins_with_ns, is_referral}
use Rattle.zsv_answer.specs.zst_request.dnw_codes.declared.record_type.RecordType.{RecordType}
use Rattle.zsv_answer.specs.zst_request.dnw_codes.declared.record_type.RecordType.TheVariants as kind
use Rattle.zsv_answer.specs.zst_request.dnw_codes.RecordType.{record_type_number, same_record_type}
use Rattle.zsv_answer.specs.zst_request.dnw_name.DomainName.{DomainName, lowercase_name, name_eq}
use Rattle.zsv_answer.specs.zst_request.zst_denial.Octets.{nsec_octets}
use Rattle.zsv_answer.specs.zst_request.zst_handler.Answers.{shown, sets_shown}
use Rattle.zsv_answer.specs.zst_request.zst_handler.Chains.{Links, first_target, leads}
use Rattle.zsv_answer.specs.zst_request.zst_handler.Found.{found, is_address}
use Rattle.zsv_answer.specs.zst_request.zst_handler.Lookups.{Answer, IsLookup, LookupFrom, Outcome, answered, is_flattened, name_error, name_exists, out_of_zone}
use Rattle.zsv_answer.specs.zst_request.zst_handler.Zones.{AreStored, IsStored, Zone, rrset_at}
use Rattle.zsv_answer.specs.zsv_reply.drd_rdata.Types.{type_of}
use Rattle.zsv_answer.specs.zsv_reply.drd_rdata.declared.rdata.RData.{RData}
use Rattle.zsv_answer.specs.zsv_reply.drd_rdata.declared.rdata.RData.TheVariants as data_of
use Rattle.zsv_answer.specs.zsv_reply.zst_record.declared.records.Record.{Record}
use Rattle.zsv_answer.specs.zsv_reply.zst_record.RecordSets.{RRset, flattened_record, flattened_set, none_left, renamed, renamed_record}
use Rattle.zsv_catalog.proofs.Walk.{Keeps, OutcomeHolds, denial_none, found_holds, lookup_holds, weaker}

-- A record without NSEC data.
abbrev pub IsNoNsec : Record → Type 0
IsNoNsec r = nsec_octets r.rdata ≡ None

-- A lookup for a type may answer with a set of it, with an alias, or with name servers.
abbrev pub is_sought : RecordType → RecordType → Bool
is_sought t given =
    same_record_type given t || (same_record_type given kind.CNAME || (same_record_type given kind.NS || same_record_type given kind.ANAME))

-- ---- tests
pub right_true : (a b : Bool) → (a && b) ≡ true → b ≡ true
right_true true b h = h
right_true false b h = absurd (true≢false (sym h))

or_right : (a b : Bool) → b ≡ true → (a || b) ≡ true
or_right true b h = refl
or_right false b h = h

or_left : (a b : Bool) → a ≡ true → (a || b) ≡ true
or_left true b h = refl
or_left false b h = absurd (true≢false (sym h))

-- ---- types by their numbers
number : (a b : RecordType) → same_record_type a b ≡ true → record_type_number a ≡ record_type_number b
number a b h = eqb-true (record_type_number a) (record_type_number b) h

pub other_than : (a b c : RecordType) → same_record_type a b ≡ true → same_record_type b c ≡ false → same_record_type a c ≡ false
other_than a b c same other = subst (λ (n : ℕ). (n == record_type_number c) ≡ false) (sym (number a b same)) other

not_nsec : (t u : RecordType) → same_record_type t kind.NSEC ≡ false → is_sought t u ≡ true → same_record_type u kind.NSEC ≡ false
not_nsec t u other sought = by (same_record_type u t) (same_record_type u kind.CNAME) (same_record_type u kind.NS) (same_record_type u kind.ANAME) refl refl refl refl sought
  where
    by : (a b c d : Bool) → same_record_type u t ≡ a → same_record_type u kind.CNAME ≡ b → same_record_type u kind.NS ≡ c → same_record_type u kind.ANAME ≡ d → (a || (b || (c || d))) ≡ true → same_record_type u kind.NSEC ≡ false
    by true b c d e f g h is = other_than u t kind.NSEC e other
    by false true c d e f g h is = other_than u kind.CNAME kind.NSEC f refl
    by false false true d e f g h is = other_than u kind.NS kind.NSEC g refl
    by false false false true e f g h is = other_than u kind.ANAME kind.NSEC h refl
    by false false false false e f g h is = absurd (true≢false (sym is))

no_octets : (value : RData) → same_record_type (type_of value) kind.NSEC ≡ false → nsec_octets value ≡ None
no_octets (data_of.Unknown code null) other = ap (λ (b : Bool). cond b (Some null.anything.items) None) other
no_octets known other = refl

-- ---- the types of a set's records
-- A set has records, of its type, and its signatures are RRSIG.
pub record IsTyped (set : RRset) : Type 0 where
  pub filled : none_left set.records ≡ false
  pub records : AllByRecursion (λ (r : Record). same_record_type (type_of r.rdata) set.record_type ≡ true) set.records
  pub signatures : AllByRecursion (λ (r : Record). same_record_type (type_of r.rdata) kind.RRSIG ≡ true) set.signatures

pub all_to : {X : Type 0} (P Q : X → Type 0) (xs : List X) → ((x : X) → P x → Q x) → AllByRecursion P xs → AllByRecursion Q xs
all_to P Q [] f all = tt
all_to P Q (x ∷ xs) f all = (f x all.0, all_to P Q xs f all.1)

typed : (set : RRset) → IsStored set → IsTyped set
typed set stored = record {
  filled = stored.filled;
  records = all_to _ _ set.records (λ r is. is.of_type) stored.is.records;
  signatures = all_to _ _ set.signatures (λ r is. right_true _ _ (right_true (name_eq r.name set.name) _ is)) stored.is.signatures;
}

-- Records whose data stay are of the types that they were of.
under_map : (t : RecordType) (f : Record → Record) (rs : List Record) → ((r : Record) → type_of (f r).rdata ≡ type_of r.rdata) → AllByRecursion (λ (r : Record). same_record_type (type_of r.rdata) t ≡ true) rs
    → AllByRecursion (λ (r : Record). same_record_type (type_of r.rdata) t ≡ true) (map f rs)
under_map t f [] same all = tt
under_map t f (r ∷ rs) same all = (subst (λ u. same_record_type u t ≡ true) (sym (same r)) all.0, under_map t f rs same all.1)

map_filled : (f : Record → Record) (rs : List Record) → none_left rs ≡ false → none_left (map f rs) ≡ false
map_filled f [] h = h
map_filled f (r ∷ rs) h = refl

renamed_typed : (owner : DomainName) (set : RRset) → IsTyped set → IsTyped (renamed owner set)
renamed_typed owner set is = record {
  filled = map_filled (renamed_record owner) set.records is.filled;
  records = under_map set.record_type (renamed_record owner) set.records (λ r. refl) is.records;
  signatures = under_map kind.RRSIG (renamed_record owner) set.signatures (λ r. refl) is.signatures;
}

flattened_typed : (owner : DomainName) (ttl : ℕ) (set : RRset) → IsTyped set → IsTyped (flattened_set owner ttl set)
flattened_typed owner ttl set is = record {
  filled = map_filled (flattened_record owner ttl) set.records is.filled;
  records = under_map set.record_type (flattened_record owner ttl) set.records (λ r. refl) is.records;
  signatures = tt;
}

-- ---- the sets that a lookup shows
-- A stored set is typed, and of the type that it was sought by.
pub typed_at : (sets : List RRset) (name : DomainName) (t : RecordType) → AreStored sets → IfSome (rrset_at sets name t) (λ set. IsTyped set × (same_record_type set.record_type t ≡ true))
typed_at [] name t all = tt
typed_at (set ∷ sets) name t all = by (name_eq name set.name && same_record_type set.record_type t) refl (typed_at sets name t all.1)
  where
    by : (b : Bool) → (name_eq name set.name && same_record_type set.record_type t) ≡ b → IfSome (rrset_at sets name t) (λ set. IsTyped set × (same_record_type set.record_type t ≡ true))
        → IfSome (cond b (Some set) (rrset_at sets name t)) (λ set. IsTyped set × (same_record_type set.record_type t ≡ true))
    by false e later = later
    by true e later = (typed set all.0, right_true (name_eq name set.name) (same_record_type set.record_type t) e)

abbrev pub IsOf : RecordType → RRset → Type 0
IsOf t set = IsTyped set × (is_sought t set.record_type ≡ true)

abbrev IsOfAt : RecordType → Bool → RRset → Type 0
IsOfAt t fqdn set = IsOf t set

typed_keeps : (sets : List RRset) (t : RecordType) → AreStored sets → Keeps sets t (IsOfAt t) (IsOf t)
typed_keeps sets t stored = record {
  own = λ name. weaker _ _ (rrset_at sets name t) (λ set at. (at.0, or_left (same_record_type set.record_type t) _ at.1)) (typed_at sets name t stored);
  alias = λ name. weaker _ _ (rrset_at sets name kind.CNAME) (λ set at. (at.0, or_right (same_record_type set.record_type t) _ (or_left (same_record_type set.record_type kind.CNAME) _ at.1))) (typed_at sets name kind.CNAME stored);
  flat = λ name. weaker _ _ (rrset_at sets name kind.ANAME) (λ set at. (at.0, or_right (same_record_type set.record_type t) _ (or_right (same_record_type set.record_type kind.CNAME) _ (or_right (same_record_type set.record_type kind.NS) _ at.1)))) (typed_at sets name kind.ANAME stored);
  servers = λ name. weaker _ _ (rrset_at sets name kind.NS) (λ set at. (at.0, or_right (same_record_type set.record_type t) _ (or_right (same_record_type set.record_type kind.CNAME) _ (or_left (same_record_type set.record_type kind.NS) _ at.1)))) (typed_at sets name kind.NS stored);
  renames = λ name set at. (renamed_typed (lowercase_name name) set at.0, at.1);
  shows = λ fqdn set at. at;
  flattens = λ name ttl first set at behind. (flattened_typed (lowercase_name name) ttl set behind.0, behind.1);
}

-- ---- the records of an answer
pub append_all : (P : Record → Type 0) (rs more : List Record) → AllByRecursion P rs → AllByRecursion P more → AllByRecursion P (rs ++ more)
append_all P [] more first later = later
append_all P (r ∷ rs) more first later = (first.0, append_all P rs more first.1 later)

pub none_of : (t : RecordType) (rs : List Record) → same_record_type t kind.NSEC ≡ false → AllByRecursion (λ (r : Record). same_record_type (type_of r.rdata) t ≡ true) rs → AllByRecursion IsNoNsec rs
none_of t rs other all = all_to _ IsNoNsec rs (λ r is. no_octets r.rdata (other_than (type_of r.rdata) t kind.NSEC is other)) all

pub shown_none : (dnssec_ok : Bool) (set : RRset) → IsTyped set → same_record_type set.record_type kind.NSEC ≡ false → AllByRecursion IsNoNsec (shown dnssec_ok set)
shown_none true set is other = append_all IsNoNsec set.records set.signatures (none_of set.record_type set.records other is.records) (none_of kind.RRSIG set.signatures refl is.signatures)
shown_none false set is other = none_of set.record_type set.records other is.records

sets_none : (t : RecordType) (dnssec_ok : Bool) (ss : List RRset) → same_record_type t kind.NSEC ≡ false → AllByRecursion (IsOf t) ss → AllByRecursion IsNoNsec (sets_shown dnssec_ok ss)
sets_none t dnssec_ok [] other all = tt
sets_none t dnssec_ok (set ∷ ss) other all =
    append_all IsNoNsec (shown dnssec_ok set) (sets_shown dnssec_ok ss) (shown_none dnssec_ok set all.0.0 (not_nsec t set.record_type other all.0.1)) (sets_none t dnssec_ok ss other all.1)

outcome_none : (t : RecordType) (dnssec_ok : Bool) (outcome : Outcome) → same_record_type t kind.NSEC ≡ false → OutcomeHolds (IsOf t) outcome → AllByRecursion IsNoNsec (answer_records dnssec_ok outcome)
outcome_none t dnssec_ok (answered answer) other all = sets_none t dnssec_ok answer.answers other all
outcome_none t dnssec_ok name_exists other all = tt
outcome_none t dnssec_ok name_error other all = tt
outcome_none t dnssec_ok out_of_zone other all = tt

pub lookup_none : (zone : Zone) (name : DomainName) (t : RecordType) (outcome : Outcome) (dnssec_ok : Bool) → AreStored zone.sets → same_record_type t kind.ANY ≡ false → same_record_type t kind.NSEC ≡ false
    → IsLookup zone name t outcome → AllByRecursion IsNoNsec (answer_records dnssec_ok outcome)
lookup_none zone name t outcome dnssec_ok stored one other is =
    outcome_none t dnssec_ok outcome other (lookup_holds zone t (IsOfAt t) (IsOf t) (typed_keeps zone.sets t stored) name outcome one is)

-- ---- referrals
-- Records that begin with those of a set begin with one of its type.
first_ns : (dnssec_ok : Bool) (set : RRset) (more : List Record) → IsTyped set → begins_with_ns (shown dnssec_ok set ++ more) ≡ true → same_record_type set.record_type kind.NS ≡ true
first_ns dnssec_ok set more is begins = by dnssec_ok set.records is.filled is.records begins
  where
    of : (r : Record) → same_record_type (type_of r.rdata) set.record_type ≡ true → same_record_type (type_of r.rdata) kind.NS ≡ true → same_record_type set.record_type kind.NS ≡ true
    of r own ns = subst (λ (n : ℕ). (n == record_type_number kind.NS) ≡ true) (number (type_of r.rdata) set.record_type own) ns

    by : (b : Bool) (rs : List Record) → none_left rs ≡ false → AllByRecursion (λ (r : Record). same_record_type (type_of r.rdata) set.record_type ≡ true) rs → begins_with_ns (cond b (rs ++ set.signatures) rs ++ more) ≡ true
        → same_record_type set.record_type kind.NS ≡ true
    by b [] filled all at = absurd (true≢false filled)
    by true (r ∷ rs) filled all at = of r all.0 at
    by false (r ∷ rs) filled all at = of r all.0 at

-- Name servers lead nowhere, so that a chain which begins with them is one set.
alone : (sets : List RRset) (t : RecordType) (set : RRset) (later : List RRset) → same_record_type set.record_type kind.NS ≡ true → Links sets t (leads t set) later → later ≡ []
alone sets t set later ns links = by (same_record_type set.record_type kind.CNAME) (other_than set.record_type kind.NS kind.CNAME ns refl) later refl links
  where
    by : (b : Bool) → b ≡ false → (ss : List RRset) → later ≡ ss → Links sets t (cond (b && not (same_record_type t kind.CNAME)) (first_target set.records) None) ss → ss ≡ []
    by true e ss is at = absurd (true≢false e)
    by false e [] is at = refl
    by false e (s ∷ ss) is at = absurd at

chain_none : (sets : List RRset) (t : RecordType) (name : DomainName) (dnssec_ok : Bool) (chain : List RRset) → AreStored sets → Links sets t (Some name) chain → begins_with_ns (sets_shown dnssec_ok chain) ≡ true
    → AllByRecursion IsNoNsec (sets_shown dnssec_ok chain)
chain_none sets t name dnssec_ok [] stored links begins = tt
chain_none sets t name dnssec_ok (set ∷ chain) stored links begins =
    let is = subst (λ o. IfSome o (IsOf t)) links.0 (found_holds sets t (IsOfAt t) (IsOf t) (typed_keeps sets t stored) name) in
    let ns = first_ns dnssec_ok set (sets_shown dnssec_ok chain) is.0 begins in
    let rest = alone sets t set chain ns links.1 in
    append_all IsNoNsec (shown dnssec_ok set) (sets_shown dnssec_ok chain) (shown_none dnssec_ok set is.0 (other_than set.record_type kind.NS kind.NSEC ns refl))
    (subst (λ ss. AllByRecursion IsNoNsec (sets_shown dnssec_ok ss)) (sym rest) tt)

-- The question for NSEC flattens nothing.
unflattened : (t : RecordType) (first : RRset) → same_record_type t kind.NSEC ≡ true → is_flattened t first ≡ false
unflattened t first nsec = by (same_record_type first.record_type kind.ANAME)
  where
    none : is_address t ≡ false
    none = subst (λ (n : ℕ). cond (n == record_type_number kind.A) true (n == record_type_number kind.AAAA) ≡ false) (sym (number t kind.NSEC nsec)) refl

    by : (b : Bool) → (b && is_address t) ≡ false
    by true = none
    by false = refl

abbrev answers_of : Outcome → List RRset
answers_of (answered answer) = answer.answers
answers_of other = []

abbrev is_answer : Outcome → Bool
is_answer (answered answer) = true
is_answer other = false

nsec_referral : (zone : Zone) (name : DomainName) (t : RecordType) (dnssec_ok : Bool) (answer : Answer) (o : Option RRset) → AreStored zone.sets → same_record_type t kind.NSEC ≡ true → LookupFrom zone name t o (answered answer)
    → begins_with_ns (sets_shown dnssec_ok answer.answers) ≡ true → AllByRecursion IsNoNsec (sets_shown dnssec_ok answer.answers)
nsec_referral zone name t dnssec_ok answer (Some first) stored nsec (given, is, from) begins =
    let links : Links zone.sets t (Some name) given.answers = (from.1 (unflattened t first nsec)).0.links in
    chain_none zone.sets t name dnssec_ok answer.answers stored (subst (Links zone.sets t (Some name)) (sym (ap answers_of is)) links) begins
nsec_referral zone name t dnssec_ok answer None stored nsec is begins = absurd (true≢false (ap is_answer is ∙ denial_none (λ o. is_answer o ≡ false) zone name refl refl refl))

-- What stands as authority of a referral.
pub referral_none : (zone : Zone) (name : DomainName) (t : RecordType) (dnssec_ok : Bool) (answer : Answer) → AreStored zone.sets → IsLookup zone name t (answered answer)
    → AllByRecursion IsNoNsec (cond (is_referral t (sets_shown dnssec_ok answer.answers)) (sets_shown dnssec_ok answer.answers) [])
referral_none zone name t dnssec_ok answer stored is = by (begins_with_ns records) (same_record_type t kind.NS) (same_record_type t kind.ANY) (same_record_type t kind.NSEC) refl refl refl
  where
    records : List Record
    records = sets_shown dnssec_ok answer.answers

    by : (b ns any nsec : Bool) → begins_with_ns records ≡ b → same_record_type t kind.ANY ≡ any → same_record_type t kind.NSEC ≡ nsec → AllByRecursion IsNoNsec (cond (b && not (ns || any)) records [])
    by false ns any nsec e f g = tt
    by true true any nsec e f g = tt
    by true false true nsec e f g = tt
    by true false false true e f g = nsec_referral zone name t dnssec_ok answer (found zone.sets name t) stored g (is.one f) e
    by true false false false e f g = lookup_none zone name t (answered answer) dnssec_ok stored f g is
