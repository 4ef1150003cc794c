-- What a lookup answers in a zone whose records read back reads back: whatever is found stands at a fully qualified name.
use Rattle.std.proofs.Common.{◌≡◌, inl, inr, refl, subst, sym}
use Rattle.std.specs.Prelude.{ℕ, Bool, true, false, not, ◌&&◌, List, [], ◌∷◌, ◌++◌, map, min, Option, Some, None, IfSome, cond, is_some, option_map}
use Rattle.std.specs.Bool.{beq}
use Rattle.std.specs.List.{AllByRecursion, filter, flat_map}
use Rattle.std.proofs.lemmas.Bool.{true≢false}
use Rattle.zsv_answer.specs.zst_request.dnw_codes.declared.record_type.RecordType.{RecordType}
use Rattle.zsv_answer.specs.zst_request.dnw_codes.declared.record_type.RecordType.TheVariants as kind
use Rattle.zsv_answer.specs.zst_request.dnw_codes.RecordType.{same_record_type}
use Rattle.zsv_answer.specs.zst_request.dnw_name.DomainName.{DomainName, domain_name, is_at_or_below, lowercase_name, name_eq}
use Rattle.zsv_answer.specs.zst_request.Transfers.{axfr_records, between_soas, is_start, transfer_of}
use Rattle.zsv_update.specs.zsv_chains.zst_key.Ancestors.{nearest_from, or_else, star}
use Rattle.zsv_answer.specs.zsv_reply.zst_record.declared.records.Record.{Record}
use Rattle.zsv_answer.specs.zsv_reply.drd_rdata.Exceeding.{ExceedsRdlength}
use Rattle.zsv_answer.specs.zsv_reply.drd_rdata.declared.rdata.RData.{RData}
use Rattle.zsv_answer.specs.zsv_reply.drd_rdata.declared.rdata.RData.TheVariants as rdata
use Rattle.zsv_answer.specs.zsv_reply.zst_record.Records.{IsServable, ReadsBackAlone}
use Rattle.zsv_answer.specs.zsv_reply.zst_record.RecordSets.{IsRecordOf, RRset, flattened_record, flattened_set, is_signature_of, renamed, renamed_record}
use Rattle.zsv_answer.specs.zst_request.zst_handler.Answers.{shown, sets_shown}
use Rattle.zsv_answer.specs.zst_request.zst_handler.Chains.{Links, first_target, leads, target_of}
use Rattle.zsv_answer.specs.zst_request.zst_handler.Found.{above, cut_at, cut_found, delegation, found, found_set, here, is_address, wildcard_answer}
use Rattle.zsv_answer.specs.zst_request.zst_handler.Lookups.{Answer, AnswersFrom, IsLookup, LookupFrom, Outcome, additionals, addresses, alias_answer, alias_ttl, all_outcome, answered, behind_alias, denial, has_additionals, is_flattened, listed, name_error, name_exists, of_type, once, out_of_zone, sets_of_name, targets}
use Rattle.zsv_answer.specs.zst_request.zst_handler.Zones.{AreStored, IsStored, SetReadsBack, Zone, ZoneReadsBack, exists_in, rrset_at}

-- A record may be served, and where its owner is fully qualified this flag is set.
pub record IsSoundUnder (fqdn : Bool) (r : Record) : Type 0 where
  pub servable : IsServable r
  pub full : r.name.fqdn ≡ true → fqdn ≡ true

-- A set whose records read back, and whose owner is fully qualified as theirs are.
pub record SetIsSound (set : RRset) : Type 0 where
  pub records : AllByRecursion (IsSoundUnder set.name.fqdn) set.records
  pub signatures : AllByRecursion (IsSoundUnder set.name.fqdn) set.signatures

abbrev pub ZoneIsSound : Zone → Type 0
ZoneIsSound zone = AllByRecursion SetIsSound zone.sets

first_holds : (a b : Bool) → (a && b) ≡ true → a ≡ true
first_holds true b h = refl
first_holds false b h = h

same_flag : (a b : Bool) → beq a b ≡ true → b ≡ true → a ≡ true
same_flag true b same full = refl
same_flag false true same full = same
same_flag false false same full = full

other_flag : (a b : Bool) → beq a b ≡ true → a ≡ true → b ≡ true
other_flag a true same full = refl
other_flag true false same full = same
other_flag false false same full = full

-- A record whose owner is that of its set, up to case.
under : (set : RRset) (r : Record) → name_eq r.name set.name ≡ true → IsServable r → IsSoundUnder set.name.fqdn r
under set r named servable =
    record { servable = servable; full = λ full. other_flag r.name.fqdn set.name.fqdn (first_holds (beq r.name.fqdn set.name.fqdn) _ named) full }

records_under : (set : RRset) (rs : List Record) → AllByRecursion (IsRecordOf set) rs → AllByRecursion IsServable rs → AllByRecursion (IsSoundUnder set.name.fqdn) rs
records_under set [] of back = tt
records_under set (r ∷ rs) of back = (under set r of.0.at_owner back.0, records_under set rs of.1 back.1)

signatures_under : (set : RRset) (rs : List Record) → AllByRecursion (λ r. is_signature_of set r ≡ true) rs → AllByRecursion IsServable rs → AllByRecursion (IsSoundUnder set.name.fqdn) rs
signatures_under set [] of back = tt
signatures_under set (r ∷ rs) of back = (under set r (first_holds (name_eq r.name set.name) _ of.0) back.0, signatures_under set rs of.1 back.1)

set_sound : (set : RRset) → IsStored set → SetReadsBack set → SetIsSound set
set_sound set stored back = record {
  records = records_under set set.records stored.is.records back.records;
  signatures = signatures_under set set.signatures stored.is.signatures back.signatures;
}

all_sound : (sets : List RRset) → AreStored sets → AllByRecursion SetReadsBack sets → AllByRecursion SetIsSound sets
all_sound [] stored back = tt
all_sound (set ∷ sets) stored back = (set_sound set stored.0 back.0, all_sound sets stored.1 back.1)

pub zone_sound : (zone : Zone) → AreStored zone.sets → ZoneReadsBack zone → ZoneIsSound zone
zone_sound zone stored back = all_sound zone.sets stored back

-- A set that is found at a name, of this flag: the set reads back, and the name is fully qualified if
-- the set's is.
pub record IsFound (fqdn : Bool) (set : RRset) : Type 0 where
  pub back : SetIsSound set
  pub full : set.name.fqdn ≡ true → fqdn ≡ true

-- ---- choices
either : {X : Type 0} (P : X → Type 0) (a b : Option X) → IfSome a P → IfSome b P → IfSome (or_else a b) P
either P (Some x) b first second = first
either P None b first second = second

chosen : {X : Type 0} (P : X → Type 0) (test : Bool) (a b : Option X) → IfSome a P → IfSome b P → IfSome (cond test a b) P
chosen P true a b first second = first
chosen P false a b first second = second

pub mapped : {X Y : Type 0} (P : Y → Type 0) (f : X → Y) (o : Option X) → IfSome o (λ x. P (f x)) → IfSome (option_map f o) P
mapped P f None all = tt
mapped P f (Some x) all = all

weaker : {X : Type 0} (P Q : X → Type 0) (o : Option X) → ((x : X) → P x → Q x) → IfSome o P → IfSome o Q
weaker P Q None f all = tt
weaker P Q (Some x) f all = f x all

-- ---- the sets of a name
stored_back : (sets : List RRset) (name : DomainName) (t : RecordType) → AllByRecursion SetIsSound sets → IfSome (rrset_at sets name t) (IsFound name.fqdn)
stored_back [] name t back = tt
stored_back (set ∷ sets) name t back = by (name_eq name set.name && same_record_type set.record_type t) refl (stored_back sets name t back.1)
  where
    by : (b : Bool) → (name_eq name set.name && same_record_type set.record_type t) ≡ b → IfSome (rrset_at sets name t) (IsFound name.fqdn) → IfSome (cond b (Some set) (rrset_at sets name t)) (IsFound name.fqdn)
    by false at later = later
    by true at later = record {
      back = back.0;
      full = λ full. same_flag name.fqdn set.name.fqdn (first_holds (beq name.fqdn set.name.fqdn) _ (first_holds (name_eq name set.name) (same_record_type set.record_type t) at)) full;
    }

here_back : (sets : List RRset) (t : RecordType) (name : DomainName) → AllByRecursion SetIsSound sets → IfSome (here sets t name) (IsFound name.fqdn)
here_back sets t name back =
    either (IsFound name.fqdn) (rrset_at sets name t) _ (stored_back sets name t back)
    (either (IsFound name.fqdn) (rrset_at sets name kind.CNAME) _ (stored_back sets name kind.CNAME back)
    (chosen (IsFound name.fqdn) (is_address t) (rrset_at sets name kind.ANAME) None (stored_back sets name kind.ANAME back) tt))

cut_back : (sets : List RRset) (name : DomainName) → AllByRecursion SetIsSound sets → IfSome (cut_at sets name) (λ servers. IfSome servers (IsFound name.fqdn))
cut_back sets name back =
    let starts = is_some (rrset_at sets name kind.SOA) in
    mapped (λ servers. IfSome servers (IsFound name.fqdn)) (λ servers. cond starts None (Some servers)) (rrset_at sets name kind.NS)
    (weaker (IsFound name.fqdn) _ (rrset_at sets name kind.NS) (λ servers at. chosen (IsFound name.fqdn) starts None (Some servers) tt at) (stored_back sets name kind.NS back))

-- ---- the names above
abbrev with_name : {X : Type 0} → DomainName → X → DomainName × X
with_name name x = (name, x)

module _ {X : Type 0} (P : X → Type 0) (at : DomainName → Option X) (fqdn : Bool) (each : (labels : List (List ℕ)) → IfSome (at (domain_name fqdn labels)) P) where
  at_back : (labels : List (List ℕ)) → IfSome (option_map (with_name (domain_name fqdn labels)) (at (domain_name fqdn labels))) (λ entry. P entry.1)
  at_back labels = mapped (λ entry. P entry.1) (with_name (domain_name fqdn labels)) (at (domain_name fqdn labels)) (each labels)

  pub nearest_back : (labels : List (List ℕ)) → IfSome (nearest_from at fqdn labels) (λ entry. P entry.1)
  nearest_back [] = at_back []
  nearest_back (label ∷ labels) = either (λ entry. P entry.1) _ (nearest_from at fqdn labels) (at_back (label ∷ labels)) (nearest_back labels)

  above_back : (labels : List (List ℕ)) → IfSome (above at (domain_name fqdn labels)) (λ entry. P entry.1)
  above_back [] = tt
  above_back (label ∷ labels) = nearest_back labels

cut_found_back : (fqdn : Bool) (o : Option (DomainName × Option RRset)) → IfSome o (λ entry. IfSome entry.1 (IsFound fqdn)) → IfSome (cut_found o) (IsFound fqdn)
cut_found_back fqdn None all = tt
cut_found_back fqdn (Some (at, servers)) all = all

delegation_back : (sets : List RRset) (name : DomainName) (t : RecordType) → AllByRecursion SetIsSound sets → IfSome (delegation sets name t) (IsFound name.fqdn)
delegation_back sets name t back =
    let each = λ (labels : List (List ℕ)). cut_back sets (domain_name name.fqdn labels) back in
    chosen (IsFound name.fqdn) (same_record_type t kind.DS) (cut_found (above (cut_at sets) name)) (cut_found (nearest_from (cut_at sets) name.fqdn name.labels))
    (cut_found_back name.fqdn _ (above_back (λ servers. IfSome servers (IsFound name.fqdn)) (cut_at sets) name.fqdn each name.labels))
    (cut_found_back name.fqdn _ (nearest_back (λ servers. IfSome servers (IsFound name.fqdn)) (cut_at sets) name.fqdn each name.labels))

-- ---- under another name
owned_alone : (owner : DomainName) (ttl : ℕ) (r : Record) → (r.name.fqdn ≡ true → owner.fqdn ≡ true) → ReadsBackAlone r → ReadsBackAlone (record r { name = owner; ttl = ttl })
owned_alone owner ttl r full (inl (own, read)) = inl (record { owner = full own.owner; own_type = own.own_type; own_class = own.own_class }, read)
owned_alone owner ttl r full (inr far) = inr far

owned_back : (owner : DomainName) (ttl : ℕ) (r : Record) → (r.name.fqdn ≡ true → owner.fqdn ≡ true) → IsServable r → IsSoundUnder owner.fqdn (record r { name = owner; ttl = ttl })
owned_back owner ttl r full back = record { servable = record { alone = owned_alone owner ttl r full back.alone; of_zones = back.of_zones }; full = λ same. same }

module _ (fqdn : Bool) (owner : DomainName) (full : fqdn ≡ true → owner.fqdn ≡ true) where
  renamed_each : (rs : List Record) → AllByRecursion (IsSoundUnder fqdn) rs → AllByRecursion (IsSoundUnder owner.fqdn) (map (renamed_record owner) rs)
  renamed_each [] all = tt
  renamed_each (r ∷ rs) all = (owned_back owner r.ttl r (λ same. full (all.0.full same)) all.0.servable, renamed_each rs all.1)

  flattened_each : (ttl : ℕ) (rs : List Record) → AllByRecursion (IsSoundUnder fqdn) rs → AllByRecursion (IsSoundUnder owner.fqdn) (map (flattened_record owner ttl) rs)
  flattened_each ttl [] all = tt
  flattened_each ttl (r ∷ rs) all = (owned_back owner (min r.ttl ttl) r (λ same. full (all.0.full same)) all.0.servable, flattened_each ttl rs all.1)

renamed_back : (owner : DomainName) (set : RRset) → (set.name.fqdn ≡ true → owner.fqdn ≡ true) → SetIsSound set → SetIsSound (renamed owner set)
renamed_back owner set full back =
    record { records = renamed_each set.name.fqdn owner full set.records back.records; signatures = renamed_each set.name.fqdn owner full set.signatures back.signatures }

flattened_back : (owner : DomainName) (ttl : ℕ) (set : RRset) → (set.name.fqdn ≡ true → owner.fqdn ≡ true) → SetIsSound set → SetIsSound (flattened_set owner ttl set)
flattened_back owner ttl set full back =
    record { records = flattened_each set.name.fqdn owner full ttl set.records back.records; signatures = tt }

-- ---- what is found
found_set_back : (fqdn : Bool) (o : Option (DomainName × RRset)) → IfSome o (λ entry. IsFound fqdn entry.1) → IfSome (found_set o) (IsFound fqdn)
found_set_back fqdn None all = tt
found_set_back fqdn (Some (at, set)) all = all

wildcard_back : (sets : List RRset) (name : DomainName) (t : RecordType) → AllByRecursion SetIsSound sets → IfSome (wildcard_answer sets name t) (IsFound name.fqdn)
wildcard_back sets name t back =
    let at_star = λ (ancestor : DomainName). here sets t (star ancestor) in
    let each = λ (labels : List (List ℕ)). here_back sets t (star (domain_name name.fqdn labels)) back in
    mapped (IsFound name.fqdn) (renamed (lowercase_name name)) (found_set (above at_star name))
    (weaker (IsFound name.fqdn) _ (found_set (above at_star name)) (λ set at. record { back = renamed_back (lowercase_name name) set at.full at.back; full = λ same. same })
    (found_set_back name.fqdn _ (above_back (IsFound name.fqdn) at_star name.fqdn each name.labels)))

pub found_back : (sets : List RRset) (name : DomainName) (t : RecordType) → AllByRecursion SetIsSound sets → IfSome (found sets name t) (IsFound name.fqdn)
found_back sets name t back =
    either (IsFound name.fqdn) (delegation sets name t) _ (delegation_back sets name t back)
    (either (IsFound name.fqdn) (here sets t name) (wildcard_answer sets name t) (here_back sets t name back) (wildcard_back sets name t back))

-- ---- the sets of an answer
links_back : (sets : List RRset) (t : RecordType) (start : Option DomainName) (chain : List RRset) → AllByRecursion SetIsSound sets → Links sets t start chain → AllByRecursion SetIsSound chain
links_back sets t start [] back links = tt
links_back sets t None (set ∷ chain) back links = absurd links
links_back sets t (Some name) (set ∷ chain) back links =
    let first = subst (λ o. IfSome o (IsFound name.fqdn)) links.0 (found_back sets name t back) in
    (first.back, links_back sets t (leads t set) chain back links.1)

listed_back : (fqdn : Bool) (o : Option RRset) (more : List RRset) → IfSome o (IsFound fqdn) → AllByRecursion SetIsSound more → AllByRecursion SetIsSound (listed o ++ more)
listed_back fqdn None more at later = later
listed_back fqdn (Some set) more at later = (at.back, later)

addresses_back : (sets : List RRset) (target : Option DomainName) → AllByRecursion SetIsSound sets → AllByRecursion SetIsSound (addresses sets target)
addresses_back sets None back = tt
addresses_back sets (Some name) back =
    listed_back name.fqdn (rrset_at sets name kind.A) (listed (rrset_at sets name kind.AAAA)) (stored_back sets name kind.A back) (one (rrset_at sets name kind.AAAA) (stored_back sets name kind.AAAA back))
  where
    one : (o : Option RRset) → IfSome o (IsFound name.fqdn) → AllByRecursion SetIsSound (listed o)
    one None at = tt
    one (Some set) at = (at.back, tt)

sound_both : (sets more : List RRset) → AllByRecursion SetIsSound sets → AllByRecursion SetIsSound more → AllByRecursion SetIsSound (sets ++ more)
sound_both [] more first later = later
sound_both (set ∷ sets) more first later = (first.0, sound_both sets more first.1 later)

targets_back : (sets : List RRset) (names : List DomainName) → AllByRecursion SetIsSound sets → AllByRecursion SetIsSound (flat_map (λ name. addresses sets (Some name)) names)
targets_back sets [] back = tt
targets_back sets (name ∷ names) back =
    sound_both (addresses sets (Some name)) (flat_map (λ other. addresses sets (Some other)) names) (addresses_back sets (Some name) back) (targets_back sets names back)

additionals_back : (sets : List RRset) (first : RRset) → AllByRecursion SetIsSound sets → AllByRecursion SetIsSound (additionals sets first)
additionals_back sets first back = by (has_additionals first.record_type)
  where
    by : (b : Bool) → AllByRecursion SetIsSound (cond b (flat_map (λ name. addresses sets (Some name)) (once (targets first.records))) [])
    by true = targets_back sets (once (targets first.records)) back
    by false = tt

of_type_back : (t : RecordType) (o : Option RRset) → IfSome o SetIsSound → IfSome (of_type t o) SetIsSound
of_type_back t None all = tt
of_type_back t (Some set) all = chosen SetIsSound (same_record_type set.record_type t) (Some set) None all tt

behind_back : (sets : List RRset) (t : RecordType) (target : Option DomainName) → AllByRecursion SetIsSound sets → IfSome (behind_alias sets t target) SetIsSound
behind_back sets t None back = tt
behind_back sets t (Some name) back = of_type_back t (found sets name t) (weaker (IsFound name.fqdn) SetIsSound (found sets name t) (λ set at. at.back) (found_back sets name t back))

-- Each set of an answer reads back.
pub record AnswerReadsBack (answer : Answer) : Type 0 where
  pub answers : AllByRecursion SetIsSound answer.answers
  pub additionals : AllByRecursion SetIsSound answer.additionals

abbrev pub OutcomeReadsBack : Outcome → Type 0
OutcomeReadsBack (answered answer) = AnswerReadsBack answer
OutcomeReadsBack denied = Unit {0}

-- A record with a target doesn't exceed RDLENGTH, so its owner is fully qualified.
leading_full : (r : Record) (to : DomainName) → target_of r.rdata ≡ Some to → ReadsBackAlone r → r.name.fqdn ≡ true
leading_full r to leads (inl (own, read)) = own.owner
leading_full r to leads (inr far) = absurd (by r.rdata leads far)
  where
    by : (v : RData) → target_of v ≡ Some to → ExceedsRdlength v → ⊥
    by (rdata.CNAME cname) leads far = far
    by (rdata.ANAME aname) leads far = far
    by (rdata.NS ns) leads far = far
    by (rdata.MX mx) leads far = far
    by (rdata.SRV srv) leads far = far
    by other leads far = absurd (cc leads)

-- So is the owner of a set with a target.
target_full : (fqdn : Bool) (rs : List Record) (to : DomainName) → AllByRecursion (IsSoundUnder fqdn) rs → first_target rs ≡ Some to → fqdn ≡ true
target_full fqdn [] to all leads = absurd (cc leads)
target_full fqdn (r ∷ rs) to all leads = all.0.full (leading_full r to leads all.0.servable.alone)

alias_back : (name : DomainName) (alias : RRset) (behind : Option RRset) → IsFound name.fqdn alias → (is_some behind ≡ true → alias.name.fqdn ≡ true) → IfSome behind SetIsSound → AnswerReadsBack (alias_answer name alias behind)
alias_back name alias None at full behind = record { answers = (at.back, tt); additionals = tt }
alias_back name alias (Some set) at full behind =
    record { answers = (flattened_back (lowercase_name name) (alias_ttl alias.records) set (λ same. at.full (full refl)) behind, tt); additionals = (at.back, tt) }

-- An alias answers with a set of its target only if it has one.
behind_leads : (sets : List RRset) (t : RecordType) (fqdn : Bool) (rs : List Record) → AllByRecursion (IsSoundUnder fqdn) rs → (target : Option DomainName) → first_target rs ≡ target → is_some (behind_alias sets t target) ≡ true → fqdn ≡ true
behind_leads sets t fqdn rs all None leads some = absurd (true≢false (sym some))
behind_leads sets t fqdn rs all (Some to) leads some = target_full fqdn rs to all leads

answer_back : (sets : List RRset) (name : DomainName) (t : RecordType) (first : RRset) (answer : Answer) → AllByRecursion SetIsSound sets → IsFound name.fqdn first → AnswersFrom sets name t first answer → AnswerReadsBack answer
answer_back sets name t first answer back at (flat, chain) = by (is_flattened t first) refl
  where
    by : (b : Bool) → is_flattened t first ≡ b → AnswerReadsBack answer
    by true e = subst AnswerReadsBack (sym (flat e)) (alias_back name first _ at (behind_leads sets t first.name.fqdn first.records at.back.records (first_target first.records) refl) (behind_back sets t (first_target first.records) back))
    by false e =
        let is = chain e in
        record {
          answers = links_back sets t (Some name) answer.answers back is.0.links;
          additionals = subst (AllByRecursion SetIsSound) (sym is.1) (additionals_back sets first back);
        }

-- ---- what a lookup answers
denial_back : (zone : Zone) (name : DomainName) → OutcomeReadsBack (denial zone name)
denial_back zone name = by (exists_in zone.sets name) (is_at_or_below name zone.origin)
  where
    by : (there inside : Bool) → OutcomeReadsBack (cond there name_exists (cond inside name_error out_of_zone))
    by true inside = tt
    by false true = tt
    by false false = tt

from_back : (zone : Zone) (name : DomainName) (t : RecordType) (o : Option RRset) (outcome : Outcome) → ZoneIsSound zone → IfSome o (IsFound name.fqdn) → LookupFrom zone name t o outcome → OutcomeReadsBack outcome
from_back zone name t None outcome back at is = subst OutcomeReadsBack (sym is) (denial_back zone name)
from_back zone name t (Some first) outcome back at (answer, is, from) = subst OutcomeReadsBack (sym is) (answer_back zone.sets name t first answer back at from)

pub filter_back : {X : Type 0} (P : X → Type 0) (test : X → Bool) (xs : List X) → AllByRecursion P xs → AllByRecursion P (filter test xs)
filter_back P test [] all = tt
filter_back P test (x ∷ xs) all = by (test x) (filter_back P test xs all.1)
  where
    by : (b : Bool) → AllByRecursion P (filter test xs) → AllByRecursion P (cond b (x ∷ filter test xs) (filter test xs))
    by true more = (all.0, more)
    by false more = more

all_back : (zone : Zone) (name : DomainName) (sets : List RRset) → AllByRecursion SetIsSound sets → OutcomeReadsBack (all_outcome zone name sets)
all_back zone name [] all = denial_back zone name
all_back zone name (set ∷ sets) all = record { answers = all; additionals = tt }

pub lookup_back : (zone : Zone) (name : DomainName) (t : RecordType) (outcome : Outcome) → ZoneIsSound zone → IsLookup zone name t outcome → OutcomeReadsBack outcome
lookup_back zone name t outcome back is = by (same_record_type t kind.ANY) refl
  where
    by : (b : Bool) → same_record_type t kind.ANY ≡ b → OutcomeReadsBack outcome
    by true e = subst OutcomeReadsBack (sym (is.any e)) (all_back zone name (sets_of_name zone.sets name) (filter_back SetIsSound (λ set. name_eq name set.name) zone.sets back))
    by false e = from_back zone name t (found zone.sets name t) outcome back (found_back zone.sets name t back) (is.one e)

-- ---- the records that are shown
pub append_back : (rs more : List Record) → AllByRecursion IsServable rs → AllByRecursion IsServable more → AllByRecursion IsServable (rs ++ more)
append_back [] more first later = later
append_back (r ∷ rs) more first later = (first.0, append_back rs more first.1 later)

servable_each : (fqdn : Bool) (rs : List Record) → AllByRecursion (IsSoundUnder fqdn) rs → AllByRecursion IsServable rs
servable_each fqdn [] all = tt
servable_each fqdn (r ∷ rs) all = (all.0.servable, servable_each fqdn rs all.1)

shown_back : (dnssec_ok : Bool) (set : RRset) → SetIsSound set → AllByRecursion IsServable (shown dnssec_ok set)
shown_back true set back = append_back set.records set.signatures (servable_each set.name.fqdn set.records back.records) (servable_each set.name.fqdn set.signatures back.signatures)
shown_back false set back = servable_each set.name.fqdn set.records back.records

pub sets_shown_back : (dnssec_ok : Bool) (sets : List RRset) → AllByRecursion SetIsSound sets → AllByRecursion IsServable (sets_shown dnssec_ok sets)
sets_shown_back dnssec_ok [] all = tt
sets_shown_back dnssec_ok (set ∷ sets) all = append_back (shown dnssec_ok set) (sets_shown dnssec_ok sets) (shown_back dnssec_ok set all.0) (sets_shown_back dnssec_ok sets all.1)

-- ---- a zone as it is transferred
between_back : (soa : Option RRset) (fqdn : Bool) (others : List Record) → IfSome soa (IsFound fqdn) → AllByRecursion IsServable others → AllByRecursion IsServable (between_soas soa others)
between_back None fqdn others first all = tt
between_back (Some soa) fqdn others first all =
    let own = servable_each soa.name.fqdn soa.records first.back.records in
    append_back soa.records (others ++ soa.records) own (append_back others soa.records all own)

pub transferred_back : (zone : Zone) (dnssec_ok : Bool) → ZoneIsSound zone → AllByRecursion IsServable (transfer_of zone dnssec_ok)
transferred_back zone dnssec_ok back =
    between_back (rrset_at zone.sets zone.origin kind.SOA) zone.origin.fqdn (axfr_records zone.origin dnssec_ok zone.sets) (stored_back zone.sets zone.origin kind.SOA back)
    (filter_back IsServable (λ r. not (is_start zone.origin r)) (sets_shown dnssec_ok zone.sets) (sets_shown_back dnssec_ok zone.sets back))
