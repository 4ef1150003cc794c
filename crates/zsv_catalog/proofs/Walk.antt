-- What holds of every set with which a lookup may begin, and is kept when a set is shown under another name, holds of every set that it answers with.
use Rattle.std.proofs.Common.{◌≡◌, refl, subst, sym}
use Rattle.std.specs.Prelude.{ℕ, Bool, true, false, List, [], ◌∷◌, Option, Some, None, IfSome, cond, is_some, option_map}
use Rattle.std.specs.List.{AllByRecursion}
use Rattle.zsv_answer.specs.zst_request.dnw_codes.declared.record_type.RecordType.{RecordType}
use Rattle.zsv_answer.specs.zst_request.dnw_codes.declared.record_type.RecordType.TheVariants as kind
use Rattle.zsv_answer.specs.zst_request.dnw_codes.RecordType.{same_record_type}
use Rattle.zsv_answer.specs.zst_request.dnw_name.DomainName.{DomainName, domain_name, is_at_or_below, lowercase_name}
use Rattle.zsv_update.specs.zsv_chains.zst_key.Ancestors.{nearest_from, or_else, star}
use Rattle.zsv_answer.specs.zsv_reply.zst_record.RecordSets.{RRset, flattened_set, renamed}
use Rattle.zsv_answer.specs.zst_request.zst_handler.Chains.{Links, first_target, leads}
use Rattle.zsv_answer.specs.zst_request.zst_handler.Found.{above, cut_at, cut_found, delegation, found, found_set, here, is_address, wildcard_answer}
use Rattle.zsv_answer.specs.zst_request.zst_handler.Lookups.{Answer, AnswersFrom, IsLookup, LookupFrom, Outcome, alias_answer, alias_ttl, answered, behind_alias, denial, is_flattened, name_error, name_exists, of_type, out_of_zone}
use Rattle.zsv_answer.specs.zst_request.zst_handler.Zones.{Zone, exists_in, rrset_at}

-- Of sets that are found for a type at names of either flag the one holds, of those that answer the other.
pub record Keeps (sets : List RRset) (t : RecordType) (Found : Bool → RRset → Type 0) (Shown : RRset → Type 0) : Type 0 where
  pub own : (name : DomainName) → IfSome (rrset_at sets name t) (Found name.fqdn)
  pub alias : (name : DomainName) → IfSome (rrset_at sets name kind.CNAME) (Found name.fqdn)
  pub flat : (name : DomainName) → IfSome (rrset_at sets name kind.ANAME) (Found name.fqdn)
  pub servers : (name : DomainName) → IfSome (rrset_at sets name kind.NS) (Found name.fqdn)
  pub renames : (name : DomainName) (set : RRset) → Found name.fqdn set → Found name.fqdn (renamed (lowercase_name name) set)
  pub shows : (fqdn : Bool) (set : RRset) → Found fqdn set → Shown set
  pub flattens : (name : DomainName) (ttl : ℕ) (first set : RRset) → Found name.fqdn first → Shown set → Shown (flattened_set (lowercase_name name) ttl set)

-- ---- choices
either : {X : Type 0} (P : X → Type 0) (a b : Option X) → IfSome a P → IfSome b P → IfSome (or_else a b) P
either P (Some x) b first second = first
either P None b first second = second

chosen : {X : Type 0} (P : X → Type 0) (test : Bool) (a b : Option X) → IfSome a P → IfSome b P → IfSome (cond test a b) P
chosen P true a b first second = first
chosen P false a b first second = second

mapped : {X Y : Type 0} (P : Y → Type 0) (f : X → Y) (o : Option X) → IfSome o (λ x. P (f x)) → IfSome (option_map f o) P
mapped P f None all = tt
mapped P f (Some x) all = all

pub weaker : {X : Type 0} (P Q : X → Type 0) (o : Option X) → ((x : X) → P x → Q x) → IfSome o P → IfSome o Q
weaker P Q None f all = tt
weaker P Q (Some x) f all = f x all

-- ---- the names above
abbrev with_name : {X : Type 0} → DomainName → X → DomainName × X
with_name name x = (name, x)

module _ {X : Type 0} (P : X → Type 0) (at : DomainName → Option X) (fqdn : Bool) (each : (labels : List (List ℕ)) → IfSome (at (domain_name fqdn labels)) P) where
  at_holds : (labels : List (List ℕ)) → IfSome (option_map (with_name (domain_name fqdn labels)) (at (domain_name fqdn labels))) (λ entry. P entry.1)
  at_holds labels = mapped (λ entry. P entry.1) (with_name (domain_name fqdn labels)) (at (domain_name fqdn labels)) (each labels)

  nearest_holds : (labels : List (List ℕ)) → IfSome (nearest_from at fqdn labels) (λ entry. P entry.1)
  nearest_holds [] = at_holds []
  nearest_holds (label ∷ labels) = either (λ entry. P entry.1) _ (nearest_from at fqdn labels) (at_holds (label ∷ labels)) (nearest_holds labels)

  above_holds : (labels : List (List ℕ)) → IfSome (above at (domain_name fqdn labels)) (λ entry. P entry.1)
  above_holds [] = tt
  above_holds (label ∷ labels) = nearest_holds labels

cut_found_holds : (P : RRset → Type 0) (o : Option (DomainName × Option RRset)) → IfSome o (λ entry. IfSome entry.1 P) → IfSome (cut_found o) P
cut_found_holds P None all = tt
cut_found_holds P (Some (at, servers)) all = all

found_set_holds : (P : RRset → Type 0) (o : Option (DomainName × RRset)) → IfSome o (λ entry. P entry.1) → IfSome (found_set o) P
found_set_holds P None all = tt
found_set_holds P (Some (at, set)) all = all

pub denial_none : (P : Outcome → Type 0) (zone : Zone) (name : DomainName) → P name_exists → P name_error → P out_of_zone → P (denial zone name)
denial_none P zone name a b c = by (exists_in zone.sets name) (is_at_or_below name zone.origin)
  where
    by : (there inside : Bool) → P (cond there name_exists (cond inside name_error out_of_zone))
    by true inside = a
    by false true = b
    by false false = c

-- Each set of an answer is so.
abbrev pub OutcomeHolds : (RRset → Type 0) → Outcome → Type 0
OutcomeHolds Shown (answered answer) = AllByRecursion Shown answer.answers
OutcomeHolds Shown denied = Unit {0}

module _ (sets : List RRset) (t : RecordType) (Found : Bool → RRset → Type 0) (Shown : RRset → Type 0) (keeps : Keeps sets t Found Shown) where
  here_holds : (name : DomainName) → IfSome (here sets t name) (Found name.fqdn)
  here_holds name =
      either (Found name.fqdn) (rrset_at sets name t) _ (keeps.own name)
      (either (Found name.fqdn) (rrset_at sets name kind.CNAME) _ (keeps.alias name)
      (chosen (Found name.fqdn) (is_address t) (rrset_at sets name kind.ANAME) None (keeps.flat name) tt))

  cut_holds : (name : DomainName) → IfSome (cut_at sets name) (λ servers. IfSome servers (Found name.fqdn))
  cut_holds name =
      let starts = is_some (rrset_at sets name kind.SOA) in
      mapped (λ servers. IfSome servers (Found name.fqdn)) (λ servers. cond starts None (Some servers)) (rrset_at sets name kind.NS)
      (weaker (Found name.fqdn) _ (rrset_at sets name kind.NS) (λ servers at. chosen (Found name.fqdn) starts None (Some servers) tt at) (keeps.servers name))

  delegation_holds : (name : DomainName) → IfSome (delegation sets name t) (Found name.fqdn)
  delegation_holds name =
      let each = λ (labels : List (List ℕ)). cut_holds (domain_name name.fqdn labels) in
      chosen (Found name.fqdn) (same_record_type t kind.DS) (cut_found (above (cut_at sets) name)) (cut_found (nearest_from (cut_at sets) name.fqdn name.labels))
      (cut_found_holds (Found name.fqdn) _ (above_holds (λ servers. IfSome servers (Found name.fqdn)) (cut_at sets) name.fqdn each name.labels))
      (cut_found_holds (Found name.fqdn) _ (nearest_holds (λ servers. IfSome servers (Found name.fqdn)) (cut_at sets) name.fqdn each name.labels))

  wildcard_holds : (name : DomainName) → IfSome (wildcard_answer sets name t) (Found name.fqdn)
  wildcard_holds name =
      let at_star = λ (ancestor : DomainName). here sets t (star ancestor) in
      let each = λ (labels : List (List ℕ)). here_holds (star (domain_name name.fqdn labels)) in
      mapped (Found name.fqdn) (renamed (lowercase_name name)) (found_set (above at_star name))
      (weaker (Found name.fqdn) _ (found_set (above at_star name)) (keeps.renames name)
      (found_set_holds (Found name.fqdn) _ (above_holds (Found name.fqdn) at_star name.fqdn each name.labels)))

  -- The set that is found.
  pub found_holds : (name : DomainName) → IfSome (found sets name t) (Found name.fqdn)
  found_holds name =
      either (Found name.fqdn) (delegation sets name t) _ (delegation_holds name)
      (either (Found name.fqdn) (here sets t name) (wildcard_answer sets name t) (here_holds name) (wildcard_holds name))

  links_hold : (start : Option DomainName) (chain : List RRset) → Links sets t start chain → AllByRecursion Shown chain
  links_hold start [] links = tt
  links_hold None (set ∷ chain) links = absurd links
  links_hold (Some name) (set ∷ chain) links =
      (keeps.shows name.fqdn set (subst (λ o. IfSome o (Found name.fqdn)) links.0 (found_holds name)), links_hold (leads t set) chain links.1)

  of_type_holds : (o : Option RRset) → IfSome o Shown → IfSome (of_type t o) Shown
  of_type_holds None all = tt
  of_type_holds (Some set) all = chosen Shown (same_record_type set.record_type t) (Some set) None all tt

  behind_holds : (target : Option DomainName) → IfSome (behind_alias sets t target) Shown
  behind_holds None = tt
  behind_holds (Some name) = of_type_holds (found sets name t) (weaker (Found name.fqdn) Shown (found sets name t) (keeps.shows name.fqdn) (found_holds name))

  alias_holds : (name : DomainName) (alias : RRset) (behind : Option RRset) → Found name.fqdn alias → IfSome behind Shown → OutcomeHolds Shown (answered (alias_answer name alias behind))
  alias_holds name alias None at behind = (keeps.shows name.fqdn alias at, tt)
  alias_holds name alias (Some set) at behind = (keeps.flattens name (alias_ttl alias.records) alias set at behind, tt)

  answer_holds : (name : DomainName) (first : RRset) (answer : Answer) → Found name.fqdn first → AnswersFrom sets name t first answer → OutcomeHolds Shown (answered answer)
  answer_holds name first answer at (flat, chain) = by (is_flattened t first) refl
    where
      by : (b : Bool) → is_flattened t first ≡ b → OutcomeHolds Shown (answered answer)
      by true e = subst (λ (a : Answer). OutcomeHolds Shown (answered a)) (sym (flat e)) (alias_holds name first _ at (behind_holds (first_target first.records)))
      by false e = links_hold (Some name) answer.answers (chain e).0.links

module _ (zone : Zone) (t : RecordType) (Found : Bool → RRset → Type 0) (Shown : RRset → Type 0) (keeps : Keeps zone.sets t Found Shown) where
  from_holds : (name : DomainName) (o : Option RRset) (outcome : Outcome) → IfSome o (Found name.fqdn) → LookupFrom zone name t o outcome → OutcomeHolds Shown outcome
  from_holds name None outcome at is = subst (OutcomeHolds Shown) (sym is) (denial_none (OutcomeHolds Shown) zone name tt tt tt)
  from_holds name (Some first) outcome at (answer, is, from) = subst (OutcomeHolds Shown) (sym is) (answer_holds zone.sets t Found Shown keeps name first answer at from)

  -- What a lookup for one type answers.
  pub lookup_holds : (name : DomainName) (outcome : Outcome) → same_record_type t kind.ANY ≡ false → IsLookup zone name t outcome → OutcomeHolds Shown outcome
  lookup_holds name outcome one is = from_holds name (found zone.sets name t) outcome (found_holds zone.sets t Found Shown keeps name) (is.one one)
