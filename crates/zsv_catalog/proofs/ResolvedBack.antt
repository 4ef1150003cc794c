-- What a chain of handlers answers reads back, where what they hold does.
use Rattle.std.proofs.Common.{◌≡◌, subst, sym}
use Rattle.std.specs.Prelude.{Bool, true, false, cond, List, [], ◌∷◌, Option, Some, None, IfSome}
use Rattle.std.specs.List.{AllByRecursion, find}
use Rattle.std.specs.Ordering.{is_eq}
use Rattle.zsv_update.specs.zsv_chains.zst_key.dnw_name.DomainName.{DomainName, domain_name, lowercase_name, name_cmp}
use Rattle.zsv_answer.specs.Resolution.{GivesBlocked, ListResolves, Resolution, Resolves, ZoneResolves, answering, answers_name, enforced, enforced_by, last_of, outcome_shown, resolved}
use Rattle.zsv_answer.specs.zst_request.Blocking.{BlockedAnswer, blocked_answer}
use Rattle.zsv_answer.specs.zst_request.Handling.{is_enforced}
use Rattle.zsv_answer.specs.zst_request.Views.{Blocked, Stored, View}
use Rattle.zsv_answer.specs.zst_request.dnw_codes.declared.record_type.RecordType.{RecordType}
use Rattle.zsv_answer.specs.zst_request.zst_handler.Lookups.{Outcome, answered, name_error, name_exists, out_of_zone}
use Rattle.zsv_answer.specs.zst_request.zst_handler.Zones.{Zone}
use Rattle.zsv_answer.specs.zsv_reply.zst_record.Records.{IsServable}
use Rattle.zsv_update.specs.zsv_chains.Chains.{chain_at, chain_for, entry_for}
use Rattle.zsv_catalog.specs.ReadingBack.{ChainReadsBack, ChainsReadBack, ViewReadsBack}
use Rattle.zsv_catalog.proofs.BlockedBack.{AnswerReadsBack, answer_back, records_back}
use Rattle.zsv_catalog.proofs.ShownBack.{OutcomeReadsBack, lookup_back, mapped, nearest_back, sets_shown_back, zone_sound}

-- ---- which chain, and which handler
pub found_one : {X : Type 0} (P : X → Type 0) (test : X → Bool) (xs : List X) → AllByRecursion P xs → IfSome (find test xs) P
found_one P test [] all = tt
found_one P test (x ∷ xs) all = by (test x) (found_one P test xs all.1)
  where
    by : (b : Bool) → IfSome (find test xs) P → IfSome (cond b (Some x) (find test xs)) P
    by true later = all.0
    by false later = later

at_back : (chains : List (DomainName × List View)) (name : DomainName) → ChainsReadBack chains → IfSome (chain_at chains name) ChainReadsBack
at_back [] name all = tt
at_back (e ∷ chains) name all = by (is_eq (name_cmp name e.0)) (at_back chains name all.1)
  where
    by : (b : Bool) → IfSome (chain_at chains name) ChainReadsBack → IfSome (cond b (Some e.1) (chain_at chains name)) ChainReadsBack
    by true later = all.0
    by false later = later

pub entry_for_back : (chains : List (DomainName × List View)) (name : DomainName) → ChainsReadBack chains → IfSome (entry_for chains name) (λ entry. ChainReadsBack entry.1)
entry_for_back chains name all =
    let lower = lowercase_name name in
    nearest_back ChainReadsBack (chain_at chains) lower.fqdn (λ labels. at_back chains (domain_name lower.fqdn labels) all) lower.labels

pub for_back : (chains : List (DomainName × List View)) (name : DomainName) → ChainsReadBack chains → IfSome (chain_for chains name) ChainReadsBack
for_back chains name all = mapped ChainReadsBack (λ (entry : DomainName × List View). entry.1) (entry_for chains name) (entry_for_back chains name all)

pub answering_back : (chain : List View) (name : DomainName) → ChainReadsBack chain → IfSome (answering chain name) ViewReadsBack
answering_back chain name all = found_one ViewReadsBack (answers_name name) chain all

-- ---- lists that are enforced
last_back : {X : Type 0} (P : X → Type 0) (first second : Option X) → IfSome first P → IfSome second P → IfSome (last_of first second) P
last_back P first (Some x) one other = other
last_back P first None one other = one

enforced_one : (view : View) (name : DomainName) (t : RecordType) → name.fqdn ≡ true → ViewReadsBack view → IfSome (enforced_by view name t) AnswerReadsBack
enforced_one (Stored zone) name t full back = tt
enforced_one (Blocked blocklist) name t full back = by (is_enforced blocklist.consult_action)
  where
    by : (b : Bool) → IfSome (cond b (blocked_answer blocklist name t) None) AnswerReadsBack
    by true = answer_back blocklist name t full back
    by false = tt

enforced_back : (chain : List View) (name : DomainName) (t : RecordType) → name.fqdn ≡ true → ChainReadsBack chain → IfSome (enforced chain name t) AnswerReadsBack
enforced_back [] name t full all = tt
enforced_back (view ∷ views) name t full all =
    last_back AnswerReadsBack (enforced_by view name t) (enforced views name t) (enforced_one view name t full all.0) (enforced_back views name t full all.1)

-- ---- what is answered
-- The records of a resolution read back.
abbrev pub ResolutionReadsBack : Resolution → Type 0
ResolutionReadsBack (resolved answers additionals) = AllByRecursion IsServable answers × AllByRecursion IsServable additionals
ResolutionReadsBack other = Unit {0}

shown_outcome : (dnssec : Bool) (outcome : Outcome) → OutcomeReadsBack outcome → ResolutionReadsBack (outcome_shown dnssec outcome)
shown_outcome dnssec (answered answer) back = (sets_shown_back dnssec answer.answers back.answers, sets_shown_back dnssec answer.additionals back.additionals)
shown_outcome dnssec name_exists back = tt
shown_outcome dnssec name_error back = tt
shown_outcome dnssec out_of_zone back = tt

given_back : (answer : BlockedAnswer) (resolution : Resolution) → AnswerReadsBack answer → GivesBlocked answer resolution → ResolutionReadsBack resolution
given_back answer resolution back (rs, are, is) = subst ResolutionReadsBack (sym is) (records_back answer rs back are, tt)

zone_back : (zone : Zone) (o : Option BlockedAnswer) (name : DomainName) (t : RecordType) (dnssec : Bool) (resolution : Resolution) → ViewReadsBack (Stored zone) → IfSome o AnswerReadsBack → ZoneResolves zone o name t dnssec resolution → ResolutionReadsBack resolution
zone_back zone None name t dnssec resolution back over (outcome, is, same) =
    subst ResolutionReadsBack (sym same) (shown_outcome dnssec outcome (lookup_back zone name t outcome (zone_sound zone back.0 back.1) is))
zone_back zone (Some answer) name t dnssec resolution back over gives = given_back answer resolution over gives

list_back : (o : Option BlockedAnswer) (resolution : Resolution) → IfSome o AnswerReadsBack → ListResolves o resolution → ResolutionReadsBack resolution
list_back None resolution over gives = absurd gives
list_back (Some answer) resolution over gives = given_back answer resolution over gives

pub resolves_back : (chain : List View) (view : View) (name : DomainName) (t : RecordType) (dnssec : Bool) (resolution : Resolution) → name.fqdn ≡ true → ChainReadsBack chain → ViewReadsBack view → Resolves chain view name t dnssec resolution → ResolutionReadsBack resolution
resolves_back chain (Stored zone) name t dnssec resolution full all back gives =
    zone_back zone (enforced chain name t) name t dnssec resolution back (enforced_back chain name t full all) gives
resolves_back chain (Blocked blocklist) name t dnssec resolution full all back gives =
    list_back (blocked_answer blocklist name t) resolution (answer_back blocklist name t full back) gives
