-- What a stored zone answers to a name and a type: RFC 1034, section 4.3.2; RFC 2308, section 2.
use Rattle.std.specs.Prelude.{◌≡◌, ℕ, Bool, true, false, not, ◌&&◌, List, [], ◌∷◌, ◌++◌, Option, Some, None, if◌then◌else◌}
use Rattle.std.specs.List.{filter, filter_map, flat_map}
use Rattle.zst_record.specs.dnw_codes.declared.record_type.RecordType.{RecordType}
use Rattle.zst_record.specs.dnw_codes.declared.record_type.RecordType.TheVariants as kind
use Rattle.zst_record.specs.dnw_codes.RecordType.{same_record_type}
use Rattle.zst_record.specs.dnw_name.DomainName.{DomainName, is_at_or_below, lowercase_name, name_eq}
use Rattle.zst_record.specs.declared.records.Record.{Record}
use Rattle.zst_record.specs.RecordSets.{RRset, flattened_set}
use Rattle.zst_handler.specs.Chains.{first_target, target_of, IsAliasChain}
use Rattle.zst_handler.specs.Found.{found, is_address}
use Rattle.zst_handler.specs.Zones.{Zone, exists_in, rrset_at}

-- The sets that answer, and those that go with them.
pub record Answer : Type 0 where
  pub answers : List RRset
  pub additionals : List RRset

-- The answer, or why there is none.
pub data Outcome : Type 0 where
  answered : Answer → Outcome
  name_exists name_error out_of_zone : Outcome

-- Where nothing is found.
abbrev pub denial : Zone → DomainName → Outcome
denial zone name =
    if exists_in zone.sets name then name_exists
    else if is_at_or_below name zone.origin then name_error else out_of_zone

-- A list of the set, if there is one.
abbrev pub listed : Option RRset → List RRset
listed None = []
listed (Some set) = set ∷ []

-- The addresses stored at a name, glue too (RFC 1034, section 4.2.1).
abbrev pub addresses : List RRset → Option DomainName → List RRset
addresses sets None = []
addresses sets (Some name) =
    listed (rrset_at sets name kind.A) ++ listed (rrset_at sets name kind.AAAA)

-- These types have the addresses of their targets as additional data (RFC 1035, sections 3.3.9 and
-- 3.3.11; RFC 2782; RFC 3596, section 3).
abbrev pub has_additionals : RecordType → Bool
has_additionals record_type =
    if same_record_type record_type kind.NS then true
    else if same_record_type record_type kind.MX then true
    else same_record_type record_type kind.SRV

-- Names without those that equal an earlier one.
abbrev pub once : List DomainName → List DomainName
once [] = []
once (name ∷ names) = name ∷ filter (λ other. not (name_eq name other)) (once names)

-- The targets of records.
abbrev pub targets : List Record → List DomainName
targets rs = filter_map (λ r. target_of r.rdata) rs

-- The additional data of the set that was found first: the addresses of the target of each record,
-- in order, each target once (RFC 1034, section 4.3.2, step 6).
abbrev pub additionals : List RRset → RRset → List RRset
additionals sets first =
    if has_additionals first.record_type
    then flat_map (λ name. addresses sets (Some name)) (once (targets first.records)) else []

-- The time to live of an alias.
abbrev pub alias_ttl : List Record → ℕ
alias_ttl [] = 0
alias_ttl (r ∷ rs) = r.ttl

-- The addresses to which an alias for addresses leads, in its place.
abbrev pub flattened : DomainName → RRset → RRset → RRset
flattened owner alias set = flattened_set owner (alias_ttl alias.records) set

-- The set of the type that an alias for addresses leads to.
abbrev pub of_type : RecordType → Option RRset → Option RRset
of_type record_type None = None
of_type record_type (Some set) =
    if same_record_type set.record_type record_type then Some set else None

abbrev pub behind_alias : List RRset → RecordType → Option DomainName → Option RRset
behind_alias sets record_type None = None
behind_alias sets record_type (Some name) = of_type record_type (found sets name record_type)

-- What an alias for addresses answers: the addresses behind it, and itself beside them; itself
-- alone where there are none.
abbrev pub alias_answer : DomainName → RRset → Option RRset → Answer
alias_answer name alias None = record { answers = alias ∷ []; additionals = [] }
alias_answer name alias (Some set) = record {
  answers = flattened (lowercase_name name) alias set ∷ [];
  additionals = alias ∷ [];
}

abbrev pub is_flattened : RecordType → RRset → Bool
is_flattened record_type first =
    same_record_type first.record_type kind.ANAME && is_address record_type

-- What the set that was found first answers: its alias chain, and what goes with it.
abbrev pub AnswersFrom : List RRset → DomainName → RecordType → RRset → Answer → Type 0
AnswersFrom sets name record_type first answer =
    (is_flattened record_type first ≡ true
    → answer
    ≡ alias_answer name first (behind_alias sets record_type (first_target first.records)))
    × (is_flattened record_type first ≡ false
    → IsAliasChain sets name record_type answer.answers
    × (answer.additionals ≡ additionals sets first))

abbrev pub LookupFrom : Zone → DomainName → RecordType → Option RRset → Outcome → Type 0
LookupFrom zone name record_type None outcome = outcome ≡ denial zone name
LookupFrom zone name record_type (Some first) outcome =
    (answer : Answer) × (outcome ≡ answered answer)
    × AnswersFrom zone.sets name record_type first answer

-- All sets of a name, by rising type.
abbrev pub sets_of_name : List RRset → DomainName → List RRset
sets_of_name sets name = filter (λ set. name_eq name set.name) sets

abbrev pub all_outcome : Zone → DomainName → List RRset → Outcome
all_outcome zone name [] = denial zone name
all_outcome zone name (set ∷ sets) =
    answered (record { answers = set ∷ sets; additionals = [] })

-- What a lookup answers. A question for any type asks the name's own sets alone.
pub record IsLookup (zone : Zone) (name : DomainName) (record_type : RecordType)
    (outcome : Outcome) : Type 0 where
  pub any : same_record_type record_type kind.ANY ≡ true
      → outcome ≡ all_outcome zone name (sets_of_name zone.sets name)
  pub one : same_record_type record_type kind.ANY ≡ false
      → LookupFrom zone name record_type (found zone.sets name record_type) outcome
