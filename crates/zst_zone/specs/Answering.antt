-- What the sets of a zone answer, as a lookup gives it.
use Rattle.std.specs.Prelude.{◌≡◌, ℕ, List, [], ◌∷◌, map, length, Option, Some, None, IsSomeAnd, if◌then◌else◌}
use Rattle.std.specs.List.{flat_map, list_any}
use Rattle.zst_circle.specs.dnw_codes.declared.record_type.RecordType.{RecordType}
use Rattle.zst_circle.specs.dnw_name.DomainName.{DomainName, lowercase_name, name_eq}
use Rattle.zst_circle.specs.zst_record.RecordSets.{RRset}
use Rattle.zst_circle.specs.zst_record.declared.records.Record.{Record}
use Rattle.zst_circle.specs.zst_handler.declared.auth_lookup.AuthLookup.{AuthLookup}
use Rattle.zst_circle.specs.zst_handler.declared.lookup_options.LookupOptions.{LookupOptions}
use Rattle.zst_circle.specs.zst_handler.Answers.{ShowsAnswer}
use Rattle.zst_circle.specs.zst_handler.Chains.{IsAliasChain, Links, NoneTwice, asked_names, end_of}
use Rattle.zst_circle.specs.zst_handler.Lookups.{Answer, AnswersFrom, addresses, flattened, once, targets}
use Rattle.zst_circle.specs.zst_handler.Zones.{AreInOrder, AreStored}

-- A set, or its records under another name: both are the same where they stand in for an alias.
abbrev pub IsBehind : Option RRset → Option RRset → Type 0
IsBehind None found = found ≡ None
IsBehind (Some set) found =
    IsSomeAnd found
    (λ from. (owner : DomainName) (alias : RRset) → flattened owner alias set
    ≡ flattened owner alias from)

-- What answers one question: the set that was found, with what follows.
abbrev pub AnswersSet : LookupOptions → List RRset → DomainName → RecordType → RRset → AuthLookup
    → Type 0
AnswersSet options sets name record_type first found =
    (answer : Answer) × AnswersFrom sets name record_type first answer
    × ShowsAnswer options answer found

abbrev pub AnswersOne : LookupOptions → List RRset → DomainName → RecordType → Option RRset
    → Option AuthLookup → Type 0
AnswersOne options sets name record_type None found = found ≡ None
AnswersOne options sets name record_type (Some first) found =
    IsSomeAnd found (AnswersSet options sets name record_type first)

-- The addresses of the targets of records, each target once.
abbrev pub target_addresses : List RRset → List Record → List RRset
target_addresses sets rs = flat_map (λ name. addresses sets (Some name)) (once (targets rs))

-- The addresses of a name that was not seen before.
abbrev pub unseen : List RRset → List DomainName → DomainName → List RRset
unseen sets seen name =
    if list_any (name_eq name) seen then [] else addresses sets (Some name)

-- What is left to list from a record on: the addresses of targets that were not seen before.
abbrev pub left_to_list : List RRset → List DomainName → List Record → List RRset
left_to_list sets seen rs = flat_map (unseen sets seen) (once (targets rs))

-- What answers a question for any type: all sets, if there is one.
abbrev pub AnswersAll : LookupOptions → List RRset → Option AuthLookup → Type 0
AnswersAll options [] found = found ≡ None
AnswersAll options (set ∷ sets) found =
    IsSomeAnd found (ShowsAnswer options (record { answers = set ∷ sets; additionals = [] }))

-- So many sets of an alias chain, in order, lead from a name to the next one (RFC 1034, section
-- 3.6.2); these are the keys of the names asked.
pub record LeadsTo (zone : List RRset) (name : DomainName) (record_type : RecordType)
    (chain : List RRset) (keys : List DomainName) (n : ℕ) (next : DomainName) : Type 0 where
  pub links : Links zone record_type (Some name) chain
  pub once : NoneTwice [] (asked_names record_type (Some name) chain)
  pub asked : keys ≡ map lowercase_name (asked_names record_type (Some name) chain)
  pub count : length chain ≡ n
  pub ends : end_of record_type (Some name) chain ≡ Some next

-- So many sets lead on, or they are the whole chain.
abbrev pub LeadsOn : List RRset → DomainName → RecordType → List RRset → List DomainName → ℕ
    → Option DomainName → Type 0
LeadsOn zone name record_type chain keys n None = IsAliasChain zone name record_type chain
LeadsOn zone name record_type chain keys n (Some next) =
    LeadsTo zone name record_type chain keys n next

-- This is the key of the zone's origin, and its sets stand in order, each with its records.
pub record IsKept (origin key : DomainName) (sets : List RRset) : Type 0 where
  pub at : key ≡ lowercase_name origin
  pub ordered : AreInOrder sets
  pub stored : AreStored sets
