-- Answers, as their records come one after the other.
use Rattle.std.specs.Prelude.{◌≡◌, ℕ, Bool, true, false, List, [], ◌∷◌, ◌++◌, map, drop, not, ◌&&◌, Option, Some, None, Ok, Err, option_map, if◌then◌else◌}
use Rattle.zst_record.specs.drd_rdata.Types.{type_of}
use Rattle.std.specs.List.{flat_map}
use Rattle.zst_record.specs.declared.records.Record.{Record}
use Rattle.zst_record.specs.RecordSets.{RRset, flattened_record, flattened_set, renamed, renamed_record}
use Rattle.zst_handler.specs.declared.answer_set.AnswerSet.{AnswerSet}
use Rattle.zst_handler.specs.declared.answer_set.Guise.{Guise}
use Rattle.zst_handler.specs.declared.answer_set.Guise.TheVariants as guises
use Rattle.zst_handler.specs.declared.answer_set.Owner.{Owner}
use Rattle.zst_handler.specs.declared.answer_set.Owner.TheVariants as owners
use Rattle.zst_handler.specs.declared.auth_lookup.AuthLookup.{AuthLookup}
use Rattle.zst_handler.specs.declared.auth_lookup.AuthLookup.TheVariants as auths
use Rattle.zst_handler.specs.declared.lookup_options.LookupOptions.{LookupOptions}
use Rattle.zst_handler.specs.declared.lookup_records.LookupRecords.{LookupRecords}
use Rattle.zst_handler.specs.declared.lookup_records.LookupRecords.TheVariants as lookups
use Rattle.zst_handler.specs.Lookups.{Answer, IsLookup, Outcome, answered, name_error, name_exists, out_of_zone}
use Rattle.zst_handler.specs.Zones.{Zone}
use Rattle.zst_record.specs.dnw_codes.declared.record_type.RecordType.{RecordType}
use Rattle.zst_record.specs.dnw_name.DomainName.{DomainName}
use Rattle.zst_edns.specs.zst_codes.declared.lookup_control_flow.LookupControlFlow.{LookupControlFlow}
use Rattle.zst_edns.specs.zst_codes.declared.lookup_control_flow.LookupControlFlow.TheVariants as flows
use Rattle.zst_edns.specs.zst_codes.declared.lookup_error.LookupError.{LookupError}
use Rattle.zst_edns.specs.zst_codes.declared.lookup_error.LookupError.TheVariants as errors
use Rattle.zst_edns.specs.zst_codes.declared.response_code.ResponseCode.TheVariants as codes

-- The set as it answers: the zone's own, or under another name.
abbrev pub under : RRset → Option DomainName → Option ℕ → RRset
under set None behind = set
under set (Some owner) None = renamed owner set
under set (Some owner) (Some ttl) = flattened_set owner ttl set

-- The name under which it is shown, if it isn't its own.
abbrev pub owner_name : Owner → Option DomainName
owner_name owners.Own = None
owner_name (owners.Lent name) = Some name.now
owner_name (owners.Made name) = Some name.value

abbrev pub set_in : AnswerSet → RRset
set_in answer = under answer.set.now (owner_name answer.owner) answer.behind

abbrev pub first_of : List Record → Option Record
first_of [] = None
first_of (r ∷ rs) = Some r

-- The type of the first record.
abbrev pub first_type : List Record → Option RecordType
first_type records = option_map (λ r. type_of r.rdata) (first_of records)

-- A record as it is shown.
abbrev pub shown_as : Guise → Record → Record
shown_as guises.Own r = r
shown_as (guises.Renamed name) r = renamed_record name.now r
shown_as (guises.Flattened name ttl) r = flattened_record name.now ttl r

-- The records of a set, and behind them its signatures where these are asked for.
abbrev pub shown : Bool → RRset → List Record
shown dnssec_ok set = if dnssec_ok then set.records ++ set.signatures else set.records

-- The records of sets, one set behind the other.
abbrev pub sets_shown : Bool → List RRset → List Record
sets_shown dnssec_ok ss = flat_map (shown dnssec_ok) ss

abbrev pub all_shown : Bool → List AnswerSet → List Record
all_shown dnssec_ok ss = flat_map (λ set. shown dnssec_ok (set_in set)) ss

-- What is left of an answer: of one set, as it is shown, and the sets behind so many.
abbrev pub left_over : Guise → List Record → Bool → List AnswerSet → ℕ → List Record
left_over guise current dnssec_ok ss n =
    map (shown_as guise) current ++ all_shown dnssec_ok (drop n ss)

abbrev pub none_in : List Record → Bool
none_in [] = true
none_in (r ∷ rs) = false

-- The records of an answer.
abbrev pub records_in : LookupRecords → List Record
records_in lookups.Empty = []
records_in (lookups.Records options set) = shown options.dnssec_ok (set_in set)
records_in (lookups.ManyRecords options many) = all_shown options.dnssec_ok many.items
records_in (lookups.Section records) = records.items

abbrev pub records_if : Option LookupRecords → List Record
records_if None = []
records_if (Some records) = records_in records

-- The records that answer.
abbrev pub answers_in : AuthLookup → List Record
answers_in auths.Empty = []
answers_in (auths.Records answers additionals) = records_in answers
answers_in (auths.Response answers authorities additionals) = answers.items

-- Whether it was made for the answer.
abbrev pub is_made : Owner → Bool
is_made (owners.Made name) = true
is_made other = false

-- Sets that are lent, as the name that they are shown under is: their list takes no memory.
abbrev pub is_set_lent : AnswerSet → Bool
is_set_lent answer = not (is_made answer.owner)

abbrev pub is_lent : LookupRecords → Bool
is_lent lookups.Empty = true
is_lent (lookups.Records options set) = is_set_lent set
is_lent other = false

abbrev pub lends_all : AuthLookup → Bool
lends_all auths.Empty = true
lends_all (auths.Records answers None) = is_lent answers
lends_all (auths.Records answers (Some additionals)) = is_lent answers && is_lent additionals
lends_all (auths.Response answers authorities additionals) = false

-- The records that go with them.
abbrev pub additionals_in : AuthLookup → List Record
additionals_in auths.Empty = []
additionals_in (auths.Records answers additionals) = records_if additionals
additionals_in (auths.Response answers authorities additionals) = additionals.items

-- The records of authority that come with them.
abbrev pub authorities_in : AuthLookup → List Record
authorities_in auths.Empty = []
authorities_in (auths.Records answers additionals) = []
authorities_in (auths.Response answers authorities additionals) = authorities.items

-- The records of authority, and those that go with the answer, where there is a list of them.
abbrev pub authorities_of : AuthLookup → Option (List Record)
authorities_of (auths.Response answers authorities additionals) = Some authorities.items
authorities_of other = None

abbrev pub additionals_of : AuthLookup → Option (List Record)
additionals_of auths.Empty = None
additionals_of (auths.Records answers additionals) = option_map records_in additionals
additionals_of (auths.Response answers authorities additionals) = Some additionals.items

-- The records of a zone that answer, and those that go with them, where it is a zone's answer.
abbrev pub zone_records : AuthLookup → Option LookupRecords
zone_records (auths.Records answers additionals) = Some answers
zone_records other = None

abbrev pub zone_additionals : AuthLookup → Option LookupRecords
zone_additionals (auths.Records answers additionals) = additionals
zone_additionals other = None

-- The answer when these were taken out.
abbrev pub without_additionals : AuthLookup → AuthLookup
without_additionals (auths.Records answers additionals) = auths.Records answers None
without_additionals other = other

-- An answer, record by record.
pub record ShowsAnswer (options : LookupOptions) (answer : Answer) (found : AuthLookup) :
    Type 0 where
  pub answers : answers_in found ≡ sets_shown options.dnssec_ok answer.answers
  pub additionals : additionals_in found ≡ sets_shown options.dnssec_ok answer.additionals
  pub authorities : authorities_in found ≡ []

-- ---- what a stored zone's handler answers
-- Why nothing is found.
abbrev pub denial_error : Outcome → LookupError
denial_error (answered answer) = errors.NameExists
denial_error name_exists = errors.NameExists
denial_error name_error = errors.ResponseCode codes.NXDomain
denial_error out_of_zone = errors.ResponseCode codes.Refused

-- The outcome of a lookup as the handler tells it: handlers behind it may change it.
abbrev pub Tells : LookupOptions → Outcome → LookupControlFlow AuthLookup LookupError → Type 0
Tells options (answered answer) flow =
    (found : AuthLookup) × (flow ≡ flows.Continue (Ok found)) × ShowsAnswer options answer found
Tells options denied flow = flow ≡ flows.Continue (Err (denial_error denied))

pub record LookupAnswers (zone : Zone) (name : DomainName) (record_type : RecordType)
    (options : LookupOptions) (flow : LookupControlFlow AuthLookup LookupError) : Type 0 where
  pub outcome : Outcome
  pub is : IsLookup zone name record_type outcome
  pub told : Tells options outcome flow
