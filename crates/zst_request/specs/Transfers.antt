-- A zone as it is transferred: RFC 5936, sections 2.2 and 5.
use Rattle.std.specs.Prelude.{ℕ, Bool, true, false, drop, not, ◌&&◌, List, [], ◌++◌, map, Option, Some, None, option_map, if◌then◌else◌}
use Rattle.std.specs.Borrow.{Bor}
use Rattle.std.specs.List.{filter}
use Rattle.zst_denial.specs.zst_key.Ancestors.{or_else}
use Rattle.zst_codes.specs.declared.response_code.ResponseCode.{ResponseCode}
use Rattle.zst_codes.specs.declared.response_code.ResponseCode.TheVariants as codes
use Rattle.zst_codes.specs.declared.settings.AxfrPolicy.{AxfrPolicy}
use Rattle.zst_codes.specs.declared.settings.AxfrPolicy.TheVariants as policies
use Rattle.zst_codes.specs.declared.settings.TsigVerdict.{TsigVerdict}
use Rattle.zst_denial.specs.zst_handler.Answers.{sets_shown}
use Rattle.zst_denial.specs.zst_handler.Zones.{Guard, Zone, rrset_at}
use Rattle.zst_denial.specs.dnw_codes.declared.record_type.RecordType.TheVariants.{SOA}
use Rattle.zst_denial.specs.dnw_codes.RecordType.{same_record_type}
use Rattle.zst_denial.specs.dnw_name.DomainName.{DomainName, name_eq}
use Rattle.zst_denial.specs.drd_rdata.Types.{type_of}
use Rattle.zst_denial.specs.zst_record.RecordSets.{RRset}
use Rattle.zst_denial.specs.zst_record.declared.records.Record.{Record}
use Rattle.zst_request.specs.Prerequisites.{refused_if}
use Rattle.zst_request.specs.Updating.{Asked, SignedBy, SigningContext, context_for, is_good}

-- ---- the records of a transfer (RFC 5936, section 2.2)
-- The record is an SOA of the origin.
abbrev pub is_start : DomainName → Record → Bool
is_start origin r = same_record_type (type_of r.rdata) SOA && name_eq origin r.name

abbrev pub without_start : DomainName → List Record → List Record
without_start origin rs = filter (λ r. not (is_start origin r)) rs

-- Every record of sets but the SOA of the origin, and after each set its signatures if they are
-- asked for.
abbrev pub axfr_records : DomainName → Bool → List RRset → List Record
axfr_records origin dnssec_ok sets = without_start origin (sets_shown dnssec_ok sets)

-- Records between an SOA and the same SOA again; nothing without an SOA.
abbrev pub between_soas : Option RRset → List Record → List Record
between_soas None others = []
between_soas (Some soa) others = soa.records ++ (others ++ soa.records)

-- A zone as it is transferred: the SOA of its origin, every other record, and that SOA again.
abbrev pub transfer_of : Zone → Bool → List Record
transfer_of zone dnssec_ok =
    between_soas (rrset_at zone.sets zone.origin SOA)
    (axfr_records zone.origin dnssec_ok zone.sets)

-- ---- records still to come
abbrev pub lent_sets : List (Bor RRset) → List RRset
lent_sets rrsets = map (λ set. set.now) rrsets

-- The sets of a zone, if there is one.
abbrev pub lent_if : Option (List RRset) → List RRset
lent_if None = []
lent_if (Some sets) = sets

-- Those of one set, of the listed sets from the n-th on, and of the sets of a zone.
abbrev pub axfr_left : DomainName → List Record → Bool → List (Bor RRset) → ℕ
    → Option (List RRset) → List Record
axfr_left origin current dnssec_ok rrsets n lent =
    without_start origin
    (current ++ sets_shown dnssec_ok (lent_sets (drop n rrsets) ++ lent_if lent))

-- ---- who gets a transfer (RFC 5936, section 5)
-- Nobody, everybody, or who signs the request (RFC 8945, section 5.2).
abbrev pub policy_refused : AxfrPolicy → Option SignedBy → TsigVerdict → Option ResponseCode
policy_refused policies.AllowAll signed verdict = None
policy_refused policies.AllowSigned (Some by) verdict =
    refused_if (not (is_good verdict)) codes.NotAuth
policy_refused policies.AllowSigned None verdict = Some codes.Refused
policy_refused policies.Deny signed verdict = Some codes.Refused

abbrev pub guard_refused : Option Guard → Asked → Option ResponseCode
guard_refused None asked = None
guard_refused (Some guard) asked = policy_refused guard.axfr_policy asked.signed asked.verdict

-- The zone's own policy lets everybody or nobody transfer it.
abbrev pub own_refused : AxfrPolicy → Option ResponseCode
own_refused policies.AllowAll = None
own_refused other = Some codes.Refused

-- A guard's policy is asked first, then the zone's own.
abbrev pub transfer_refused : Zone → Asked → Option ResponseCode
transfer_refused zone asked =
    or_else (guard_refused zone.guard asked) (own_refused zone.axfr_policy)

-- ---- what the reply is signed with (RFC 8945, section 5.3)
-- The policy tests signatures.
abbrev pub is_allow_signed : AxfrPolicy → Bool
is_allow_signed policies.AllowSigned = true
is_allow_signed other = false

abbrev pub asks_signature : Option Guard → Bool
asks_signature None = false
asks_signature (Some guard) = is_allow_signed guard.axfr_policy

-- Where a signature was tested the reply is signed, whatever its code.
abbrev pub transfer_context : Zone → Asked → ℕ → Option SigningContext
transfer_context zone asked moment =
    if asks_signature zone.guard
    then option_map (context_for asked.id asked.verdict moment) asked.signed else None
