-- What an update is answered, and the zone after it: RFC 2136, section 3; RFC 8945, section 5.
use Rattle.std.specs.Prelude.{◌≡◌, ℕ, Bool, true, false, not, ◌&&◌, List, [], Option, Some, None, Result, Ok, Err, is_some, option_map, if◌then◌else◌}
use Rattle.std.specs.declared.net.SocketAddr.{SocketAddr}
use Rattle.zst_denial.specs.zst_key.Ancestors.{or_else}
use Rattle.zst_codes.specs.declared.response_code.ResponseCode.{ResponseCode}
use Rattle.zst_codes.specs.declared.response_code.ResponseCode.TheVariants as codes
use Rattle.zst_codes.specs.declared.settings.TsigVerdict.{TsigVerdict}
use Rattle.zst_codes.specs.declared.settings.TsigVerdict.TheVariants as verdicts
use Rattle.zst_denial.specs.dnw_codes.declared.record_type.RecordType.{RecordType}
use Rattle.zst_denial.specs.dnw_codes.declared.record_type.RecordType.TheVariants as kind
use Rattle.zst_denial.specs.dnw_name.DomainName.{DomainName}
use Rattle.zst_denial.specs.zst_record.declared.records.Record.{Record}
use Rattle.zst_denial.specs.zst_handler.Lookups.{sets_of_name}
use Rattle.zst_denial.specs.zst_handler.Zones.{Guard, Zone, rrset_at}
use Rattle.zst_request.specs.Applied.{LeavesZone, any_changes, updated}
use Rattle.zst_request.specs.Prerequisites.{first_refused, prerequisites_refused, prescan_refused, refused_if}
use Rattle.zst_request.specs.Views.{Blocked, Stored, View}

-- ---- what is asked
-- The key that signed a request, its algorithm, and the signature (RFC 8945, section 4.2).
pub record SignedBy : Type 0 where
  pub key_name : DomainName
  pub algorithm : DomainName
  pub mac : List ℕ

-- A request for a handler: the name and the type of its question, its identifier, where it came
-- from, who signed it if anybody did, what the test of that says, what is asked of the zone first,
-- and what is to be changed.
pub record Asked : Type 0 where
  pub name : DomainName
  pub query_type : RecordType
  pub id : ℕ
  pub source : SocketAddr
  pub signed : Option SignedBy
  pub verdict : TsigVerdict
  pub prerequisites : List Record
  pub updates : List Record

-- ---- who may change a zone
abbrev pub is_good : TsigVerdict → Bool
is_good verdicts.Good = true
is_good other = false

-- A zone that takes no messages that change it implements none; one that doesn't take them now, or
-- a message that nobody signed, is refused; so is a signature that is not good (RFC 2136, section
-- 3.3; RFC 8945, section 5.2).
abbrev pub permission_refused : Option Guard → Option SignedBy → TsigVerdict → Option ResponseCode
permission_refused None signed verdict = Some codes.NotImp
permission_refused (Some guard) signed verdict =
    or_else (refused_if (not (guard.allow_update && is_some signed)) codes.Refused)
    (refused_if (not (is_good verdict)) codes.NotAuth)

-- Without an SOA at the apex a zone has no serial number that could be raised.
abbrev pub soa_refused : Zone → List Record → Option ResponseCode
soa_refused zone rs =
    refused_if (any_changes zone.origin (sets_of_name zone.sets) rs
    && not (is_some (rrset_at zone.sets zone.origin kind.SOA))) codes.ServFail

-- Why an update is refused: by permission, by its prerequisites, by its form, or because the zone
-- has no SOA, whichever is first.
abbrev pub update_refused : Zone → Asked → Option ResponseCode
update_refused zone asked =
    or_else (permission_refused zone.guard asked.signed asked.verdict)
    (or_else (prerequisites_refused zone asked.prerequisites)
    (or_else (first_refused (prescan_refused zone.origin) asked.updates)
    (soa_refused zone asked.updates)))

-- ---- the answer, and the zone after it
-- Records are applied as a whole: none, or all, and the answer says whether one of them changed
-- something.
abbrev pub ChangesBy : Option ResponseCode → Bool → Zone → List Record → Result Bool ResponseCode
    → Zone → Type 0
ChangesBy (Some code) increment old rs told new = (told ≡ Err code) × (new ≡ old)
ChangesBy None increment old rs told new =
    (told ≡ Ok (increment && any_changes old.origin (sets_of_name old.sets) rs))
    × LeavesZone old (updated old increment rs) new

abbrev pub UpdatesView : View → Asked → Result Bool ResponseCode → View → Type 0
UpdatesView (Stored zone) asked told new =
    (left : Zone) × ChangesBy (update_refused zone asked) true zone asked.updates told left
    × (new ≡ Stored left)
UpdatesView (Blocked blocklist) asked told new =
    (told ≡ Err codes.NotImp) × (new ≡ Blocked blocklist)

-- ---- what the reply is signed with (RFC 8945, section 5.3)
pub record SigningContext : Type 0 where
  pub request_id : ℕ
  pub time : ℕ
  pub key_name : DomainName
  pub algorithm : DomainName
  pub request_mac : List ℕ
  pub error : ℕ

-- BADSIG, BADKEY, BADTIME (RFC 8945, section 3). The first two leave nothing that the reply's
-- signature could go with: it has no MAC then (RFC 8945, section 5.3.2).
abbrev pub tsig_error : TsigVerdict → ℕ
tsig_error verdicts.Good = 0
tsig_error verdicts.BadSignature = 16
tsig_error verdicts.UnknownKey = 17
tsig_error verdicts.BadTime = 18

abbrev pub mac_repeated : TsigVerdict → List ℕ → List ℕ
mac_repeated verdicts.BadSignature mac = []
mac_repeated verdicts.UnknownKey mac = []
mac_repeated other mac = mac

abbrev pub context_for : ℕ → TsigVerdict → ℕ → SignedBy → SigningContext
context_for id verdict moment by = record {
  request_id = id;
  time = moment;
  key_name = by.key_name;
  algorithm = by.algorithm;
  request_mac = mac_repeated verdict by.mac;
  error = tsig_error verdict;
}

-- Messages may change a zone.
abbrev pub zone_takes : Option Guard → Bool
zone_takes None = false
zone_takes (Some guard) = guard.allow_update

-- Where a signature was tested the reply is signed, whatever its code.
abbrev pub takes_updates : View → Bool
takes_updates (Stored zone) = zone_takes zone.guard
takes_updates (Blocked blocklist) = false

abbrev pub update_context : View → Asked → ℕ → Option SigningContext
update_context view asked moment =
    if takes_updates view then option_map (context_for asked.id asked.verdict moment) asked.signed
    else None
