-- What a handler shows that is asked for the records that deny a name or a type (RFC 4035, section
-- 3.1.3; RFC 5155, section 7.2).
use Rattle.std.specs.Prelude.{◌≡◌, Bool, Ok}
use Rattle.zst_codes.specs.declared.lookup_control_flow.LookupControlFlow.TheVariants as flows
use Rattle.zst_codes.specs.declared.nx_proof.Nsec3QueryInfo.{Nsec3QueryInfo}
use Rattle.zst_denial.specs.Denials.{IsNsecDenial}
use Rattle.zst_denial.specs.HashDenials.{IsNsec3Denial}
use Rattle.zst_denial.specs.Hashed.{Hashing}
use Rattle.zst_denial.specs.Shown.{ShowsDenial}
use Rattle.zst_denial.specs.dnw_name.DomainName.{DomainName}
use Rattle.zst_denial.specs.zst_handler.Zones.{Zone}
use Rattle.zst_denial.specs.zst_handler.declared.auth_lookup.AuthLookup.{AuthLookup}
use Rattle.zst_request.specs.Handling.{Flow, LacksProof}
use Rattle.zst_request.specs.Views.{Blocked, Stored, View}

-- By NSEC sets.
abbrev pub ShowsNsec : DomainName → Bool → Zone → AuthLookup → Type 0
ShowsNsec name dnssec_ok zone found = ShowsDenial (IsNsecDenial zone name) dnssec_ok found

-- How names are hashed for whom asks.
abbrev pub hashing_of : Nsec3QueryInfo → Hashing
hashing_of info = record { salt = info.salt.now; iterations = info.iterations }

-- By NSEC3 sets.
abbrev pub ShowsNsec3 : Nsec3QueryInfo → Bool → Zone → AuthLookup → Type 0
ShowsNsec3 info dnssec_ok zone found =
    ShowsDenial
    (IsNsec3Denial (hashing_of info) zone info.qname.now info.qtype info.has_wildcard_match)
    dnssec_ok found

-- A stored zone shows what denies; names that are blocked have no such records.
abbrev pub Denies : View → (Zone → AuthLookup → Type 0) → Flow → Type 0
Denies (Stored zone) Shows flow =
    (found : AuthLookup) × (flow ≡ flows.Continue (Ok found)) × Shows zone found
Denies (Blocked blocklist) Shows flow = LacksProof flow
