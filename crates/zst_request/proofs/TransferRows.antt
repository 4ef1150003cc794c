-- The definitions of transfers computed on worked rows: the records of a zone, who gets them, and what the reply is signed with.
use Rattle.std.proofs.Common.{◌≡◌, ℕ, true, false, List, [], ◌∷◌, refl}
use Rattle.std.specs.Prelude.{Bool, codes, pos, None, Some, Option}
use Rattle.std.specs.declared.net.SocketAddr.{SocketAddr}
use Rattle.zst_codes.specs.declared.response_code.ResponseCode.TheVariants as told
use Rattle.zst_codes.specs.declared.settings.AxfrPolicy.{AxfrPolicy}
use Rattle.zst_codes.specs.declared.settings.AxfrPolicy.TheVariants as policies
use Rattle.zst_codes.specs.declared.settings.TsigVerdict.{TsigVerdict}
use Rattle.zst_codes.specs.declared.settings.TsigVerdict.TheVariants as verdicts
use Rattle.zst_codes.specs.declared.settings.ZoneType.TheVariants as kinds
use Rattle.zst_denial.specs.dnw_codes.declared.dns_class.DNSClass.TheVariants as classes
use Rattle.zst_denial.specs.dnw_codes.declared.record_type.RecordType.TheVariants as types
use Rattle.zst_denial.specs.dnw_name.DomainName.{DomainName}
use Rattle.zst_denial.specs.drd_rdata.declared.rdata.RData.{RData}
use Rattle.zst_denial.specs.drd_rdata.declared.rdata.RData.TheVariants as rdata
use Rattle.zst_denial.specs.zst_record.RecordSets.{RRset, set_of}
use Rattle.zst_denial.specs.zst_record.declared.records.Record.{Record}
use Rattle.zst_denial.specs.zst_handler.Zones.{Guard, Zone}
use Rattle.zst_request.specs.Transfers.{transfer_context, transfer_of, transfer_refused}
use Rattle.zst_request.specs.Updating.{Asked, SignedBy, context_for}

abbrev example : DomainName
example = record { fqdn = true; labels = codes "example" ∷ codes "com" ∷ [] }

abbrev below : List ℕ → DomainName
below first = record { fqdn = true; labels = first ∷ example.labels }

abbrev entry : DomainName → ℕ → RData → Record
entry name ttl value = record { name = name; dns_class = classes.IN; ttl = ttl; rdata = value }

abbrev server : DomainName → Record
server name = entry name 3600 (rdata.NS (record { 0 = below (codes "ns") }))

-- (exchanges in place of addresses: std's number of an address doesn't compute)
abbrev host : Record
host = entry (below (codes "www")) 3600 (rdata.MX (record { preference = 1; exchange = below (codes "h") }))

-- (in place of a signature: which records are signatures isn't asked here)
abbrev signature : Record
signature = entry (below (codes "www")) 3600 (rdata.MX (record { preference = 2; exchange = below (codes "h") }))

abbrev start : DomainName → ℕ → Record
start name serial = entry name 3600 (rdata.SOA (record { mname = below (codes "ns"); rname = below (codes "admin"); serial = serial; refresh = pos 3600; retry = pos 1800; expire = pos 604800; minimum = 86400 }))

-- A zone with a delegation, whose owner has an SOA too, and a signed set.
abbrev sub : DomainName
sub = below (codes "sub")

abbrev zone_with : AxfrPolicy → Option Guard → Zone
zone_with own guard = record {
  origin = example;
  zone_type = kinds.Primary;
  axfr_policy = own;
  nx_proof_kind = None;
  guard = guard;
  sets = set_of (start example 1) ∷ set_of (server sub) ∷ set_of (start sub 7) ∷ record (set_of host) { signatures = signature ∷ [] } ∷ [];
}

abbrev open_zone : Zone
open_zone = zone_with policies.AllowAll None

-- ---- records: the SOA of the origin first and last, and no other one left out
transferred : transfer_of open_zone false ≡ start example 1 ∷ server sub ∷ start sub 7 ∷ host ∷ start example 1 ∷ []
transferred = refl

with_signatures : transfer_of open_zone true ≡ start example 1 ∷ server sub ∷ start sub 7 ∷ host ∷ signature ∷ start example 1 ∷ []
with_signatures = refl

-- The origin in capitals owns it too.
in_capitals : transfer_of (record open_zone { origin = record { fqdn = true; labels = codes "EXAMPLE" ∷ codes "com" ∷ [] } }) false ≡ start example 1 ∷ server sub ∷ start sub 7 ∷ host ∷ start example 1 ∷ []
in_capitals = refl

without_soa : transfer_of (record open_zone { sets = set_of host ∷ [] }) true ≡ []
without_soa = refl

-- ---- refusals
module _ (source : SocketAddr) (by : SignedBy) where
  abbrev asks : Option SignedBy → TsigVerdict → Asked
  asks signed verdict = record {
    name = example;
    query_type = types.AXFR;
    id = 4660;
    source = source;
    signed = signed;
    verdict = verdict;
    prerequisites = [];
    updates = [];
  }

  abbrev guarded : AxfrPolicy → AxfrPolicy → Zone
  guarded policy own = zone_with own (Some (record { axfr_policy = policy; allow_update = true }))

  to_everybody : transfer_refused open_zone (asks None verdicts.UnknownKey) ≡ None
  to_everybody = refl

  to_nobody : transfer_refused (zone_with policies.AllowSigned None) (asks (Some by) verdicts.Good) ≡ Some told.Refused
  to_nobody = refl

  unsigned : transfer_refused (guarded policies.AllowSigned policies.AllowAll) (asks None verdicts.UnknownKey) ≡ Some told.Refused
  unsigned = refl

  badly_signed : transfer_refused (guarded policies.AllowSigned policies.Deny) (asks (Some by) verdicts.BadTime) ≡ Some told.NotAuth
  badly_signed = refl

  well_signed : transfer_refused (guarded policies.AllowSigned policies.AllowAll) (asks (Some by) verdicts.Good) ≡ None
  well_signed = refl

  by_its_own_policy : transfer_refused (guarded policies.AllowSigned policies.Deny) (asks (Some by) verdicts.Good) ≡ Some told.Refused
  by_its_own_policy = refl

  by_its_guard : transfer_refused (guarded policies.Deny policies.AllowAll) (asks (Some by) verdicts.Good) ≡ Some told.Refused
  by_its_guard = refl

  -- ---- signed replies
  signs_a_refusal : (moment : ℕ) → transfer_context (guarded policies.AllowSigned policies.Deny) (asks (Some by) verdicts.Good) moment ≡ Some (context_for 4660 verdicts.Good moment by)
  signs_a_refusal moment = refl

  signs_no_unsigned : (moment : ℕ) → transfer_context (guarded policies.AllowSigned policies.AllowAll) (asks None verdicts.UnknownKey) moment ≡ None
  signs_no_unsigned moment = refl

  signs_nothing_denied : (moment : ℕ) → transfer_context (guarded policies.Deny policies.AllowAll) (asks (Some by) verdicts.Good) moment ≡ None
  signs_nothing_denied moment = refl
