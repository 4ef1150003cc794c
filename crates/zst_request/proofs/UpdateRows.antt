-- The definitions of updates computed on worked rows: the code that answers an update, and the zone after it.
use Rattle.std.proofs.Common.{◌≡◌, ℕ, true, false, List, [], ◌∷◌, refl}
use Rattle.std.specs.Prelude.{Bool, codes, pos, None, Some, Option}
use Rattle.std.specs.declared.net.SocketAddr.{SocketAddr}
use Rattle.zst_codes.specs.declared.response_code.ResponseCode.{ResponseCode}
use Rattle.zst_codes.specs.declared.response_code.ResponseCode.TheVariants as told
use Rattle.zst_codes.specs.declared.settings.AxfrPolicy.TheVariants as policies
use Rattle.zst_codes.specs.declared.settings.TsigVerdict.TheVariants as verdicts
use Rattle.zst_codes.specs.declared.settings.ZoneType.TheVariants as kinds
use Rattle.zst_denial.specs.dnw_codes.declared.dns_class.DNSClass.{DNSClass}
use Rattle.zst_denial.specs.dnw_codes.declared.dns_class.DNSClass.TheVariants as classes
use Rattle.zst_denial.specs.dnw_codes.declared.record_type.RecordType.{RecordType}
use Rattle.zst_denial.specs.dnw_codes.declared.record_type.RecordType.TheVariants as types
use Rattle.zst_denial.specs.dnw_name.DomainName.{DomainName}
use Rattle.zst_denial.specs.drd_rdata.declared.rdata.RData.{RData}
use Rattle.zst_denial.specs.drd_rdata.declared.rdata.RData.TheVariants as rdata
use Rattle.zst_denial.specs.zst_record.RecordSets.{RRset, set_of}
use Rattle.zst_denial.specs.zst_record.declared.records.Record.{Record}
use Rattle.zst_denial.specs.zst_handler.Zones.{Zone}
use Rattle.zst_request.specs.Applied.{updated}
use Rattle.zst_request.specs.Updating.{Asked, update_refused}

abbrev example : DomainName
example = record { fqdn = true; labels = codes "example" ∷ codes "com" ∷ [] }

abbrev below : List ℕ → DomainName
below first = record { fqdn = true; labels = first ∷ example.labels }

abbrev elsewhere : DomainName
elsewhere = record { fqdn = true; labels = codes "x" ∷ codes "example" ∷ codes "org" ∷ [] }

abbrev entry : DomainName → DNSClass → ℕ → RData → Record
entry name class ttl value = record { name = name; dns_class = class; ttl = ttl; rdata = value }

abbrev without_data : DomainName → DNSClass → RecordType → Record
without_data name class kind = entry name class 0 (rdata.Update0 kind)

abbrev one : DomainName → ℕ → RData → RRset
one name ttl value = set_of (entry name classes.IN ttl value)

-- (an exchange where the table has an address: std's number of an address doesn't compute)
abbrev address : ℕ → RData
address last = rdata.MX (record { preference = last; exchange = below (codes "h") })

abbrev soa : ℕ → RData
soa serial = rdata.SOA (record { mname = below (codes "ns"); rname = below (codes "admin"); serial = serial; refresh = pos 3600; retry = pos 1800; expire = pos 604800; minimum = 86400 })

abbrev soa_set : ℕ → RRset
soa_set serial = one example 3600 (soa serial)

abbrev servers : RRset
servers = one example 3600 (rdata.NS (record { 0 = record { fqdn = true; labels = codes "ns" ∷ codes "example" ∷ codes "org" ∷ [] } }))

abbrev www : RRset
www = one (below (codes "www")) 3600 (address 1)

abbrev mail : RRset
mail = one example 3600 (rdata.MX (record { preference = 10; exchange = below (codes "www") }))

abbrev zone_of : ℕ → Zone
zone_of serial = record {
  origin = example;
  zone_type = kinds.Primary;
  axfr_policy = policies.AllowAll;
  nx_proof_kind = None;
  guard = Some (record { axfr_policy = policies.AllowAll; allow_update = true });
  sets = servers ∷ soa_set serial ∷ mail ∷ www ∷ [];
}

abbrev asks : SocketAddr → List Record → List Record → Asked
asks source prerequisites updates = record {
  name = example;
  query_type = types.SOA;
  id = 4660;
  source = source;
  signed = Some (record { key_name = example; algorithm = example; mac = [] });
  verdict = verdicts.Good;
  prerequisites = prerequisites;
  updates = updates;
}

abbrev told_of : SocketAddr → List Record → List Record → Option ResponseCode
told_of source prerequisites updates = update_refused (zone_of 1) (asks source prerequisites updates)

-- ---- codes
absent_name : (source : SocketAddr) → told_of source (without_data (below (codes "nope")) classes.ANY types.ANY ∷ []) [] ≡ Some told.NXDomain
absent_name source = refl

absent_set : (source : SocketAddr) → told_of source (without_data (below (codes "www")) classes.ANY types.TXT ∷ []) [] ≡ Some told.NXRRSet
absent_set source = refl

present_set : (source : SocketAddr) → told_of source (without_data (below (codes "www")) classes.NONE types.MX ∷ []) [] ≡ Some told.YXRRSet
present_set source = refl

present_name : (source : SocketAddr) → told_of source (without_data (below (codes "www")) classes.NONE types.ANY ∷ []) [] ≡ Some told.YXDomain
present_name source = refl

other_value : (source : SocketAddr) → told_of source (entry (below (codes "www")) classes.IN 0 (address 2) ∷ []) [] ≡ Some told.NXRRSet
other_value source = refl

with_time : (source : SocketAddr) → told_of source (entry (below (codes "www")) classes.IN 1 (address 2) ∷ []) [] ≡ Some told.FormErr
with_time source = refl

same_value : (source : SocketAddr) → told_of source (entry (below (codes "www")) classes.IN 0 (address 1) ∷ []) [] ≡ None
same_value source = refl

outside : (source : SocketAddr) → told_of source [] (entry (below (codes "b")) classes.IN 60 (address 9) ∷ entry elsewhere classes.IN 60 (address 9) ∷ []) ≡ Some told.NotZone
outside source = refl

no_data : (source : SocketAddr) → told_of source [] (entry (below (codes "b")) classes.IN 60 (rdata.Update0 types.MX) ∷ []) ≡ Some told.FormErr
no_data source = refl

bad_signature : (source : SocketAddr) → update_refused (zone_of 1) (record (asks source [] []) { verdict = verdicts.BadSignature }) ≡ Some told.NotAuth
bad_signature source = refl

unsigned : (source : SocketAddr) → update_refused (zone_of 1) (record (asks source [] []) { signed = None }) ≡ Some told.Refused
unsigned source = refl

no_soa : (source : SocketAddr) → update_refused (record (zone_of 1) { sets = www ∷ [] }) (asks source [] (entry (below (codes "b")) classes.IN 60 (address 9) ∷ [])) ≡ Some told.ServFail
no_soa source = refl

-- ---- the zone after it
abbrev adds_b : List Record
adds_b = entry (below (codes "b")) classes.IN 60 (address 9) ∷ []

added : updated (zone_of 1) true adds_b (below (codes "b")) ≡ one (below (codes "b")) 60 (address 9) ∷ []
added = refl

raised_by_it : updated (zone_of 1) true adds_b example ≡ servers ∷ soa_set 2 ∷ mail ∷ []
raised_by_it = refl

others_stay : updated (zone_of 1) true adds_b (below (codes "www")) ≡ www ∷ []
others_stay = refl

-- A record that is there changes nothing, and raises nothing.
repeated : updated (zone_of 1) true (entry (below (codes "www")) classes.IN 3600 (address 1) ∷ []) example ≡ servers ∷ soa_set 1 ∷ mail ∷ []
repeated = refl

-- All sets of the apex go but SOA and NS.
apex_stays : updated (zone_of 1) true (without_data example classes.ANY types.ANY ∷ []) example ≡ servers ∷ soa_set 2 ∷ []
apex_stays = refl

-- The greatest serial number goes round.
round : updated (zone_of 4294967295) true (without_data example classes.ANY types.MX ∷ []) example ≡ servers ∷ soa_set 0 ∷ []
round = refl

-- The last record of a set takes the set with it; the last name server stays.
taken : updated (zone_of 1) true (entry (below (codes "www")) classes.NONE 0 (address 1) ∷ []) (below (codes "www")) ≡ []
taken = refl

last_server_stays : updated (zone_of 1) true (entry example classes.NONE 0 (rdata.NS (record { 0 = record { fqdn = true; labels = codes "ns" ∷ codes "example" ∷ codes "org" ∷ [] } })) ∷ []) example ≡ servers ∷ soa_set 1 ∷ mail ∷ []
last_server_stays = refl

-- Added and deleted again, it was changed all the same.
undone : updated (zone_of 1) true (entry (below (codes "b")) classes.IN 60 (address 9) ∷ without_data (below (codes "b")) classes.ANY types.MX ∷ []) example ≡ servers ∷ soa_set 2 ∷ mail ∷ []
undone = refl
