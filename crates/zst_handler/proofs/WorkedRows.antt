-- The definitions of the lookup computed on worked rows: a cut with its glue, wildcards, aliases; and those of what changes
-- a zone: records added, sets put in place and taken out.
use Rattle.std.proofs.Common.{◌≡◌, ℕ, true, false, List, [], ◌∷◌, refl, subst, arith}
use Rattle.std.specs.Prelude.{Bool, ◌&&◌, codes, pos, None, Some, if◌then◌else◌}
use Rattle.zst_edns.specs.zst_codes.declared.settings.ZoneType.TheVariants as kinds
use Rattle.zst_edns.specs.zst_codes.declared.settings.AxfrPolicy.TheVariants as policies
use Rattle.zst_record.specs.dnw_codes.declared.dns_class.DNSClass.TheVariants as classes
use Rattle.zst_record.specs.dnw_codes.declared.record_type.RecordType.TheVariants as types
use Rattle.zst_record.specs.dnw_codes.declared.record_type.RecordType.{RecordType}
use Rattle.zst_record.specs.dnw_codes.RecordType.{same_record_type}
use Rattle.zst_record.specs.dnw_name.DomainName.{DomainName, name_eq}
use Rattle.zst_record.specs.drd_rdata.declared.rdata.RData.{RData}
use Rattle.zst_record.specs.drd_rdata.declared.rdata.RData.TheVariants as rdata
use Rattle.zst_record.specs.declared.records.Record.{Record}
use Rattle.zst_record.specs.RecordSets.{RRset, flattened_set, renamed, set_of, set_with}
use Rattle.zst_handler.specs.Chains.{IsAliasChain, Stops, loops}
use Rattle.zst_handler.specs.Found.{delegation, found}
use Rattle.zst_handler.specs.Lookups.{additionals, alias_answer, behind_alias, denial, name_error, name_exists, out_of_zone, sets_of_name}
use Rattle.zst_handler.specs.Updates.{Replaces, Upserts, is_kept_out, upsert_changes, upserted}
use Rattle.zst_handler.specs.Zones.{Adds, AddsTo, Zone}

abbrev example : DomainName
example = record { fqdn = true; labels = codes "example" ∷ codes "com" ∷ [] }

abbrev below : List ℕ → DomainName
below first = record { fqdn = true; labels = first ∷ example.labels }

abbrev two_below : List ℕ → List ℕ → DomainName
two_below first second = record { fqdn = true; labels = first ∷ second ∷ example.labels }

abbrev entry : DomainName → ℕ → RData → Record
entry name ttl value = record { name = name; dns_class = classes.IN; ttl = ttl; rdata = value }

abbrev one : DomainName → ℕ → RData → RRset
one name ttl value = set_of (entry name ttl value)

abbrev address : ℕ → RData
address last = rdata.A (record { 0 = record { octets = 192 ∷ 0 ∷ 2 ∷ last ∷ [] } })

abbrev soa : ℕ → RData
soa serial = rdata.SOA (record { mname = below (codes "ns"); rname = below (codes "admin"); serial = serial; refresh = pos 3600; retry = pos 1800; expire = pos 604800; minimum = 86400 })

abbrev start : RRset
start = one example 3600 (soa 1)

abbrev own_servers : RRset
own_servers = one example 3600 (rdata.NS (record { 0 = below (codes "ns") }))

abbrev www : RRset
www = one (below (codes "www")) 3600 (address 1)

abbrev any_name : RRset
any_name = one (below (codes "*")) 3600 (address 7)

abbrev cut : RRset
cut = one (below (codes "sub")) 3600 (rdata.NS (record { 0 = two_below (codes "ns") (codes "sub") }))

abbrev glue : RRset
glue = one (two_below (codes "ns") (codes "sub")) 3600 (address 2)

abbrev c1 : RRset
c1 = one (below (codes "c1")) 3600 (rdata.CNAME (record { 0 = below (codes "c2") }))

abbrev c2 : RRset
c2 = one (below (codes "c2")) 3600 (rdata.CNAME (record { 0 = below (codes "c1") }))

abbrev to_www : RRset
to_www = one (below (codes "al")) 60 (rdata.ANAME (record { 0 = below (codes "www") }))

abbrev sets : List RRset
sets = start ∷ own_servers ∷ www ∷ cut ∷ glue ∷ c1 ∷ c2 ∷ to_www ∷ []

abbrev zone_of : List RRset → Zone
zone_of ss = record { origin = example; zone_type = kinds.Primary; axfr_policy = policies.AllowAll; nx_proof_kind = None; guard = None; sets = ss }

abbrev zone : Zone
zone = zone_of sets

-- The zone's own name servers hand nothing over.
own : delegation sets (below (codes "www")) types.A ≡ None
own = refl

host : found sets (below (codes "www")) types.A ≡ Some www
host = refl

-- Below a cut its name servers answer, and their address is beside them; at it too, but for DS.
referred : found sets (two_below (codes "www") (codes "sub")) types.A ≡ Some cut
referred = refl

at_the_cut : found sets (below (codes "sub")) types.A ≡ Some cut
at_the_cut = refl

above_the_cut : found sets (below (codes "sub")) types.DS ≡ None
above_the_cut = refl

glued : additionals sets cut ≡ glue ∷ []
glued = refl

-- ---- additional data: the addresses of the target of each record, A before AAAA
abbrev server_at : List ℕ → RData
server_at label = rdata.NS (record { 0 = below label })

abbrev host_address : List ℕ → ℕ → RRset
host_address label last = one (below label) 3600 (address last)

abbrev host_address6 : List ℕ → RRset
host_address6 label = one (below label) 3600 (rdata.AAAA (record { 0 = record { segments = 8193 ∷ 3512 ∷ 0 ∷ 0 ∷ 0 ∷ 0 ∷ 0 ∷ 1 ∷ [] } }))

abbrev two_servers : RRset
two_servers = record own_servers { records = entry example 3600 (server_at (codes "ns1")) ∷ entry example 3600 (server_at (codes "ns2")) ∷ [] }

each_target : additionals (two_servers ∷ host_address (codes "ns1") 1 ∷ host_address (codes "ns2") 2 ∷ host_address6 (codes "ns2") ∷ []) two_servers
    ≡ host_address (codes "ns1") 1 ∷ host_address (codes "ns2") 2 ∷ host_address6 (codes "ns2") ∷ []
each_target = refl

-- A target without addresses doesn't end the list; one with AAAA alone is there.
later_target : additionals (two_servers ∷ host_address6 (codes "ns2") ∷ []) two_servers ≡ host_address6 (codes "ns2") ∷ []
later_target = refl

-- Two mail servers of one name, whatever its case, have its addresses once.
abbrev mail_at : ℕ → List ℕ → Record
mail_at preference label = entry example 3600 (rdata.MX (record { preference = preference; exchange = below label }))

abbrev two_mails : RRset
two_mails = record (set_of (mail_at 10 (codes "www"))) { records = mail_at 10 (codes "www") ∷ mail_at 20 (codes "WWW") ∷ [] }

one_target : additionals (two_mails ∷ www ∷ []) two_mails ≡ www ∷ []
one_target = refl

-- An alias has no additional data.
no_additionals : additionals sets c1 ≡ []
no_additionals = refl

-- A wildcard answers under the name asked for, however deep, and not for another type.
covered : found (any_name ∷ sets) (two_below (codes "a") (codes "B")) types.A ≡ Some (renamed (two_below (codes "a") (codes "b")) any_name)
covered = refl

not_covered : found (any_name ∷ sets) (two_below (codes "a") (codes "b")) types.AAAA ≡ None
not_covered = refl

-- Two aliases that lead to each other are a chain of two.
abbrev Ends : DomainName → Type 0
Ends name = Stops sets types.A (below (codes "c1") ∷ below (codes "c2") ∷ []) (c1 ∷ c2 ∷ []) name

ended : (last : DomainName) → Some (below (codes "c1")) ≡ Some last → Ends last
ended last e = let h : below (codes "c1") ≡ last = cc in subst Ends h (loops refl)

looped : IsAliasChain sets (below (codes "c1")) types.A (c1 ∷ c2 ∷ [])
looped = record { links = (refl, (refl, tt)); once = (refl, (refl, tt)); short = omega arith; ends = ended }

-- An alias for addresses gives way to them, for no longer than itself.
flat_address : behind_alias sets types.A (Some (below (codes "www"))) ≡ Some www
flat_address = refl

flat_answer : alias_answer (below (codes "al")) to_www (Some www) ≡ record { answers = flattened_set (below (codes "al")) 60 www ∷ []; additionals = to_www ∷ [] }
flat_answer = refl

-- Why nothing is found.
missing : denial zone (below (codes "z")) ≡ name_error
missing = refl

above_hosts : denial zone (below (codes "sub")) ≡ name_exists
above_hosts = refl

outside : denial zone (record { fqdn = true; labels = codes "org" ∷ [] }) ≡ out_of_zone
outside = refl

-- All sets of a name, by rising type.
both : sets_of_name sets example ≡ start ∷ own_servers ∷ []
both = refl

-- ---- a record is added: another one, or another time to live, changes the set of its owner and type
abbrev server : ℕ → ℕ → Record
server ttl preference = entry example ttl (rdata.MX (record { preference = preference; exchange = below (codes "mx") }))

abbrev first_server : RRset
first_server = set_of (server 3600 10)

abbrev stored : List RRset
stored = start ∷ first_server ∷ www ∷ c1 ∷ []

another : upsert_changes stored (server 60 20) ≡ true
another = refl

there : upsert_changes stored (server 3600 10) ≡ false
there = refl

other_ttl : upsert_changes stored (server 60 10) ≡ true
other_ttl = refl

other_class : upsert_changes stored (record (server 60 20) { dns_class = classes.CH }) ≡ false
other_class = refl

-- An alias stands beside no other type than denials, and gives way to another one.
beside_alias : upsert_changes stored (entry (below (codes "c1")) 60 (address 2)) ≡ false
beside_alias = refl

alias_beside : upsert_changes stored (entry (below (codes "www")) 60 (rdata.CNAME (record { 0 = example }))) ≡ false
alias_beside = refl

other_alias : upsert_changes stored (entry (below (codes "c1")) 60 (rdata.CNAME (record { 0 = example }))) ≡ true
other_alias = refl

denial_beside : is_kept_out (c1 ∷ []) types.NSEC ≡ false
denial_beside = refl

-- The start of a zone gives way to one of a later serial number.
same_serial : upsert_changes stored (entry example 60 (soa 1)) ≡ false
same_serial = refl

later_serial : upsert_changes stored (entry example 60 (soa 2)) ≡ true
later_serial = refl

-- The set then: the record behind the others, or in the place of the one with equal data, and no signatures.
abbrev servers : RRset
servers = record first_server { records = server 3600 10 ∷ server 60 20 ∷ [] }

joined : upserted (Some (record first_server { signatures = server 60 30 ∷ [] })) (server 60 20) ≡ servers
joined = refl

in_place : upserted (Some servers) (server 5 10) ≡ record first_server { records = server 5 10 ∷ server 60 20 ∷ [] }
in_place = refl

alone : upserted (Some start) (entry example 60 (soa 2)) ≡ one example 60 (soa 2)
alone = refl

-- ---- sets put in place and taken out, whatever name and type is asked for
put : (asked : Bool) → (if asked then Some servers else None) ≡ (if asked then Some servers else if asked then Some first_server else None)
put true = refl
put false = refl

taken : (asked : Bool) → None ≡ (if asked then None else if asked then Some first_server else None)
taken true = refl
taken false = refl

abbrev is_asked : DomainName → RecordType → Bool
is_asked name record_type = name_eq name example && same_record_type types.MX record_type

put_in_place : Replaces (first_server ∷ []) example types.MX (Some servers) (servers ∷ [])
put_in_place name record_type = put (is_asked name record_type)

taken_out : Replaces (first_server ∷ []) example types.MX None []
taken_out name record_type = taken (is_asked name record_type)

-- No other set goes with one that is taken out.
no_other : Replaces (start ∷ first_server ∷ []) example types.MX None [] → ⊥
no_other replaces = let e : None ≡ Some start = replaces example types.SOA in let h : ⊥ = cc in h

-- ---- a record is added to a zone, which goes on in order
add : (asked : Bool) → (if asked then Some servers else None)
    ≡ (if asked then Some (set_with (if asked then Some first_server else None) (server 60 20)) else if asked then Some first_server else None)
add true = refl
add false = refl

added : Adds (first_server ∷ []) (server 60 20) (servers ∷ [])
added name record_type = add (is_asked name record_type)

added_to : AddsTo (zone_of (first_server ∷ [])) (server 60 20) (zone_of (servers ∷ []))
added_to = record { adds = added; ordered = (tt, tt); rest = refl }

not_true : false ≡ true → ⊥
not_true e = let h : ⊥ = cc in h

not_false : true ≡ false → ⊥
not_false e = let h : ⊥ = cc in h

upserts : Upserts (zone_of (first_server ∷ [])) (server 60 20) (zone_of (servers ∷ []))
upserts = record { changed = λ is. record { replaces = put_in_place; ordered = (tt, tt); rest = refl }; unchanged = λ no. absurd (not_false no) }

-- A record that is there leaves the zone as it is.
kept : Upserts (zone_of stored) (server 3600 10) (zone_of stored)
kept = record { changed = λ no. absurd (not_true no); unchanged = λ is. refl }
