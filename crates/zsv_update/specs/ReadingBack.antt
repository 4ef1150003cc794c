-- Which zones can be served: receivers can read all that their replies hold; and which updates
-- leave zones that can.
use Rattle.std.specs.Prelude.{◌≡◌, ◌≤◌, true, List, IfSome, length}
use Rattle.std.specs.List.{AllByRecursion}
use Rattle.zsv_chains.specs.zst_request.Prerequisites.{has_data}
use Rattle.zsv_chains.specs.zst_request.Views.{Blocked, Stored, View}
use Rattle.zsv_chains.specs.zst_request.dnw_codes.declared.dns_class.DNSClass.TheVariants.{IN}
use Rattle.zsv_chains.specs.zst_request.dnw_name.DomainName.{DomainName}
use Rattle.zsv_chains.specs.zst_request.zst_handler.Zones.{AreStored, ZoneReadsBack}
use Rattle.zsv_chains.specs.zst_request.zst_record.Records.{IsServable}
use Rattle.zsv_chains.specs.zst_request.zst_record.declared.records.Record.{Record}

-- Each set of a zone has its own records, and each of these can be served; a blocklist's message is
-- one character string (RFC 1035, section 3.3).
abbrev pub ViewReadsBack : View → Type 0
ViewReadsBack (Stored zone) = AreStored zone.sets × ZoneReadsBack zone
ViewReadsBack (Blocked blocklist) = IfSome blocklist.block_message (λ octets. length octets ≤ 255)

abbrev pub ChainReadsBack : List View → Type 0
ChainReadsBack chain = AllByRecursion ViewReadsBack chain

abbrev pub ChainsReadBack : List (DomainName × List View) → Type 0
ChainsReadBack chains = AllByRecursion (λ entry. ChainReadsBack entry.1) chains

-- A record can be served if an update adds it, as it does one of class IN with RDATA (RFC 2136,
-- section 2.5.1). Records of the other classes delete.
abbrev pub IsServableIfAdded : Record → Type 0
IsServableIfAdded r = r.dns_class ≡ IN → has_data r ≡ true → IsServable r

-- Each record that an update adds can be served.
abbrev pub AdditionsAreServable : List Record → Type 0
AdditionsAreServable updates = AllByRecursion IsServableIfAdded updates
