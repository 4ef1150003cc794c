-- The addresses to which a list leads, as sets.
use Rattle.std.specs.Prelude.{◌≡◌, if◌then◌else◌, unwrap_or}
use Rattle.zst_request.specs.Blocking.{sinkhole, unspecified_ipv4, unspecified_ipv6}
use Rattle.zst_request.specs.Views.{Blocklist}
use Rattle.zst_request.specs.dnw_codes.RecordType.{same_record_type}
use Rattle.zst_request.specs.dnw_codes.declared.dns_class.DNSClass.TheVariants.{IN}
use Rattle.zst_request.specs.dnw_codes.declared.record_type.RecordType.{RecordType}
use Rattle.zst_request.specs.dnw_codes.declared.record_type.RecordType.TheVariants as kind
use Rattle.zst_request.specs.drd_rdata.declared.rdata.RData.{RData}
use Rattle.zst_request.specs.drd_rdata.declared.rdata.RData.TheVariants as data_of
use Rattle.zst_request.specs.zst_record.Records.{record_with}
use Rattle.zst_request.specs.zst_record.RecordSets.{RRset, set_of}
use Rattle.zsv_blocklist.specs.declared.config.BlocklistConfig.{BlocklistConfig}
use Rattle.zsv_blocklist.specs.declared.sinkholes.Sinkholes.{Sinkholes}

abbrev pub sinkhole_ipv4 : BlocklistConfig → RData
sinkhole_ipv4 config = data_of.A (record { 0 = unwrap_or config.sinkhole_ipv4 unspecified_ipv4 })

abbrev pub sinkhole_ipv6 : BlocklistConfig → RData
sinkhole_ipv6 config = data_of.AAAA (record { 0 = unwrap_or config.sinkhole_ipv6 unspecified_ipv6 })

-- The set of addresses of the kind that is asked for.
abbrev pub of_type : RecordType → Sinkholes → RRset
of_type record_type sets =
    if same_record_type record_type kind.AAAA then sets.ipv6 else sets.ipv4

-- For each type the address to which blocked names lead stands under the list's own name.
abbrev pub AreSinkholes : Blocklist → Sinkholes → Type 0
AreSinkholes blocklist sets =
    (record_type : RecordType)
    → of_type record_type sets
    ≡ set_of (record_with blocklist.origin IN blocklist.ttl (sinkhole blocklist record_type))
