-- Records whose RDATA are octets: NSEC, NSEC3, NSEC3PARAM and RRSIG.
use Rattle.std.specs.Prelude.{ℕ, List, Option, Some, None, if◌then◌else◌}
use Rattle.zst_handler.specs.dnw_codes.declared.record_type.RecordType.{RecordType}
use Rattle.zst_handler.specs.dnw_codes.declared.record_type.RecordType.TheVariants.{NSEC}
use Rattle.zst_handler.specs.dnw_codes.RecordType.{same_record_type}
use Rattle.zst_handler.specs.drd_rdata.declared.rdata.RData.{RData}
use Rattle.zst_handler.specs.drd_rdata.declared.rdata.RData.TheVariants.{Unknown}

-- The octets of RDATA of a type that is kept as octets.
abbrev pub octets_of : RecordType → RData → Option (List ℕ)
octets_of t (Unknown code null) =
    if same_record_type code t then Some null.anything.items else None
octets_of t other = None

-- The octets of an NSEC record's RDATA.
abbrev pub nsec_octets : RData → Option (List ℕ)
nsec_octets = octets_of NSEC
