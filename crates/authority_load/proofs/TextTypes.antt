-- What has a text: no record that signing adds to a zone, and types with names of their own alone.
use Rattle.std.proofs.Common.{◌≡◌, refl}
use Rattle.std.specs.Prelude.{ℕ, false, List, Option}
use Rattle.zst_zone.specs.dnw_codes.declared.record_type.RecordType.{RecordType}
use Rattle.zst_zone.specs.dnw_codes.declared.record_type.RecordType.TheVariants as kind
use Rattle.zst_zone.specs.dnw_name.DomainName.{DomainName}
use Rattle.zst_zone.specs.drd_rdata.Texts.{IsTextOf}
use Rattle.zst_zone.specs.zst_record.Records.{IsOwnType}
use Rattle.zst_zone.specs.drd_rdata.declared.rdata.RData.{RData}
use Rattle.authority_load.specs.Loaded.{added_by_signing}

pub text_unsecured : (t : RecordType) (words : List (List ℕ)) (origin : Option DomainName) (value : RData) → IsTextOf t words origin value → added_by_signing t ≡ false
text_unsecured kind.RRSIG words origin value is = absurd is
text_unsecured kind.NSEC words origin value is = absurd is
text_unsecured kind.NSEC3 words origin value is = absurd is
text_unsecured kind.NSEC3PARAM words origin value is = absurd is
text_unsecured (kind.Unknown number) words origin value is = absurd is
text_unsecured named words origin value is = refl

-- They have names of their own.
pub text_own : (t : RecordType) (words : List (List ℕ)) (origin : Option DomainName) (value : RData) → IsTextOf t words origin value → IsOwnType t
text_own (kind.Unknown number) words origin value is = absurd is
text_own named words origin value is = tt
