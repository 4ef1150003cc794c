-- Types and classes as they stand in a message (RFC 1035 3.2.2 and 3.2.4), and names in lower case.
use Rattle.std.specs.Prelude.{◌≡◌, ℕ, ◌^◌, ◌<◌, List}
use Rattle.dnw_name.specs.dnw_codes.DNSClass.{class_of}
use Rattle.dnw_name.specs.dnw_codes.RecordType.{record_type_of}
use Rattle.dnw_name.specs.dnw_codes.declared.dns_class.DNSClass.{DNSClass}
use Rattle.dnw_name.specs.dnw_codes.declared.record_type.RecordType.{RecordType}
use Rattle.dnw_name.specs.DomainName.{DomainName, lowercase_name}
use Rattle.dnw_decoder.specs.Octets.{octets_16, Stands}
use Rattle.dnw_decoder.specs.Spelling.{NameAt}

pub record RecordTypeAt (message : List ℕ) (place : ℕ) (record_type : RecordType)
    (end : ℕ) : Type 0 where
  pub number : ℕ
  pub small : number < 2 ^ 16
  pub there : Stands message place (octets_16 number) end
  pub means : record_type ≡ record_type_of number

pub record ClassAt (message : List ℕ) (place : ℕ) (class : DNSClass) (end : ℕ) : Type 0 where
  pub number : ℕ
  pub small : number < 2 ^ 16
  pub there : Stands message place (octets_16 number) end
  pub means : class ≡ class_of number

-- A name that is spelled at a place, in lower case.
pub record LowerNameAt (message : List ℕ) (place : ℕ) (lower : DomainName) (end : ℕ) : Type 0 where
  pub name : DomainName
  pub there : NameAt message place name end
  pub means : lower ≡ lowercase_name name
